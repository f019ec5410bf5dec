-- What a daemon sends, frame by frame: each goes to the one editor that has its connection.
use Rattle.std.proofs.Common.{◌≡◌, ℕ, zero, suc, ◌<◌, ◌==◌, Bool, true, false, cond, List, [], ◌∷◌, ◌++◌, map, Option, Some, None, refl, sym, ap, ◌∙◌, arith, rules, append_assoc}
use Rattle.std.specs.Prelude.{slice_get, slice_set, if◌then◌else◌}
use Rattle.std.proofs.lemmas.Bool.{eqb-true, eq-eqb}
use Rattle.std.proofs.lemmas.List.{append-nil}
use Rattle.std.proofs.lemmas.List.Concat.{flat_map-append}
use Rattle.daemon_core.specs.declared.events.Output.{Output}
use Rattle.daemon_core.specs.declared.events.Output.TheVariants.{Send}
use Rattle.daemon_core.specs.State.{is_number}
use Rattle.daemon_core.proofs.MapLemmas.{number_same}
use Rattle.frame_world.specs.Serving.{frame_to, sent_on}
use Rattle.frame_world.proofs.SentLemmas.{number_itself}
use Rattle.plain_world.specs.declared.TheConstants.{FIRST_OWN}
use Rattle.kept_world.specs.Events.{received_on, told_editor, fed_line, fed_lines}
use Rattle.kept_world.specs.Worlds.{KeptEditor, KeptWorld, editor_of, with_editor}
use Rattle.daemon_world.specs.Order.{IsOrderly}
use Rattle.daemon_world.specs.Serving.{told}

-- ---- lists in which one item changes, or none

pub map_none : {A : Type 0} (f : A → A) (xs : List A) → ((i : ℕ) (x : A) → slice_get xs i ≡ Some x → f x ≡ x) → map f xs ≡ xs
map_none f [] same = refl
map_none f (x ∷ xs) same =
    ap (λ y. y ∷ map f xs) (same zero x refl) ∙ ap (λ ys. x ∷ ys) (map_none f xs (λ i y at. same (suc i) y at))

pub map_one : {A : Type 0} (f : A → A) (xs : List A) (e : ℕ) (x : A) → slice_get xs e ≡ Some x
    → ((i : ℕ) (y : A) → (i ≡ e → ⊥) → slice_get xs i ≡ Some y → f y ≡ y) → map f xs ≡ slice_set xs e (f x)
map_one f [] e x at others = cc
map_one f (z ∷ xs) zero x at others =
    let same : Some z ≡ Some x = at in
    let one : z ≡ x = cc in
    ap (λ y. f y ∷ map f xs) one ∙ ap (λ ys. f x ∷ ys) (map_none f xs (λ i y found. others (suc i) y (λ e. omega (arith, e)) found))
map_one f (z ∷ xs) (suc e) x at others =
    ap (λ y. y ∷ map f xs) (others zero z (λ s. omega (arith, s)) refl)
    ∙ ap (λ ys. z ∷ ys) (map_one f xs e x at (λ i y apart found. others (suc i) y (λ s. apart (omega (arith, s))) found))

map_map : {A : Type 0} (f g h : A → A) (xs : List A) → ((x : A) → g (f x) ≡ h x) → map g (map f xs) ≡ map h xs
map_map f g h [] same = refl
map_map f g h (x ∷ xs) same = ap (λ y. y ∷ map g (map f xs)) (same x) ∙ ap (λ ys. h x ∷ ys) (map_map f g h xs same)

-- ---- one output after another

received_more : (c : Option ℕ) (xs ys : List Output) (x : KeptEditor) → received_on c ys (received_on c xs x) ≡ received_on c (xs ++ ys) x
received_more None xs ys x = refl
received_more (Some n) xs ys x =
    ap (λ down. record x { seat = record x.seat { down = down } })
    (append_assoc x.seat.down (sent_on n xs) (sent_on n ys) ∙ ap (λ more. x.seat.down ++ more) (sym (flat_map-append (frame_to n) xs ys)))

still_on : (c : Option ℕ) (xs : List Output) (x : KeptEditor) → (received_on c xs x).connection ≡ x.connection
still_on None xs x = refl
still_on (Some n) xs x = refl

still_at : (c : Option ℕ) (xs : List Output) (x : KeptEditor) → (received_on c xs x).daemon ≡ x.daemon
still_at None xs x = refl
still_at (Some n) xs x = refl

told_editor_more : (d : ℕ) (xs ys : List Output) (x : KeptEditor) → told_editor d ys (told_editor d xs x) ≡ told_editor d (xs ++ ys) x
told_editor_more d xs ys x = by (x.daemon == d) refl where
  by : (b : Bool) → (x.daemon == d) ≡ b
      → told_editor d ys (if b then received_on x.connection xs x else x) ≡ (if b then received_on x.connection (xs ++ ys) x else x)
  by true here =
      let y : KeptEditor = received_on x.connection xs x in
      ap (λ b. if b then received_on y.connection ys y else y) (ap (λ i. i == d) (still_at x.connection xs x) ∙ here)
      ∙ ap (λ c. received_on c ys y) (still_on x.connection xs x)
      ∙ received_more x.connection xs ys x
  by false elsewhere = ap (λ b. if b then received_on x.connection ys x else x) elsewhere

pub told_more : (k : KeptWorld) (d : ℕ) (xs ys : List Output) → told (told k d xs) d ys ≡ told k d (xs ++ ys)
told_more k d xs ys =
    ap (λ editors. record k { editors = editors })
    (map_map (told_editor d xs) (told_editor d ys) (told_editor d (xs ++ ys)) k.editors (λ x. told_editor_more d xs ys x))

-- ---- what is sent to nobody

nothing_more : (down : List (List ℕ)) → down ++ [] ≡ down
nothing_more down = search rules

-- an editor is told nothing of what is not sent on its connection
untold : (d : ℕ) (output : Output) (x : KeptEditor) → (x.daemon ≡ d → (n : ℕ) → x.connection ≡ Some n → frame_to n output ≡ [])
    → told_editor d (output ∷ []) x ≡ x
untold d output x none = by (x.daemon == d) refl where
  on : (c : Option ℕ) → x.connection ≡ c → x.daemon ≡ d → received_on c (output ∷ []) x ≡ x
  on None is here = refl
  on (Some n) is here =
      ap (λ sent. record x { seat = record x.seat { down = x.seat.down ++ (sent ++ []) } }) (none here n is)
      ∙ ap (λ down. record x { seat = record x.seat { down = down } }) (nothing_more x.seat.down)

  by : (b : Bool) → (x.daemon == d) ≡ b → (if b then received_on x.connection (output ∷ []) x else x) ≡ x
  by true here = on x.connection refl (eqb-true x.daemon d here)
  by false elsewhere = refl

other_frame : (m n : ℕ) (frame : List ℕ) → (m ≡ n → ⊥) → frame_to m (Send n frame) ≡ []
other_frame m n frame apart = by (is_number m n) refl where
  by : (b : Bool) → is_number m n ≡ b → cond b (frame ∷ []) [] ≡ []
  by true is = absurd (apart (number_same m n is))
  by false is = refl

told_none : (k : KeptWorld) (d : ℕ) (output : Output)
    → ((e : ℕ) (x : KeptEditor) → editor_of k e ≡ Some x → x.daemon ≡ d → (n : ℕ) → x.connection ≡ Some n → frame_to n output ≡ [])
    → told k d (output ∷ []) ≡ k
told_none k d output none =
    ap (λ editors. record k { editors = editors })
    (map_none (told_editor d (output ∷ [])) k.editors (λ e x at. untold d output x (none e x at)))

-- what is no frame is told nobody
pub told_without_frame : (k : KeptWorld) (d : ℕ) (output : Output) → ((n : ℕ) → frame_to n output ≡ []) → told k d (output ∷ []) ≡ k
told_without_frame k d output none = told_none k d output (λ e x at here n on. none n)

-- no editor has the connection
pub told_to_nobody : (k : KeptWorld) (d n : ℕ) (frame : List ℕ)
    → ((e : ℕ) (x : KeptEditor) → editor_of k e ≡ Some x → x.daemon ≡ d → x.connection ≡ Some n → ⊥) → told k d (Send n frame ∷ []) ≡ k
told_to_nobody k d n frame nobody =
    told_none k d (Send n frame)
    (λ e x at here m on. other_frame m n frame (λ same. nobody e x at here (on ∙ ap Some same)))

-- a connection that the script feeds is no editor's
pub told_to_fed : (k : KeptWorld) (owners : List ℕ) (d n : ℕ) (frame : List ℕ) → IsOrderly k owners → n < FIRST_OWN → told k d (Send n frame ∷ []) ≡ k
told_to_fed k owners d n frame orderly fed =
    told_to_nobody k d n frame (λ e x at here on. let own = (orderly.connected e n x at on).own in omega (arith, own, fed))

-- ---- what is sent to one

frame_itself : (n : ℕ) (frame : List ℕ) → frame_to n (Send n frame) ≡ frame ∷ []
frame_itself n frame = ap (λ b. cond b (frame ∷ []) []) (number_itself n)

told_itself : (d n : ℕ) (frame : List ℕ) (x : KeptEditor) → x.daemon ≡ d → x.connection ≡ Some n
    → told_editor d (Send n frame ∷ []) x ≡ record x { seat = record x.seat { down = x.seat.down ++ frame ∷ [] } }
told_itself d n frame x here on =
    ap (λ b. if b then received_on x.connection (Send n frame ∷ []) x else x) (eq-eqb x.daemon d here)
    ∙ ap (λ c. received_on c (Send n frame ∷ []) x) on
    ∙ ap (λ sent. record x { seat = record x.seat { down = x.seat.down ++ (sent ++ []) } }) (frame_itself n frame)

-- the editor that has the connection
pub told_to_one : (k : KeptWorld) (owners : List ℕ) (d n e : ℕ) (frame : List ℕ) (x : KeptEditor) → IsOrderly k owners → editor_of k e ≡ Some x
    → x.daemon ≡ d → x.connection ≡ Some n
    → told k d (Send n frame ∷ []) ≡ with_editor k e (record x { seat = record x.seat { down = x.seat.down ++ frame ∷ [] } })
told_to_one k owners d n e frame x orderly at here on =
    ap (λ editors. record k { editors = editors })
    (map_one (told_editor d (Send n frame ∷ [])) k.editors e x at (λ i y apart found. untold d (Send n frame) y (other i y apart found))
    ∙ ap (λ y. slice_set k.editors e y) (told_itself d n frame x here on)) where
      other : (i : ℕ) (y : KeptEditor) → (i ≡ e → ⊥) → slice_get k.editors i ≡ Some y → y.daemon ≡ d → (m : ℕ) → y.connection ≡ Some m
          → frame_to m (Send n frame) ≡ []
      other i y apart found there m with = other_frame m n frame (λ same.
          let mine = (orderly.connected e n x at on).owner in
          let its = (orderly.connected i n y found (with ∙ ap Some same)).owner in
          let both : Some i ≡ Some e = sym its ∙ mine in apart cc)

-- ---- all in turn

-- nothing is sent
pub told_nothing : (k : KeptWorld) (d : ℕ) → told k d [] ≡ k
told_nothing k d = ap (λ editors. record k { editors = editors }) (map_none (told_editor d []) k.editors (λ e x at. by x (x.daemon == d))) where
  on : (x : KeptEditor) (c : Option ℕ) → received_on c [] x ≡ x
  on x None = refl
  on x (Some n) = ap (λ down. record x { seat = record x.seat { down = down } }) (nothing_more x.seat.down)

  by : (x : KeptEditor) (b : Bool) → (if b then received_on x.connection [] x else x) ≡ x
  by x true = on x x.connection
  by x false = refl

pub lines_more : (d : ℕ) (sent : List Output) (output : Output) → fed_lines d (sent ++ output ∷ []) ≡ fed_lines d sent ++ fed_line d output
lines_more d sent output =
    flat_map-append (fed_line d) sent (output ∷ []) ∙ ap (λ more. fed_lines d sent ++ more) (append-nil (fed_line d output))
