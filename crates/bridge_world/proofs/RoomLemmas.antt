-- What the steps of a room rest on: what the tie says of the first message and the first frame, and lists of
-- which one item changes.
use Rattle.std.proofs.Common.{◌≡◌, ℕ, zero, suc, ◌+◌, ◌-◌, ◌^◌, ◌<◌, Bool, true, false, ◌&&◌, List, [], ◌∷◌, ◌++◌, length, map, take, drop, get_or, slice_set, Option, Some, None, option_and_then, refl, sym, ap, ◌∙◌, subst, arith, append_assoc}
use Rattle.std.specs.Prelude.{slice_get, insert, remove, Result, Ok, Err, OnOk, IfSome, IfErr, IsErrAnd}
use Rattle.std.specs.Str.{bytes_eq}
use Rattle.std.proofs.lemmas.List.{map-append, take_more}
use Rattle.std.specs.Option.{option_map}
use Rattle.std.proofs.lemmas.Bool.{eqb-true, eq-eqb}
use Rattle.std.proofs.lemmas.Bool.Decides.{nat_tests}
use Rattle.delta.specs.Cells.{Cells, applied, base_length, nothing, inserts, deleting}
use Rattle.delta.proofs.CellsLemmas.{base_length-inserts, base_length-covers}
use Rattle.transform.proofs.ChainLemmas.{applied_all-take-drop}
use Rattle.editor_bridge.specs.Link.{editor_text, new_link, daemon_length, first_deltas, replacement_unless, with_edit}
use Rattle.editor_bridge.specs.Frames.{frames}
use Rattle.editor_bridge.specs.declared.frames.BridgeFrame.{BridgeFrame}
use Rattle.bridge_world.specs.Lists.{Each, one_and_others, same, only_if}
use Rattle.bridge_world.specs.Plain.{State, Opening, Open, Closed, OpenDone, Done, Verdict, Accepts, Refuses}
use Rattle.bridge_world.specs.Counted as N
use Rattle.bridge_world.specs.Counted.{Message, Opens, Edits, Closes, Sent, Frame, Held, Editor, verdict_by}
use Rattle.bridge_world.specs.Tie.{LinkFits, IfLinked, Good, AllGood}
use Rattle.bridge_world.specs.Room.{Room, Move, Handles, Pushes, at_editor, changed, told_of, with_handled, plain_step, counted_step, plain_room}
use Rattle.bridge_world.specs.Steps.{is_open, FirstApplies, CanTake, CanTakeFirst, first_effect, IsForLink, goes_on, has_room, held_has_room, link_has_room, LinkHasRoom, HeldHasRoom, HasRoom}
use Rattle.bridge_world.specs.MoveFaults.{all_have_room, length_fault, fault_at, fault_named}
use Rattle.bridge_world.specs.declared.faults.MoveFault.{MoveFault}
use Rattle.bridge_world.specs.declared.faults.MoveFault.TheVariants.{Memory}
use Rattle.bridge_world.proofs.ListLemmas.{each_at, each_weaker}
use Rattle.bridge_world.proofs.Moves.{no_fault, same_verdict, effect_fits, EffectFits, both_moved, IfGood}
use Rattle.bridge_world.proofs.LawLemmas.{shown_alike}

-- lists of which one item changes

map_same : {A : Type 0} (xs : List A) → map same xs ≡ xs
map_same [] = refl
map_same (x ∷ xs) = ap (λ ys. x ∷ ys) (map_same xs)

pub one_set : {A : Type 0} (f : A → A) (xs : List A) (n : ℕ) (x : A) → n < length xs → x ≡ get_or xs n x → slice_set xs n (f x) ≡ one_and_others f same n xs
one_set f [] n x there is = absurd (omega arith)
one_set f (y ∷ xs) zero x there is = ap (λ z. f z ∷ xs) is ∙ ap (λ ys. f y ∷ ys) (sym (map_same xs))
one_set f (y ∷ xs) (suc n) x there is = ap (λ ys. y ∷ ys) (one_set f xs n x (omega arith) is)

pub got : {A : Type 0} (xs : List A) (n : ℕ) (x : A) → n < length xs → x ≡ get_or xs n x → slice_get xs n ≡ Some x
got [] n x there is = absurd (omega arith)
got (y ∷ xs) zero x there is = ap Some (sym is)
got (y ∷ xs) (suc n) x there is = got xs n x (omega arith) is

pub each_without : {A : Type 0} (P : A → Type 0) (xs : List A) (n : ℕ) → Each P xs → Each P (remove xs n)
each_without P [] zero h = tt
each_without P [] (suc n) h = tt
each_without P (x ∷ xs) zero h = h.1
each_without P (x ∷ xs) (suc n) h = (h.0, each_without P xs n h.1)

pub inserted : {A : Type 0} (f g : A → A) (xs : List A) (n : ℕ) (x : A) → slice_get xs n ≡ Some x → insert (map g (remove xs n)) n (f x) ≡ one_and_others f g n xs
inserted f g [] n x is = cc
inserted f g (y ∷ xs) zero x is = let here : x ≡ y = cc in ap (λ z. f z ∷ map g xs) here
inserted f g (y ∷ xs) (suc n) x is = ap (λ ys. g y ∷ ys) (inserted f g xs n x is)

-- the first of a list

pub first_is : {A : Type 0} (xs : List A) (x : A) → 0 < length xs → x ≡ get_or xs 0 x → xs ≡ x ∷ remove xs 0
first_is [] x some is = absurd (omega arith)
first_is (y ∷ xs) x some is = ap (λ z. z ∷ xs) (sym is)

-- counts

both_true : (a b : Bool) → (a && b) ≡ true → (a ≡ true) × (b ≡ true)
both_true true b h = (refl, h)
both_true false b h = cc

counts_on : (n : ℕ) → goes_on n ≡ true → n < 2 ^ 64 - 1
counts_on n h = grind (arith, nat_tests)

link_room : (h : Held) → link_has_room h ≡ true → LinkHasRoom h
link_room h room =
    let a = both_true _ _ room in
    let b = both_true _ _ a.1 in
    record { issued = counts_on _ a.0; taken = counts_on _ b.0; seen = counts_on _ b.1 }

held_room : (link : Option Held) → held_has_room link ≡ true → HeldHasRoom link
held_room None room = tt
held_room (Some h) room = link_room h room

pub room_of : (e : Editor) → has_room e ≡ true → HasRoom e
room_of e room =
    let a = both_true _ _ room in
    let b = both_true _ _ a.1 in
    let c = both_true _ _ b.1 in
    record { session = counts_on _ a.0; own = counts_on _ b.0; shown = counts_on _ c.0; link = held_room e.link c.1 }

pub all_room : (es : List Editor) → all_have_room es ≡ true → Each HasRoom es
all_room [] room = tt
all_room (e ∷ es) room = let a = both_true _ _ room in (room_of e a.0, all_room es a.1)

-- what the tie says

for_link : (view : List ℕ) (d : Cells) (low : ℕ) (link : Option Held) → base_length d ≡ length view → IfLinked (LinkFits view low) link → IsForLink d link
for_link view d low None fits h = tt
for_link view d low (Some x) fits h =
    fits ∙ ap length (sym h.leads ∙ applied_all-take-drop (x.seen - x.link.confirmed) x.link.unconfirmed x.link.base)

pub all_for_link : (view : List ℕ) (d : Cells) (es : List Editor) → base_length d ≡ length view → AllGood view es → Each (λ (e : Editor). IsForLink d e.link) es
all_for_link view d es fits h = each_weaker (Good view) (λ (e : Editor). IsForLink d e.link) es (λ e g. for_link view d g.low e.link fits g.link) h

open_is : (s : State) → is_open s ≡ true → s ≡ Open
open_is Open h = refl
open_is Opening h = cc
open_is Closed h = cc

pub first_applies : (view : List ℕ) (e : Editor) → Good view e → FirstApplies e e.wire
first_applies view e h = by_wire e.wire h where
  by_wire : (wire : List Frame) → Good view (record e { wire = wire }) → FirstApplies e wire
  by_wire [] g = tt
  by_wire (f ∷ wire) g = λ shown.
      let a = both_true _ _ shown in
      let b = both_true _ _ a.1 in
      let there : Good view (record e { state = Open; wire = f ∷ wire }) = subst (λ s. Good view (record e { state = s; wire = f ∷ wire })) (open_is e.state b.0) g in
      ((shown_alike view f wire e f.mark.kind refl a.0 there).0 (eqb-true f.revision e.own b.1)).fits

can_take : (k : Message) (link : Option Held) (view : List ℕ) (s : ℕ) (sent : List Sent) (e : Editor)
    → Good view (record e { sent = record { session = s; message = k } ∷ sent; link = link }) → CanTake k link
can_take (Opens content) link view s sent e h = tt
can_take (Edits seen p) None view s sent e h = tt
can_take (Edits seen p) (Some x) view s sent e h =
    let shown : seen ≡ x.seen = h.sent.0.1.0 in
    no_fault seen p x.link (omega (arith, shown, h.link.confirmed)) (omega (arith, shown, h.link.seen))
    (h.sent.0.1.1 ∙ ap (λ n. length (editor_text n x.link)) (sym shown))
can_take Closes link view s sent e h = tt

pub can_take_first : (view : List ℕ) (e : Editor) → Good view e → CanTakeFirst e.sent e.link
can_take_first view e h = by_sent e.sent h where
  by_sent : (sent : List Sent) → Good view (record e { sent = sent }) → CanTakeFirst sent e.link
  by_sent [] g = tt
  by_sent (m ∷ sent) g = can_take m.message e.link view m.session sent e g

-- what the first message does

-- an open alone depends on the daemon's text, and changes nothing there
same_view : (k : Message) (link : Option Held) (verdict : Verdict) (view : List ℕ) (s : ℕ) (e : Editor)
    → N.handled_by k link verdict view s e ≡ N.handled_by k link verdict (changed (N.effect_by k link verdict) view) s e
same_view (Opens content) link verdict view s e = refl
same_view (Edits seen p) None verdict view s e = refl
same_view (Edits seen p) (Some x) Accepts view s e = refl
same_view (Edits seen p) (Some x) (Refuses cause) view s e = refl
same_view Closes None verdict view s e = refl
same_view Closes (Some x) verdict view s e = refl

-- the link's own verdict is the daemon's
pub record TakesFirst (verdict : Verdict) (view : List ℕ) (e : Editor) : Type 0 where
  pub effect : N.effect verdict e ≡ first_effect e.sent e.link verdict
  pub fits : EffectFits (first_effect e.sent e.link verdict) view
  pub handled : N.handled (N.verdict_of verdict e) (changed (N.effect verdict e) view) e ≡ N.handled verdict view e

pub takes_first : (verdict : Verdict) (view : List ℕ) (e : Editor) → Good view e → TakesFirst verdict view e
takes_first verdict view e h = by_sent e.sent h where
  by_sent : (sent : List Sent) → Good view (record e { sent = sent }) → TakesFirst verdict view (record e { sent = sent })
  by_sent [] g = record { effect = refl; fits = tt; handled = refl }
  by_sent (m ∷ sent) g =
      let c : Editor = record e { sent = sent } in
      let found : verdict_by verdict m.message e.link ≡ verdict = same_verdict m.message e.link verdict view m.session sent e g in
      record {
        effect = ap (N.effect_by m.message e.link) found;
        fits = effect_fits m.message e.link verdict view m.session sent e g;
        handled =
            ap (λ v. N.handled_by m.message e.link v (changed (N.effect_by m.message e.link v) view) m.session c) found
            ∙ sym (same_view m.message e.link verdict view m.session c);
      }

-- a step

pub record Stepped (m : Move) (w v : Room Editor) : Type 0 where
  pub counted : counted_step m w ≡ Some v
  pub plain : plain_step m (plain_room w) ≡ Some (plain_room v)
  pub good : AllGood v.view v.editors

pub stepped : (m : Move) (w v : Room Editor) → AllGood w.view w.editors → counted_step m w ≡ Some v → Stepped m w v
stepped m w v h is =
    let both = both_moved m w h in
    record { counted = is; plain = both.plain ∙ ap (option_map plain_room) is; good = subst IfGood is both.good }

-- an editor does something of its own
pub own_moved : (may : Editor → Bool) (f : Editor → Editor) (n : ℕ) (w : Room Editor) (e : Editor) (editors : List Editor) → slice_get w.editors n ≡ Some e → may e ≡ true
    → editors ≡ one_and_others f same n w.editors → at_editor may f n w ≡ Some (record w { editors = editors })
own_moved may f n w e editors found holds is =
    ap (option_and_then (λ x. only_if (may x) (record w { editors = one_and_others f same n w.editors }))) found
    ∙ ap (λ b. only_if b (record w { editors = one_and_others f same n w.editors })) holds
    ∙ ap (λ es. Some (record w { editors = es })) (sym is)

-- a message is handled
pub handled_moved : (n : ℕ) (verdict : Verdict) (w : Room Editor) (e y : Editor) (d : Option Cells) (view : List ℕ) (editors : List Editor) → AllGood w.view w.editors
    → slice_get w.editors n ≡ Some e → y ≡ N.handled verdict w.view e → d ≡ first_effect e.sent e.link verdict
    → editors ≡ insert (map (told_of N.told d) (remove w.editors n)) n y → view ≡ changed d w.view
    → counted_step (Handles n verdict) w ≡ Some (record { view = view; editors = editors })
handled_moved n verdict w e y d view editors h found handled effect told is =
    let first = takes_first verdict w.view e (each_at (Good w.view) w.editors n e found h) in
    let step : Editor → Editor = N.handled (N.verdict_of verdict e) (changed (N.effect verdict e) w.view) in
    let one : N.effect verdict e ≡ d = first.effect ∙ sym effect in
    let all : one_and_others step (told_of N.told (N.effect verdict e)) n w.editors ≡ editors =
    sym (inserted step (told_of N.told (N.effect verdict e)) w.editors n e found)
    ∙ ap (λ z. insert (map (told_of N.told (N.effect verdict e)) (remove w.editors n)) n z) (first.handled ∙ sym handled)
    ∙ ap (λ o. insert (map (told_of N.told o) (remove w.editors n)) n y) one
    ∙ sym told in
    ap (option_and_then (λ (x : Editor). Some (with_handled (N.handled (N.verdict_of verdict x)) N.told (N.effect verdict x) n w))) found
    ∙ ap (λ es. Some (record { view = changed (N.effect verdict e) w.view; editors = es })) all
    ∙ ap (λ v. Some (record { view = v; editors = editors })) (ap (λ o. changed o w.view) one ∙ sym is)

pub item_at : {A : Type 0} (xs : List A) (n : ℕ) → n < length xs → (x : A) × (slice_get xs n ≡ Some x)
item_at [] n there = absurd (omega arith)
item_at (x ∷ xs) zero there = (x, refl)
item_at (x ∷ xs) (suc n) there = item_at xs n (omega arith)

-- an item of a list whose first items have changed
pub each_ahead : {A : Type 0} (P : A → Type 0) (f : A → A) (xs ys : List A) (i : ℕ) (x : A) → Each P xs → i < length xs → ys ≡ map f (take i xs) ++ drop i xs → P (get_or ys i x)
each_ahead P f [] ys i x h lt is = absurd (omega arith)
each_ahead P f (y ∷ xs) ys zero x h lt is = subst (λ zs. P (get_or zs 0 x)) (sym is) h.0
each_ahead P f (y ∷ xs) ys (suc i) x h lt is =
    subst (λ zs. P (get_or zs (suc i) x)) (sym is) (each_ahead P f xs (map f (take i xs) ++ drop i xs) i x h.1 (omega arith) refl)

-- an item may have changed, as the call says
pub set_if_ok : {A V E : Type 0} (f : A → A) (xs : List A) (n : ℕ) (x y : A) (r : Result V E) → n < length xs → x ≡ get_or xs n x → OnOk r (y ≡ f x)
    → OnOk r (slice_set xs n y ≡ one_and_others f same n xs)
set_if_ok f xs n x y (Ok v) there is made = ap (slice_set xs n) made ∙ one_set f xs n x there is
set_if_ok f xs n x y (Err e) there is made = tt

-- no editor is told where nothing changes
pub none_told : (es : List Editor) → es ≡ map (told_of N.told None) es
none_told [] = refl
none_told (e ∷ es) = ap (λ xs. e ∷ xs) (none_told es)

pub first_at : (view : List ℕ) (es : List Editor) (n : ℕ) → AllGood view es → IfSome (slice_get es n) (λ (e : Editor). FirstApplies e e.wire)
first_at view [] n h = tt
first_at view (e ∷ es) zero h = first_applies view e h.0
first_at view (e ∷ es) (suc n) h = first_at view es n h.1

-- an open is taken

abbrev pub fresh : ℕ → List ℕ → Held
fresh s content = record { session = s; seen = 0; link = new_link content }

pub first_fits : (s : ℕ) (content view : List ℕ) (n : ℕ) (d : Cells) (held : Held) → d ≡ inserts view (deleting n) → n ≡ length content → held ≡ fresh s content
    → base_length d ≡ daemon_length held.link
first_fits s content view n d held is long new =
    ap base_length is
    ∙ omega (arith, base_length-inserts view (deleting n), base_length-covers false n nothing, long)
    ∙ ap (λ (h : Held). daemon_length h.link) (sym new)

pub linked_alone : (s : ℕ) (content view : List ℕ) (held : Held) (e a : Editor) → a ≡ N.answered s OpenDone e → held ≡ fresh s content → bytes_eq content view ≡ true
    → record a { link = Some held } ≡ N.linked s content (first_deltas content view) e
linked_alone s content view held e a one new alike =
    ap (λ (x : Editor). record x { link = Some held }) one
    ∙ ap (λ (h : Held). record (N.answered s OpenDone e) { link = Some h }) new
    ∙ ap (λ b. N.linked s content (replacement_unless b content view) e) (sym alike)

pub linked_by_push : {V E : Type 0} (s : ℕ) (content view : List ℕ) (n : ℕ) (d : Cells) (held : Held) (e a p : Editor) (r : Result V E) → a ≡ N.answered s OpenDone e
    → held ≡ fresh s content → d ≡ inserts view (deleting n) → n ≡ length content → bytes_eq content view ≡ false → OnOk r (p ≡ N.pushed d (record a { link = Some held }))
    → OnOk r (p ≡ N.linked s content (first_deltas content view) e)
linked_by_push s content view n d held e a p (Err fault) one new is long differs made = tt
linked_by_push s content view n d held e a p (Ok v) one new is long differs made =
    let first : Cells = inserts view (deleting (length content)) in
    let ans : Editor = N.answered s OpenDone e in
    made
    ∙ ap (λ (x : Editor). N.pushed d (record x { link = Some held })) one
    ∙ ap (λ (h : Held). N.pushed d (record ans { link = Some h })) new
    ∙ ap (λ q. N.pushed q (record ans { link = Some (fresh s content) })) (is ∙ ap (λ m. inserts view (deleting m)) long)
    ∙ ap (λ w. record e { wire = w; link = Some (record { session = s; seen = 0; link = record (new_link content) { unconfirmed = first ∷ [] } }) })
    (append_assoc e.wire (N.answer s OpenDone ∷ []) (N.new_frame s 0 first ∷ []))
    ∙ ap (λ b. N.linked s content (replacement_unless b content view) e) (sym differs)

-- a list that grows by what another has
pub grown : {A B : Type 0} (f : A → B) (xs : List A) (i : ℕ) (x : A) (front ys : List B) → i < length xs → x ≡ get_or xs i x → ys ≡ front ++ map f (take i xs)
    → ys ++ f x ∷ [] ≡ front ++ map f (take (i + 1) xs)
grown f xs i x front ys there is so_far =
    ap (λ zs. zs ++ f x ∷ []) so_far
    ∙ append_assoc front (map f (take i xs)) (f x ∷ [])
    ∙ ap (λ zs. front ++ zs) (sym (map-append f (take i xs) (x ∷ [])) ∙ ap (map f) (ap (λ z. take i xs ++ z ∷ []) is ∙ sym (take_more xs i x there)))

-- an edit is taken

framed : (s n : ℕ) (deltas : List Cells) → map (λ (f : BridgeFrame). N.new_frame s f.revision f.delta) (frames n deltas) ≡ map (N.new_frame s n) deltas
framed s n [] = refl
framed s n (d ∷ deltas) = ap (λ fs. N.new_frame s n d ∷ fs) (framed s n deltas)

pub took_by_parts : (s seen : ℕ) (p : Cells) (h left : Held) (e g a : Editor) (again : List BridgeFrame) (wire : List Frame) → left ≡ record h { link = with_edit seen p h.link }
    → g ≡ record e { wire = map N.aged_frame e.wire } → a ≡ N.answered s Done g → again ≡ frames left.link.taken left.link.unconfirmed
    → wire ≡ a.wire ++ map (λ (f : BridgeFrame). N.new_frame left.session f.revision f.delta) again → record a { wire = wire; link = Some left } ≡ N.took s seen p h e
took_by_parts s seen p h left e g a again wire new old one told is =
    let aged : Editor = record e { wire = map N.aged_frame e.wire } in
    let alike : a ≡ N.answered s Done aged = one ∙ ap (N.answered s Done) old in
    let whole : wire ≡ map N.aged_frame e.wire ++ N.answer s Done ∷ map (N.new_frame left.session left.link.taken) left.link.unconfirmed =
    is
    ∙ ap (λ (x : Editor). x.wire ++ map (λ (f : BridgeFrame). N.new_frame left.session f.revision f.delta) again) alike
    ∙ ap (λ fs. (map N.aged_frame e.wire ++ N.answer s Done ∷ []) ++ map (λ (f : BridgeFrame). N.new_frame left.session f.revision f.delta) fs) told
    ∙ append_assoc (map N.aged_frame e.wire) (N.answer s Done ∷ [])
    (map (λ (f : BridgeFrame). N.new_frame left.session f.revision f.delta) (frames left.link.taken left.link.unconfirmed))
    ∙ ap (λ fs. map N.aged_frame e.wire ++ N.answer s Done ∷ fs) (framed left.session left.link.taken left.link.unconfirmed) in
    ap (λ (x : Editor). record x { wire = wire; link = Some left }) alike
    ∙ ap (λ w. record e { wire = w; link = Some left }) whole
    ∙ ap (λ (x : Held). record e { wire = map N.aged_frame e.wire ++ N.answer s Done ∷ map (N.new_frame x.session x.link.taken) x.link.unconfirmed; link = Some x }) new

-- what a message changes is for the daemon's text, and so for the other links

pub effect_for : (verdict : Verdict) (view : List ℕ) (e : Editor) (o : Option Cells) → Good view e → o ≡ first_effect e.sent e.link verdict
    → IfSome o (λ d. base_length d ≡ length view)
effect_for verdict view e o h is = by_effect o (subst (λ q. EffectFits q view) (sym is) (takes_first verdict view e h).fits) where
  by_effect : (q : Option Cells) → EffectFits q view → IfSome q (λ d. base_length d ≡ length view)
  by_effect None fits = tt
  by_effect (Some d) fits = fits

pub others_for : (view : List ℕ) (es others : List Editor) (n : ℕ) (o : Option Cells) → AllGood view es → others ≡ remove es n → IfSome o (λ d. base_length d ≡ length view)
    → IfSome o (λ d. Each (λ (e : Editor). IsForLink d e.link) others)
others_for view es others n None h is fits = tt
others_for view es others n (Some d) h is fits = all_for_link view d others fits (subst (AllGood view) (sym is) (each_without (Good view) es n h))

-- the daemon's text changes otherwise
pub pushed_moved : (d : Cells) (w : Room Editor) (view : List ℕ) (editors : List Editor) → base_length d ≡ length w.view → view ≡ applied d w.view → editors ≡ map (N.told d) w.editors
    → counted_step (Pushes d) w ≡ Some (record { view = view; editors = editors })
pushed_moved d w view editors fits text told =
    ap (λ b. only_if b (record { view = applied d w.view; editors = map (N.told d) w.editors })) (eq-eqb (base_length d) (length w.view) fits)
    ∙ ap (λ v. Some (record { view = v; editors = map (N.told d) w.editors })) (sym text)
    ∙ ap (λ es. Some (record { view = view; editors = es })) (sym told)

-- faults

pub fits_length : (d : Cells) (text : List ℕ) → base_length d ≡ length text → length_fault d text ≡ None
fits_length d text fits = rw (eq-eqb (base_length d) (length text) fits) refl

pub faultless : (fault : Editor → Option MoveFault) (n : ℕ) (w v : Room Editor) (e : Editor) → w ≡ v → slice_get w.editors n ≡ Some e → fault e ≡ None
    → fault_at fault (length v.editors) (slice_get v.editors n) ≡ None
faultless fault n w v e alike found none =
    subst (λ (x : Room Editor). fault_at fault (length x.editors) (slice_get x.editors n) ≡ None) alike (ap (fault_at fault (length w.editors)) found ∙ none)

pub memory_named : {V : Type 0} (r : Result V MoveFault) (o : Option MoveFault) → o ≡ None → IsErrAnd r (λ fault. fault ≡ Memory) → IfErr r (λ fault. o ≡ fault_named fault)
memory_named (Ok v) o none is = tt
memory_named (Err fault) o none is = none ∙ ap fault_named (sym is)
