-- Runs of indices over the things of operations.
use Rattle.std.proofs.Common.{◌≡◌, ℕ, zero, suc, ◌+◌, ◌-◌, ◌<◌, ◌≤◌, Bool, true, false, not, ◌||◌, refl, sym, ap, ◌∙◌, List, [], ◌∷◌, ◌++◌, map, length, take, drop, replicate, get_or, arith}
use Rattle.std.specs.List.{list_any}
use Rattle.std.proofs.lemmas.List.{map-append, drop_more, drop_all, drop-drop, drop_at, drop-append-le, drop-replicate, length-replicate, take-append-drop, length-map}
use Rattle.std.proofs.lemmas.List.Concat.{flat_map-append}
use Rattle.std.proofs.Math.Bool.{or_assoc}
use Rattle.change_codec.specs.declared.ops.Ref.{Ref}
use Rattle.change_codec.specs.declared.ops.Ref.TheVariants.{Here, There}
use Rattle.change_codec.specs.declared.ops.Op.{Op}
use Rattle.change_graph.specs.declared.runs.Scan.{Scan}
use Rattle.change_graph.specs.Refusals.{Thing, Object, Character, things_of, things, thing_seen, is_ref, is_object, is_elsewhere}
use Rattle.change_graph.specs.Runs.{Told, so_far, told_of, told}

pub object_seen : (from : Ref) → thing_seen from Object ≡ Object
object_seen (Here index) = refl
object_seen (There name index) = refl

map_replicate : (f : Thing → Thing) (n : ℕ) (x : Thing) → map f (replicate n x) ≡ replicate n (f x)
map_replicate f zero x = refl
map_replicate f (suc n) x = ap (λ (ys : List Thing). f x ∷ ys) (map_replicate f n x)

or_twice : (a b : Bool) → ((a || b) || b) ≡ (a || b)
or_twice true b = refl
or_twice false true = refl
or_twice false false = refl

or_false : (a : Bool) → (a || false) ≡ a
or_false true = refl
or_false false = refl

or_true : (a : Bool) → (a || true) ≡ true
or_true true = refl
or_true false = refl

abbrev nothing : List Thing
nothing = []

take_none : (n : ℕ) → take n nothing ≡ nothing
take_none zero = refl
take_none (suc n) = refl

-- ---- what is told

told_is : (a b : Told) → a.left ≡ b.left → a.objects ≡ b.objects → a.others ≡ b.others → a ≡ b
told_is a b left objects others = λ i. record { left = left i; objects = objects i; others = others i }

-- a run that begins here
abbrev scan_at : ℕ → Bool → Bool → Scan
scan_at left objects others = record { skip = 0; left = left; objects = objects; others = others }

module _ (object : Ref) where
  -- nothing more is told of a run of which nothing is left
  pub told_full : (scan : Scan) (rest : List Thing) → scan.left ≡ 0 → so_far scan ≡ told object scan rest
  told_full scan rest full =
      told_is (so_far scan) (told object scan rest) (omega arith) (sym (none is_object scan.objects)) (sym (none (is_elsewhere object) scan.others))
    where
      none : (p : Thing → Bool) (a : Bool) → (a || list_any p (take scan.left (drop scan.skip rest))) ≡ a
      none p a = ap (λ (n : ℕ). a || list_any p (take n (drop scan.skip rest))) full ∙ or_false a

  -- nor where no more is to come
  pub told_end : (scan : Scan) → so_far scan ≡ told object scan []
  told_end scan =
      told_is (so_far scan) (told object scan [])
      (left_all ∙ ap (λ (xs : List Thing). scan.left - length xs) (sym over))
      (sym (none is_object scan.objects)) (sym (none (is_elsewhere object) scan.others))
    where
      left_all : scan.left ≡ scan.left - length nothing
      left_all = omega arith

      over : take scan.left (drop scan.skip nothing) ≡ nothing
      over = ap (take scan.left) (drop_all scan.skip nothing (omega arith)) ∙ take_none scan.left

      none : (p : Thing → Bool) (a : Bool) → (a || list_any p (take scan.left (drop scan.skip nothing))) ≡ a
      none p a = ap (λ (xs : List Thing). a || list_any p xs) over ∙ or_false a

  told_at : (m n : ℕ) (o p e f : Bool) (rest : List Thing) → m ≡ n → o ≡ p → e ≡ f → told object (scan_at m o e) rest ≡ told object (scan_at n p f) rest
  told_at m n o p e f rest left objects others = λ i. told object (scan_at (left i) (objects i) (others i)) rest

  told_one : (left : ℕ) (o e : Bool) (t : Thing) (rest : List Thing)
      → told object (scan_at (suc left) o e) (t ∷ rest) ≡ told object (scan_at left (o || is_object t) (e || is_elsewhere object t)) rest
  told_one left o e t rest =
      told_is (told object (scan_at (suc left) o e) (t ∷ rest)) (told object (scan_at left (o || is_object t) (e || is_elsewhere object t)) rest)
      (omega arith) (sym (or_assoc o (is_object t) (list_any is_object (take left rest))))
      (sym (or_assoc e (is_elsewhere object t) (list_any (is_elsewhere object) (take left rest))))

  told_more : (left n : ℕ) (o e : Bool) (t : Thing) (rest : List Thing)
      → told object (scan_at (suc left) o e) (t ∷ (replicate n t ++ rest))
      ≡ told object (scan_at (suc left - suc n) (o || is_object t) (e || is_elsewhere object t)) rest
  told_more left zero o e t rest =
      told_one left o e t rest
      ∙ told_at left (suc left - suc zero) _ _ _ _ rest (omega arith) refl refl
  told_more zero (suc n) o e t rest =
      let next = scan_at 0 (o || is_object t) (e || is_elsewhere object t) in
      told_one 0 o e t (t ∷ (replicate n t ++ rest))
      ∙ sym (told_full next (t ∷ (replicate n t ++ rest)) refl)
      ∙ told_full next rest refl
      ∙ told_at 0 (suc zero - suc (suc n)) _ _ _ _ rest (omega arith) refl refl
  told_more (suc left) (suc n) o e t rest =
      told_one (suc left) o e t (t ∷ (replicate n t ++ rest))
      ∙ told_more left n (o || is_object t) (e || is_elsewhere object t) t rest
      ∙ told_at (suc left - suc n) (suc (suc left) - suc (suc n)) _ _ _ _ rest (omega arith) (or_twice o (is_object t)) (or_twice e (is_elsewhere object t))

  told_alike : (left n : ℕ) (o e : Bool) (t : Thing) (rest : List Thing) → 0 < left → 0 < n
      → told object (scan_at left o e) (replicate n t ++ rest)
      ≡ told object (scan_at (left - n) (o || is_object t) (e || is_elsewhere object t)) rest
  told_alike zero n o e t rest some more = absurd (omega arith)
  told_alike (suc left) zero o e t rest some more = absurd (omega arith)
  told_alike (suc left) (suc n) o e t rest some more = told_more left n o e t rest

  -- past things before the run
  pub told_over : (scan : Scan) (count : ℕ) (t : Thing) (rest : List Thing) → count ≤ scan.skip
      → told object (record scan { skip = scan.skip - count }) rest ≡ told object scan (replicate count t ++ rest)
  told_over scan count t rest le = ap (λ (xs : List Thing). told_of object scan (take scan.left xs)) over
    where
      over : drop (scan.skip - count) rest ≡ drop scan.skip (replicate count t ++ rest)
      over =
          sym (ap (drop (scan.skip - count)) (drop_at (replicate count t) rest count (length-replicate count t)))
          ∙ drop-drop (scan.skip - count) count (replicate count t ++ rest)
          ∙ ap (λ (n : ℕ). drop n (replicate count t ++ rest)) (omega (arith, le))

  -- past things of which some are of the run
  pub told_into : (scan : Scan) (count : ℕ) (t : Thing) (rest : List Thing) → scan.skip < count → 0 < scan.left
      → told object (scan_at (scan.left - (count - scan.skip)) (scan.objects || is_object t) (scan.others || is_elsewhere object t)) rest
      ≡ told object scan (replicate count t ++ rest)
  told_into scan count t rest less some =
      sym (ap (λ (xs : List Thing). told_of object scan (take scan.left xs)) into
      ∙ told_alike scan.left (count - scan.skip) scan.objects scan.others t rest some (omega (arith, less)))
    where
      into : drop scan.skip (replicate count t ++ rest) ≡ replicate (count - scan.skip) t ++ rest
      into =
          drop-append-le scan.skip (replicate count t) rest (omega (arith, less, length-replicate count t))
          ∙ ap (λ (xs : List Thing). xs ++ rest) (drop-replicate scan.skip count t)

  pub told_objects : (scan : Scan) (count left : ℕ) (rest : List Thing) → scan.skip < count → 0 < scan.left → left ≡ scan.left - (count - scan.skip)
      → told object (record { skip = 0; left = left; objects = true; others = scan.others }) rest ≡ told object scan (replicate count Object ++ rest)
  told_objects scan count left rest less some is =
      told_at _ _ _ _ _ _ rest is (sym (or_true scan.objects)) (sym (or_false scan.others)) ∙ told_into scan count Object rest less some

  pub told_characters : (scan : Scan) (count left : ℕ) (other : Ref) (others : Bool) (rest : List Thing) → scan.skip < count → 0 < scan.left
      → left ≡ scan.left - (count - scan.skip) → others ≡ (scan.others || not (is_ref object other))
      → told object (record { skip = 0; left = left; objects = scan.objects; others = others }) rest
      ≡ told object scan (replicate count (Character other) ++ rest)
  told_characters scan count left other others rest less some is finds =
      told_at _ _ _ _ _ _ rest is (sym (or_false scan.objects)) finds ∙ told_into scan count (Character other) rest less some

  -- past one operation
  pub told_step : (from : Ref) (scan next : Scan) (ops : List Op) (i : ℕ) (op : Op) (count : ℕ) (t u : Thing) → i < length ops → op ≡ get_or ops i op
      → things_of op ≡ replicate count t → u ≡ thing_seen from t
      → ((rest : List Thing) → told object next rest ≡ told object scan (replicate count u ++ rest))
      → told object next (map (thing_seen from) (things (drop (i + 1) ops))) ≡ told object scan (map (thing_seen from) (things (drop i ops)))
  told_step from scan next ops i op count t u less read alike seen passed =
      passed (map (thing_seen from) (things (drop (i + 1) ops)))
      ∙ ap (λ (xs : List Thing). told object scan (xs ++ map (thing_seen from) (things (drop (i + 1) ops)))) (sym front)
      ∙ ap (told object scan) (sym split)
    where
      front : map (thing_seen from) (things_of op) ≡ replicate count u
      front =
          ap (map (thing_seen from)) alike ∙ map_replicate (thing_seen from) count t
          ∙ ap (λ (x : Thing). replicate count x) (sym seen)

      split : map (thing_seen from) (things (drop i ops)) ≡ map (thing_seen from) (things_of op) ++ map (thing_seen from) (things (drop (i + 1) ops))
      split =
          ap (λ (os : List Op). map (thing_seen from) (things os))
          (drop_more ops i op less ∙ ap (λ (o : Op). o ∷ drop (i + 1) ops) (sym read))
          ∙ map-append (thing_seen from) (things_of op) (things (drop (i + 1) ops))

  -- past all of them
  pub told_all : (from : Ref) (scan : Scan) (ops : List Op) (i : ℕ) → length ops ≤ i
      → so_far scan ≡ told object scan (map (thing_seen from) (things (drop i ops)))
  told_all from scan ops i past =
      told_end scan ∙ ap (λ (os : List Op). told object scan (map (thing_seen from) (things os))) (sym (drop_all i ops past))

  told_behind : (front behind : List Thing) (start index count : ℕ) → length front ≡ start → start ≤ index
      → told object (record { skip = index - start; left = count; objects = false; others = false }) behind
      ≡ told object (record { skip = index; left = count; objects = false; others = false }) (front ++ behind)
  told_behind front behind start index count long le =
      ap (λ (xs : List Thing). told_of object (record { skip = index; left = count; objects = false; others = false }) (take count xs)) landed
    where
      landed : drop (index - start) behind ≡ drop index (front ++ behind)
      landed =
          sym (ap (drop (index - start)) (drop_at front behind start long))
          ∙ drop-drop (index - start) start (front ++ behind)
          ∙ ap (λ (n : ℕ). drop n (front ++ behind)) (omega (arith, le))

  -- from an operation that begins no later
  pub told_from : (f : Thing → Thing) (ops : List Op) (place start index count : ℕ) → start ≡ length (things (take place ops)) → start ≤ index
      → told object (record { skip = index - start; left = count; objects = false; others = false }) (map f (things (drop place ops)))
      ≡ told object (record { skip = index; left = count; objects = false; others = false }) (map f (things ops))
  told_from f ops place start index count begins le =
      told_behind (map f (things (take place ops))) (map f (things (drop place ops))) start index count
      (length-map (things (take place ops)) f ∙ sym begins) le
      ∙ ap (told object (record { skip = index; left = count; objects = false; others = false })) joined
    where
      joined : map f (things (take place ops)) ++ map f (things (drop place ops)) ≡ map f (things ops)
      joined =
          sym (map-append f (things (take place ops)) (things (drop place ops)))
          ∙ ap (map f) (sym (flat_map-append things_of (take place ops) (drop place ops)))
          ∙ ap (λ (os : List Op). map f (things os)) (take-append-drop place ops)
