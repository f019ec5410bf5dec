-- The visible text, element by element.
use Rattle.std.proofs.Common.{◌≡◌, ℕ, zero, suc, Bool, true, false, cond, List, [], ◌∷◌, ◌++◌, Some, map, take, refl, sym, ap, ◌∙◌, append_assoc}
use Rattle.std.specs.Prelude.{slice_get}
use Rattle.std.specs.List.{filter}
use Rattle.std.proofs.lemmas.List.{append-nil}
use Rattle.tt_base.specs.Elements.{is_alive}
use Rattle.tt_base.specs.declared.elements.Element.{Element}
use Rattle.replica_text.specs.Effect.{text_of}

abbrev pub shown_if : Bool → ℕ → List ℕ
shown_if b ch = cond b (ch ∷ []) []

pub text_cons : (x : Element) (xs : List Element) → text_of (x ∷ xs) ≡ shown_if x.alive x.ch ++ text_of xs
text_cons x xs = by_answer x.alive where
  by_answer : (b : Bool) → map (λ (e : Element). e.ch) (cond b (x ∷ filter is_alive xs) (filter is_alive xs)) ≡ shown_if b x.ch ++ text_of xs
  by_answer true = refl
  by_answer false = refl

pub text_more : (elements : List Element) (place : ℕ) (e : Element) → slice_get elements place ≡ Some e
    → text_of (take (suc place) elements) ≡ text_of (take place elements) ++ shown_if e.alive e.ch
text_more [] place e h = cc
text_more (x ∷ xs) zero e h =
    let is : x ≡ e = cc in
    text_cons x [] ∙ append-nil (shown_if x.alive x.ch) ∙ ap (λ (y : Element). shown_if y.alive y.ch) is
text_more (x ∷ xs) (suc place) e h =
    text_cons x (take (suc place) xs)
    ∙ ap (λ l. shown_if x.alive x.ch ++ l) (text_more xs place e h)
    ∙ sym (append_assoc (shown_if x.alive x.ch) (text_of (take place xs)) (shown_if e.alive e.ch))
    ∙ ap (λ l. l ++ shown_if e.alive e.ch) (sym (text_cons x (take place xs)))
