-- The effect leads from the visible text before to that of the later list.
use Rattle.std.proofs.Common.{◌≡◌, ℕ, Bool, true, false, List, [], ◌∷◌, ◌++◌, refl, sym, ap, ap₂, ◌∙◌, inl, inr}
use Rattle.delta.specs.Cells.{Cells, applied}
use Rattle.delta.proofs.ApplyLemmas.{applied-inserts}
use Rattle.delta.proofs.LawLemmas.{applied-normal}
use Rattle.tt_base.specs.Elements.{IsNew, AreDistinct}
use Rattle.tt_base.specs.declared.ids.ElemId.{ElemId}
use Rattle.tt_base.specs.declared.elements.Element.{Element}
use Rattle.replica_text.specs.Effect.{text_of, is_visible, step_of, change_of, compared, effect}
use Rattle.replica_text.specs.Joined.{Grows}
use Rattle.replica_text.proofs.EffectLemmas.{AllSeen, all_seen, new_invisible}
use Rattle.replica_text.proofs.TextLemmas.{shown_if, text_cons}

step_leads : (was now : Bool) (c : ℕ) (d : Cells) (before after : List ℕ) → applied d before ≡ after → applied (step_of was now c d) (shown_if was c ++ before) ≡ shown_if now c ++ after
step_leads true true c d before after h = ap (λ t. c ∷ t) h
step_leads true false c d before after h = h
step_leads false true c d before after h = applied-inserts (c ∷ []) d before ∙ ap (λ t. c ∷ t) h
step_leads false false c d before after h = h

change_leads : (f : ElemId → Bool) (whole xs ys : List Element) → Grows whole xs ys → AllSeen f xs → ((id : ElemId) → IsNew id whole → f id ≡ false)
    → applied (change_of (compared f ys)) (text_of xs) ≡ text_of ys
change_leads f whole [] [] h s u = refl
change_leads f whole (x ∷ xs) [] h s u = absurd h
change_leads f whole [] (y ∷ ys) h s u =
    ap (λ b. applied (step_of b y.alive y.ch (change_of (compared f ys))) []) (u y.id h.0)
    ∙ step_leads false y.alive y.ch (change_of (compared f ys)) [] (text_of ys) (change_leads f whole [] ys h.1 s u)
    ∙ sym (text_cons y ys)
change_leads f whole (x ∷ xs) (y ∷ ys) h s u = elim h [
  | inl k ↦
      ap₂ (λ b t. applied (step_of b y.alive y.ch (change_of (compared f ys))) t) (ap f k.0.id ∙ s.0)
      (text_cons x xs ∙ ap (λ c. shown_if x.alive c ++ text_of xs) (sym k.0.ch))
      ∙ step_leads x.alive y.alive y.ch (change_of (compared f ys)) (text_of xs) (text_of ys) (change_leads f whole xs ys k.1 s.1 u)
      ∙ sym (text_cons y ys)
  | inr k ↦
      ap (λ b. applied (step_of b y.alive y.ch (change_of (compared f ys))) (text_of (x ∷ xs))) (u y.id k.0)
      ∙ step_leads false y.alive y.ch (change_of (compared f ys)) (text_of (x ∷ xs)) (text_of ys) (change_leads f whole (x ∷ xs) ys k.1 s u)
      ∙ sym (text_cons y ys)
]

pub effect_leads : (old new : List Element) → AreDistinct old → Grows old old new → applied (effect old new) (text_of old) ≡ text_of new
effect_leads old new d h =
    applied-normal (change_of (compared (is_visible old) new)) (text_of old)
    ∙ change_leads (is_visible old) old old new h (all_seen old d) (λ id n. new_invisible id old n)
