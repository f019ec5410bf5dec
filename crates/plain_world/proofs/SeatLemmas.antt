-- How an editor of a script stands to the text of its file: as one of bridge_world's editors stands to its daemon's text.
use Rattle.std.proofs.Common.{◌≡◌, ℕ, true, List, [], ◌∷◌, map, length, refl, sym, ap, ◌∙◌, subst}
use Rattle.delta.specs.Cells.{Cells, base_length, applied}
use Rattle.bridge_world.specs.Counted as N
use Rattle.bridge_world.specs.Counted.{plain_of, Editor, Frame}
use Rattle.bridge_world.specs.Plain as P
use Rattle.bridge_world.specs.Plain.{is_closed, State, Opening, Open, Closed, Verdict}
use Rattle.bridge_world.specs.Room.{changed, new_plain, new_counted}
use Rattle.bridge_world.specs.Tie.{Good}
use Rattle.bridge_world.proofs.Delivery.{Both, both_delivered, quiet_has_view}
use Rattle.bridge_world.proofs.GoodSteps.{good_typed, good_opened, good_closed, good_lost}
use Rattle.bridge_world.proofs.Moves.{both_told, both_handled, EffectFits}
use Rattle.bridge_world.proofs.PlainSteps.{plain-typed, plain-opened, plain-closed, plain-lost}

-- the editor is what a good one with counts is without them
pub record Stands (view : List ℕ) (x : P.Editor) : Type 0 where
  pub counted : Editor
  pub good : Good view counted
  pub is : plain_of counted ≡ x

pub stands_both : (view : List ℕ) (x : P.Editor) (e : Editor) → Both view x e → Stands view x
stands_both view x e both = record { counted = e; good = both.good; is = both.plain }

pub stands_new : (view text : List ℕ) → Stands view (P.opened (new_plain text))
stands_new view text = record {
  counted = N.opened (new_counted text);
  good = good_opened view (new_counted text) refl (good_lost view (new_counted text));
  is = plain-opened (new_counted text);
}

pub stands_typed : (view : List ℕ) (x : P.Editor) (p : Cells) → base_length p ≡ length x.text → Stands view x → Stands view (P.typed p x)
stands_typed view x p fits h =
    let e : Editor = h.counted in
    record {
      counted = N.typed p e;
      good = good_typed view (is_closed e.state) p e (fits ∙ ap (λ (y : P.Editor). length y.text) (sym h.is)) refl h.good;
      is = plain-typed (is_closed e.state) p e ∙ ap (P.typed p) h.is;
    }

pub stands_opened : (view : List ℕ) (x : P.Editor) → is_closed x.state ≡ true → Stands view x → Stands view (P.opened x)
stands_opened view x closed h =
    let e : Editor = h.counted in
    record {
      counted = N.opened e;
      good = good_opened view e (closed_is e.state (ap (λ (y : P.Editor). is_closed y.state) h.is ∙ closed)) h.good;
      is = plain-opened e ∙ ap P.opened h.is;
    } where
      closed_is : (state : State) → is_closed state ≡ true → state ≡ Closed
      closed_is Closed e = refl
      closed_is Opening e = cc
      closed_is Open e = cc

pub stands_closed : (view : List ℕ) (x : P.Editor) → Stands view x → Stands view (P.closed x)
stands_closed view x h = record {
  counted = N.closed h.counted;
  good = good_closed view h.counted h.good;
  is = plain-closed h.counted ∙ ap P.closed h.is;
}

pub stands_lost : (view view' : List ℕ) (x : P.Editor) → Stands view x → Stands view' (P.lost x)
stands_lost view view' x h = record {
  counted = N.lost h.counted;
  good = good_lost view' h.counted;
  is = plain-lost h.counted ∙ ap P.lost h.is;
}

pub stands_delivered : (view : List ℕ) (x : P.Editor) → Stands view x → Stands view (P.delivered x)
stands_delivered view x h =
    let both = both_delivered view h.counted h.good in
    subst (λ y. Stands view (P.delivered y)) h.is (stands_both view (P.delivered (plain_of h.counted)) (N.delivered h.counted) both)

-- the text has changed, and the editor is told
pub stands_told : (view : List ℕ) (d : Cells) (x : P.Editor) → base_length d ≡ length view → Stands view x → Stands (applied d view) (P.told d x)
stands_told view d x fits h =
    subst (λ y. Stands (applied d view) (P.told d y)) h.is
    (stands_both (applied d view) (P.told d (plain_of h.counted)) (N.told d h.counted) (both_told view d h.counted fits h.good))

-- what an editor's first message changes is for the text
pub effect_fits : (verdict : Verdict) (view : List ℕ) (x : P.Editor) → Stands view x → EffectFits (P.effect verdict x) view
effect_fits verdict view x h =
    let one = both_handled verdict view h.counted h.good in
    subst (λ y. EffectFits (P.effect verdict y) view) h.is (subst (λ d. EffectFits d view) one.effects one.fits)

-- its first message is handled
pub stands_handled : (verdict : Verdict) (view : List ℕ) (x : P.Editor) → Stands view x
    → Stands (changed (P.effect verdict x) view) (P.handled verdict (changed (P.effect verdict x) view) x)
stands_handled verdict view x h =
    let one = both_handled verdict view h.counted h.good in
    subst (λ y. Stands (changed (P.effect verdict y) view) (P.handled verdict (changed (P.effect verdict y) view) y)) h.is
    (subst (λ d. Stands (changed d view) (P.handled verdict (changed (P.effect verdict (plain_of h.counted)) view) (plain_of h.counted))) one.effects
    (stands_both _ _ _ one.both))

pub none_mapped : {A B : Type 0} (f : A → B) (xs : List A) → map f xs ≡ [] → xs ≡ []
none_mapped f [] is = refl
none_mapped f (y ∷ xs) is = cc

-- a quiet editor shows the text
pub stands_quiet : (view : List ℕ) (x : P.Editor) → Stands view x → x.state ≡ Open → x.sent ≡ [] → x.wire ≡ [] → x.text ≡ view
stands_quiet view x h open_now none_up none_down =
    let e : Editor = h.counted in
    sym (ap (λ (y : P.Editor). y.text) h.is)
    ∙ quiet_has_view view e (ap (λ (y : P.Editor). y.state) h.is ∙ open_now)
    (none_mapped N.plain_sent e.sent (ap (λ (y : P.Editor). y.sent) h.is ∙ none_up))
    (none_mapped (λ (f : Frame). f.mark) e.wire (ap (λ (y : P.Editor). y.wire) h.is ∙ none_down))
    h.good
