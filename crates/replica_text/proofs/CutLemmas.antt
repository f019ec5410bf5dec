-- Counts and parts of a list that is cut, and what answers that may fail lead to.
use Rattle.std.proofs.Common.{◌≡◌, ℕ, ◌+◌, true, cond, List, ◌∷◌, ◌++◌, Some, take, sym, ap, ap₂, ◌∙◌, Result, Ok, Err, IfOk}
use Rattle.std.specs.Prelude.{slice_get}
use Rattle.std.specs.List.{count_by}
use Rattle.std.proofs.lemmas.List.{take_at}
use Rattle.std.proofs.lemmas.List.Sums.{sum_by-append}
use Rattle.delta.specs.Cells.{one_if}
use Rattle.tt_base.specs.Elements.{is_alive, dead, killed}
use Rattle.tt_base.specs.declared.ids.ElemId.{ElemId}
use Rattle.tt_base.specs.declared.elements.Element.{Element}
use Rattle.replica_text.proofs.EffectLemmas.{count_more}
use Rattle.replica_text.proofs.RunLemmas.{IsCut, killed_at}

-- what holds of one value holds of another that it leads to
pub if_ok : {T E : Type 0} (P Q : T → Type 0) (r : Result T E) → ((v : T) → P v → Q v) → IfOk r P → IfOk r Q
if_ok P Q (Ok v) f h = f v h
if_ok P Q (Err e) f h = tt

pub count-append : (xs ys : List Element) → count_by is_alive (xs ++ ys) ≡ count_by is_alive xs + count_by is_alive ys
count-append xs ys = sum_by-append (λ (x : Element). cond (is_alive x) 1 0) xs ys

pub cut_front : {elements : List Element} {place : ℕ} {id : ElemId} (cut : IsCut elements place id) → take place elements ≡ cut.before
cut_front {place = place} cut = ap (take place) cut.whole ∙ take_at cut.before (cut.element ∷ cut.behind) place cut.place_is

-- where the element at the cut is visible
pub cut_count : {elements : List Element} {place : ℕ} {id : ElemId} (cut : IsCut elements place id) → cut.element.alive ≡ true
    → count_by is_alive elements ≡ count_by is_alive cut.before + (1 + count_by is_alive cut.behind)
cut_count cut alive =
    ap (count_by is_alive) cut.whole ∙ count-append cut.before (cut.element ∷ cut.behind)
    ∙ ap (λ n. count_by is_alive cut.before + n) (count_more cut.element cut.behind ∙ ap (λ b. one_if b + count_by is_alive cut.behind) alive)

pub cut_killed : {elements : List Element} {place : ℕ} {id : ElemId} (cut : IsCut elements place id)
    → killed elements place ≡ cut.before ++ dead cut.element ∷ cut.behind
cut_killed {place = place} cut =
    ap₂ killed cut.whole (sym cut.place_is) ∙ killed_at cut.before cut.behind cut.element

pub cut_is : {elements : List Element} {place : ℕ} {id : ElemId} (cut : IsCut elements place id) (e : Element) → slice_get elements place ≡ Some e → cut.element ≡ e
cut_is cut e h = let both : Some cut.element ≡ Some e = sym cut.there ∙ h in cc
