-- Deltas that apply one after the other, as one delta.
use Rattle.std.proofs.Common.{◌≡◌, ℕ, ◌+◌, ◌<◌, List, [], ◌∷◌, ◌++◌, length, get_or, take, drop, sym, ap, ◌∙◌, subst, arith}
use Rattle.std.proofs.lemmas.List.{drop_more}
use Rattle.delta.specs.Cells.{Cells, base_length, result_length, applied}
use Rattle.delta.specs.Marks.{composed}
use Rattle.delta.proofs.ComposedLemmas.{base_length-composed, applied-composed}
use Rattle.delta.proofs.LawLemmas.{result_length-composed, length-applied}
use Rattle.transform.specs.Carried.{IsChain, chain_end, applied_all}
use Rattle.transform.proofs.ChainLemmas.{applied_all-append, chain_end-append, IsChain-append, IsChain-front, IsChain-behind, IsChain-drop}
use Rattle.editor_bridge.specs.Carrying.{AreInTurn, StandsFor}

-- the delta at a place of a chain applies to what those before it lead to
pub base_length-chain_at : (base : ℕ) (list : List Cells) (i : ℕ) (q : Cells) → i < length list → q ≡ get_or list i q → IsChain base list
    → base_length q ≡ chain_end base (take i list)
base_length-chain_at base list i q lt is chain =
    let behind : drop i list ≡ q ∷ drop (i + 1) list = drop_more list i q lt ∙ ap (λ x. x ∷ drop (i + 1) list) (sym is) in
    (subst (IsChain (chain_end base (take i list))) behind (IsChain-drop i base list chain)).0

pub AreInTurn-front : (list more : List Cells) → AreInTurn (list ++ more) → AreInTurn list
AreInTurn-front [] more linked = tt
AreInTurn-front (q ∷ list) more linked = IsChain-front (result_length q) list more linked

pub AreInTurn-chain : (base : ℕ) (list : List Cells) → IsChain base list → AreInTurn list
AreInTurn-chain base [] chain = tt
AreInTurn-chain base (q ∷ list) chain = chain.1

pub AreInTurn-back : (list more : List Cells) → AreInTurn (list ++ more) → AreInTurn more
AreInTurn-back [] more linked = linked
AreInTurn-back (q ∷ list) more linked = AreInTurn-chain _ more (IsChain-behind (result_length q) list more linked)

-- a chain begins at one length
pub one_base : (list : List Cells) (a b : ℕ) → 0 < length list → IsChain a list → IsChain b list → a ≡ b
one_base [] a b some here there = absurd (omega (arith, some))
one_base (q ∷ list) a b some here there = sym here.0 ∙ there.0

-- a delta stands for itself
pub StandsFor-one : (q all : Cells) → all ≡ q → StandsFor (q ∷ []) all
StandsFor-one q all is =
    record {
      chain = (sym (ap base_length is), tt);
      result = ap result_length is;
      text = λ text long. ap (λ d. applied d text) is;
    }

-- what stands for the deltas behind applies to the result of what stands for those in front
pub StandsFor-meet : (front back : List Cells) (first second : Cells) → 0 < length front → 0 < length back → AreInTurn (front ++ back)
    → StandsFor front first → StandsFor back second → result_length first ≡ base_length second
StandsFor-meet [] back first second some more linked before behind = absurd (omega (arith, some))
StandsFor-meet (q ∷ front) back first second some more linked before behind =
    before.result ∙ one_base back _ _ more (IsChain-behind (result_length q) front back linked) behind.chain

-- what stands for the deltas in front, and then what stands for those behind
pub StandsFor-append : (front back : List Cells) (first second both : Cells) → StandsFor front first → StandsFor back second
    → result_length first ≡ base_length second → both ≡ composed first second → StandsFor (front ++ back) both
StandsFor-append front back first second both before behind fits is =
    let base : base_length both ≡ base_length first = ap base_length is ∙ base_length-composed first second in
    let turn : base_length second ≡ chain_end (base_length both) front = sym fits ∙ before.result ∙ ap (λ n. chain_end n front) (sym base) in
    record {
      chain =
          IsChain-append (base_length both) front back (subst (λ n. IsChain n front) (sym base) before.chain)
          (subst (λ n. IsChain n back) turn behind.chain);
      result =
          ap result_length is ∙ result_length-composed first second fits ∙ behind.result ∙ ap (λ n. chain_end n back) turn
          ∙ sym (chain_end-append (base_length both) front back);
      text = λ text long.
          let long_first : base_length first ≡ length text = sym base ∙ long in
          let text_first : applied first text ≡ applied_all front text = before.text text long_first in
          let long_second : base_length second ≡ length (applied first text) = sym fits ∙ sym (length-applied first text long_first) in
          ap (λ d. applied d text) is
          ∙ applied-composed first second text long_first
          ∙ behind.text (applied first text) long_second
          ∙ ap (applied_all back) text_first
          ∙ sym (applied_all-append front back text);
    }
