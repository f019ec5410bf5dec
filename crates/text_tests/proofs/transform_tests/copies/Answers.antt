use Rattle.std.proofs.Common.{◌≡◌, List, [], ◌∷◌, ◌++◌, sym, ap, ◌∙◌, subst}
use Rattle.delta.specs.Cells.{Cells, base_length, result_length}
use Rattle.transform.specs.Carried.{IsChain, chain_end}
use Rattle.transform.proofs.ChainLemmas.{IsChain-push, chain_end-push}
use Rattle.text_tests.proofs.transform_tests.copies.Goals as goal

-- one more copy
record IsLonger (d : Cells) (list : List Cells) : Type 0 where
  chain : IsChain (base_length d) list
  size : chain_end (base_length d) list ≡ base_length d

longer : (d copy : Cells) (list more : List Cells) → copy ≡ d → base_length d ≡ result_length d → IsChain (base_length d) list → chain_end (base_length d) list ≡ base_length d
    → more ≡ list ++ copy ∷ [] → IsLonger d more
longer d copy list more same keeps chain size pushed =
    let all : more ≡ list ++ d ∷ [] = pushed ∙ ap (λ x. list ++ x ∷ []) same in
    let P : List Cells → Type 0 = λ l. IsChain (base_length d) l in record {
      chain = subst P (sym all) (IsChain-push (base_length d) list d chain (sym size));
      size = ap (chain_end (base_length d)) all ∙ chain_end-push (base_length d) list d ∙ sym keeps;
    }

pub loop-done-preserved : goal.loop-done-preserved
loop-done-preserved c =
    let h : IsLonger c.args.delta.now c.push.new.self.items =
    longer c.args.delta.now c.in_ok-copied.field-0 c.loop-done.list.items c.push.new.self.items c.in_ok-copied.ensures c.requires c.loop-done.invariant.chain c.loop-done.invariant.size
    c.in_ok-push.ensures.items in
    record { chain = h.chain; size = h.size }
