-- The queue of a bridge: the daemon's deltas that the editor has not confirmed.
use Rattle.std.proofs.Common.{◌≡◌, ◌≢◌, ℕ, ◌+◌, ◌-◌, ◌≤◌, ◌<◌, List, [], ◌∷◌, ◌++◌, length, get_or, take, drop, Some, sym, ap, ◌∙◌, subst, arith, length-append, length-drop}
use Rattle.std.specs.Prelude.{slice_get}
use Rattle.std.proofs.lemmas.Option.{get_or_from_slice_get}
use Rattle.delta.specs.Cells.{Cells, base_length, result_length, applied}
use Rattle.delta.proofs.LawLemmas.{length-applied}
use Rattle.transform.specs.Carried.{IsChain, applied_all, chain_end, past_list, list_past}
use Rattle.transform.proofs.MergedLemmas.{list_stays_chain, result_length-past_list}
use Rattle.transform.proofs.ChainLemmas.{applied_all-push, applied_all-take_more, chain_end-push, chain_end-take-drop, IsChain-push, IsChain-take, IsChain-drop, length-applied_all}
use Rattle.transform.proofs.ListLemmas.{length-list_past}
use Rattle.editor_bridge.specs.Link.{Link, editor_text, unshown, with_confirmed, with_edit}
use Rattle.editor_bridge.specs.Frames.{frames}
use Rattle.editor_bridge.specs.declared.carrying.Carried.{Carried}
use Rattle.editor_bridge.specs.Carrying.{AreInTurn, StandsFor, IsBridge, CanTake, IsCarried}
use Rattle.editor_bridge.proofs.ChangeLemmas.{base_length-chain_at, AreInTurn-chain, one_base}

-- where a chain of deltas leads after its first n is as long as the n-th says
pub length-after_first : (base : List ℕ) (queue : List Cells) (n : ℕ) (q : Cells) → IsChain (length base) queue → n ≢ 0 → n ≤ length queue → slice_get queue (n - 1) ≡ Some q
    → result_length q ≡ length (applied_all (take n queue) base)
length-after_first base queue n q chain some within found =
    let i : ℕ = n - 1 in
    let more : n ≡ i + 1 = omega (arith, some) in
    let lt : i < length queue = omega (arith, some, within) in
    let is : q ≡ get_or queue i q = sym (get_or_from_slice_get queue i q q found) in
    let before : List ℕ = applied_all (take i queue) base in
    let fits : base_length q ≡ length before =
    base_length-chain_at (length base) queue i q lt is chain
    ∙ sym (length-applied_all (take i queue) base (IsChain-take i (length base) queue chain)) in
    sym (length-applied q before fits)
    ∙ sym (ap length (applied_all-take_more queue i q base lt is))
    ∙ ap (λ m. length (applied_all (take m queue) base)) (sym more)

-- a daemon's delta goes to the end
pub IsBridge-push : (base : List ℕ) (queue next : List Cells) (issued long : ℕ) (d : Cells) (size : ℕ) → IsBridge base queue issued long
    → base_length d ≡ length (applied_all queue base) → next ≡ queue ++ d ∷ [] → size ≡ result_length d → IsBridge base next (issued + 1) size
IsBridge-push base queue next issued long d size keeps fits is sized =
    subst (λ q. IsBridge base q (issued + 1) size) (sym is)
    (record {
      few = omega (arith, keeps.few, length-append queue (d ∷ []));
      chain = IsChain-push (length base) queue d keeps.chain (fits ∙ length-applied_all queue base keeps.chain);
      long = sized ∙ sym (chain_end-push (length base) queue d);
    })

-- an edit that can be taken

taking_all : (l : Link) (seen : ℕ) (p : Cells) → IsChain (length l.base) l.unconfirmed → CanTake l seen p
    → IsChain (length l.base) (take (seen - l.confirmed) l.unconfirmed ++ p ∷ [])
taking_all l seen p chain can =
    let shown : List Cells = take (seen - l.confirmed) l.unconfirmed in
    let front : IsChain (length l.base) shown = IsChain-take (seen - l.confirmed) (length l.base) l.unconfirmed chain in
    IsChain-push (length l.base) shown p front (can.fits ∙ length-applied_all shown l.base front)

taking_rest : (l : Link) (seen : ℕ) (p : Cells) → IsChain (length l.base) l.unconfirmed → CanTake l seen p → IsChain (base_length p) (unshown seen l)
taking_rest l seen p chain can =
    let shown : List Cells = take (seen - l.confirmed) l.unconfirmed in
    let front : IsChain (length l.base) shown = IsChain-take (seen - l.confirmed) (length l.base) l.unconfirmed chain in
    subst (λ n. IsChain n (unshown seen l)) (sym (can.fits ∙ length-applied_all shown l.base front))
    (IsChain-drop (seen - l.confirmed) (length l.base) l.unconfirmed chain)

-- the same of a number and a list that are those of the link

pub carry_linked : (l : Link) (seen shown : ℕ) (p : Cells) (queue : List Cells) → IsChain (length l.base) l.unconfirmed → CanTake l seen p
    → shown ≡ seen - l.confirmed → queue ≡ l.unconfirmed → AreInTurn (take shown queue ++ p ∷ [])
carry_linked l seen shown p queue chain can is all =
    subst (λ q. AreInTurn (take shown q ++ p ∷ [])) (sym all)
    (subst (λ n. AreInTurn (take n l.unconfirmed ++ p ∷ [])) (sym is) (AreInTurn-chain (length l.base) _ (taking_all l seen p chain can)))

pub carry_chain : (l : Link) (seen shown : ℕ) (p : Cells) (queue : List Cells) → IsChain (length l.base) l.unconfirmed → CanTake l seen p
    → shown ≡ seen - l.confirmed → queue ≡ l.unconfirmed → IsChain (base_length p) (drop shown queue)
carry_chain l seen shown p queue chain can is all =
    subst (λ q. IsChain (base_length p) (drop shown q)) (sym all)
    (subst (λ n. IsChain (base_length p) (drop n l.unconfirmed)) (sym is) (taking_rest l seen p chain can))

pub carry_carries : (l : Link) (seen shown revision : ℕ) (p : Cells) (queue : List Cells) (c : Carried) → CanTake l seen p → shown ≡ seen - l.confirmed
    → queue ≡ l.unconfirmed → revision ≡ l.taken + 1 → StandsFor (take shown queue ++ p ∷ []) c.change → c.delta ≡ past_list p (drop shown queue)
    → c.queue ≡ list_past p (drop shown queue) → c.again ≡ frames revision (list_past p (drop shown queue)) → IsCarried l seen p c
carry_carries l seen shown revision p queue c can is all next change delta left again =
    let rest : drop shown queue ≡ unshown seen l = ap (drop shown) all ∙ ap (λ n. drop n l.unconfirmed) is in
    let front : take shown queue ≡ take (seen - l.confirmed) l.unconfirmed = ap (take shown) all ∙ ap (λ n. take n l.unconfirmed) is in
    record {
      can = can;
      change = subst (λ q. StandsFor (q ++ p ∷ []) c.change) front change;
      delta = delta ∙ ap (past_list p) rest;
      queue = left ∙ ap (list_past p) rest;
      again = again ∙ ap (frames revision) (sym left) ∙ ap (λ n. frames n c.queue) next;
    }

-- an edit that is carried

pub carried_base : (l : Link) (seen : ℕ) (p : Cells) (c : Carried) → IsChain (length l.base) l.unconfirmed → IsCarried l seen p c
    → base_length c.change ≡ length l.base
carried_base l seen p c chain h =
    let all : List Cells = take (seen - l.confirmed) l.unconfirmed ++ p ∷ [] in
    let some : 0 < length all = omega (arith, length-append (take (seen - l.confirmed) l.unconfirmed) (p ∷ [])) in
    one_base all (base_length c.change) (length l.base) some h.change.chain (taking_all l seen p chain h.can)

carried_text : (l : Link) (seen : ℕ) (p : Cells) (c : Carried) → IsChain (length l.base) l.unconfirmed → IsCarried l seen p c
    → applied c.change l.base ≡ applied p (editor_text seen l)
carried_text l seen p c chain h =
    h.change.text l.base (carried_base l seen p c chain h) ∙ applied_all-push (take (seen - l.confirmed) l.unconfirmed) p l.base

length-left : (l : Link) (seen : ℕ) (p : Cells) (c : Carried) → IsCarried l seen p c → length c.queue + (seen - l.confirmed) ≡ length l.unconfirmed
length-left l seen p c h =
    omega (arith, ap length h.queue, length-list_past p (unshown seen l), length-drop (seen - l.confirmed) l.unconfirmed, h.can.within)

-- after the take the bridge is one again
pub IsBridge-take : (l : Link) (seen : ℕ) (p : Cells) (c : Carried) (issued long : ℕ) (next : List ℕ) (size : ℕ) → IsBridge l.base l.unconfirmed issued long
    → IsCarried l seen p c → next ≡ applied c.change l.base → size ≡ result_length c.delta → IsBridge next c.queue issued size
IsBridge-take l seen p c issued long next size keeps h next_is sized =
    let rest : List Cells = unshown seen l in
    let chain : IsChain (base_length p) rest = taking_rest l seen p keeps.chain h.can in
    let text : next ≡ applied p (editor_text seen l) = next_is ∙ carried_text l seen p c keeps.chain h in
    let after : length next ≡ result_length p = ap length text ∙ length-applied p (editor_text seen l) h.can.fits in
    subst (λ q. IsBridge next q issued size) (sym h.queue)
    (record {
      few = omega (arith, ap length h.queue, length-left l seen p c h, keeps.few);
      chain = subst (λ n. IsChain n (list_past p rest)) (sym after) (list_stays_chain p rest chain);
      long = sized ∙ ap result_length h.delta ∙ result_length-past_list p rest chain ∙ ap (λ n. chain_end n (list_past p rest)) (sym after);
    })

link_of_parts : (taken : ℕ) (base base' : List ℕ) (queue queue' : List Cells) (confirmed confirmed' : ℕ) → base ≡ base' → queue ≡ queue' → confirmed ≡ confirmed'
    → let l : Link = record { base = base; unconfirmed = queue; confirmed = confirmed; taken = taken } in l ≡ record l { base = base'; unconfirmed = queue'; confirmed = confirmed' }
link_of_parts taken base base' queue queue' confirmed confirmed' b q n = cc

-- and the fields are those of the link with the edit
pub view-take : (l : Link) (seen : ℕ) (p : Cells) (c : Carried) (issued : ℕ) (next : List ℕ) → IsChain (length l.base) l.unconfirmed → length l.unconfirmed ≤ issued
    → l.confirmed ≡ issued - length l.unconfirmed → IsCarried l seen p c → next ≡ applied c.change l.base
    → record { base = next; unconfirmed = c.queue; confirmed = issued - length c.queue; taken = l.taken + 1 } ≡ with_edit seen p l
view-take l seen p c issued next chain few is h next_is =
    link_of_parts (l.taken + 1) next _ c.queue _ (issued - length c.queue) seen
    (next_is ∙ carried_text l seen p c chain h) h.queue (omega (arith, length-left l seen p c h, is, few, h.can.back))

-- the first deltas of the queue are confirmed

pub IsBridge-confirm : (base : List ℕ) (queue next : List Cells) (issued long shown : ℕ) (after : List ℕ) → IsBridge base queue issued long
    → after ≡ applied_all (take shown queue) base → next ≡ drop shown queue → IsBridge after next issued long
IsBridge-confirm base queue next issued long shown after keeps after_is next_is =
    let size : length after ≡ chain_end (length base) (take shown queue) =
    ap length after_is ∙ length-applied_all (take shown queue) base (IsChain-take shown (length base) queue keeps.chain) in
    subst (λ q. IsBridge after q issued long) (sym next_is)
    (record {
      few = omega (arith, keeps.few, length-drop shown queue);
      chain = subst (λ n. IsChain n (drop shown queue)) (sym size) (IsChain-drop shown (length base) queue keeps.chain);
      long = keeps.long ∙ sym (chain_end-take-drop shown (length base) queue) ∙ ap (λ n. chain_end n (drop shown queue)) (sym size);
    })

pub view-confirm : (l : Link) (seen shown issued : ℕ) (after : List ℕ) (next : List Cells) → length l.unconfirmed ≤ issued → l.confirmed ≡ issued - length l.unconfirmed
    → l.confirmed ≤ seen → shown ≡ seen - l.confirmed → shown ≤ length l.unconfirmed → after ≡ applied_all (take shown l.unconfirmed) l.base → next ≡ drop shown l.unconfirmed
    → record { base = after; unconfirmed = next; confirmed = issued - length next; taken = l.taken } ≡ with_confirmed seen l
view-confirm l seen shown issued after next few is back shown_is within after_is next_is =
    let left : issued - length next ≡ seen = omega (arith, ap length next_is, length-drop shown l.unconfirmed, few, is, back, shown_is, within) in
    link_of_parts l.taken after (editor_text seen l) next (unshown seen l) (issued - length next) seen
    (after_is ∙ ap (λ n. applied_all (take n l.unconfirmed) l.base) shown_is) (next_is ∙ ap (λ n. drop n l.unconfirmed) shown_is) left
