-- Lists of deltas of which each applies to the result of the one before it.
use Rattle.std.proofs.Common.{◌≡◌, ℕ, ◌+◌, ◌<◌, List, [], ◌∷◌, ◌++◌, length, get_or, take, drop, refl, sym, ap, ◌∙◌, subst}
use Rattle.std.proofs.lemmas.List.{take_more, take-append-drop}
use Rattle.delta.specs.Cells.{Cells, base_length, result_length, applied}
use Rattle.delta.proofs.LawLemmas.{length-applied}
use Rattle.transform.specs.Carried.{IsChain, applied_all, chain_end}

-- one list and then another

pub applied_all-append : (list more : List Cells) (text : List ℕ) → applied_all (list ++ more) text ≡ applied_all more (applied_all list text)
applied_all-append [] more text = refl
applied_all-append (q ∷ list) more text = applied_all-append list more (applied q text)

pub chain_end-append : (base : ℕ) (list more : List Cells) → chain_end base (list ++ more) ≡ chain_end (chain_end base list) more
chain_end-append base [] more = refl
chain_end-append base (q ∷ list) more = chain_end-append (result_length q) list more

pub IsChain-append : (base : ℕ) (list more : List Cells) → IsChain base list → IsChain (chain_end base list) more → IsChain base (list ++ more)
IsChain-append base [] more h k = k
IsChain-append base (q ∷ list) more h k = (h.0, IsChain-append (result_length q) list more h.1 k)

pub IsChain-front : (base : ℕ) (list more : List Cells) → IsChain base (list ++ more) → IsChain base list
IsChain-front base [] more h = tt
IsChain-front base (q ∷ list) more h = (h.0, IsChain-front (result_length q) list more h.1)

pub IsChain-behind : (base : ℕ) (list more : List Cells) → IsChain base (list ++ more) → IsChain (chain_end base list) more
IsChain-behind base [] more h = h
IsChain-behind base (q ∷ list) more h = IsChain-behind (result_length q) list more h.1

-- one more delta at the end

pub applied_all-push : (list : List Cells) (d : Cells) (text : List ℕ) → applied_all (list ++ d ∷ []) text ≡ applied d (applied_all list text)
applied_all-push list d text = applied_all-append list (d ∷ []) text

pub chain_end-push : (base : ℕ) (list : List Cells) (d : Cells) → chain_end base (list ++ d ∷ []) ≡ result_length d
chain_end-push base list d = chain_end-append base list (d ∷ [])

pub IsChain-push : (base : ℕ) (list : List Cells) (d : Cells) → IsChain base list → base_length d ≡ chain_end base list → IsChain base (list ++ d ∷ [])
IsChain-push base list d h fits = IsChain-append base list (d ∷ []) h (fits, tt)

pub IsChain-last : (base : ℕ) (list : List Cells) (d : Cells) → IsChain base (list ++ d ∷ []) → base_length d ≡ chain_end base list
IsChain-last base list d h = (IsChain-behind base list (d ∷ []) h).0

-- the first n deltas, and those behind them

pub applied_all-take-drop : (n : ℕ) (list : List Cells) (text : List ℕ) → applied_all (drop n list) (applied_all (take n list) text) ≡ applied_all list text
applied_all-take-drop n list text =
    sym (applied_all-append (take n list) (drop n list) text) ∙ ap (λ l. applied_all l text) (take-append-drop n list)

pub chain_end-take-drop : (n base : ℕ) (list : List Cells) → chain_end (chain_end base (take n list)) (drop n list) ≡ chain_end base list
chain_end-take-drop n base list =
    sym (chain_end-append base (take n list) (drop n list)) ∙ ap (chain_end base) (take-append-drop n list)

pub IsChain-take : (n base : ℕ) (list : List Cells) → IsChain base list → IsChain base (take n list)
IsChain-take n base list h =
    IsChain-front base (take n list) (drop n list) (subst (IsChain base) (sym (take-append-drop n list)) h)

pub IsChain-drop : (n base : ℕ) (list : List Cells) → IsChain base list → IsChain (chain_end base (take n list)) (drop n list)
IsChain-drop n base list h =
    IsChain-behind base (take n list) (drop n list) (subst (IsChain base) (sym (take-append-drop n list)) h)

-- the first n + 1 deltas, where the last of them is d
pub applied_all-take_more : (list : List Cells) (n : ℕ) (d : Cells) (text : List ℕ) → n < length list → d ≡ get_or list n d
    → applied_all (take (n + 1) list) text ≡ applied d (applied_all (take n list) text)
applied_all-take_more list n d text lt is =
    ap (λ l. applied_all l text) (take_more list n d lt ∙ ap (λ q. take n list ++ q ∷ []) (sym is))
    ∙ applied_all-push (take n list) d text

-- the text after a chain is as long as the chain says
pub length-applied_all : (list : List Cells) (text : List ℕ) → IsChain (length text) list → length (applied_all list text) ≡ chain_end (length text) list
length-applied_all [] text h = refl
length-applied_all (q ∷ list) text h =
    let long : length (applied q text) ≡ result_length q = length-applied q text h.0 in
    length-applied_all list (applied q text) (subst (λ n. IsChain n list) (sym long) h.1)
    ∙ ap (λ n. chain_end n list) long
