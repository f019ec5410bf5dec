-- A list of deltas, carried past one delta after another.
use Rattle.std.proofs.Common.{◌≡◌, ℕ, suc, ◌+◌, ◌<◌, List, [], ◌∷◌, ◌++◌, All, length, get_or, drop, refl, sym, ap, ◌∙◌, subst, append_assoc}
use Rattle.std.proofs.lemmas.List.{drop_more}
use Rattle.std.proofs.lemmas.List.Elements.{All-nil, All-cons}
use Rattle.delta.specs.Cells.{Cells, base_length, IsNormal}
use Rattle.delta.proofs.NormalLemmas.{IsNormal-normal}
use Rattle.transform.specs.Carried.{IsChain, carried, after_editor, after_daemon, past_list, list_past}
use Rattle.transform.specs.declared.sides.Side.TheVariants.{Editor, Daemon}
use Rattle.transform.proofs.MergedLemmas.{base_length-after_editor}

drop_read : (list : List Cells) (i : ℕ) (q : Cells) → i < length list → q ≡ get_or list i q → drop i list ≡ q ∷ drop (i + 1) list
drop_read list i q lt is = drop_more list i q lt ∙ ap (λ x. x ∷ drop (i + 1) list) (sym is)

pub chain_base : (list : List Cells) (i : ℕ) (p q : Cells) → i < length list → q ≡ get_or list i q → IsChain (base_length p) (drop i list) → base_length q ≡ base_length p
chain_base list i p q lt is h = (subst (IsChain (base_length p)) (drop_read list i q lt is) h).0

pub chain_rest : (list : List Cells) (i : ℕ) (p q c : Cells) → i < length list → q ≡ get_or list i q → IsChain (base_length p) (drop i list) → c ≡ after_editor p q
    → IsChain (base_length c) (drop (i + 1) list)
chain_rest list i p q c lt is h carried =
    let both = subst (IsChain (base_length p)) (drop_read list i q lt is) h in
    subst (λ n. IsChain n (drop (i + 1) list)) (sym (ap base_length carried ∙ base_length-after_editor q p both.0)) both.1

pub past_list-step : (list : List Cells) (i : ℕ) (p q c whole : Cells) → i < length list → q ≡ get_or list i q → c ≡ after_editor p q → past_list p (drop i list) ≡ whole
    → past_list c (drop (i + 1) list) ≡ whole
past_list-step list i p q c whole lt is carried h =
    ap (λ e. past_list e (drop (i + 1) list)) carried ∙ ap (past_list p) (sym (drop_read list i q lt is)) ∙ h

pub list_past-step : (list : List Cells) (i : ℕ) (p q c d : Cells) (was now whole : List Cells) → i < length list → q ≡ get_or list i q → c ≡ after_editor p q
    → d ≡ after_daemon q p → now ≡ was ++ d ∷ [] → was ++ list_past p (drop i list) ≡ whole → now ++ list_past c (drop (i + 1) list) ≡ whole
list_past-step list i p q c d was now whole lt is carried other pushed h =
    ap (λ l. l ++ list_past c (drop (i + 1) list)) pushed
    ∙ append_assoc was (d ∷ []) (list_past c (drop (i + 1) list))
    ∙ ap (λ x. was ++ (x ∷ list_past c (drop (i + 1) list))) other
    ∙ ap (λ e. was ++ (after_daemon q p ∷ list_past e (drop (i + 1) list))) carried
    ∙ ap (λ l. was ++ list_past p l) (sym (drop_read list i q lt is))
    ∙ h

-- as many deltas are carried as there are
pub length-list_past : (p : Cells) (list : List Cells) → length (list_past p list) ≡ length list
length-list_past p [] = refl
length-list_past p (q ∷ list) = ap suc (length-list_past (after_editor p q) list)

-- what is carried is normal
pub IsNormal-after_editor : (p q : Cells) → IsNormal (after_editor p q)
IsNormal-after_editor p q = IsNormal-normal (carried Editor q p)

pub IsNormal-after_daemon : (q p : Cells) → IsNormal (after_daemon q p)
IsNormal-after_daemon q p = IsNormal-normal (carried Daemon q p)

pub IsNormal-list_past : (p : Cells) (list : List Cells) → All IsNormal (list_past p list)
IsNormal-list_past p [] = All-nil IsNormal
IsNormal-list_past p (q ∷ list) =
    All-cons IsNormal (after_daemon q p) (list_past (after_editor p q) list) (IsNormal-after_daemon q p) (IsNormal-list_past (after_editor p q) list)

pub IsNormal-past_list : (p : Cells) (list : List Cells) → IsNormal p → IsNormal (past_list p list)
IsNormal-past_list p [] h = h
IsNormal-past_list p (q ∷ list) h = IsNormal-past_list (after_editor p q) list (IsNormal-after_editor p q)
