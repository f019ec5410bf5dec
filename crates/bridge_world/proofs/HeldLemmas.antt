-- Where a link stands: what is shown of its deltas, and what is not.
use Rattle.std.proofs.Common.{◌≡◌, ℕ, ◌+◌, ◌-◌, ◌≤◌, ◌<◌, List, [], ◌∷◌, ◌++◌, length, take, drop, get_or, sym, ap, ◌∙◌, subst, arith, length-append, length-drop}
use Rattle.std.proofs.lemmas.List.{take-append-le, drop-append-le, take_more, drop_more}
use Rattle.delta.specs.Cells.{Cells, base_length, result_length, applied}
use Rattle.delta.proofs.LawLemmas.{length-applied}
use Rattle.transform.specs.Carried.{IsChain, applied_all, list_past, past_list}
use Rattle.transform.proofs.MergedLemmas.{list_both_ways, list_stays_chain}
use Rattle.transform.proofs.ChainLemmas.{applied_all-push, IsChain-push, length-applied_all}
use Rattle.editor_bridge.specs.Link.{issued, editor_text, unshown, with_pushed, with_edit}
use Rattle.bridge_world.specs.Counted.{Held, base_of, down_of, with_one_shown}
use Rattle.bridge_world.specs.Tie.{LinkFits}

-- a delta that is pushed

abbrev pub with_push : Cells → Held → Held
with_push d h = record h { link = with_pushed d h.link }

shown_within : (h : Held) → h.link.confirmed ≤ h.seen → h.seen ≤ issued h.link → h.seen - h.link.confirmed ≤ length h.link.unconfirmed
shown_within h low high = omega (arith, low, high)

pub base_of-push : (d : Cells) (h : Held) → h.link.confirmed ≤ h.seen → h.seen ≤ issued h.link → base_of (with_push d h) ≡ base_of h
base_of-push d h low high =
    ap (λ q. applied_all q h.link.base) (take-append-le (h.seen - h.link.confirmed) h.link.unconfirmed (d ∷ []) (shown_within h low high))

pub down_of-push : (d : Cells) (h : Held) → h.link.confirmed ≤ h.seen → h.seen ≤ issued h.link → down_of (with_push d h) ≡ down_of h ++ d ∷ []
down_of-push d h low high = drop-append-le (h.seen - h.link.confirmed) h.link.unconfirmed (d ∷ []) (shown_within h low high)

pub fits_pushed : (view : List ℕ) (low : ℕ) (d : Cells) (h : Held) → base_length d ≡ length view → LinkFits view low h → LinkFits (applied d view) low (with_push d h)
fits_pushed view low d h fits l =
    let base : base_of (with_push d h) ≡ base_of h = base_of-push d h l.confirmed l.seen in
    let down : down_of (with_push d h) ≡ down_of h ++ d ∷ [] = down_of-push d h l.confirmed l.seen in
    let chain : IsChain (length (base_of h)) (down_of h ++ d ∷ []) =
    IsChain-push (length (base_of h)) (down_of h) d l.chain (fits ∙ ap length (sym l.leads) ∙ length-applied_all (down_of h) (base_of h) l.chain) in
    record {
      session = l.session;
      confirmed = l.confirmed;
      seen = omega (arith, l.seen, length-append h.link.unconfirmed (d ∷ []));
      chain = subst (λ b. IsChain (length b) (down_of (with_push d h))) (sym base) (subst (IsChain (length (base_of h))) (sym down) chain);
      leads =
          ap (applied_all (down_of (with_push d h))) base
          ∙ ap (λ q. applied_all q (base_of h)) down
          ∙ applied_all-push (down_of h) d (base_of h)
          ∙ ap (applied d) l.leads;
    }

-- the first delta that is not shown is shown

head_of : (n : ℕ) (list rest : List Cells) (d : Cells) → drop n list ≡ d ∷ rest → (n < length list) × (d ≡ get_or list n d) × (drop (n + 1) list ≡ rest)
head_of n list rest d is =
    let some : n < length list = omega (arith, length-drop n list, ap length is) in
    let parts : d ∷ rest ≡ get_or list n d ∷ drop (n + 1) list = sym is ∙ drop_more list n d some in
    (some, cc, cc)

one_further : (h : Held) → h.link.confirmed ≤ h.seen → h.seen + 1 - h.link.confirmed ≡ h.seen - h.link.confirmed + 1
one_further h low = omega (arith, low)

pub base_of-one_shown : (h : Held) (d : Cells) (rest : List Cells) → h.link.confirmed ≤ h.seen → down_of h ≡ d ∷ rest → base_of (with_one_shown h) ≡ applied d (base_of h)
base_of-one_shown h d rest low is =
    let n : ℕ = h.seen - h.link.confirmed in
    let head = head_of n h.link.unconfirmed rest d is in
    ap (λ m. applied_all (take m h.link.unconfirmed) h.link.base) (one_further h low)
    ∙ ap (λ q. applied_all q h.link.base) (take_more h.link.unconfirmed n d head.0 ∙ ap (λ x. take n h.link.unconfirmed ++ x ∷ []) (sym head.1))
    ∙ applied_all-push (take n h.link.unconfirmed) d h.link.base

pub down_of-one_shown : (h : Held) (d : Cells) (rest : List Cells) → h.link.confirmed ≤ h.seen → down_of h ≡ d ∷ rest → down_of (with_one_shown h) ≡ rest
down_of-one_shown h d rest low is =
    ap (λ m. drop m h.link.unconfirmed) (one_further h low) ∙ (head_of (h.seen - h.link.confirmed) h.link.unconfirmed rest d is).2

pub fits_shown : (view : List ℕ) (low : ℕ) (h : Held) (d : Cells) (rest : List Cells) → down_of h ≡ d ∷ rest → LinkFits view low h → LinkFits view low (with_one_shown h)
fits_shown view low h d rest is l =
    let base : base_of (with_one_shown h) ≡ applied d (base_of h) = base_of-one_shown h d rest l.confirmed is in
    let down : down_of (with_one_shown h) ≡ rest = down_of-one_shown h d rest l.confirmed is in
    let chain : IsChain (length (base_of h)) (d ∷ rest) = subst (IsChain (length (base_of h))) is l.chain in
    let long : length (applied d (base_of h)) ≡ result_length d = length-applied d (base_of h) chain.0 in
    let head = head_of (h.seen - h.link.confirmed) h.link.unconfirmed rest d is in
    record {
      session = l.session;
      confirmed = omega (arith, l.confirmed);
      seen = omega (arith, l.confirmed, l.seen, head.0);
      chain =
          subst (λ b. IsChain (length b) (down_of (with_one_shown h))) (sym base)
          (subst (IsChain (length (applied d (base_of h)))) (sym down) (subst (λ n. IsChain n rest) (sym long) chain.1));
      leads =
          ap (applied_all (down_of (with_one_shown h))) base
          ∙ ap (λ q. applied_all q (applied d (base_of h))) down
          ∙ ap (λ q. applied_all q (base_of h)) (sym is)
          ∙ l.leads;
    }

-- an edit is taken, which was made when as many were shown as now

abbrev pub with_take : ℕ → Cells → Held → Held
with_take seen p h = record h { link = with_edit seen p h.link }

pub base_of-take : (seen : ℕ) (p : Cells) (h : Held) → seen ≡ h.seen → base_of (with_take seen p h) ≡ applied p (base_of h)
base_of-take seen p h is =
    let none : h.seen - seen ≡ 0 = omega (arith, is) in
    ap (λ n. applied_all (take n (list_past p (unshown seen h.link))) (applied p (editor_text seen h.link))) none
    ∙ ap (λ n. applied p (editor_text n h.link)) is

pub queue_of-take : (seen : ℕ) (p : Cells) (h : Held) → seen ≡ h.seen → (with_take seen p h).link.unconfirmed ≡ list_past p (down_of h)
queue_of-take seen p h is = ap (λ n. list_past p (unshown n h.link)) is

pub down_of-take : (seen : ℕ) (p : Cells) (h : Held) → seen ≡ h.seen → down_of (with_take seen p h) ≡ list_past p (down_of h)
down_of-take seen p h is =
    let none : h.seen - seen ≡ 0 = omega (arith, is) in
    ap (λ n. drop n (list_past p (unshown seen h.link))) none ∙ queue_of-take seen p h is

pub fits_taken : (view : List ℕ) (low seen : ℕ) (p : Cells) (h : Held) → seen ≡ h.seen → base_length p ≡ length (base_of h) → LinkFits view low h
    → LinkFits (applied (past_list p (down_of h)) view) low (with_take seen p h)
fits_taken view low seen p h is fits l =
    let base : base_of (with_take seen p h) ≡ applied p (base_of h) = base_of-take seen p h is in
    let down : down_of (with_take seen p h) ≡ list_past p (down_of h) = down_of-take seen p h is in
    let chain : IsChain (base_length p) (down_of h) = subst (λ n. IsChain n (down_of h)) (sym fits) l.chain in
    let long : length (applied p (base_of h)) ≡ result_length p = length-applied p (base_of h) fits in
    let later : IsChain (length (applied p (base_of h))) (list_past p (down_of h)) =
    subst (λ n. IsChain n (list_past p (down_of h))) (sym long) (list_stays_chain p (down_of h) chain) in
    record {
      session = l.session;
      confirmed = omega (arith, is);
      seen = omega (arith, is);
      chain = subst (λ b. IsChain (length b) (down_of (with_take seen p h))) (sym base) (subst (IsChain (length (applied p (base_of h)))) (sym down) later);
      leads =
          ap (applied_all (down_of (with_take seen p h))) base
          ∙ ap (λ q. applied_all q (applied p (base_of h))) down
          ∙ sym (list_both_ways p (down_of h) (base_of h) chain fits)
          ∙ ap (applied (past_list p (down_of h))) l.leads;
    }
