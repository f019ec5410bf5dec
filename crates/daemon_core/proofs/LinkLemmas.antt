-- What one more change makes of the link to a file.
use Rattle.std.proofs.Common.{◌≡◌, ℕ, ◌+◌, ◌-◌, ◌≤◌, Bool, true, false, List, [], ◌∷◌, ◌++◌, length, take, refl, sym, ap, ◌∙◌, subst, arith, length-append, length-drop}
use Rattle.delta.specs.Cells.{Cells, base_length, applied, changes_nothing}
use Rattle.delta.proofs.LawLemmas.{applied-nothing, length-applied}
use Rattle.transform.specs.Carried.{IsChain, applied_all, chain_end, past_list, list_past}
use Rattle.transform.proofs.ChainLemmas.{applied_all-push, applied_all-take-drop, IsChain-push, length-applied_all, IsChain-take, IsChain-drop}
use Rattle.transform.proofs.ListLemmas.{length-list_past}
use Rattle.transform.proofs.MergedLemmas.{list_both_ways, list_stays_chain}
use Rattle.editor_bridge.specs.Link.{Link, daemon_text, issued, editor_text, unshown, with_pushed, with_edit, carried_edit}
use Rattle.daemon_core.specs.History.{History, is_path, text_at, made}
use Rattle.daemon_core.specs.Laws.{IsLinked}
use Rattle.daemon_core.proofs.FileLemmas.{text_made, text_elsewhere, stays_there, path_same, is_path_back}

-- the text at a path that is the one of the change
text_there : (history : History) (path other : List ℕ) (d : Cells) → is_path path other ≡ true
    → text_at (made history path d) other ≡ applied d (text_at history other)
text_there history path other d same =
    subst (λ p. text_at (made history path d) p ≡ applied d (text_at history p)) (path_same path other same) (text_made history path d)

-- a link at the path is told of the change
pub linked_told : (history : History) (path : List ℕ) (d : Cells) (other : List ℕ) (l : Link) → IsLinked history other l
    → is_path path other ≡ true → base_length d ≡ length (text_at history path)
    → IsLinked (made history path d) other (with_pushed d l)
linked_told history path d other l h same fits =
    let down : List Cells = l.unconfirmed in
    let base : List ℕ = l.base in
    let here : text_at history path ≡ daemon_text l = ap (text_at history) (path_same path other same) ∙ sym h.text in
    let behind : base_length d ≡ chain_end (length base) down = fits ∙ ap length here ∙ length-applied_all down base h.chain in
    let more : length (down ++ d ∷ []) ≡ length down + 1 = length-append down (d ∷ []) in
    record {
      there = stays_there history path other d h.there;
      text = applied_all-push down d base ∙ ap (applied d) h.text ∙ sym (text_there history path other d same);
      chain = IsChain-push (length base) down d h.chain behind;
      issued = omega (arith, h.issued, more);
      taken = omega (arith, h.taken);
    }

-- a link of another file stays as it is
pub linked_elsewhere : (history : History) (path : List ℕ) (d : Cells) (other : List ℕ) (l : Link) → IsLinked history other l
    → is_path path other ≡ false → IsLinked (made history path d) other l
linked_elsewhere history path d other l h apart = record {
  there = stays_there history path other d h.there;
  text = h.text ∙ sym (text_elsewhere history path other d (is_path_back path other apart));
  chain = h.chain;
  issued = omega (arith, h.issued);
  taken = omega (arith, h.taken);
}

-- so does each link where nothing has changed
pub linked_untold : (history : History) (path : List ℕ) (d : Cells) (other : List ℕ) (l : Link) → IsLinked history other l
    → changes_nothing d ≡ true → base_length d ≡ length (text_at history path) → IsLinked (made history path d) other l
linked_untold history path d other l h nothing fits = by (is_path path other) refl where
  by : (b : Bool) → is_path path other ≡ b → IsLinked (made history path d) other l
  by false apart = linked_elsewhere history path d other l h apart
  by true same =
      let here : text_at history path ≡ text_at history other = ap (text_at history) (path_same path other same) in
      let stays : applied d (text_at history other) ≡ text_at history other = applied-nothing d (text_at history other) nothing (fits ∙ ap length here) in
      record {
        there = stays_there history path other d h.there;
        text = h.text ∙ sym (text_there history path other d same ∙ stays);
        chain = h.chain;
        issued = omega (arith, h.issued);
        taken = omega (arith, h.taken);
      }

-- an edit that a link can take: the daemon has given so many deltas, and it is for the text that the editor then shows
pub record MayTake (l : Link) (seen : ℕ) (p : Cells) : Type 0 where
  pub confirmed : l.confirmed ≤ seen
  pub given : seen ≤ issued l
  pub fits : base_length p ≡ length (editor_text seen l)

-- what is left of a link's deltas is for that text, and leads from there to the daemon's
pub chain_left : (l : Link) (seen : ℕ) (p : Cells) → IsChain (length l.base) l.unconfirmed → MayTake l seen p
    → IsChain (base_length p) (unshown seen l)
chain_left l seen p chain can =
    let n : ℕ = seen - l.confirmed in
    subst (λ k. IsChain k (unshown seen l))
    (sym (can.fits ∙ length-applied_all (take n l.unconfirmed) l.base (IsChain-take n (length l.base) l.unconfirmed chain)))
    (IsChain-drop n (length l.base) l.unconfirmed chain)

-- the link that an edit came by, once it is taken
pub linked_took : (history : History) (path : List ℕ) (seen : ℕ) (p : Cells) (other : List ℕ) (l : Link) → IsLinked history other l
    → is_path path other ≡ true → MayTake l seen p
    → IsLinked (made history path (carried_edit seen p l)) other (with_edit seen p l)
linked_took history path seen p other l h same can =
    let n : ℕ = seen - l.confirmed in
    let shown : List ℕ = editor_text seen l in
    let left : List Cells = unshown seen l in
    let chain : IsChain (base_length p) left = chain_left l seen p h.chain can in
    let count : length (list_past p left) ≡ length l.unconfirmed - n = length-list_past p left ∙ length-drop n l.unconfirmed in
    let daemons : applied_all left shown ≡ text_at history other = applied_all-take-drop n l.unconfirmed l.base ∙ h.text in
    record {
      there = stays_there history path other (carried_edit seen p l) h.there;
      text =
          sym (list_both_ways p left shown chain can.fits)
          ∙ ap (applied (past_list p left)) daemons
          ∙ sym (text_there history path other (carried_edit seen p l) same);
      chain = subst (λ k. IsChain k (list_past p left)) (sym (length-applied p shown can.fits)) (list_stays_chain p left chain);
      issued = omega (arith, h.issued, count, can.confirmed, can.given);
      taken = omega (arith, h.taken);
    }
