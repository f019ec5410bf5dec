-- What one more change makes of the link to a file.
use Rattle.std.proofs.Common.{◌≡◌, ℕ, ◌+◌, ◌-◌, Bool, true, false, List, [], ◌∷◌, ◌++◌, length, refl, sym, ap, ◌∙◌, subst, arith, length-append, length-drop}
use Rattle.delta.specs.Cells.{Cells, base_length, applied, changes_nothing}
use Rattle.delta.proofs.LawLemmas.{applied-nothing, length-applied}
use Rattle.transform.specs.Carried.{IsChain, applied_all, chain_end, past_list, list_past}
use Rattle.transform.proofs.ChainLemmas.{applied_all-push, applied_all-take-drop, IsChain-push, length-applied_all}
use Rattle.transform.proofs.ListLemmas.{length-list_past}
use Rattle.transform.proofs.MergedLemmas.{list_both_ways, list_stays_chain}
use Rattle.editor_bridge.specs.Link.{Link, daemon_text, editor_text, unshown, with_pushed, with_edit, carried_edit}
use Rattle.daemon_core.specs.History.{is_path}
use Rattle.daemon_core.proofs.FileLemmas.{path_same, is_path_back}
use Rattle.daemon_core.proofs.LinkLemmas.{MayTake, chain_left}
use Rattle.daemon_history.specs.Holding.{Holding, text_at}
use Rattle.daemon_events.specs.Laws.{IsLinked}
use Rattle.daemon_events.proofs.HoldingLemmas.{ChangesText, KeepsTexts, keeps_text, keeps_count}

-- where no text has changed, a link stays as it should be
pub linked_kept : (h after : Holding) → KeepsTexts h after → (path : List ℕ) (l : Link) → IsLinked h path l → IsLinked after path l
linked_kept h after kept path l linked =
    let count = keeps_count h after kept in
    record {
      text = linked.text ∙ sym (keeps_text h after kept path);
      chain = linked.chain;
      issued = omega (arith, linked.issued, count);
      taken = omega (arith, linked.taken, count);
    }

module _ (h : Holding) (path : List ℕ) (d : Cells) (after : Holding) (changes : ChangesText h path d after) where
  -- the text at a path that is the one of the change
  text_there : (other : List ℕ) → is_path path other ≡ true → text_at after other ≡ applied d (text_at h other)
  text_there other same = subst (λ p. text_at after p ≡ applied d (text_at h p)) (path_same path other same) changes.text

  -- a link at the path is told of the change
  pub linked_told : (other : List ℕ) (l : Link) → IsLinked h other l → is_path path other ≡ true
      → base_length d ≡ length (text_at h path) → IsLinked after other (with_pushed d l)
  linked_told other l linked same fits =
      let down : List Cells = l.unconfirmed in
      let base : List ℕ = l.base in
      let here : text_at h path ≡ daemon_text l = ap (text_at h) (path_same path other same) ∙ sym linked.text in
      let behind : base_length d ≡ chain_end (length base) down = fits ∙ ap length here ∙ length-applied_all down base linked.chain in
      let more : length (down ++ d ∷ []) ≡ length down + 1 = length-append down (d ∷ []) in
      record {
        text = applied_all-push down d base ∙ ap (applied d) linked.text ∙ sym (text_there other same);
        chain = IsChain-push (length base) down d linked.chain behind;
        issued = omega (arith, linked.issued, more, changes.count);
        taken = omega (arith, linked.taken, changes.count);
      }

  -- a link of another file stays as it is
  pub linked_elsewhere : (other : List ℕ) (l : Link) → IsLinked h other l → is_path path other ≡ false → IsLinked after other l
  linked_elsewhere other l linked apart = record {
    text = linked.text ∙ sym (changes.elsewhere other (is_path_back path other apart));
    chain = linked.chain;
    issued = omega (arith, linked.issued, changes.count);
    taken = omega (arith, linked.taken, changes.count);
  }

  -- so does each link where nothing has changed
  pub linked_untold : (other : List ℕ) (l : Link) → IsLinked h other l → changes_nothing d ≡ true
      → base_length d ≡ length (text_at h path) → IsLinked after other l
  linked_untold other l linked nothing fits = by (is_path path other) refl where
    by : (b : Bool) → is_path path other ≡ b → IsLinked after other l
    by false apart = linked_elsewhere other l linked apart
    by true same =
        let here : text_at h path ≡ text_at h other = ap (text_at h) (path_same path other same) in
        let stays : applied d (text_at h other) ≡ text_at h other = applied-nothing d (text_at h other) nothing (fits ∙ ap length here) in
        record {
          text = linked.text ∙ sym (text_there other same ∙ stays);
          chain = linked.chain;
          issued = omega (arith, linked.issued, changes.count);
          taken = omega (arith, linked.taken, changes.count);
        }

-- the link that an edit came by, once it is taken
pub linked_took : (h : Holding) (path : List ℕ) (seen : ℕ) (p : Cells) (l : Link) (after : Holding) → ChangesText h path (carried_edit seen p l) after
    → (other : List ℕ) → IsLinked h other l → is_path path other ≡ true → MayTake l seen p → IsLinked after other (with_edit seen p l)
linked_took h path seen p l after changes other linked same can =
    let n : ℕ = seen - l.confirmed in
    let shown : List ℕ = editor_text seen l in
    let left : List Cells = unshown seen l in
    let chain : IsChain (base_length p) left = chain_left l seen p linked.chain can in
    let count : length (list_past p left) ≡ length l.unconfirmed - n = length-list_past p left ∙ length-drop n l.unconfirmed in
    let daemons : applied_all left shown ≡ text_at h other = applied_all-take-drop n l.unconfirmed l.base ∙ linked.text in
    record {
      text =
          sym (list_both_ways p left shown chain can.fits)
          ∙ ap (applied (past_list p left)) daemons
          ∙ sym (text_there h path (carried_edit seen p l) after changes other same);
      chain = subst (λ k. IsChain k (list_past p left)) (sym (length-applied p shown can.fits)) (list_stays_chain p left chain);
      issued = omega (arith, linked.issued, count, can.confirmed, can.given, changes.count);
      taken = omega (arith, linked.taken, changes.count);
    }
