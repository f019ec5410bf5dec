-- An edit, from the link that it comes by.
use Rattle.std.proofs.Common.{◌≡◌, ℕ, ◌-◌, Bool, true, false, List, [], length, Option, Some, None, Result, Ok, Err, nat_lt, refl, sym, ap, ◌∙◌, subst, inr}
use Rattle.std.specs.BTreeMap.{insert_entry}
use Rattle.std.specs.Cmp.Lexicographic.{slice_cmp, nat_list_cmp_total}
use Rattle.std.specs.List.Sorted.{IsStrictlySortedBy}
use Rattle.std.specs.Map.{keys_of}
use Rattle.std.specs.Option.{unwrap_or}
use Rattle.std.specs.Ordering.{nat_cmp}
use Rattle.std.specs.Prelude.{if◌then◌else◌}
use Rattle.std.proofs.lemmas.Bool.{ltb-false}
use Rattle.delta.specs.Cells.{Cells, base_length, result_length, applied}
use Rattle.delta.proofs.LawLemmas.{length-applied}
use Rattle.transform.specs.Carried.{IsChain, chain_end}
use Rattle.transform.proofs.ChainLemmas.{applied_all-take-drop, length-applied_all}
use Rattle.transform.proofs.MergedLemmas.{base_length-past_list}
use Rattle.editor_bridge.specs.Faults.{revision_fault}
use Rattle.editor_bridge.specs.Link.{Link, issued, editor_text, unshown, with_edit, carried_edit}
use Rattle.editor_bridge.specs.declared.faults.BridgeFault.{BridgeFault}
use Rattle.file_uri.specs.Base.{BaseView}
use Rattle.file_uri.specs.PathOf.{path_of}
use Rattle.file_uri.specs.UriOf.{uri_of}
use Rattle.rpc_message.specs.declared.messages.ToEditor.{ToEditor}
use Rattle.rpc_message.specs.declared.refusals.Refusal.{Refusal}
use Rattle.rpc_message.specs.declared.refusals.Refusal.TheVariants.{NotOpen, TextTooLong}
use Rattle.text_position.specs.declared.faults.EditsFault.{EditsFault}
use Rattle.tt_base.specs.declared.edits.TextEdit.{TextEdit}
use Rattle.daemon_core.specs.History.{History, text_at}
use Rattle.daemon_core.specs.Laws.{IsLinked}
use Rattle.daemon_core.specs.Outcome.{Stays, Taken, Gone, own_links}
use Rattle.daemon_core.specs.Outputs.{of_link, whole_queue}
use Rattle.daemon_core.specs.Refusing.{◌>>=◌, unless_bad_uri, open_link, unless_bad_revision, unless_bad_edits, good_edits, may_grow}
use Rattle.daemon_core.specs.State.{Links, link_at}
use Rattle.daemon_core.proofs.FileLemmas.{path_same}
use Rattle.daemon_core.proofs.LinkLemmas.{MayTake, chain_left}
use Rattle.daemon_core.proofs.MessageLemmas.{IsKnown}
use Rattle.daemon_events.specs.Wanting.{Wanted, text_on, unless_long, changing, on_edit}
use Rattle.daemon_links.specs.Editing.{IsTaken}
use Rattle.daemon_links.specs.declared.link_edits.LinkEdit.{LinkEdit}
use Rattle.daemon_links.proofs.MapLemmas.{none_gone, put_here}
use Rattle.message_steps.specs.Asking.{View, desk, Shows}
use Rattle.message_steps.specs.Editing.{edit_on}
use Rattle.message_steps.specs.Following.{Does, IsRefused, IsWantedChange}
use Rattle.message_steps.proofs.LinkLemmas.{next_gone}
use Rattle.message_steps.proofs.StepLemmas.{success, refused_and_gone}

pub edit_none : (base : BaseView) (view : View) (links own : Links) (uri path : List ℕ) (seen : ℕ) (edits : List TextEdit) → path_of base uri ≡ Ok path
    → None ≡ link_at links path → own ≡ own_links (Gone path) links
    → IsRefused (desk base view links) (on_edit (desk base view links) uri seen edits) own NotOpen
edit_none base view links own uri path seen edits named none gone = record {
  event = Stays;
  asked_is =
      ap (λ r. unless_bad_uri r >>= λ p. open_link (link_at links p) >>= λ l. edit_on (desk base view links) p seen edits l) named
      ∙ ap (λ (o : Option Link). open_link o >>= λ l. edit_on (desk base view links) path seen edits l) (sym none);
  own_is = gone ∙ none_gone (slice_cmp nat_cmp) nat_list_cmp_total path links none;
  silent = refl;
}

-- an edit of a file that is open comes by the link there
pub edit_by_link : (base : BaseView) (view : View) (links : Links) (uri path : List ℕ) (seen : ℕ) (edits : List TextEdit) (link : Link) → path_of base uri ≡ Ok path
    → Some link ≡ link_at links path → on_edit (desk base view links) uri seen edits ≡ edit_on (desk base view links) path seen edits link
edit_by_link base view links uri path seen edits link named found =
    ap (λ r. unless_bad_uri r >>= λ p. open_link (link_at links p) >>= λ l. edit_on (desk base view links) p seen edits l) named
    ∙ ap (λ (o : Option Link). open_link o >>= λ l. edit_on (desk base view links) path seen edits l) (sym found)

-- what a link has taken, it could take
is_known : (l : Link) (seen : ℕ) → revision_fault seen l ≡ None → IsKnown l seen
is_known l seen e = by (nat_lt (issued l) seen) refl (nat_lt seen l.confirmed) refl e where
  by : (a : Bool) → nat_lt (issued l) seen ≡ a → (b : Bool) → nat_lt seen l.confirmed ≡ b → revision_fault seen l ≡ None → IsKnown l seen
  by false ahead false back e = record { confirmed = ltb-false seen l.confirmed back; given = ltb-false (issued l) seen ahead }
  by true ahead b back e = cc
  by false ahead true back e = cc

-- an edit that its link has taken, for the text that is at hand as the desk shows it
pub record CanChange (files : History) (view : View) (path : List ℕ) (link : Link) (seen : ℕ) (edits : List TextEdit) (t : LinkEdit) : Type 0 where
  pub linked : IsLinked files path link
  pub taken : IsTaken link seen edits t
  pub shows : Shows files view path

-- the length of the text before and after, as they are found in code
pub record Grows (files : History) (path : List ℕ) (t : LinkEdit) (before after : ℕ) : Type 0 where
  pub before_is : before ≡ length (text_at files path)
  pub after_is : after ≡ result_length t.carried

-- the parts of the step, as they are found in code
pub record Puts (base : BaseView) (links own : Links) (path : List ℕ) (link : Link) (t : LinkEdit) (messages : List ToEditor) : Type 0 where
  pub told : messages ≡ whole_queue (uri_of base path) t.link
  pub found : Some link ≡ link_at links path
  pub sorted : IsStrictlySortedBy (slice_cmp nat_cmp) (keys_of links)
  pub between : Links
  pub gone : between ≡ own_links (Gone path) links
  pub key : List ℕ
  pub key_is : key ≡ path
  pub put : own ≡ insert_entry (slice_cmp nat_cmp) between key t.link

module _ (base : BaseView) (files : History) (view : View) (links : Links) (path : List ℕ) (link : Link) (seen : ℕ) (edits : List TextEdit) (t : LinkEdit)
    (can : CanChange files view path link seen edits t) where
  abbrev d : Cells
  d = carried_edit seen can.taken.edit link

  abbrev wants : Cells → Wanted
  wants x = changing path x (Taken path seen can.taken.edit) (Gone path)

  abbrev shown : List ℕ
  shown = text_on (desk base view links) path

  shown_is : shown ≡ text_at files path
  shown_is = ap (λ (o : Option (List ℕ)). unwrap_or o []) can.shows

  may : MayTake link seen can.taken.edit
  may =
      let known : IsKnown link seen = is_known link seen can.taken.revision in
      record { confirmed = known.confirmed; given = known.given; fits = can.taken.fits }

  -- what the edit is in the daemon's text is for that text
  edit_fits : base_length d ≡ length (text_at files path)
  edit_fits =
      let left : IsChain (base_length can.taken.edit) (unshown seen link) = chain_left link seen can.taken.edit can.linked.chain may in
      base_length-past_list can.taken.edit (unshown seen link) left
      ∙ (ap (λ k. chain_end k (unshown seen link)) may.fits
      ∙ (sym (length-applied_all (unshown seen link) (editor_text seen link) (subst (λ k. IsChain k (unshown seen link)) may.fits left))
      ∙ ap length (applied_all-take-drop (seen - link.confirmed) link.unconfirmed link.base ∙ can.linked.text)))

  module _ (before after : ℕ) (g : Grows files path t before after) where
    was : length shown ≡ before
    was = ap length shown_is ∙ sym g.before_is

    long : length (applied d shown) ≡ after
    long =
        ap (λ (text : List ℕ). length (applied d text)) shown_is
        ∙ (length-applied d (text_at files path) edit_fits
        ∙ (ap result_length (sym can.taken.carried) ∙ sym g.after_is))

    -- an edit whose list is good, by whether the text may grow
    judged : (b : Bool) → may_grow before after ≡ b
        → edit_on (desk base view links) path seen edits link
        ≡ ((if b then Ok d else Err (record { refusal = TextTooLong after; own = Gone path })) >>= λ x. Ok (wants x))
    judged b grows =
        ap (λ (f : Option BridgeFault).
        unless_bad_revision f path seen link
        >>= λ text. good_edits path text edits
        >>= λ e. unless_long shown (carried_edit seen e link) (Gone path)
        >>= λ x. Ok (changing path x (Taken path seen e) (Gone path)))
        can.taken.revision
        ∙ (ap (λ (r : Result Cells EditsFault).
        unless_bad_edits path r
        >>= λ e. unless_long shown (carried_edit seen e link) (Gone path)
        >>= λ x. Ok (changing path x (Taken path seen e) (Gone path)))
        can.taken.read
        ∙ ((λ i. (if may_grow (was i) (long i) then Ok d else Err (record { refusal = TextTooLong (long i); own = Gone path })) >>= λ x. Ok (wants x))
        ∙ ap (λ c. (if c then Ok d else Err (record { refusal = TextTooLong after; own = Gone path })) >>= λ x. Ok (wants x)) grows))

    pub edit_too_long : (own : Links) → own ≡ own_links (Gone path) links → (r : Refusal) → (may_grow before after ≡ false) × (r ≡ TextTooLong after)
        → IsRefused (desk base view links) (edit_on (desk base view links) path seen edits link) own r
    edit_too_long own gone r too_long =
        refused_and_gone base view links own path (edit_on (desk base view links) path seen edits link) r gone
        (judged false too_long.0 ∙ ap (λ r. Err (record { refusal = r; own = Gone path })) (sym too_long.1))

    -- the change, where its link is put so
    asked : (own : Links) (messages : List ToEditor) → may_grow before after ≡ true → Puts base links own path link t messages
        → IsWantedChange files (desk base view links) (wants d) own (record { path = path; delta = d })
    asked own messages grows puts = record {
      is = refl;
      at_hand = can.shows;
      fits = edit_fits ∙ sym (ap length shown_is);
      short = (λ i. may_grow (was i) (long i)) ∙ grows;
      if_refused = inr refl;
      undone = sym
          (ap (own_links (Gone path)) (puts.put ∙ (λ i. insert_entry (slice_cmp nat_cmp) (puts.gone i) (puts.key_is i) t.link))
          ∙ next_gone path t.link links);
      unsent = refl;
    }

    pub edit_done : (own : Links) (messages : List ToEditor) → may_grow before after ≡ true → Puts base links own path link t messages
        → Does files (desk base view links) (edit_on (desk base view links) path seen edits link) own
        (success messages (Some (record { path = path; delta = t.carried })) None)
    edit_done own messages grows puts = record {
      w = wants d;
      asked_is = judged true grows;
      meets = record {
        answer = refl;
        messages =
            puts.told
            ∙ (ap (whole_queue (uri_of base path)) can.taken.link_is
            ∙ ap (λ (o : Option Link). of_link o (λ l. whole_queue (uri_of base path) (with_edit seen can.taken.edit l))) puts.found);
        own_is =
            puts.put
            ∙ ((λ i. insert_entry (slice_cmp nat_cmp) (puts.gone i) (puts.key_is i) (can.taken.link_is i))
            ∙ put_here (slice_cmp nat_cmp) nat_list_cmp_total path (with_edit seen can.taken.edit) (path_same path) links link puts.sorted puts.found);
        change = subst (λ x. IsWantedChange files (desk base view links) (wants d) own (record { path = path; delta = x })) (sym can.taken.carried)
            (asked own messages grows puts);
        opens = refl;
        stops = refl;
      };
    }
