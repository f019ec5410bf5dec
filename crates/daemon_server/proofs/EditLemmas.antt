-- An edit, from the link that it comes by.
use Rattle.std.proofs.Common.{◌≡◌, ℕ, ◌-◌, ◌≤◌, Bool, true, false, List, length, Option, Some, None, Result, Ok, Err, nat_lt, refl, sym, ap, ◌∙◌, subst}
use Rattle.std.specs.BTreeMap.{insert_entry}
use Rattle.std.specs.Cmp.Lexicographic.{slice_cmp, nat_list_cmp_total}
use Rattle.std.specs.List.Sorted.{IsStrictlySortedBy}
use Rattle.std.specs.Map.{keys_of}
use Rattle.std.specs.Ordering.{nat_cmp}
use Rattle.std.specs.Prelude.{if◌then◌else◌}
use Rattle.std.proofs.lemmas.Bool.{ltb-false}
use Rattle.delta.specs.Cells.{Cells, base_length, result_length, applied}
use Rattle.delta.proofs.LawLemmas.{length-applied}
use Rattle.transform.specs.Carried.{IsChain, chain_end}
use Rattle.transform.proofs.ChainLemmas.{applied_all-take-drop, length-applied_all}
use Rattle.transform.proofs.MergedLemmas.{base_length-past_list}
use Rattle.editor_bridge.specs.Faults.{revision_fault}
use Rattle.editor_bridge.specs.Link.{Link, issued, editor_text, unshown, with_edit, carried_edit}
use Rattle.editor_bridge.specs.declared.faults.BridgeFault.{BridgeFault}
use Rattle.file_uri.specs.Base.{BaseView}
use Rattle.file_uri.specs.PathOf.{path_of}
use Rattle.file_uri.specs.UriOf.{uri_of}
use Rattle.rpc_message.specs.declared.messages.ToEditor.{ToEditor}
use Rattle.rpc_message.specs.declared.refusals.Refusal.{Refusal}
use Rattle.rpc_message.specs.declared.refusals.Refusal.TheVariants.{NotOpen, TextTooLong}
use Rattle.text_position.specs.declared.faults.EditsFault.{EditsFault}
use Rattle.tt_base.specs.declared.edits.TextEdit.{TextEdit}
use Rattle.daemon_core.specs.History.{History, text_at, made}
use Rattle.daemon_core.specs.Laws.{IsLinked}
use Rattle.daemon_core.specs.Outcome.{Stays, Taken, Gone, own_links}
use Rattle.daemon_core.specs.Outputs.{of_link, whole_queue}
use Rattle.daemon_core.specs.Refusing.{◌>>=◌, unless_bad_uri, open_link, unless_bad_revision, unless_bad_edits, good_edits, may_grow}
use Rattle.daemon_core.specs.Serving.{with_change, changed, on_edit}
use Rattle.daemon_core.specs.State.{Links, State, link_at}
use Rattle.daemon_core.proofs.FileLemmas.{path_same}
use Rattle.daemon_core.proofs.LinkLemmas.{MayTake, chain_left}
use Rattle.daemon_links.specs.Editing.{IsTaken}
use Rattle.daemon_links.specs.declared.link_edits.LinkEdit.{LinkEdit}
use Rattle.daemon_links.proofs.MapLemmas.{none_gone, put_here}
use Rattle.daemon_server.specs.Editing.{edit_on}
use Rattle.daemon_server.specs.Following.{desk, Does, IsRefused}
use Rattle.daemon_server.proofs.StepLemmas.{success, refused_and_gone}

pub edit_none : (base : BaseView) (h : History) (links own : Links) (uri path : List ℕ) (seen : ℕ) (edits : List TextEdit) → path_of base uri ≡ Ok path
    → None ≡ link_at links path → own ≡ own_links (Gone path) links
    → IsRefused (desk base h links) (on_edit (desk base h links) 0 uri seen edits) own NotOpen
edit_none base h links own uri path seen edits named none gone = record {
  event = Stays;
  step_is =
      ap (λ r. unless_bad_uri r >>= λ p. open_link (link_at links p) >>= λ l. edit_on (desk base h links) p seen edits l) named
      ∙ ap (λ (o : Option Link). open_link o >>= λ l. edit_on (desk base h links) path seen edits l) (sym none);
  own_is = gone ∙ none_gone (slice_cmp nat_cmp) nat_list_cmp_total path links none;
  silent = refl;
}

-- what a link has taken, it could take
record IsKnown (l : Link) (seen : ℕ) : Type 0 where
  confirmed : l.confirmed ≤ seen
  given : seen ≤ issued l

is_known : (l : Link) (seen : ℕ) → revision_fault seen l ≡ None → IsKnown l seen
is_known l seen e = by (nat_lt (issued l) seen) refl (nat_lt seen l.confirmed) refl e where
  by : (a : Bool) → nat_lt (issued l) seen ≡ a → (b : Bool) → nat_lt seen l.confirmed ≡ b → revision_fault seen l ≡ None → IsKnown l seen
  by false ahead false back e = record { confirmed = ltb-false seen l.confirmed back; given = ltb-false (issued l) seen ahead }
  by true ahead b back e = cc
  by false ahead true back e = cc

took : (link : Link) (seen : ℕ) (edits : List TextEdit) (t : LinkEdit) (taken : IsTaken link seen edits t) → MayTake link seen taken.edit
took link seen edits t taken =
    let known : IsKnown link seen = is_known link seen taken.revision in
    record { confirmed = known.confirmed; given = known.given; fits = taken.fits }

-- what it is in the daemon's text is for that text
edit_fits : (h : History) (path : List ℕ) (link : Link) (seen : ℕ) (edits : List TextEdit) (t : LinkEdit) → IsLinked h path link → (taken : IsTaken link seen edits t)
    → base_length (carried_edit seen taken.edit link) ≡ length (text_at h path)
edit_fits h path link seen edits t linked taken =
    let can : MayTake link seen taken.edit = took link seen edits t taken in
    let left : IsChain (base_length taken.edit) (unshown seen link) = chain_left link seen taken.edit linked.chain can in
    base_length-past_list taken.edit (unshown seen link) left
    ∙ (ap (λ k. chain_end k (unshown seen link)) can.fits
    ∙ (sym (length-applied_all (unshown seen link) (editor_text seen link) (subst (λ k. IsChain k (unshown seen link)) can.fits left))
    ∙ ap length (applied_all-take-drop (seen - link.confirmed) link.unconfirmed link.base ∙ linked.text)))

-- the length of the text before and after, as they are found in code
pub record Grows (h : History) (path : List ℕ) (t : LinkEdit) (before after : ℕ) : Type 0 where
  pub before_is : before ≡ length (text_at h path)
  pub after_is : after ≡ result_length t.carried

length_after : (h : History) (path : List ℕ) (link : Link) (seen : ℕ) (edits : List TextEdit) (t : LinkEdit) (before after : ℕ) → IsLinked h path link → (taken : IsTaken link seen edits t)
    → Grows h path t before after → after ≡ length (applied (carried_edit seen taken.edit link) (text_at h path))
length_after h path link seen edits t before after linked taken g =
    g.after_is
    ∙ (ap result_length taken.carried
    ∙ sym (length-applied (carried_edit seen taken.edit link) (text_at h path) (edit_fits h path link seen edits t linked taken)))

-- an edit whose list is good, by whether the text may grow
edit_judged : (base : BaseView) (h : History) (links : Links) (path : List ℕ) (link : Link) (seen : ℕ) (edits : List TextEdit) (t : LinkEdit) (before after : ℕ) (b : Bool)
    → IsLinked h path link → (taken : IsTaken link seen edits t) → Grows h path t before after → may_grow before after ≡ b
    → edit_on (desk base h links) path seen edits link
    ≡ (if b then Ok (with_change (desk base h links) path (carried_edit seen taken.edit link) (Taken path seen taken.edit))
    else Err (record { refusal = TextTooLong after; own = Gone path }))
edit_judged base h links path link seen edits t before after b linked taken g grows =
    let s : State = desk base h links in
    let d : Cells = carried_edit seen taken.edit link in
    let long : length (applied d (text_at h path)) ≡ after = sym (length_after h path link seen edits t before after linked taken g) in
    let was : length (text_at h path) ≡ before = sym g.before_is in
    ap (λ (f : Option BridgeFault).
    unless_bad_revision f path seen link >>= λ text. good_edits path text edits >>= λ e. changed s path (carried_edit seen e link) (Taken path seen e) (Gone path))
    taken.revision
    ∙ (ap (λ (r : Result Cells EditsFault). unless_bad_edits path r >>= λ e. changed s path (carried_edit seen e link) (Taken path seen e) (Gone path)) taken.read
    ∙ ((λ i. if may_grow (was i) (long i) then Ok (with_change s path d (Taken path seen taken.edit)) else Err (record { refusal = TextTooLong (long i); own = Gone path }))
    ∙ ap (λ c. if c then Ok (with_change s path d (Taken path seen taken.edit)) else Err (record { refusal = TextTooLong after; own = Gone path })) grows))

pub edit_too_long : (base : BaseView) (h : History) (links own : Links) (path : List ℕ) (link : Link) (seen : ℕ) (edits : List TextEdit) (t : LinkEdit) (before after : ℕ)
    → IsLinked h path link → IsTaken link seen edits t → Grows h path t before after → own ≡ own_links (Gone path) links
    → (r : Refusal) → (may_grow before after ≡ false) × (r ≡ TextTooLong after)
    → IsRefused (desk base h links) (edit_on (desk base h links) path seen edits link) own r
edit_too_long base h links own path link seen edits t before after linked taken g gone r long =
    refused_and_gone base h links own path (edit_on (desk base h links) path seen edits link) r gone
    (edit_judged base h links path link seen edits t before after false linked taken g long.0 ∙ ap (λ r. Err (record { refusal = r; own = Gone path })) (sym long.1))

pub edit_done : (base : BaseView) (h : History) (links between own : Links) (path key : List ℕ) (link : Link) (seen : ℕ) (edits : List TextEdit)
    (t : LinkEdit) (before after : ℕ) (messages : List ToEditor) → IsLinked h path link → IsTaken link seen edits t → Grows h path t before after → may_grow before after ≡ true
    → messages ≡ whole_queue (uri_of base path) t.link → Some link ≡ link_at links path → IsStrictlySortedBy (slice_cmp nat_cmp) (keys_of links)
    → between ≡ own_links (Gone path) links → key ≡ path → own ≡ insert_entry (slice_cmp nat_cmp) between key t.link
    → Does (desk base h links) (edit_on (desk base h links) path seen edits link) own (success messages (Some (record { path = path; delta = t.carried })))
edit_done base h links between own path key link seen edits t before after messages linked taken g grows told found sorted gone same put = record {
  outcome = with_change (desk base h links) path (carried_edit seen taken.edit link) (Taken path seen taken.edit);
  step_is = edit_judged base h links path link seen edits t before after true linked taken g grows;
  handles = record {
    answer = refl;
    messages =
        told
        ∙ (ap (whole_queue (uri_of base path)) taken.link_is
        ∙ ap (λ (o : Option Link). of_link o (λ l. whole_queue (uri_of base path) (with_edit seen taken.edit l))) found);
    own_is =
        put
        ∙ ((λ i. insert_entry (slice_cmp nat_cmp) (gone i) (same i) (taken.link_is i))
        ∙ put_here (slice_cmp nat_cmp) nat_list_cmp_total path (with_edit seen taken.edit) (path_same path) links link sorted found);
    change = record {
      history = ap (made h path) (sym taken.carried);
      effects = ap (λ d. (with_change (desk base h links) path d (Taken path seen taken.edit)).effects) (sym taken.carried);
      fits = ap base_length taken.carried ∙ edit_fits h path link seen edits t linked taken;
    };
    stops = refl;
  };
}
