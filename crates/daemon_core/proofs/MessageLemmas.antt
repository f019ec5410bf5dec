-- Whatever a message comes to, the links are as they should be afterwards.
use Rattle.std.proofs.Common.{◌≡◌, ℕ, ◌+◌, ◌-◌, ◌≤◌, Bool, true, false, List, [], ◌∷◌, length, Option, Some, None, is_some, Result, Ok, Err, nat_lt, refl, sym, ap, ◌∙◌, subst, arith}
use Rattle.std.specs.Option.{unwrap_or}
use Rattle.std.specs.Prelude.{if◌then◌else◌}
use Rattle.std.specs.Str.{bytes_eq}
use Rattle.std.proofs.lemmas.Bool.{ltb-false}
use Rattle.std.proofs.lemmas.Slice.Eq.{bytes_eq-Decides}
use Rattle.tt_base.specs.Answers.{and_then}
use Rattle.tt_base.specs.declared.edits.TextEdit.{TextEdit}
use Rattle.delta.specs.Cells.{Cells, base_length, applied, inserting, inserts, deleting, keeping, changes_nothing}
use Rattle.delta.specs.Cells as cells
use Rattle.delta.specs.Marks.{composed}
use Rattle.delta.proofs.ApplyLemmas.{applied-replacing_all}
use Rattle.delta.proofs.CellsLemmas.{base_length-covers, base_length-inserts}
use Rattle.delta.proofs.ComposedLemmas.{base_length-composed}
use Rattle.transform.specs.Carried.{IsChain, chain_end}
use Rattle.transform.proofs.ChainLemmas.{applied_all-take-drop, length-applied_all}
use Rattle.transform.proofs.MergedLemmas.{base_length-past_list}
use Rattle.text_position.specs.Edits.{delta_of_edit, with_edits, delta_of_edits}
use Rattle.text_position.specs.declared.faults.EditsFault.{EditsFault}
use Rattle.editor_bridge.specs.Faults.{revision_fault}
use Rattle.editor_bridge.specs.Link.{Link, issued, daemon_text, editor_text, unshown, with_pushed, with_edit, carried_edit}
use Rattle.editor_bridge.specs.declared.faults.BridgeFault.{BridgeFault}
use Rattle.editor_bridge.specs.Link.{first_deltas, replacement_unless}
use Rattle.file_uri.specs.PathOf.{path_of}
use Rattle.file_uri.specs.declared.faults.UriFault.{UriFault}
use Rattle.rpc_message.specs.declared.messages.FromEditor.{FromEditor}
use Rattle.rpc_message.specs.declared.messages.FromEditor.TheVariants.{Open, Close, Edit, Cursor, Shutdown, Response}
use Rattle.rpc_message.specs.declared.refusals.Refusal.TheVariants.{TextTooLong}
use Rattle.daemon_core.specs.History.{History, view_at, text_at, made}
use Rattle.daemon_core.specs.Laws.{IsLinked}
use Rattle.daemon_core.specs.Outcome.{LinkEvent, Stays, Opened, Taken, Gone, Success, Effect, Outcome, answers, effects_of, opened_link, own_links, told_links}
use Rattle.daemon_core.specs.Refusing.{Refused, ◌>>=◌, unless_bad_uri, open_link, no_link, unless_bad_revision, text_shown, unless_bad_edits, may_grow}
use Rattle.daemon_core.specs.Serving.{with_change, changed, opening, on_open, on_edit, on_close, on_message, or_refusal}
use Rattle.daemon_core.specs.State.{Links, State, links_of, link_of}
use Rattle.daemon_core.proofs.FileLemmas.{is_path_itself, text_made, is_there}
use Rattle.daemon_core.proofs.LinkLemmas.{linked_told, linked_elsewhere, linked_untold, linked_took, MayTake, chain_left}
use Rattle.daemon_core.proofs.StepLemmas.{AllLinked, IsSound, IsChange, Quiet, Made, gone_linked, opened_linked, changed_linked}

-- a message that changes no text
quiet_sound : (s : State) (n : ℕ) (o : Outcome) → o.history ≡ s.history → o.effects ≡ []
    → AllLinked s.history (own_links o.own (links_of s n)) → IsSound s n o
quiet_sound s n o same untold own = record {
  own = subst (λ h. AllLinked h (own_links o.own (links_of s n))) (sym same) own;
  change = Quiet same untold;
}

-- a change of a text, told to all links of other connections
told_sound : (s : State) (path : List ℕ) (d : Cells) → base_length d ≡ length (text_at s.history path)
    → (links : Links) → AllLinked s.history links → AllLinked (made s.history path d) (told_links (effects_of path d) links)
told_sound s path d fits links h = by (changes_nothing d) refl where
  by : (b : Bool) → changes_nothing d ≡ b
      → AllLinked (made s.history path d) (told_links (if b then [] else record { path = path; delta = d } ∷ []) links)
  by true nothing = λ other link found. linked_untold s.history path d other link (h other link found) nothing fits
  by false some =
      changed_linked s.history (made s.history path d) path (with_pushed d) links h
      (λ link found l. linked_told s.history path d path link l (is_path_itself path) fits)
      (λ other link apart l. linked_elsewhere s.history path d other link l apart)

-- whatever an outcome changes, the links that it tells are as they should be
pub told_all : (s : State) (o : Outcome) → IsChange s o → (links : Links) → AllLinked s.history links
    → AllLinked o.history (told_links o.effects links)
told_all s o (Quiet same untold) links h =
    subst (λ history. AllLinked history (told_links o.effects links)) (sym same)
    (subst (λ (es : List Effect). AllLinked s.history (told_links es links)) (sym untold) h)
told_all s o (Made path d fits same effects) links h =
    subst (λ history. AllLinked history (told_links o.effects links)) (sym same)
    (subst (λ (es : List Effect). AllLinked (made s.history path d) (told_links es links)) (sym effects) (told_sound s path d fits links h))

-- what follows an open at once leads from its content to the daemon's text
opened_here : (history : History) (path content view : List ℕ) → is_some (view_at history path) ≡ true → view ≡ text_at history path
    → IsLinked history path (opened_link content (first_deltas content view))
opened_here history path content view there is = by (bytes_eq content view) refl where
  by : (b : Bool) → bytes_eq content view ≡ b → IsLinked history path (opened_link content (replacement_unless b content view))
  by true same = record {
    there = there;
    text = (bytes_eq-Decides content view).0 same ∙ is;
    chain = tt;
    issued = omega arith;
    taken = omega arith;
  }
  by false differs = record {
    there = there;
    text = applied-replacing_all view (length content) content refl ∙ is;
    chain = (omega (arith, base_length-inserts view (deleting (length content)), base_length-covers false (length content) cells.nothing), tt);
    issued = omega arith;
    taken = omega arith;
  }

-- the delta of edits is for their text
base_length-with_edits : (index : ℕ) (text : List ℕ) (so_far d : Cells) (edits : List TextEdit)
    → with_edits index text so_far edits ≡ Ok d → base_length d ≡ base_length so_far
base_length-with_edits index text so_far d [] e = let same : so_far ≡ d = cc in ap base_length (sym same)
base_length-with_edits index text so_far d (edit ∷ edits) e =
    by (delta_of_edit index (applied so_far text) edit) e (λ x. base_length-with_edits (index + 1) text (composed so_far x) d edits) where
      by : (r : Result Cells EditsFault) → and_then r (λ x. with_edits (index + 1) text (composed so_far x) edits) ≡ Ok d
          → ((x : Cells) → with_edits (index + 1) text (composed so_far x) edits ≡ Ok d → base_length d ≡ base_length (composed so_far x))
          → base_length d ≡ base_length so_far
      by (Err fault) e later = cc
      by (Ok x) e later = later x e ∙ base_length-composed so_far x

delta_fits : (text : List ℕ) (edits : List TextEdit) (d : Cells) → delta_of_edits text edits ≡ Ok d → base_length d ≡ length text
delta_fits text edits d e =
    base_length-with_edits 0 text (keeping (length text)) d edits e ∙ omega (arith, base_length-covers true (length text) cells.nothing)

-- the revision is one that the link knows
pub record IsKnown (l : Link) (seen : ℕ) : Type 0 where
  pub confirmed : l.confirmed ≤ seen
  pub given : seen ≤ issued l

known_revision : (l : Link) (seen : ℕ) → revision_fault seen l ≡ None → IsKnown l seen
known_revision l seen e = by (nat_lt (issued l) seen) refl (nat_lt seen l.confirmed) refl e where
  by : (a : Bool) → nat_lt (issued l) seen ≡ a → (b : Bool) → nat_lt seen l.confirmed ≡ b → revision_fault seen l ≡ None → IsKnown l seen
  by false ahead false back e = record { confirmed = ltb-false seen l.confirmed back; given = ltb-false (issued l) seen ahead }
  by true ahead b back e = cc
  by false ahead true back e = cc

-- what an edit is in the daemon's text is for that text
carried_fits : (l : Link) (seen : ℕ) (p : Cells) → IsChain (length l.base) l.unconfirmed → MayTake l seen p
    → base_length (carried_edit seen p l) ≡ length (daemon_text l)
carried_fits l seen p chain can =
    let shown : List ℕ = editor_text seen l in
    let left : IsChain (base_length p) (unshown seen l) = chain_left l seen p chain can in
    base_length-past_list p (unshown seen l) left
    ∙ ap (λ k. chain_end k (unshown seen l)) can.fits
    ∙ sym (length-applied_all (unshown seen l) shown (subst (λ k. IsChain k (unshown seen l)) can.fits left))
    ∙ ap length (applied_all-take-drop (seen - l.confirmed) l.unconfirmed l.base)

-- ---- the messages, each through its refusals in their order

refused_sound : (s : State) (n : ℕ) (refused : Refused) → AllLinked s.history (own_links refused.own (links_of s n))
    → IsSound s n (or_refusal s (Err refused))
refused_sound s n refused own = quiet_sound s n (or_refusal s (Err refused)) refl refl own

pub stays_sound : (s : State) (n : ℕ) (o : Outcome) → o.history ≡ s.history → o.effects ≡ [] → o.own ≡ Stays
    → AllLinked s.history (links_of s n) → IsSound s n o
stays_sound s n o same untold stays h =
    quiet_sound s n o same untold (subst (λ own. AllLinked s.history (own_links own (links_of s n))) (sym stays) h)

-- one change, or that the text would be too long
changed_sound : (s : State) (n : ℕ) (path : List ℕ) (d : Cells) (own if_refused : LinkEvent) → base_length d ≡ length (text_at s.history path)
    → AllLinked (made s.history path d) (own_links own (links_of s n)) → AllLinked s.history (own_links if_refused (links_of s n))
    → IsSound s n (or_refusal s (changed s path d own if_refused))
changed_sound s n path d own if_refused fits taken refused =
    by (may_grow (length (text_at s.history path)) (length (applied d (text_at s.history path)))) where
      by : (b : Bool)
          → IsSound s n
          (or_refusal s
          (if b then Ok (with_change s path d own)
          else Err (record { refusal = TextTooLong (length (applied d (text_at s.history path))); own = if_refused })))
      by true = record { own = taken; change = Made path d fits refl refl }
      by false = refused_sound s n _ refused

-- a file is opened, by the text that it has or as a new one
pub opening_sound : (s : State) (n : ℕ) (path content : List ℕ) → AllLinked s.history (links_of s n)
    → IsSound s n (or_refusal s (opening s path content (view_at s.history path)))
opening_sound s n path content h = by_view path (view_at s.history path) refl where
  by_view : (path : List ℕ) (view : Option (List ℕ)) → view_at s.history path ≡ view
      → IsSound s n (or_refusal s (opening s path content view))
  by_view path (Some view) is =
      quiet_sound s n _ refl refl
      (opened_linked s.history path (opened_link content (first_deltas content view)) (links_of s n)
      (opened_here s.history path content view (ap is_some is) (sym (ap (λ (v : Option (List ℕ)). unwrap_or v []) is)))
      (λ other link apart found. h other link found))
  by_view path None is =
      let empty : text_at s.history path ≡ [] = ap (λ (v : Option (List ℕ)). unwrap_or v []) is in
      let fits : base_length (inserting content) ≡ length (text_at s.history path) = sym (ap length empty) in
      changed_sound s n path (inserting content) (Opened path content []) Stays fits
      (opened_linked (made s.history path (inserting content)) path (opened_link content []) (links_of s n)
      (record {
        there = is_there s.history path (inserting content);
        text = sym (text_made s.history path (inserting content) ∙ ap (applied (inserting content)) empty);
        chain = tt;
        issued = omega arith;
        taken = omega arith;
      })
      (λ other link apart found. linked_elsewhere s.history path (inserting content) other link (h other link found) apart))
      h

open_sound : (s : State) (n : ℕ) (uri content : List ℕ) → AllLinked s.history (links_of s n)
    → IsSound s n (or_refusal s (on_open s n uri content))
open_sound s n uri content h = by_path (path_of s.base uri) where
  by_link : (path : List ℕ) (link : Option Link)
      → IsSound s n (or_refusal s (no_link link >>= λ free. opening s path content (view_at s.history path)))
  by_link path (Some link) = refused_sound s n _ h
  by_link path None = opening_sound s n path content h

  by_path : (r : Result (List ℕ) UriFault)
      → IsSound s n
      (or_refusal s
      (unless_bad_uri r >>= λ path. no_link (link_of s n path) >>= λ free. opening s path content (view_at s.history path)))
  by_path (Err fault) = refused_sound s n _ h
  by_path (Ok path) = by_link path (link_of s n path)

close_sound : (s : State) (n : ℕ) (uri : List ℕ) → AllLinked s.history (links_of s n)
    → IsSound s n (or_refusal s (on_close s n uri))
close_sound s n uri h = by_path (path_of s.base uri) where
  by_link : (path : List ℕ) (link : Option Link)
      → IsSound s n (or_refusal s (open_link link >>= λ l. Ok (record (answers s Success) { own = Gone path })))
  by_link path None = refused_sound s n _ h
  by_link path (Some link) = quiet_sound s n _ refl refl (gone_linked s.history path (links_of s n) h)

  by_path : (r : Result (List ℕ) UriFault)
      → IsSound s n
      (or_refusal s
      (unless_bad_uri r >>= λ path. open_link (link_of s n path) >>= λ l. Ok (record (answers s Success) { own = Gone path })))
  by_path (Err fault) = refused_sound s n _ h
  by_path (Ok path) = by_link path (link_of s n path)

-- an edit that its link can take
taken_sound : (s : State) (n : ℕ) (path : List ℕ) (seen : ℕ) (link : Link) (p : Cells) → AllLinked s.history (links_of s n)
    → link_of s n path ≡ Some link → MayTake link seen p
    → IsSound s n (or_refusal s (changed s path (carried_edit seen p link) (Taken path seen p) (Gone path)))
taken_sound s n path seen link p h is can =
    let here : IsLinked s.history path link = h path link is in
    changed_sound s n path (carried_edit seen p link) (Taken path seen p) (Gone path)
    (carried_fits link seen p here.chain can ∙ ap length here.text)
    (changed_linked s.history (made s.history path (carried_edit seen p link)) path (with_edit seen p) (links_of s n) h
    (λ l found linked.
    let one : Some l ≡ Some link = sym found ∙ is in
    let same : l ≡ link = cc in
    subst (λ m. IsLinked (made s.history path (carried_edit seen p link)) path (with_edit seen p m)) (sym same)
    (linked_took s.history path seen p path link here (is_path_itself path) can))
    (λ other l apart linked. linked_elsewhere s.history path (carried_edit seen p link) other l linked apart))
    (gone_linked s.history path (links_of s n) h)

edit_sound : (s : State) (n : ℕ) (uri : List ℕ) (seen : ℕ) (edits : List TextEdit) → AllLinked s.history (links_of s n)
    → IsSound s n (or_refusal s (on_edit s n uri seen edits))
edit_sound s n uri seen edits h = by_path (path_of s.base uri) where
  by_edits : (path : List ℕ) (link : Link) → link_of s n path ≡ Some link → revision_fault seen link ≡ None
      → (r : Result Cells EditsFault) → delta_of_edits (editor_text seen link) edits ≡ r
      → IsSound s n
      (or_refusal s (unless_bad_edits path r >>= λ edit. changed s path (carried_edit seen edit link) (Taken path seen edit) (Gone path)))
  by_edits path link is known (Err fault) gives = refused_sound s n _ (gone_linked s.history path (links_of s n) h)
  by_edits path link is known (Ok p) gives =
      let revision = known_revision link seen known in
      taken_sound s n path seen link p h is
      (record {
        confirmed = revision.confirmed;
        given = revision.given;
        fits = delta_fits (editor_text seen link) edits p gives;
      })

  by_revision : (path : List ℕ) (link : Link) → link_of s n path ≡ Some link
      → (fault : Option BridgeFault) → revision_fault seen link ≡ fault
      → IsSound s n
      (or_refusal s
      (unless_bad_revision fault path seen link
      >>= λ text. unless_bad_edits path (delta_of_edits text edits)
      >>= λ edit. changed s path (carried_edit seen edit link) (Taken path seen edit) (Gone path)))
  by_revision path link is (Some fault) known = refused_sound s n _ (gone_linked s.history path (links_of s n) h)
  by_revision path link is None known = by_edits path link is known (delta_of_edits (editor_text seen link) edits) refl

  by_link : (path : List ℕ) (link : Option Link) → link_of s n path ≡ link
      → IsSound s n
      (or_refusal s
      (open_link link
      >>= λ l. text_shown path seen l
      >>= λ text. unless_bad_edits path (delta_of_edits text edits)
      >>= λ edit. changed s path (carried_edit seen edit l) (Taken path seen edit) (Gone path)))
  by_link path None is = refused_sound s n _ h
  by_link path (Some link) is = by_revision path link is (revision_fault seen link) refl

  by_path : (r : Result (List ℕ) UriFault)
      → IsSound s n
      (or_refusal s
      (unless_bad_uri r
      >>= λ path. open_link (link_of s n path)
      >>= λ l. text_shown path seen l
      >>= λ text. unless_bad_edits path (delta_of_edits text edits)
      >>= λ edit. changed s path (carried_edit seen edit l) (Taken path seen edit) (Gone path)))
  by_path (Err fault) = refused_sound s n _ h
  by_path (Ok path) = by_link path (link_of s n path) refl

pub message_sound : (s : State) (n : ℕ) (message : FromEditor) → AllLinked s.history (links_of s n)
    → IsSound s n (or_refusal s (on_message s n message))
message_sound s n (Open uri content) h = open_sound s n uri content h
message_sound s n (Close uri) h = close_sound s n uri h
message_sound s n (Edit uri revision edits) h = edit_sound s n uri revision edits h
message_sound s n (Cursor uri ranges) h = stays_sound s n _ refl refl refl h
message_sound s n Shutdown h = stays_sound s n _ refl refl refl h
message_sound s n Response h = stays_sound s n _ refl refl refl h
