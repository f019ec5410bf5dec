-- Whatever a message comes to, a daemon goes on to serve.
use Rattle.std.proofs.Common.{◌≡◌, ℕ, ◌-◌, ◌<◌, ◌^◌, Bool, true, false, List, [], length, Option, Some, None, Result, Ok, Err, nat_lt, nat_le, ◌||◌, refl, sym, ap, ◌∙◌, subst, arith}
use Rattle.std.specs.List.{AllByRecursion}
use Rattle.std.specs.Option.{unwrap_or}
use Rattle.std.specs.Prelude.{if◌then◌else◌}
use Rattle.std.specs.Str.{bytes_eq, all_scalars}
use Rattle.std.proofs.lemmas.Bool.{ltb-false}
use Rattle.std.proofs.lemmas.Bool.Decides.{nat_tests}
use Rattle.std.proofs.lemmas.Slice.Eq.{bytes_eq-Decides}
use Rattle.tt_base.specs.declared.edits.TextEdit.{TextEdit}
use Rattle.change_codec.specs.WellFormed.{IsPath}
use Rattle.delta.specs.Cells.{Cells, base_length, applied, inserting, inserts, deleting, IsNormal}
use Rattle.delta.specs.Cells as cells
use Rattle.delta.proofs.ApplyLemmas.{applied-replacing_all}
use Rattle.delta.proofs.CellsLemmas.{base_length-covers, base_length-inserts}
use Rattle.transform.specs.Carried.{IsChain, chain_end}
use Rattle.transform.proofs.ChainLemmas.{applied_all-take-drop, length-applied_all}
use Rattle.transform.proofs.MergedLemmas.{base_length-past_list}
use Rattle.text_position.specs.Edits.{delta_of_edits}
use Rattle.text_position.specs.declared.faults.EditsFault.{EditsFault}
use Rattle.editor_bridge.specs.Faults.{revision_fault}
use Rattle.editor_bridge.specs.Link.{Link, issued, daemon_text, editor_text, unshown, with_edit, carried_edit, first_deltas, replacement_unless}
use Rattle.editor_bridge.specs.declared.faults.BridgeFault.{BridgeFault}
use Rattle.editor_texts.specs.Scalars.{ReplacesByScalars, SaysScalars}
use Rattle.editor_texts.proofs.ComposedScalars.{edits_scalars}
use Rattle.editor_texts.proofs.DeltaScalars.{carried_edit_scalars}
use Rattle.editor_texts.proofs.EditLemmas.{edits_normal, edits_fit, carried_edit_normal, path_named}
use Rattle.file_uri.specs.PathOf.{path_of}
use Rattle.file_uri.specs.declared.faults.UriFault.{UriFault}
use Rattle.rpc_message.specs.declared.messages.FromEditor.{FromEditor}
use Rattle.rpc_message.specs.declared.messages.FromEditor.TheVariants.{Open, Close, Edit, Cursor, Shutdown, Response}
use Rattle.rpc_message.specs.declared.refusals.Refusal.TheVariants.{TextTooLong}
use Rattle.daemon_core.specs.declared.TheConstants.{LONGEST_TEXT}
use Rattle.daemon_core.specs.Outcome.{LinkEvent, Stays, Opened, Taken, Gone, Success, Effect, opened_link, own_links}
use Rattle.daemon_core.specs.Refusing.{Step, Refused, ◌>>=◌, unless_bad_uri, open_link, no_link, unless_bad_revision, text_shown, unless_bad_edits, may_grow}
use Rattle.daemon_core.proofs.FileLemmas.{is_path_itself}
use Rattle.daemon_core.proofs.LinkLemmas.{MayTake, chain_left}
use Rattle.daemon_core.proofs.MessageLemmas.{IsKnown}
use Rattle.daemon_history.specs.Bounds.{InsertsScalars}
use Rattle.daemon_history.specs.Holding.{Holding, view_at, text_at, held}
use Rattle.daemon_history.specs.Making.{Clash, making}
use Rattle.daemon_events.specs.Laws.{IsLinked}
use Rattle.daemon_events.specs.Serving.{desk_of, noted, unless_clash, made, effects_if, done, carried_out, on_message, or_refusal}
use Rattle.daemon_events.specs.Wanting.{Wanted, text_on, asks, changing, unless_long, opening, wanted}
use Rattle.daemon_events.specs.State.{State, links_of, link_of}
use Rattle.daemon_events.proofs.HoldingLemmas.{IsSteady, ChangesText, KeepsTexts, CanChange, keeps_all, read_text, noted_keeps, opening_steady, opening_changes, made_changes, made_steady}
use Rattle.daemon_events.proofs.LinkLemmas.{linked_elsewhere, linked_took}
use Rattle.daemon_events.proofs.OpenLemmas.{gone_open, new_open, changed_open}
use Rattle.daemon_events.proofs.StepLemmas.{AllLinked, IsSound, Made, all_kept, quiet_sound}

-- what follows an open at once leads from its content to the daemon's text
opened_here : (h : Holding) (path content view : List ℕ) → view ≡ text_at h path → IsLinked h path (opened_link content (first_deltas content view))
opened_here h path content view is = by (bytes_eq content view) refl where
  by : (b : Bool) → bytes_eq content view ≡ b → IsLinked h path (opened_link content (replacement_unless b content view))
  by true same = record {
    text = (bytes_eq-Decides content view).0 same ∙ is;
    chain = tt;
    issued = omega arith;
    taken = omega arith;
  }
  by false differs = record {
    text = applied-replacing_all view (length content) content refl ∙ is;
    chain = (omega (arith, base_length-inserts view (deleting (length content)), base_length-covers false (length content) cells.nothing), tt);
    issued = omega arith;
    taken = omega arith;
  }

known_revision : (l : Link) (seen : ℕ) → revision_fault seen l ≡ None → IsKnown l seen
known_revision l seen e = by (nat_lt (issued l) seen) refl (nat_lt seen l.confirmed) refl e where
  by : (a : Bool) → nat_lt (issued l) seen ≡ a → (b : Bool) → nat_lt seen l.confirmed ≡ b → revision_fault seen l ≡ None → IsKnown l seen
  by false ahead false back e = record { confirmed = ltb-false seen l.confirmed back; given = ltb-false (issued l) seen ahead }
  by true ahead b back e = cc
  by false ahead true back e = cc

-- what an edit is in the daemon's text is for that text
carried_fits : (l : Link) (seen : ℕ) (p : Cells) → IsChain (length l.base) l.unconfirmed → MayTake l seen p
    → base_length (carried_edit seen p l) ≡ length (daemon_text l)
carried_fits l seen p chain can =
    let shown : List ℕ = editor_text seen l in
    let left : IsChain (base_length p) (unshown seen l) = chain_left l seen p chain can in
    base_length-past_list p (unshown seen l) left
    ∙ ap (λ k. chain_end k (unshown seen l)) can.fits
    ∙ sym (length-applied_all (unshown seen l) shown (subst (λ k. IsChain k (unshown seen l)) can.fits left))
    ∙ ap length (applied_all-take-drop (seen - l.confirmed) l.unconfirmed l.base)

-- a text that may grow so is within the bound of every text
grown_short : (before after : ℕ) → before < 2 ^ 62 → may_grow before after ≡ true → after < 2 ^ 62
grown_short before after short grows =
    by (nat_le after LONGEST_TEXT) refl (nat_le after before) refl grows where
      by : (a : Bool) → nat_le after LONGEST_TEXT ≡ a → (b : Bool) → nat_le after before ≡ b → (a || b) ≡ true → after < 2 ^ 62
      by true limit b smaller grows = grind (arith, nat_tests)
      by false limit true smaller grows = grind (arith, nat_tests)
      by false limit false smaller grows = cc

-- ---- the messages, each through its refusals in their order

module _ (s : State) (n : ℕ) (steady : IsSteady s.holding) (few : held s.holding < 2 ^ 63) (h : AllLinked s.holding (links_of s n)) where
  -- a change that can be made, with what it leaves of the links of its own connection, and what is left of them where it is refused
  pub record CanBeDone (w : Wanted) (change : Effect) : Type 0 where
    pub can : CanChange s.holding change.path change.delta
    pub own : (after : Holding) → ChangesText s.holding change.path change.delta after → AllLinked after (own_links w.own (links_of s n))
    pub refused : AllLinked s.holding (own_links w.if_refused (links_of s n))

  abbrev pub IsSoundlyWanted : Wanted → Option Effect → Type 0
  IsSoundlyWanted w None = AllLinked s.holding (own_links w.own (links_of s n))
  IsSoundlyWanted w (Some change) = CanBeDone w change

  -- what a message asks for can be done, and links are as they should be whether it is done or refused
  abbrev pub WantsSoundly : Step Wanted → Type 0
  WantsSoundly (Ok w) = IsSoundlyWanted w w.change
  WantsSoundly (Err refused) = AllLinked s.holding (own_links refused.own (links_of s n))

  -- a delta that a change may be made for, where the text does not grow too long
  record CanEdit (path : List ℕ) (d : Cells) : Type 0 where
    path_is : IsPath path
    fits : base_length d ≡ length (text_at s.holding path)
    normal : IsNormal d
    scalars : InsertsScalars d

  -- one change, or that the text would be too long
  changed_wanted : (path before : List ℕ) (d : Cells) (own if_refused : LinkEvent) (opens : Option (List ℕ)) → before ≡ text_at s.holding path → CanEdit path d
      → ((after : Holding) → ChangesText s.holding path d after → AllLinked after (own_links own (links_of s n)))
      → AllLinked s.holding (own_links if_refused (links_of s n))
      → WantsSoundly (unless_long before d if_refused >>= λ e. Ok (record (changing path e own if_refused) { opens = opens }))
  changed_wanted path before d own if_refused opens here can taken refused =
      by (may_grow (length before) (length (applied d before))) refl where
        by : (b : Bool) → may_grow (length before) (length (applied d before)) ≡ b
            → WantsSoundly
            ((if b then Ok d else Err (record { refusal = TextTooLong (length (applied d before)); own = if_refused }))
            >>= λ e. Ok (record (changing path e own if_refused) { opens = opens }))
        by false grows = refused
        by true grows = record {
          can = record {
            steady = steady;
            few = few;
            path_is = can.path_is;
            fits = can.fits;
            normal = can.normal;
            scalars = can.scalars;
            short =
                subst (λ (text : List ℕ). length (applied d text) < 2 ^ 62) here
                (grown_short (length before) (length (applied d before))
                (subst (λ (text : List ℕ). length text < 2 ^ 62) (sym here) (steady.short path)) grows);
          };
          own = taken;
          refused = refused;
        }

  -- a file is opened, by the text that it has or as a new one
  opening_wanted : (path content : List ℕ) → IsPath path → all_scalars content ≡ true
      → WantsSoundly (opening path content (view_at s.holding path))
  opening_wanted path content path_is scalars = by_view (view_at s.holding path) refl where
    shown : (view : Option (List ℕ)) → view_at s.holding path ≡ view → text_at s.holding path ≡ unwrap_or view []
    shown view is = read_text s.holding path ∙ ap (λ (v : Option (List ℕ)). unwrap_or v []) is

    by_view : (view : Option (List ℕ)) → view_at s.holding path ≡ view → WantsSoundly (opening path content view)
    by_view (Some view) is =
        new_open (IsLinked s.holding) path (opened_link content (first_deltas content view)) (links_of s n)
        (opened_here s.holding path content view (sym (shown (Some view) is)))
        (λ other link apart found. h other link found)
    by_view None is =
        let empty : text_at s.holding path ≡ [] = shown None is in
        changed_wanted path [] (inserting content) (Opened path content []) Stays (Some path) (sym empty)
        (record { path_is = path_is; fits = sym (ap length empty); normal = tt; scalars = scalars })
        (λ after changes. new_open (IsLinked after) path (opened_link content []) (links_of s n)
        (record {
          text = sym (changes.text ∙ ap (applied (inserting content)) empty);
          chain = tt;
          issued = omega arith;
          taken = omega arith;
        })
        (λ other link apart found. linked_elsewhere s.holding path (inserting content) after changes other link (h other link found) apart))
        h

  open_wanted : (uri content : List ℕ) → all_scalars content ≡ true → WantsSoundly (wanted (desk_of s n) (Open uri content))
  open_wanted uri content scalars = by_path (path_of s.base uri) refl where
    by_link : (path : List ℕ) → IsPath path → (link : Option Link)
        → WantsSoundly (no_link link >>= λ free. opening path content (view_at s.holding path))
    by_link path path_is (Some link) = h
    by_link path path_is None = opening_wanted path content path_is scalars

    by_path : (r : Result (List ℕ) UriFault) → path_of s.base uri ≡ r
        → WantsSoundly (unless_bad_uri r >>= λ path. no_link (link_of s n path) >>= λ free. opening path content (view_at s.holding path))
    by_path (Err fault) is = h
    by_path (Ok path) is = by_link path (path_named s.base uri path is) (link_of s n path)

  close_wanted : (uri : List ℕ) → WantsSoundly (wanted (desk_of s n) (Close uri))
  close_wanted uri = by_path (path_of s.base uri) where
    by_link : (path : List ℕ) (link : Option Link)
        → WantsSoundly (open_link link >>= λ l. Ok (record (asks Success) { own = Gone path }))
    by_link path None = h
    by_link path (Some link) = gone_open (IsLinked s.holding) path (links_of s n) h

    by_path : (r : Result (List ℕ) UriFault)
        → WantsSoundly (unless_bad_uri r >>= λ path. open_link (link_of s n path) >>= λ l. Ok (record (asks Success) { own = Gone path }))
    by_path (Err fault) = h
    by_path (Ok path) = by_link path (link_of s n path)

  -- an edit that its link can take
  taken_wanted : (path : List ℕ) (seen : ℕ) (link : Link) (p : Cells) → IsPath path → link_of s n path ≡ Some link → MayTake link seen p
      → IsNormal p → InsertsScalars p
      → WantsSoundly
      (unless_long (text_on (desk_of s n) path) (carried_edit seen p link) (Gone path) >>= λ d. Ok (changing path d (Taken path seen p) (Gone path)))
  taken_wanted path seen link p path_is is can normal scalars =
      let here : IsLinked s.holding path link = h path link is in
      changed_wanted path (text_on (desk_of s n) path) (carried_edit seen p link) (Taken path seen p) (Gone path) None (sym (read_text s.holding path))
      (record {
        path_is = path_is;
        fits = carried_fits link seen p here.chain can ∙ ap length here.text;
        normal = carried_edit_normal seen p link normal;
        scalars = carried_edit_scalars seen p link scalars;
      })
      (λ after changes. changed_open (IsLinked s.holding) (IsLinked after) path (with_edit seen p) (links_of s n) h
      (λ l found linked.
      let one : Some l ≡ Some link = sym found ∙ is in
      let same : l ≡ link = cc in
      subst (λ m. IsLinked after path (with_edit seen p m)) (sym same)
      (linked_took s.holding path seen p link after changes path here (is_path_itself path) can))
      (λ other l apart linked. linked_elsewhere s.holding path (carried_edit seen p link) after changes other l linked apart))
      (gone_open (IsLinked s.holding) path (links_of s n) h)

  edit_wanted : (uri : List ℕ) (seen : ℕ) (edits : List TextEdit) → AllByRecursion ReplacesByScalars edits
      → WantsSoundly (wanted (desk_of s n) (Edit uri seen edits))
  edit_wanted uri seen edits scalars = by_path (path_of s.base uri) refl where
    by_edits : (path : List ℕ) (link : Link) → IsPath path → link_of s n path ≡ Some link → revision_fault seen link ≡ None
        → (r : Result Cells EditsFault) → delta_of_edits (editor_text seen link) edits ≡ r
        → WantsSoundly
        (unless_bad_edits path r
        >>= λ edit. unless_long (text_on (desk_of s n) path) (carried_edit seen edit link) (Gone path)
        >>= λ d. Ok (changing path d (Taken path seen edit) (Gone path)))
    by_edits path link path_is is known (Err fault) gives = gone_open (IsLinked s.holding) path (links_of s n) h
    by_edits path link path_is is known (Ok p) gives =
        let revision = known_revision link seen known in
        taken_wanted path seen link p path_is is
        (record {
          confirmed = revision.confirmed;
          given = revision.given;
          fits = edits_fit (editor_text seen link) edits p gives;
        })
        (edits_normal (editor_text seen link) edits p gives)
        (edits_scalars (editor_text seen link) edits p scalars gives)

    by_revision : (path : List ℕ) (link : Link) → IsPath path → link_of s n path ≡ Some link
        → (fault : Option BridgeFault) → revision_fault seen link ≡ fault
        → WantsSoundly
        (unless_bad_revision fault path seen link
        >>= λ text. unless_bad_edits path (delta_of_edits text edits)
        >>= λ edit. unless_long (text_on (desk_of s n) path) (carried_edit seen edit link) (Gone path)
        >>= λ d. Ok (changing path d (Taken path seen edit) (Gone path)))
    by_revision path link path_is is (Some fault) known = gone_open (IsLinked s.holding) path (links_of s n) h
    by_revision path link path_is is None known = by_edits path link path_is is known (delta_of_edits (editor_text seen link) edits) refl

    by_link : (path : List ℕ) (link : Option Link) → IsPath path → link_of s n path ≡ link
        → WantsSoundly
        (open_link link
        >>= λ l. text_shown path seen l
        >>= λ text. unless_bad_edits path (delta_of_edits text edits)
        >>= λ edit. unless_long (text_on (desk_of s n) path) (carried_edit seen edit l) (Gone path)
        >>= λ d. Ok (changing path d (Taken path seen edit) (Gone path)))
    by_link path None path_is is = h
    by_link path (Some link) path_is is = by_revision path link path_is is (revision_fault seen link) refl

    by_path : (r : Result (List ℕ) UriFault) → path_of s.base uri ≡ r
        → WantsSoundly
        (unless_bad_uri r
        >>= λ path. open_link (link_of s n path)
        >>= λ l. text_shown path seen l
        >>= λ text. unless_bad_edits path (delta_of_edits text edits)
        >>= λ edit. unless_long (text_on (desk_of s n) path) (carried_edit seen edit l) (Gone path)
        >>= λ d. Ok (changing path d (Taken path seen edit) (Gone path)))
    by_path (Err fault) is = h
    by_path (Ok path) is = by_link path (link_of s n path) (path_named s.base uri path is) refl

  pub message_wanted : (message : FromEditor) → SaysScalars message → WantsSoundly (wanted (desk_of s n) message)
  message_wanted (Open uri content) says = open_wanted uri content says
  message_wanted (Close uri) says = close_wanted uri
  message_wanted (Edit uri revision edits) says = edit_wanted uri revision edits says
  message_wanted (Cursor uri ranges) says = h
  message_wanted Shutdown says = h
  message_wanted Response says = h

  -- ---- what is asked for is done, or a change has the name of another

  refused_sound : (refused : Refused) → AllLinked s.holding (own_links refused.own (links_of s n)) → IsSound s n (or_refusal s (Err refused))
  refused_sound refused own = quiet_sound s n (or_refusal s (Err refused)) (keeps_all s.holding) refl steady own

  -- the note that follows keeps what links see
  noted_changes : (opens : Option (List ℕ)) (path : List ℕ) (d : Cells) (after : Holding) → ChangesText s.holding path d after
      → ChangesText s.holding path d (noted opens after)
  noted_changes None path d after changes = changes
  noted_changes (Some opened) path d after changes = opening_changes s.holding path d opened after changes

  noted_steady : (opens : Option (List ℕ)) (after : Holding) → IsSteady after → IsSteady (noted opens after)
  noted_steady None after is = is
  noted_steady (Some opened) after is = opening_steady after opened is

  made_sound : (w : Wanted) (change : Effect) → w.change ≡ Some change → CanBeDone w change
      → (r : Result Holding Clash) → making s.holding change.path change.delta ≡ r
      → IsSound s n (or_refusal s (unless_clash w.if_refused r >>= λ after. Ok (done s w after)))
  made_sound w change is sound (Err clash) makes = refused_sound _ sound.refused
  made_sound w change is sound (Ok after) makes =
      let changes : ChangesText s.holding change.path change.delta (noted w.opens after) =
      noted_changes w.opens change.path change.delta after (made_changes s.holding after change.path change.delta sound.can makes) in
      record {
        steady = noted_steady w.opens after (made_steady s.holding after change.path change.delta sound.can makes);
        own = sound.own (noted w.opens after) changes;
        change = Made change.path change.delta sound.can.fits changes (ap effects_if is);
      }

  done_sound : (w : Wanted) (change : Option Effect) → w.change ≡ change → IsSoundlyWanted w change
      → IsSound s n (or_refusal s (made s w.if_refused change >>= λ after. Ok (done s w after)))
  done_sound w None is own =
      let kept : KeepsTexts s.holding (noted w.opens s.holding) = noted_keeps w.opens s.holding in
      quiet_sound s n _ kept (ap effects_if is) (noted_steady w.opens s.holding steady)
      (all_kept s.holding (noted w.opens s.holding) (own_links w.own (links_of s n)) kept own)
  done_sound w (Some change) is sound = made_sound w change is sound (making s.holding change.path change.delta) refl

  wanted_sound : (r : Step Wanted) → WantsSoundly r → IsSound s n (or_refusal s (r >>= carried_out s))
  wanted_sound (Ok w) sound = done_sound w w.change refl sound
  wanted_sound (Err refused) sound = refused_sound refused sound

  pub message_sound : (message : FromEditor) → SaysScalars message → IsSound s n (or_refusal s (on_message s n message))
  message_sound message says = wanted_sound (wanted (desk_of s n) message) (message_wanted message says)
