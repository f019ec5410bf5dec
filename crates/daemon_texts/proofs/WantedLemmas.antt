-- A daemon of texts does what is wanted of its desk.
use Rattle.std.proofs.Common.{◌≡◌, ℕ, Bool, true, false, List, [], length, Option, Some, None, Ok, Err, refl, sym, ap, subst}
use Rattle.std.specs.Option.{unwrap_or}
use Rattle.std.specs.Prelude.{if◌then◌else◌}
use Rattle.delta.specs.Cells.{Cells, applied, inserting}
use Rattle.editor_bridge.specs.Link.{carried_edit}
use Rattle.rpc_message.specs.declared.messages.FromEditor.{FromEditor}
use Rattle.rpc_message.specs.declared.messages.FromEditor.TheVariants.{Open, Close, Edit, Cursor, Shutdown, Response}
use Rattle.rpc_message.specs.declared.refusals.Refusal.TheVariants.{TextTooLong}
use Rattle.tt_base.specs.declared.edits.TextEdit.{TextEdit}
use Rattle.daemon_core.specs.History.{view_at, text_at}
use Rattle.daemon_core.specs.Outcome.{LinkEvent, Stays, Opened, Taken, Gone, Success, Outcome, answers}
use Rattle.daemon_core.specs.Refusing.{Step, ◌>>=◌, path_named, open_link, no_link, text_shown, good_edits, may_grow}
use Rattle.daemon_core.specs.Serving.{with_change, changed, on_open, on_edit, on_close, on_message}
use Rattle.daemon_core.specs.Serving as texts
use Rattle.daemon_core.specs.State.{State, link_of}
use Rattle.daemon_events.specs.Wanting.{Wanted, asks, changing, unless_long, opening, wanted}
use Rattle.daemon_texts.specs.Texts.{desk_of, done}

module _ (t : State) where
  abbrev pub does : Wanted → Step Outcome
  does w = Ok (done t w)

  -- a change, or that the text would be too long
  changed_as_wanted : (path before : List ℕ) (d : Cells) (own if_refused : LinkEvent) (opens : Option (List ℕ)) → before ≡ text_at t.history path
      → changed t path d own if_refused
      ≡ ((unless_long before d if_refused >>= λ e. Ok (record (changing path e own if_refused) { opens = opens })) >>= does)
  changed_as_wanted path before d own if_refused opens here =
      subst
      (λ (text : List ℕ). changed t path d own if_refused
      ≡ ((unless_long text d if_refused >>= λ e. Ok (record (changing path e own if_refused) { opens = opens })) >>= does))
      (sym here) (by (may_grow (length (text_at t.history path)) (length (applied d (text_at t.history path))))) where
        by : (b : Bool)
            → ◌≡◌ {A = Step Outcome}
            (if b then Ok (with_change t path d own)
            else Err (record { refusal = TextTooLong (length (applied d (text_at t.history path))); own = if_refused }))
            (((if b then Ok d else Err (record { refusal = TextTooLong (length (applied d (text_at t.history path))); own = if_refused }))
            >>= λ e. Ok (record (changing path e own if_refused) { opens = opens }))
            >>= does)
        by true = refl
        by false = refl

  opening_as_wanted : (path content : List ℕ) (view : Option (List ℕ)) → view_at t.history path ≡ view
      → texts.opening t path content view ≡ (opening path content view >>= does)
  opening_as_wanted path content (Some view) is = refl
  opening_as_wanted path content None is =
      changed_as_wanted path [] (inserting content) (Opened path content []) Stays (Some path)
      (sym (ap (λ (v : Option (List ℕ)). unwrap_or v []) is))

  -- a step that both take, and then what follows
  in_turn : {A : Type 0} (r : Step A) (f : A → Step Outcome) (g : A → Step Wanted) → ((x : A) → f x ≡ (g x >>= does))
      → (r >>= f) ≡ ((r >>= g) >>= does)
  in_turn (Ok x) f g same = same x
  in_turn (Err refused) f g same = refl

  open_as_wanted : (n : ℕ) (uri content : List ℕ) → on_open t n uri content ≡ (wanted (desk_of t n) (Open uri content) >>= does)
  open_as_wanted n uri content =
      in_turn (path_named t uri)
      (λ path. no_link (link_of t n path) >>= λ free. texts.opening t path content (view_at t.history path))
      (λ path. no_link (link_of t n path) >>= λ free. opening path content (view_at t.history path))
      (λ path. in_turn (no_link (link_of t n path))
      (λ free. texts.opening t path content (view_at t.history path))
      (λ free. opening path content (view_at t.history path))
      (λ free. opening_as_wanted path content (view_at t.history path) refl))

  close_as_wanted : (n : ℕ) (uri : List ℕ) → on_close t n uri ≡ (wanted (desk_of t n) (Close uri) >>= does)
  close_as_wanted n uri =
      in_turn (path_named t uri)
      (λ path. open_link (link_of t n path) >>= λ l. Ok (record (answers t Success) { own = Gone path }))
      (λ path. open_link (link_of t n path) >>= λ l. Ok (record (asks Success) { own = Gone path }))
      (λ path. in_turn (open_link (link_of t n path))
      (λ l. Ok (record (answers t Success) { own = Gone path }))
      (λ l. Ok (record (asks Success) { own = Gone path }))
      (λ l. refl))

  edit_as_wanted : (n : ℕ) (uri : List ℕ) (seen : ℕ) (edits : List TextEdit)
      → on_edit t n uri seen edits ≡ (wanted (desk_of t n) (Edit uri seen edits) >>= does)
  edit_as_wanted n uri seen edits =
      in_turn (path_named t uri)
      (λ path. open_link (link_of t n path) >>= λ l. text_shown path seen l >>= λ text. good_edits path text edits
      >>= λ edit. changed t path (carried_edit seen edit l) (Taken path seen edit) (Gone path))
      (λ path. open_link (link_of t n path) >>= λ l. text_shown path seen l >>= λ text. good_edits path text edits
      >>= λ edit. unless_long (text_at t.history path) (carried_edit seen edit l) (Gone path)
      >>= λ d. Ok (changing path d (Taken path seen edit) (Gone path)))
      (λ path. in_turn (open_link (link_of t n path))
      (λ l. text_shown path seen l >>= λ text. good_edits path text edits
      >>= λ edit. changed t path (carried_edit seen edit l) (Taken path seen edit) (Gone path))
      (λ l. text_shown path seen l >>= λ text. good_edits path text edits
      >>= λ edit. unless_long (text_at t.history path) (carried_edit seen edit l) (Gone path)
      >>= λ d. Ok (changing path d (Taken path seen edit) (Gone path)))
      (λ l. in_turn (text_shown path seen l)
      (λ text. good_edits path text edits
      >>= λ edit. changed t path (carried_edit seen edit l) (Taken path seen edit) (Gone path))
      (λ text. good_edits path text edits
      >>= λ edit. unless_long (text_at t.history path) (carried_edit seen edit l) (Gone path)
      >>= λ d. Ok (changing path d (Taken path seen edit) (Gone path)))
      (λ text. in_turn (good_edits path text edits)
      (λ edit. changed t path (carried_edit seen edit l) (Taken path seen edit) (Gone path))
      (λ edit. unless_long (text_at t.history path) (carried_edit seen edit l) (Gone path)
      >>= λ d. Ok (changing path d (Taken path seen edit) (Gone path)))
      (λ edit. changed_as_wanted path (text_at t.history path) (carried_edit seen edit l) (Taken path seen edit) (Gone path) None refl))))

  pub as_wanted : (n : ℕ) (message : FromEditor) → on_message t n message ≡ (wanted (desk_of t n) message >>= does)
  as_wanted n (Open uri content) = open_as_wanted n uri content
  as_wanted n (Close uri) = close_as_wanted n uri
  as_wanted n (Edit uri revision edits) = edit_as_wanted n uri revision edits
  as_wanted n (Cursor uri ranges) = refl
  as_wanted n Shutdown = refl
  as_wanted n Response = refl
