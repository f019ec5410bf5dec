-- What an editor does itself keeps the tie.
use Rattle.std.proofs.Common.{◌≡◌, ℕ, ◌+◌, true, false, List, [], ◌∷◌, ◌++◌, length, Some, None, inl, inr, refl, sym, ap, ◌∙◌, subst, arith, append-nil}
use Rattle.delta.specs.Cells.{Cells, applied}
use Rattle.text_position.specs.Changes.{Change, edit_for}
use Rattle.text_position.specs.Edits.{delta_of_edits}
use Rattle.text_position.proofs.EditLemmas.{IsNormal-replacing}
use Rattle.bridge_world.specs.Counted.{Held}
use Rattle.bridge_world.specs.Counted as N
use Rattle.bridge_world.specs.Plain.{is_closed, Closed}
use Rattle.bridge_world.specs.Room.{new_counted}
use Rattle.bridge_world.specs.Tie.{Stand, client_of, place, reached, Aims, Good}
use Rattle.bridge_world.proofs.ListLemmas.{push_not_empty}
use Rattle.rpc_message.specs.declared.messages.FromEditor.TheVariants as asks
use Rattle.editor_client.specs.Editor.{Editor, new_editor, delta_of}
use Rattle.editor_client.specs.Editor as step
use Rattle.editor_client.specs.Requests.{open_request, close_request, edit_request, body_of}
use Rattle.editor_client.specs.declared.states.ClientState.{ClientState}
use Rattle.editor_client.specs.declared.states.ClientState.TheVariants as client_state
use Rattle.frame_world.specs.Laws.{IsTold, IsReadBack, TellsOf, OwnSteps}
use Rattle.frame_world.specs.Seats.{Seat, opened, closed, typed, lost}
use Rattle.frame_world.specs.Tie.{Ids, ReadsAs, state_of, IsTied}
use Rattle.frame_world.proofs.BodyLemmas.{GoOn, weaker_reached, bodies-push, bodies_on, said_on, one_more, one_open}

-- an edit is for the text that the editor shows, once all before it is taken
reads_there : (view : List ℕ) (c : Editor) (change : Change) (e : N.Editor) (low : ℕ) → Good view e → is_closed e.state ≡ false → c.text ≡ e.text → IsTold c change
    → ReadsAs (delta_of change c.text) (edit_for c.text change ∷ []) (reached e.sent (place low e.link))
reads_there view c change e low good live text told there is =
    let aims : Aims false (reached e.sent (place good.low e.link)).stand e.link good.low e.session (client_of e) (N.marks e.wire) =
    subst (λ b. Aims b (reached e.sent (place good.low e.link)).stand e.link good.low e.session (client_of e) (N.marks e.wire)) live good.aims in
    let here : (reached e.sent (place good.low e.link)).stand ≡ Some there = weaker_reached e.sent (place good.low e.link) (place low e.link) (λ a h. h) there is in
    elim aims [
      | inl a ↦
          let same : Some (client_of e) ≡ Some there = sym a.meets ∙ here in
          let one : client_of e ≡ there = cc in
          ap (λ t. delta_of_edits t (edit_for c.text change ∷ [])) (ap (λ (a : Stand). a.text) (sym one) ∙ sym text) ∙ told.delta
      | inr g ↦ let never : None ≡ Some there = sym g.no_target ∙ here in cc
    ]

-- a change, where the text is not closed
typed_live : (uri view : List ℕ) (change : Change) (cs : ClientState) (c : Editor) (x : Seat) (e : N.Editor)
    → is_closed (state_of cs) ≡ false → IsTold (record c { state = cs }) change
    → Good view (record e { state = state_of cs })
    → IsTied uri (record x { client = record c { state = cs } }) (record e { state = state_of cs })
    → let d : Cells = delta_of change c.text in IsTied uri
    (record { client = step.typed_where false d (record c { state = cs }); up = x.up ++ body_of (edit_request change (record c { state = cs })) (record c { state = cs }) ∷ []; down = x.down })
    (N.typed_where false d (record e { state = state_of cs }))
typed_live uri view change cs c x e live told good tied =
    let client : Editor = record c { state = cs } in
    let f : N.Editor = record e { state = state_of cs } in
    let d : Cells = delta_of change c.text in
    let h = tied.tied in
    let ids : Ids = record { opening = h.opening; requests = c.requests; session = e.session } in
    let next : Ids = record { opening = h.opening; requests = c.requests + 1; session = e.session } in
    let go : GoOn ids next = one_more h.opening c.requests e.session in
    let m : N.Sent = record { session = e.session; message = N.Edits e.shown d } in
    record {
      messages = tied.messages;
      tied = record {
        uri_is = h.uri_is;
        text = ap (applied d) h.text;
        state = h.state;
        own = ap (λ n. n + 1) h.own;
        shown = h.shown;
        opening = h.opening;
        last_open = h.last_open;
        within = omega (arith, h.within);
        low = h.low;
        up =
            bodies-push uri next (place h.low e.link) e.sent x.up m (body_of (edit_request change client) client)
            (bodies_on uri ids next (place h.low e.link) e.sent x.up go h.up)
            (record {
              id = c.requests + 1;
              asked = edit_request change client;
              read = told.edit;
              says = (
                edit_for c.text change ∷ [],
                (
                  ap (λ u. asks.Edit u c.shown (edit_for c.text change ∷ [])) h.uri_is ∙ ap (λ n. asks.Edit uri n (edit_for c.text change ∷ [])) h.shown,
                  (
                    IsNormal-replacing (length c.text) change.start change.end change.text,
                    (
                      reads_there view client change f h.low good live h.text told,
                      record { sent = omega arith; place = inl (refl, omega (arith, h.within)) },
                    ),
                  ),
                ),
              );
            });
        frames = h.frames;
        sent = h.sent;
        down = said_on uri ids next e.wire tied.messages go h.down;
        written = λ none. absurd (push_not_empty e.sent m none);
      };
    }

typed_in : (uri view : List ℕ) (change : Change) (cs : ClientState) (c : Editor) (x : Seat) (e : N.Editor)
    → TellsOf (record c { state = cs }) change → Good view (record e { state = state_of cs })
    → IsTied uri (record x { client = record c { state = cs } }) (record e { state = state_of cs })
    → IsTied uri (typed change (record x { client = record c { state = cs } })) (N.typed (delta_of change c.text) (record e { state = state_of cs }))
typed_in uri view change client_state.Opening c x e tells good tied =
    typed_live uri view change client_state.Opening c x e refl (tells refl) good tied
typed_in uri view change client_state.Open c x e tells good tied =
    typed_live uri view change client_state.Open c x e refl (tells refl) good tied
typed_in uri view change client_state.Closed c x e tells good tied =
    let h = tied.tied in
    let d : Cells = delta_of change c.text in
    subst (λ u. IsTied uri (record { client = record c { state = client_state.Closed; text = applied d c.text }; up = u; down = x.down }) (N.typed_where true d (record e { state = Closed })))
    (sym (append-nil x.up))
    (record {
      messages = tied.messages;
      tied = record {
        uri_is = h.uri_is;
        text = ap (applied d) h.text;
        state = h.state;
        own = h.own;
        shown = h.shown;
        opening = h.opening;
        last_open = h.last_open;
        within = h.within;
        low = h.low;
        up = h.up;
        frames = h.frames;
        sent = h.sent;
        down = h.down;
        written = h.written;
      };
    })

tied_typed : (uri view : List ℕ) (change : Change) (x : Seat) (e : N.Editor) → TellsOf x.client change → Good view e → IsTied uri x e
    → IsTied uri (typed change x) (N.typed (delta_of change x.client.text) e)
tied_typed uri view change x e tells good tied =
    let state = tied.tied.state in
    subst (λ st. IsTied uri (typed change x) (N.typed (delta_of change x.client.text) (record e { state = st }))) state
    (typed_in uri view change x.client.state x.client x e tells (subst (λ st. Good view (record e { state = st })) (sym state) good)
    (subst (λ st. IsTied uri x (record e { state = st })) (sym state) tied))

tied_opened : (uri : List ℕ) (x : Seat) (e : N.Editor) → IsReadBack x.client (open_request x.client) → IsTied uri x e → IsTied uri (opened x) (N.opened e)
tied_opened uri x e read tied =
    let h = tied.tied in
    let c : Editor = x.client in
    let ids : Ids = record { opening = h.opening; requests = c.requests; session = e.session } in
    let next : Ids = record { opening = c.requests + 1; requests = c.requests + 1; session = e.session + 1 } in
    let go : GoOn ids next = one_open h.opening c.requests e.session in
    let m : N.Sent = record { session = e.session + 1; message = N.Opens e.text } in
    record {
      messages = tied.messages;
      tied = record {
        uri_is = h.uri_is;
        text = h.text;
        state = refl;
        own = refl;
        shown = refl;
        opening = c.requests + 1;
        last_open = refl;
        within = omega arith;
        low = h.low;
        up =
            bodies-push uri next (place h.low e.link) e.sent x.up m (body_of (open_request c) c) (bodies_on uri ids next (place h.low e.link) e.sent x.up go h.up)
            (record {
              id = c.requests + 1;
              asked = open_request c;
              read = read;
              says = (ap (λ u. asks.Open u c.text) h.uri_is ∙ ap (asks.Open uri) h.text, record { sent = omega arith; place = inl (refl, refl) });
            });
        frames = h.frames;
        sent = h.sent;
        down = said_on uri ids next e.wire tied.messages go h.down;
        written = λ none. absurd (push_not_empty e.sent m none);
      };
    }

tied_closed : (uri : List ℕ) (x : Seat) (e : N.Editor) → IsReadBack x.client (close_request x.client) → IsTied uri x e → IsTied uri (closed x) (N.closed e)
tied_closed uri x e read tied =
    let h = tied.tied in
    let c : Editor = x.client in
    let ids : Ids = record { opening = h.opening; requests = c.requests; session = e.session } in
    let next : Ids = record { opening = h.opening; requests = c.requests + 1; session = e.session } in
    let go : GoOn ids next = one_more h.opening c.requests e.session in
    let m : N.Sent = record { session = e.session; message = N.Closes } in
    record {
      messages = tied.messages;
      tied = record {
        uri_is = h.uri_is;
        text = h.text;
        state = refl;
        own = h.own;
        shown = h.shown;
        opening = h.opening;
        last_open = h.last_open;
        within = omega (arith, h.within);
        low = h.low;
        up =
            bodies-push uri next (place h.low e.link) e.sent x.up m (body_of (close_request c) c) (bodies_on uri ids next (place h.low e.link) e.sent x.up go h.up)
            (record {
              id = c.requests + 1;
              asked = close_request c;
              read = read;
              says = (ap asks.Close h.uri_is, record { sent = omega arith; place = inl (refl, omega (arith, h.within)) });
            });
        frames = h.frames;
        sent = h.sent;
        down = said_on uri ids next e.wire tied.messages go h.down;
        written = λ none. absurd (push_not_empty e.sent m none);
      };
    }

tied_lost : (uri : List ℕ) (x : Seat) (e : N.Editor) → IsTied uri x e → IsTied uri (lost x) (N.lost e)
tied_lost uri x e tied =
    let h = tied.tied in
    record {
      messages = [];
      tied = record {
        uri_is = h.uri_is;
        text = h.text;
        state = refl;
        own = h.own;
        shown = h.shown;
        opening = h.opening;
        last_open = h.last_open;
        within = h.within;
        low = h.low;
        up = tt;
        frames = refl;
        sent = tt;
        down = tt;
        written = λ none k linked. cc;
      };
    }

tied_new : (uri text : List ℕ) → IsReadBack (new_editor uri text) (open_request (new_editor uri text))
    → IsTied uri (opened (record { client = new_editor uri text; up = []; down = [] })) (N.opened (new_counted text))
tied_new uri text read =
    let c : Editor = new_editor uri text in
    record {
      messages = [];
      tied = record {
        uri_is = refl;
        text = refl;
        state = refl;
        own = refl;
        shown = refl;
        opening = 1;
        last_open = refl;
        within = omega arith;
        low = 0;
        up = (
          record {
            id = 1;
            asked = open_request c;
            read = read;
            says = (refl, record { sent = omega arith; place = inl (refl, refl) });
          },
          tt,
        );
        frames = refl;
        sent = tt;
        down = tt;
        written = λ none k linked. cc;
      };
    }

pub own_steps : (uri view : List ℕ) → OwnSteps uri view
own_steps uri view = record {
  begins = tied_new uri;
  types = tied_typed uri view;
  opens = tied_opened uri;
  closes = tied_closed uri;
  loses = tied_lost uri;
}
