-- An editor joins a daemon in both worlds.
use Rattle.std.proofs.Common.{◌≡◌, inl, inr, ℕ, ◌+◌, ◌==◌, ◌≤◌, ◌<◌, ◌&&◌, List, [], ◌∷◌, ◌++◌, length, Option, Some, Ok, nat_le, nat_lt, refl, sym, ap, ◌∙◌, subst, arith}
use Rattle.std.specs.Prelude.{option_and_then}
use Rattle.std.proofs.lemmas.Slice.Zip.{AllZip-long}
use Rattle.file_uri.specs.Base.{BaseView}
use Rattle.file_uri.specs.PathOf.{path_of}
use Rattle.file_uri.specs.UriOf.{uri_of}
use Rattle.bridge_world.specs.Counted as N
use Rattle.bridge_world.specs.Lists.{only_if}
use Rattle.bridge_world.specs.Plain.{opened}
use Rattle.bridge_world.specs.Room.{new_plain, new_counted}
use Rattle.bridge_world.proofs.GoodSteps.{good_opened, good_lost}
use Rattle.bridge_world.proofs.PlainSteps.{plain-opened}
use Rattle.daemon_core.specs.History.{text_at}
use Rattle.editor_client.specs.Editor.{new_editor}
use Rattle.editor_client.specs.Requests.{open_request}
use Rattle.frame_world.specs.Laws.{IsReadBack}
use Rattle.frame_world.specs.Seats as seat
use Rattle.frame_world.specs.Serving.{HasNone}
use Rattle.frame_world.specs.Tie.{IsTied}
use Rattle.frame_world.proofs.ConnectionLemmas.{connections_are_alike}
use Rattle.frame_world.proofs.OwnLemmas.{own_steps}
use Rattle.plain_world.specs.Handling.{Played}
use Rattle.plain_world.specs.Playing as plain
use Rattle.plain_world.specs.World as P
use Rattle.plain_world.specs.declared.TheConstants.{FIRST_OWN, MOST_EDITORS, LONGEST_SENT}
use Rattle.plain_world.proofs.StepLemmas.{found_then, allowed_if}
use Rattle.kept_world.specs.Events.{KeptPlayed}
use Rattle.kept_world.specs.Moves.{IsNewClient, IsJoined}
use Rattle.kept_world.specs.Steps.{quietly, new_client, new_kept, joined}
use Rattle.kept_world.specs.Tie.{IsTiedEditor, Ties}
use Rattle.kept_world.specs.Worlds.{KeptHost, KeptEditor, KeptWorld, next_connection, running}
use Rattle.kept_world.proofs.Alike.{Comes, comes_to}
use Rattle.kept_world.proofs.BeginLemmas.{with_own, own_hosts, beside_own, connection_below, own_new}
use Rattle.kept_world.proofs.HostLemmas.{running_set}
use Rattle.kept_world.proofs.NumberLemmas.{none_if_below}
use Rattle.kept_world.proofs.TieLemmas.{runs_alike, RunsAlike}
use Rattle.kept_world.proofs.ZipLemmas.{zip_each, zip_push, pushed_at}

-- an editor with a path and a text, on a connection
abbrev new_at : ℕ → List ℕ → List ℕ → ℕ → P.Seat
new_at d path text n = record { daemon = d; path = path; connection = Some n; editor = opened (new_plain text) }

-- it is tied on its new connection
new_tied : (base : BaseView) (l : KeptWorld) (v : P.World) (d n : ℕ) (h : KeptHost) (g : P.Host) (path text : List ℕ) → h.state.base ≡ base
    → IsNewClient h.state.base path text → P.host_of v d ≡ Some g → HasNone n h.state.connections → running l d ≡ Some (with_own h n) → FIRST_OWN ≤ n
    → n < next_connection l
    → IsTiedEditor base l v
    (record { daemon = d; path = path; connection = Some n; seat = seat.opened (record { client = new_client h path text; up = []; down = [] }) })
    (new_at d path text n)
new_tied base l v d n h g path text same new there none runs own below =
    let view : List ℕ = text_at g.state.history path in
    let uri : List ℕ = uri_of base path in
    let counted : N.Editor = N.opened (new_counted text) in
    record {
      daemon = refl;
      path = refl;
      connection = refl;
      path_is = subst (λ b. path_of b (uri_of b path) ≡ Ok path) same new.path_is;
      host = g;
      there = there;
      counted = counted;
      plain = sym (plain-opened (new_counted text));
      good = good_opened view (new_counted text) refl (good_lost view (new_counted text));
      tied =
          subst (λ b. IsTied uri (seat.opened (record { client = new_editor (uri_of b path) text; up = []; down = [] })) counted) (sym same)
          ((own_steps uri view).begins text
          (subst (λ b. IsReadBack (new_editor (uri_of b path) text) (open_request (new_editor (uri_of b path) text))) same new.read));
      connected = record {
        host = with_own h n;
        runs = runs;
        at = (connections_are_alike h.state n path counted).begins none refl;
        own = own;
        below = below;
      };
    }

-- what the plain machine makes of it, where it has so many editors and its next connection is this
abbrev joined_plain : P.World → ℕ → ℕ → List ℕ → List ℕ → ℕ → ℕ → Option Played
joined_plain w e d path text n size =
    only_if (e == size && nat_lt e MOST_EDITORS && nat_le (length text) LONGEST_SENT)
    (plain.quietly (record w { seats = w.seats ++ new_at d path text n ∷ []; connections = w.connections + 1 }))

pub joins_alike : (base : BaseView) (k : KeptWorld) (w : P.World) (e d : ℕ) (path text : List ℕ) (p : KeptPlayed) → Ties base k w
    → IsJoined k e d path text p → Comes base (plain.joins w e d path text) p
joins_alike base k w e d path text p ties join =
    let found = found_then (running k d) _ p join.is in
    let h : KeptHost = found.item in
    let allowed = allowed_if _ _ p found.next in
    let r : RunsAlike base k w d h = runs_alike base k w d h ties found.is in
    let g : P.Host = r.plain in
    let n : ℕ = next_connection k in
    let l : KeptWorld = joined k d h path text in
    let x : KeptEditor = new_kept k d h path text in
    let y : P.Seat = new_at d path text n in
    let v : P.World = record w { seats = w.seats ++ y ∷ []; connections = w.connections + 1 } in
    let long : length w.seats ≡ length k.editors = AllZip-long (IsTiedEditor base k w) k.editors w.seats ties.editors in
    let steps : plain.joins w e d path text ≡ Some (plain.quietly v) =
    ap (option_and_then (λ (q : P.Host). joined_plain w e d path text (P.next_connection w) (length w.seats))) r.runs
    ∙ ap (λ c. joined_plain w e d path text (FIRST_OWN + c) (length w.seats)) ties.connections
    ∙ ap (joined_plain w e d path text n) long
    ∙ ap (λ b. only_if b (plain.quietly v)) allowed.passes in
    comes_to base (plain.joins w e d path text) p (quietly l) (plain.quietly v) allowed.is steps
    (record {
      tied = record {
        hosts = own_hosts base k w d h g ties r.there r.tied;
        editors =
            zip_push (IsTiedEditor base l v) k.editors w.seats x y
            (zip_each (IsTiedEditor base k w) (IsTiedEditor base l v) k.editors w.seats
            (λ j a b at across t. beside_own base k l w v d h a b found.is refl (omega arith) refl t) ties.editors)
            (new_tied base l v d n h g path text r.tied.base_is (join.client h found.is) r.there
            (none_if_below n h.state.connections r.tied.below) (running_set k l d h (with_own h n) found.is refl) (omega arith) (omega arith));
        connections = ap (λ c. c + 1) ties.connections;
        on_their_own =
            own_new k l (length k.editors) n (λ f m. connection_below base k w f m ties)
            (λ f m had. elim (pushed_at k.editors x f had.editor had.there) [
              | inl kept ↦ inl (record { editor = had.editor; there = kept; connection = had.connection })
              | inr new ↦
                  let one : Some n ≡ Some m = ap (λ (q : KeptEditor). q.connection) (sym new.1) ∙ had.connection in
                  let same : m ≡ n = cc in inr (new.0, same)
            ]) ties.on_their_own;
      };
      printed = refl;
    })
