-- What is shown in both worlds.
use Rattle.std.proofs.Common.{◌≡◌, ℕ, ◌==◌, Bool, ◌||◌, not, List, ◌++◌, length, codes, decimal, Some, is_some, sym, ap, ◌∙◌}
use Rattle.std.specs.Prelude.{option_and_then, if◌then◌else◌}
use Rattle.file_uri.specs.Base.{BaseView}
use Rattle.file_uri.specs.UriOf.{uri_of}
use Rattle.bridge_world.specs.Counted as N
use Rattle.bridge_world.specs.Plain.{is_closed}
use Rattle.daemon_core.specs.History.{History, view_at}
use Rattle.editor_client.specs.Editor as client
use Rattle.replay_script.specs.Texts.{quoted}
use Rattle.plain_world.specs.Lines as lines
use Rattle.plain_world.specs.Lines.{file_line, held_line}
use Rattle.plain_world.specs.Playing as plain
use Rattle.plain_world.specs.World as P
use Rattle.plain_world.proofs.StepLemmas.{found_then}
use Rattle.kept_world.specs.Events.{KeptPlayed}
use Rattle.kept_world.specs.Steps.{prints, show_line, shows, tells_file, tells_held}
use Rattle.kept_world.specs.Tie.{IsTiedEditor, Ties}
use Rattle.kept_world.specs.Worlds.{KeptHost, KeptEditor, KeptWorld, running, editor_of}
use Rattle.kept_world.proofs.Alike.{Alike, Comes, comes_to}
use Rattle.kept_world.proofs.StillLemmas.{up_length, down_length, is_closed_alike}
use Rattle.kept_world.proofs.TieLemmas.{sits_alike, runs_alike, RunsAlike}

-- a move that prints, and leaves both worlds
prints_alike : (base : BaseView) (k : KeptWorld) (w : P.World) (line other : List ℕ) → Ties base k w → line ≡ other
    → Alike base (prints k line) (plain.prints w other)
prints_alike base k w line other ties same = record { tied = ties; printed = same }

-- the line of an editor: whether it is connected, how much is under way from it and to it, whether it has closed its text, and the text
abbrev line_of : ℕ → Bool → ℕ → ℕ → Bool → List ℕ → List ℕ
line_of e connected up down closed text =
    codes "show " ++ decimal e ++ codes " "
    ++ (if not connected then codes "lost"
    else (if not (up == 0) || not (down == 0) then codes "busy"
    else (if closed then codes "closed"
    else codes "quiet")))
    ++ codes " " ++ quoted text ++ codes "\n"

line_alike : (base : BaseView) (k : KeptWorld) (w : P.World) (e : ℕ) (x : KeptEditor) (y : P.Seat) → IsTiedEditor base k w x y
    → show_line e x ≡ lines.show_line e y
line_alike base k w e x y t =
    let c : N.Editor = t.counted in
    let uri : List ℕ = uri_of base x.path in
    ap (λ n. line_of e (is_some x.connection) n (length x.seat.down) (client.is_closed x.seat.client.state) x.seat.client.text)
    (up_length uri x.seat c t.tied)
    ∙ ap (λ n. line_of e (is_some x.connection) (length (N.plain_of c).sent) n (client.is_closed x.seat.client.state) x.seat.client.text)
    (down_length uri x.seat c t.tied)
    ∙ ap (λ b. line_of e (is_some x.connection) (length (N.plain_of c).sent) (length (N.plain_of c).wire) b x.seat.client.text)
    (is_closed_alike uri x.seat c t.tied)
    ∙ ap (line_of e (is_some x.connection) (length (N.plain_of c).sent) (length (N.plain_of c).wire) (is_closed c.state)) t.tied.tied.text
    ∙ ap (λ editor. line_of e (is_some x.connection) (length editor.sent) (length editor.wire) (is_closed editor.state) editor.text) (sym t.plain)
    ∙ ap (λ connection. line_of e (is_some connection) (length y.editor.sent) (length y.editor.wire) (is_closed y.editor.state) y.editor.text)
    (sym t.connection)

pub shows_alike : (base : BaseView) (k : KeptWorld) (w : P.World) (e : ℕ) (p : KeptPlayed) → Ties base k w → shows k e ≡ Some p
    → Comes base (plain.shows w e) p
shows_alike base k w e p ties shown =
    let found = found_then (editor_of k e) _ p shown in
    let x : KeptEditor = found.item in
    let across = sits_alike base k w e x ties found.is in
    let same : Some (prints k (show_line e x)) ≡ Some p = found.next in
    let one : prints k (show_line e x) ≡ p = cc in
    comes_to base (plain.shows w e) p (prints k (show_line e x)) (plain.prints w (lines.show_line e across.item)) one
    (ap (option_and_then (λ (q : P.Seat). Some (plain.prints w (lines.show_line e q)))) across.there)
    (prints_alike base k w _ _ ties (line_alike base k w e x across.item across.tied))

-- what is told of a daemon's files
told_alike : (base : BaseView) (k : KeptWorld) (w : P.World) (d : ℕ) (line : History → List ℕ) (p : KeptPlayed) → Ties base k w
    → option_and_then (λ (h : KeptHost). Some (prints k (line h.state.history))) (running k d) ≡ Some p
    → Comes base (option_and_then (λ (h : P.Host). Some (plain.prints w (line h.state.history))) (P.running w d)) p
told_alike base k w d line p ties told =
    let found = found_then (running k d) _ p told in
    let h : KeptHost = found.item in
    let r : RunsAlike base k w d h = runs_alike base k w d h ties found.is in
    let same : Some (prints k (line h.state.history)) ≡ Some p = found.next in
    let one : prints k (line h.state.history) ≡ p = cc in
    comes_to base _ p (prints k (line h.state.history)) (plain.prints w (line r.plain.state.history)) one
    (ap (option_and_then (λ (q : P.Host). Some (plain.prints w (line q.state.history)))) r.runs)
    (prints_alike base k w _ _ ties (ap line (sym r.tied.history)))

pub file_alike : (base : BaseView) (k : KeptWorld) (w : P.World) (d : ℕ) (path : List ℕ) (p : KeptPlayed) → Ties base k w
    → tells_file k d path ≡ Some p → Comes base (plain.tells_file w d path) p
file_alike base k w d path p ties told = told_alike base k w d (λ history. file_line d path (view_at history path)) p ties told

pub held_alike : (base : BaseView) (k : KeptWorld) (w : P.World) (d : ℕ) (p : KeptPlayed) → Ties base k w → tells_held k d ≡ Some p
    → Comes base (plain.tells_held w d) p
held_alike base k w d p ties told = told_alike base k w d (λ history. held_line d history.held) p ties told
