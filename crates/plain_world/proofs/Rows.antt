-- Worked scripts, which compute.
use Rattle.std.proofs.Common.{◌≡◌, ℕ, List, [], ◌∷◌, ◌++◌, codes, Option, Some, refl}
use Rattle.std.specs.Prelude.{option_and_then}
use Rattle.std.specs.Fmt.{digits}
use lib.Utf8.{encode}
use Rattle.file_uri.specs.Base.{BaseView}
use Rattle.replay_script.specs.declared.moves.Move.{Move}
use Rattle.plain_world.specs.Handling.{Played}
use Rattle.plain_world.specs.Playing.{quietly}
use Rattle.plain_world.specs.RawFrames.{Reader}
use Rattle.plain_world.specs.Step.{played}
use Rattle.plain_world.specs.World.{beginning}

abbrev pub work : BaseView
work = record { text = codes "file:///work/"; path = codes "/work/" }

abbrev pub then_played : Played → Played → Played
then_played first next = record { world = next.world; printed = first.printed ++ next.printed }

abbrev pub run : Reader → List Move → Played → Option Played
run reader [] so_far = Some so_far
run reader (m ∷ moves) so_far =
    option_and_then (λ next. run reader moves (then_played so_far next)) (played work reader so_far.world m)

-- what these moves print, where all are possible; none feeds a connection, so whatever reads streams does
abbrev pub prints : Reader → List Move → Option (List ℕ)
prints reader moves = option_and_then (λ (p : Played). Some p.printed) (run reader moves (quietly beginning))

abbrev file : List ℕ
file = codes "f"

abbrev daemon : Move
daemon = Move.Daemon 0

abbrev editor : ℕ → List ℕ → Move
editor e text = Move.Editor e 0 file text

abbrev types : ℕ → ℕ → ℕ → List ℕ → Move
types e place gone text = Move.Typed e place gone text

settled_is_quiet : (reader : Reader) → prints reader (daemon ∷ editor 0 (codes "abc") ∷ Move.Settle 0 ∷ types 0 1 1 (codes "X") ∷ Move.Settle 0 ∷ Move.Show 0 ∷ Move.File 0 file ∷ [])
    ≡ Some (codes "show 0 quiet \"aXc\"\nfile 0 f \"aXc\"\n")
unfolding digits encode
settled_is_quiet reader = refl

not_yet_told : (reader : Reader) → prints reader (daemon ∷ editor 0 (codes "abc") ∷ Move.Settle 0 ∷ types 0 1 1 (codes "X") ∷ Move.Show 0 ∷ Move.File 0 file ∷ [])
    ≡ Some (codes "show 0 busy \"aXc\"\nfile 0 f \"abc\"\n")
unfolding digits encode
not_yet_told reader = refl

abbrev two_editors : List Move
two_editors = daemon ∷ editor 0 (codes "ab") ∷ editor 1 (codes "ab") ∷ Move.Settle 0 ∷ Move.Settle 1 ∷ []

-- both insert at one gap; the frame that comes to the second editor was overtaken by its own edit
abbrev both_insert : List Move
both_insert = types 0 1 0 (codes "X") ∷ types 1 1 0 (codes "Y") ∷ Move.Up 0 ∷ Move.Down 1 ∷ Move.Show 1 ∷ Move.Up 1 ∷ []

abbrev both_settle_and_show : List Move
both_settle_and_show = Move.Settle 0 ∷ Move.Settle 1 ∷ Move.Show 0 ∷ Move.Show 1 ∷ []

insertions_meet : (reader : Reader) → prints reader (two_editors ++ both_insert ++ both_settle_and_show)
    ≡ Some (codes "show 1 busy \"aYb\"\nshow 0 quiet \"aXYb\"\nshow 1 quiet \"aXYb\"\n")
unfolding digits encode
insertions_meet reader = refl

-- each deletes one character
abbrev both_delete : List Move
both_delete =
    daemon ∷ editor 0 (codes "abc") ∷ editor 1 (codes "abc") ∷ Move.Settle 0 ∷ Move.Settle 1 ∷ types 0 1 1 [] ∷ types 1 1 2 []
    ∷ Move.Up 0 ∷ Move.Up 1 ∷ []

deletions_meet : (reader : Reader) → prints reader (both_delete ++ both_settle_and_show ++ Move.Held 0 ∷ [])
    ≡ Some (codes "show 0 quiet \"a\"\nshow 1 quiet \"a\"\nheld 0 3\n")
unfolding digits encode
deletions_meet reader = refl

-- an edit that changes nothing is a change too
empty_edit_is_held : (reader : Reader) → prints reader (daemon ∷ editor 0 (codes "a") ∷ Move.Settle 0 ∷ types 0 0 0 [] ∷ Move.Settle 0 ∷ Move.Held 0 ∷ Move.Show 0 ∷ [])
    ≡ Some (codes "held 0 2\nshow 0 quiet \"a\"\n")
unfolding digits encode
empty_edit_is_held reader = refl

-- a frame of the old link comes to an editor that has opened its text anew
abbrev opens_anew : List Move
opens_anew =
    types 1 1 0 (codes "Y") ∷ Move.Up 1 ∷ Move.Close 0 ∷ Move.Open 0 ∷ Move.Up 0 ∷ Move.Up 0 ∷ Move.Down 0 ∷ Move.Show 0
    ∷ Move.Settle 0 ∷ Move.Show 0 ∷ []

old_frame_is_passed_over : (reader : Reader) → prints reader (two_editors ++ opens_anew)
    ≡ Some (codes "show 0 busy \"ab\"\nshow 0 quiet \"aYb\"\n")
unfolding digits encode
old_frame_is_passed_over reader = refl
