-- Laws of scripts, as statements.
use Rattle.std.specs.Prelude.{◌≡◌, ℕ, List, Some, codes}
use Rattle.plain_world.specs.Lines.{word_of}
use Rattle.plain_world.specs.Laws.{ShowsFile}
use Rattle.plain_world.specs.RawFrames.{Reader}
use Rattle.plain_world.specs.World.{Seat, seat_of}
use Rattle.replay.specs.Script.{run_over}

-- as far as a script can be played, an editor that is told to be quiet shows its daemon's text of its file
abbrev pub QuietEditorShowsItsFile : Type 0
QuietEditorShowsItsFile =
    (reader : Reader) (script : List ℕ) (e : ℕ) (x : Seat) →
    let world = (run_over reader script).world in
    seat_of world e ≡ Some x → word_of x ≡ codes "quiet" → ShowsFile world x
