-- Scripts and what they print, from their bytes on, by whichever reader.
use Rattle.std.proofs.Common.{◌≡◌, ℕ, List, [], ◌++◌, codes, Some, refl}
use Rattle.std.specs.Fmt.{digits}
use Rattle.std.specs.Str.{is_utf8, chars}
use Rattle.std.specs.Char.{encode_utf8}
use Rattle.plain_world.specs.RawFrames.{Reader}
use Rattle.replay.specs.Script.{run_over, most_bytes}
use Rattle.replay.specs.declared.faults.ReplayFault.TheVariants.{NotAMove, NotPossible}

-- the limit on what is read of a script
most_read : most_bytes ≡ 1099511627776
most_read = refl

nothing_played : (reader : Reader) → (run_over reader []).printed ≡ []
nothing_played reader = refl

abbrev typing : List ℕ
typing = codes "daemon 0\neditor 0 0 f \"abc\"\nsettle 0\ntype 0 1 1 \"X\"\n"

typed_and_settled : (reader : Reader) → (run_over reader (typing ++ codes "settle 0\nshow 0\nfile 0 f\n")).printed ≡ codes "show 0 quiet \"aXc\"\nfile 0 f \"aXc\"\n"
unfolding digits is_utf8 chars encode_utf8
typed_and_settled reader = refl

typed_only : (reader : Reader) → (run_over reader (typing ++ codes "show 0\nfile 0 f\n")).printed ≡ codes "show 0 busy \"aXc\"\nfile 0 f \"abc\"\n"
unfolding digits is_utf8 chars encode_utf8
typed_only reader = refl

abbrev two_editors : List ℕ
two_editors = codes "daemon 0\neditor 0 0 f \"ab\"\neditor 1 0 f \"ab\"\nsettle 0\nsettle 1\ntype 0 1 0 \"X\"\ntype 1 1 0 \"Y\"\nup 0\ndown 1\nshow 1\nup 1\nsettle 0\nsettle 1\nshow 0\nshow 1\n"

insertions_meet : (reader : Reader) → (run_over reader two_editors).printed ≡ codes "show 1 busy \"aYb\"\nshow 0 quiet \"aXYb\"\nshow 1 quiet \"aXYb\"\n"
unfolding digits is_utf8 chars encode_utf8
insertions_meet reader = refl

word_is_unknown : (reader : Reader) → (run_over reader (codes "daemon 0\nfrobnicate 0\nshow 0\n")).stop ≡ Some NotAMove
unfolding digits is_utf8 chars encode_utf8
word_is_unknown reader = refl

nothing_is_under_way : (reader : Reader) → (run_over reader (codes "daemon 0\ndaemon 1\nup 0\n")).stop ≡ Some NotPossible
unfolding digits is_utf8 chars encode_utf8
nothing_is_under_way reader = refl
