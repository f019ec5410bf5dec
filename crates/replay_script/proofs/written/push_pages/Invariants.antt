use Rattle.std.proofs.Common.{◌≡◌, ◌++◌, string_bytes, take}
use Rattle.std.specs.Prelude.{encode_utf8_all}
use Rattle.std.specs.List.{flat_map}
use Rattle.paged.specs.Pages.{flat}
use Rattle.replay_script.specs.Texts.{escaped}
use Rattle.replay_script.proofs.written.push_pages.Given as goal

abbrev pub invariant-loop-page : goal.invariant-loop-page
invariant-loop-page l = string_bytes l.out ≡ string_bytes l.initial.out ++ encode_utf8_all (flat_map escaped (flat (take l.page-index l.page-items)))
