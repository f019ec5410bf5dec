use Rattle.std.proofs.Common.{◌≡◌, take}
use Rattle.std.specs.Prelude.{string_bytes, encode_utf8_all}
use Rattle.paged.specs.Pages.{flat}
use Rattle.tt_base.proofs.texts.Text.to_string.Given as goal

abbrev pub invariant-loop-page : goal.invariant-loop-page
invariant-loop-page l = string_bytes l.string ≡ encode_utf8_all (flat (take l.page-index l.page-items))
