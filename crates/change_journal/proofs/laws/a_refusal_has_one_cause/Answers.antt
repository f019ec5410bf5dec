use Rattle.journal_format.proofs.Unique.{bad_is_no_image, one_bad_gate}
use Rattle.change_journal.proofs.Opened.{image_marked, bad_marked}
use Rattle.change_journal.proofs.laws.a_refusal_has_one_cause.Goals as goal

pub returns : goal.returns
returns c = record {
  opened_marked = λ bytes held gates end placed none. image_marked bytes placed.groups placed.image none;
  opened_good = λ bytes held gates end place placed bad. bad_is_no_image bytes place placed.groups bad placed.image;
  bad_marked = bad_marked;
  one_place = one_bad_gate;
}
