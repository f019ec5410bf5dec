use Rattle.std.proofs.Common.{sym, ◌∙◌}
use Rattle.transform.proofs.GapLemmas.{editor_by_gaps_is}
use Rattle.transform.proofs.transforms.pass_editor.Goals as goal

pub returns-clause-gaps : goal.returns-clause-gaps
returns-clause-gaps c = c.in_ok-carried.ensures ∙ sym (editor_by_gaps_is c.args.p.now c.args.q.now c.requires)
