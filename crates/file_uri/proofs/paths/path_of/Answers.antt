use Rattle.std.proofs.Common.{ap, ◌∙◌, sym, subst}
use Rattle.tt_base.specs.Answers.{Gives}
use Rattle.file_uri.specs.declared.faults.UriFault.TheVariants.{Memory}
use Rattle.file_uri.specs.PathOf.{shared_path}
use Rattle.file_uri.proofs.PlainReading.{path_of-is_plain}
use Rattle.file_uri.proofs.paths.path_of.Goals as goal

pub returns-in-Some : goal.returns-in-Some
returns-in-Some c =
    let plain = rw c.in-Some.is at c.in_ok-bytes.ensures in
    let read = path_of-is_plain c.args.base.now c.args.uri.now c.settled.ensures.base plain.0 in
    subst (λ expected. Gives Memory c.shared_path.result expected) (ap shared_path (c.as_slice.ensures.value ∙ plain.1) ∙ sym read) c.shared_path.ensures.gives
