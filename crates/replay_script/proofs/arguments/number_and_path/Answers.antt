use Rattle.std.proofs.Common.{[], ◌∷◌}
use Rattle.replay_script.specs.Arguments.{Number, Path, read_all}
use Rattle.replay_script.specs.Paths.{path_of}
use Rattle.replay_script.specs.Reads.{IsRefusal}
use Rattle.replay_script.proofs.Reading.{handed_on, refused_mapped}
use Rattle.replay_script.proofs.arguments.number_and_path.Goals as goal

pub returns-in_err-path : goal.returns-in_err-path
returns-in_err-path c =
    let fault = c.in_err-path.field-0.0 in
    let whole : IsRefusal fault (read_all (Number ∷ Path ∷ []) c.args.text.now) =
    rw (← c.in-Some.ensures) (refused_mapped (λ others. (c.in-Some.number, others)) fault _ (refused_mapped (λ value. (value, tt)) fault (path_of c.in-Some.rest.now) c.in_err-path.ensures)) in
    handed_on (λ values. (values.0, (values.1, tt))) c.from_residual.result fault (read_all (Number ∷ Path ∷ []) c.args.text.now) c.from_residual.ensures.1 whole
