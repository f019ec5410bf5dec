-- What the standard streams tell of themselves: no content, since what a stream gives or takes is the system's business.
use Rattle.std.specs.Prelude.{None}
use Rattle.outside.specs.SourceMeaning.{SourceMeaning}
use Rattle.outside.specs.SinkMeaning.{SinkMeaning}
use Rattle.teamreplay.specs.declared.standard.StandardInput.{StandardInput}
use Rattle.teamreplay.specs.declared.standard.StandardOutput.{StandardOutput}

abbrev pub input_meaning : {R : Type 0} → StandardInput R → SourceMeaning
input_meaning input = record { left = None; ended = input.ended; faults = input.faults }

abbrev pub output_meaning : {W : Type 0} → StandardOutput W → SinkMeaning
output_meaning output = record { written = None; faults = output.faults }
