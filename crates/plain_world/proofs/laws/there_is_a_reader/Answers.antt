use Rattle.plain_world.proofs.Readers.{there_is_a_reader as law}
use Rattle.plain_world.proofs.laws.there_is_a_reader.Goals as goal

pub returns : goal.returns
returns c = law
