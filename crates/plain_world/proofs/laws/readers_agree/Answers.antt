use Rattle.plain_world.proofs.Readers.{readers_agree as law}
use Rattle.plain_world.proofs.laws.readers_agree.Goals as goal

pub returns : goal.returns
returns c = law
