use Rattle.plain_world.proofs.HostileLemmas.{bad_frames_end_one_connection as law}
use Rattle.plain_world.proofs.laws.bad_frames_end_one_connection.Goals as goal

pub returns : goal.returns
returns c = law
