use Rattle.file_uri.proofs.BaseLemmas.{base_of-text}
use Rattle.file_uri.proofs.bases.Base.settled.Goals as goal

pub returns-clause-back : goal.returns-clause-back
returns-clause-back c = rw (← c.self.view_is) (base_of-text _ c.self.invariant)
