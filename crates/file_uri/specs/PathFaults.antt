-- How the refusal of a path counts as that of its URI.
use Rattle.tt_base.specs.declared.paths.PathFault.{PathFault}
use Rattle.tt_base.specs.declared.paths.PathFault.TheVariants as path
use Rattle.file_uri.specs.declared.faults.UriFault.{UriFault}
use Rattle.file_uri.specs.declared.faults.UriFault.TheVariants.{BadPath, Memory}

-- a rule that the path breaks, or want of memory
abbrev pub fault_of : PathFault → UriFault
fault_of path.Memory = Memory
fault_of fault = BadPath fault
