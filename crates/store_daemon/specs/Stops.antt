-- Why a daemon could not go on.
use Rattle.change_journal.specs.declared.faults.AppendFault.{AppendFault}
use Rattle.change_journal.specs.declared.faults.AppendFault.TheVariants.{Fault, Memory}
use Rattle.store_daemon.specs.declared.stops.DaemonStop.{DaemonStop}
use Rattle.store_daemon.specs.declared.stops.DaemonStop.TheVariants as stops

-- what a commit that failed is for a daemon
abbrev pub stop_for : AppendFault → DaemonStop
stop_for Fault = stops.Disk
stop_for Memory = stops.Memory
