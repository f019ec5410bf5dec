-- The fault of a call for a fault of its disk, of its memory or of its bytes.
use Rattle.outside.specs.declared.disks.DiskFault.{DiskFault}
use Rattle.outside.specs.declared.disks.DiskFault.TheVariants as disk_faults
use Rattle.journal_format.specs.declared.groups.BadGroups.{BadGroups}
use Rattle.journal_format.specs.declared.groups.BadGroups.TheVariants as bad_groups
use Rattle.change_journal.specs.declared.faults.AppendFault.{AppendFault}
use Rattle.change_journal.specs.declared.faults.AppendFault.TheVariants as append_faults
use Rattle.change_journal.specs.declared.faults.JournalFault.{JournalFault}
use Rattle.change_journal.specs.declared.faults.JournalFault.TheVariants as journal_faults

abbrev pub append_fault_for : DiskFault → AppendFault
append_fault_for disk_faults.Failed = append_faults.Fault
append_fault_for disk_faults.Memory = append_faults.Memory

abbrev pub journal_fault_for : AppendFault → JournalFault
journal_fault_for append_faults.Fault = journal_faults.Fault
journal_fault_for append_faults.Memory = journal_faults.Memory

abbrev pub journal_fault_of : BadGroups → JournalFault
journal_fault_of (bad_groups.BadRecord place) = journal_faults.BadRecord place
journal_fault_of bad_groups.Memory = journal_faults.Memory
