-- What a fault of recovery is to who opens a store.
use Rattle.sync_journal.specs.declared.faults.RecoverFault.{RecoverFault}
use Rattle.sync_journal.specs.declared.faults.RecoverFault.TheVariants.{Device as RecoverDevice, BadJournal as RecoverBadJournal}
use Rattle.file_store.specs.declared.faults.OpenFault.{OpenFault}
use Rattle.file_store.specs.declared.faults.OpenFault.TheVariants.{Device, BadLayout, BadJournal}
use Rattle.file_store.specs.declared.faults.UpgradeFault.{UpgradeFault}
use Rattle.file_store.specs.declared.faults.UpgradeFault.TheVariants.{OldDevice, OldLayout, OldJournal}

abbrev pub open_fault : RecoverFault → OpenFault
open_fault RecoverDevice = Device
open_fault RecoverBadJournal = BadJournal

-- What a fault of a store of layout 1 is to who upgrades it.
abbrev pub old_fault : OpenFault → UpgradeFault
old_fault Device = OldDevice
old_fault BadLayout = OldLayout
old_fault BadJournal = OldJournal
