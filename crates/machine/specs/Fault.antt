-- The numbers of boot's faults. Our own.
use Rattle.std.specs.Prelude.{ℕ}
use Rattle.stores.specs.declared.faults.OpenFault.{OpenFault}
use Rattle.stores.specs.declared.faults.OpenFault.TheVariants.{Device as StoreDevice, BadLayout as StoreLayout, BadJournal as StoreJournal, Memory as StoreMemory}
use Rattle.machine.specs.declared.boot.BootFault.{BootFault}
use Rattle.machine.specs.declared.boot.BootFault.TheVariants.{Frames, Slots, OutOfMemory, Device, BadLayout, BadJournal}

abbrev pub fault_number : BootFault → ℕ
fault_number Frames = 1
fault_number Slots = 2
fault_number OutOfMemory = 3
fault_number Device = 4
fault_number BadLayout = 5
fault_number BadJournal = 6

-- why a store that can't be opened can't be booted
abbrev pub boot_fault : OpenFault → BootFault
boot_fault StoreDevice = Device
boot_fault StoreLayout = BadLayout
boot_fault StoreJournal = BadJournal
boot_fault StoreMemory = OutOfMemory
