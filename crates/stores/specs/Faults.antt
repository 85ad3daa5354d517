-- Which fault of an opening a fault of a store of either kind becomes.
use Rattle.file_store.specs.declared.faults.OpenFault.{OpenFault as KindFault}
use Rattle.file_store.specs.declared.faults.OpenFault.TheVariants.{Device as KindDevice, BadLayout as KindLayout, BadJournal as KindJournal}
use Rattle.pool_store.specs.declared.faults.OpenFault.{OpenFault as PoolFault}
use Rattle.pool_store.specs.declared.faults.OpenFault.TheVariants.{Device as PoolDevice, BadLayout as PoolLayout, Memory as PoolMemory}
use Rattle.stores.specs.declared.faults.OpenFault.{OpenFault}
use Rattle.stores.specs.declared.faults.OpenFault.TheVariants.{Device, BadLayout, BadJournal, Memory}

abbrev pub of_kind : KindFault → OpenFault
of_kind KindDevice = Device
of_kind KindLayout = BadLayout
of_kind KindJournal = BadJournal

abbrev pub of_pool : PoolFault → OpenFault
of_pool PoolDevice = Device
of_pool PoolLayout = BadLayout
of_pool PoolMemory = Memory
