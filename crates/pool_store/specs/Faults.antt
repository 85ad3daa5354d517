-- Which fault of an opening a fault of a directory becomes.
use Rattle.directories.specs.declared.faults.LayoutFault.{LayoutFault}
use Rattle.directories.specs.declared.faults.LayoutFault.TheVariants.{Outside, Short, Shared, Memory as NoMemory}
use Rattle.pool_store.specs.declared.faults.OpenFault.{OpenFault}
use Rattle.pool_store.specs.declared.faults.OpenFault.TheVariants.{BadLayout, Memory}

abbrev pub layout_fault : LayoutFault → OpenFault
layout_fault (Outside f) = BadLayout
layout_fault (Short f) = BadLayout
layout_fault (Shared f g) = BadLayout
layout_fault NoMemory = Memory
