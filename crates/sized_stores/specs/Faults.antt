-- Which fault stands for which.
use Rattle.std.specs.Prelude.{Result, Ok, Err}
use Rattle.sync_journal.specs.declared.faults.CommitFault.{CommitFault}
use Rattle.sync_journal.specs.declared.faults.CommitFault.TheVariants as Commit
use Rattle.sized_stores.specs.declared.faults.SizeFault.{SizeFault}
use Rattle.sized_stores.specs.declared.faults.SizeFault.TheVariants.{Device, Source}

abbrev pub fault_of : CommitFault → SizeFault
fault_of Commit.Device = Device
fault_of Commit.Source = Source

-- what a commit told, so told
abbrev pub told_of : Result (Unit {0}) CommitFault → Result (Unit {0}) SizeFault
told_of (Ok done) = Ok done
told_of (Err fault) = Err (fault_of fault)
