-- The machine stays one that may go on.
use Rattle.{disk_model.specs.contracts.sim_disk.SimDiskSectorDisk.TheImpl.{ghosts}, machine.specs.Machine.{IsSoundMachine}}
use Rattle.machine_tests.proofs.example.lived.Given as goal

abbrev pub invariant-loop-command : goal.invariant-loop-command
invariant-loop-command g l = IsSoundMachine g.D.SectorDisk ghosts l.machine
