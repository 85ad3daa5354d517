use Rattle.{std.proofs.Common.{◌<◌, length}, machine.specs.Machine.{IsSoundMachine}}
use Rattle.looking.proofs.viewer.Viewer.take_all.Given as goal

abbrev pub invariant-loop-i : goal.invariant-loop-i
invariant-loop-i g l = record { input : 0 < length l.input; sound : IsSoundMachine g.D.SectorDisk g.E.SectorDisk l.machine }
