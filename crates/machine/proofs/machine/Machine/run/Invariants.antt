use Rattle.machine.{proofs.{Names.{length, take, ◌≡◌, State}, Runs.{RanSoFar}}, specs.{Chain.{Caused}, Commands.{KeepsModelsAndRoom}, Machine.{store_of, swap_of, IsSoundMachine, Shows}}}
use Rattle.machine.proofs.machine.Machine.run.Given as goal

abbrev pub invariant-loop-i : goal.invariant-loop-i
invariant-loop-i g l = record {
  sound : IsSoundMachine g.D.SectorDisk g.E.SectorDisk l.self;
  lengths : length l.replies ≡ length l.commands;
  keeps : KeepsModelsAndRoom g.D.SectorDisk g.E.SectorDisk l.fn.self l.self;
  caused : Caused g.D.SectorDisk g.E.SectorDisk l.fn.self (take l.i l.replies) l.self;
  ran : (s : State) → Shows g.D.SectorDisk g.E.SectorDisk l.fn.self s → g.D.SectorDisk.keeps_model (store_of l.self)
      → g.E.SectorDisk.keeps_model (swap_of l.self) → RanSoFar g.D.SectorDisk g.E.SectorDisk l.fn.self l.self s (take l.i l.commands) (take l.i l.replies);
}
