use Rattle.{std.proofs.Common.{ℕ}, machine.specs.Machine.{IsSoundMachine}, runner.specs.Trace.{streams}, serving.specs.Serving.{ServesInTurn}}
use Rattle.serving.proofs.serving.serve.Given as goal

abbrev pub invariant-loop-i : goal.invariant-loop-i
invariant-loop-i g l = record {
  sound : IsSoundMachine g.D.SectorDisk g.E.SectorDisk l.machine;
  turns : (count : ℕ) × ServesInTurn g.D.SectorDisk g.E.SectorDisk count l.initial.machine l.machine
      (streams (g.R.Read.remaining l.initial.reader) (g.W.Write.contents l.initial.writer)) (streams (g.R.Read.remaining l.reader) (g.W.Write.contents l.writer));
}
