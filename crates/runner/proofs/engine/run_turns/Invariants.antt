use Rattle.{std.{proofs.Common.{◌≡◌, ℕ, List, []}, specs.Io.KnownBytes.{Consumes}}, machine.specs.Machine.{IsSoundMachine}, runner.specs.Progress.{stage, GoesOn}}
use Rattle.runner.proofs.engine.run_turns.Given as goal

abbrev pub invariant-loop-i : goal.invariant-loop-i
invariant-loop-i g l = record {
  empty : l.output ≡ [];
  sound : IsSoundMachine g.D.SectorDisk g.E.SectorDisk l.machine;
  reads : (bytes : List ℕ) × Consumes (g.R.Read.remaining l.initial.reader) (g.R.Read.remaining l.reader) bytes
      × GoesOn g.D.SectorDisk g.E.SectorDisk (stage l.initial.machine [] [] (g.W.Write.contents l.initial.writer))
      (stage l.machine l.input.line l.output (g.W.Write.contents l.writer)) bytes;
}
