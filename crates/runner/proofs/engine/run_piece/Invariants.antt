use Rattle.{std.proofs.Common.{◌≡◌, ℕ, List, ◌++◌, length}, runner.specs.Progress.{stage, GoesOn, MayAnswer}}
use Rattle.runner.proofs.engine.run_piece.Given as goal

abbrev pub invariant-loop-at : goal.invariant-loop-at
invariant-loop-at g l = record {
  going : MayAnswer g.D.SectorDisk g.E.SectorDisk l.machine l.output;
  reads : (front : List ℕ) × (l.piece ≡ front ++ l.rest) × GoesOn g.D.SectorDisk g.E.SectorDisk
      (stage l.initial.machine l.initial.line l.initial.output (g.W.Write.contents l.initial.writer))
      (stage l.machine l.line l.output (g.W.Write.contents l.writer)) front;
}

abbrev pub decreases-loop-at : goal.decreases-loop-at
decreases-loop-at g l = length l.rest
