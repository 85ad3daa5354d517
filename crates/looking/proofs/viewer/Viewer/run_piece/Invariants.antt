use Rattle.{std.proofs.Common.{◌≡◌, ℕ, List, ◌++◌, length}, machine.specs.Machine.{IsSoundMachine}, looking.specs.Session.{TakesAll}}
use Rattle.looking.proofs.viewer.Viewer.run_piece.Given as goal

abbrev pub invariant-loop-at : goal.invariant-loop-at
invariant-loop-at g l = record {
  sound : IsSoundMachine g.D.SectorDisk g.E.SectorDisk l.machine;
  takes : (front : List ℕ) × (l.piece ≡ front ++ l.rest) × TakesAll g.D.SectorDisk g.E.SectorDisk l.initial.machine l.initial.self.line front l.machine l.self.line;
}

abbrev pub decreases-loop-at : goal.decreases-loop-at
decreases-loop-at g l = length l.rest
