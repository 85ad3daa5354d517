use Rattle.watching.specs.Books.{KeepsBooks}
use Rattle.watching.proofs.ledger.Ledger.compare_access.Given as goal

abbrev pub invariant-loop-frame : goal.invariant-loop-frame
invariant-loop-frame g l = KeepsBooks l.initial.self.counts.frames l.self.counts.frames
