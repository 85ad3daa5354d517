use Rattle.batches.specs.Pages.{AreDistinct}
use Rattle.batches.proofs.pages.are_distinct.Given as goal

abbrev pub invariant-loop-i : goal.invariant-loop-i
invariant-loop-i l = AreDistinct l.i l.pages
