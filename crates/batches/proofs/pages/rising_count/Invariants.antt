use Rattle.batches.specs.Pages.{AreRising}
use Rattle.batches.proofs.pages.rising_count.Given as goal

abbrev pub invariant-loop-i : goal.invariant-loop-i
invariant-loop-i l = AreRising l.i l.pages
