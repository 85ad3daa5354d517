use Rattle.{stores.specs.Store.{files_of}, batches.proofs.Listed.{AreInside}}
use Rattle.batches.proofs.pages.are_inside.Given as goal

abbrev pub invariant-loop-page : goal.invariant-loop-page
invariant-loop-page g l = AreInside (files_of l.store) l.page-index l.pages
