use Rattle.std.proofs.Common.{refl, arith}
use Rattle.pool_growth.specs.Checks.{IsKeptPage}
use Rattle.pool_growth.proofs.Checked.{all_more}
use Rattle.pool_growth.proofs.checking.find_outside.Goals as goal

pub loop-page-preserved : goal.loop-page-preserved
loop-page-preserved c = all_more (IsKeptPage c.args.directory.now c.args.asked.changes.now) c.args.asked.pages.now c.loop-page.page-index _ (omega arith) c.loop-page.invariant (c.if-not-is_kept.ensures.all refl)

pub returns : goal.returns
returns c = λ k d less. c.loop-page.invariant k d (omega (arith, less))
