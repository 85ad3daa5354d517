use Rattle.std.proofs.Common.{refl, arith}
use Rattle.vm_types.specs.declared.file.FilePage.{FilePage}
use Rattle.pool_growth.specs.Files.{IsNewPage}
use Rattle.pool_growth.proofs.Checked.{all_more}
use Rattle.pool_store.specs.Store.{info_by}
use Rattle.pool_growth.proofs.checking.find_stale.Goals as goal

pub loop-page-preserved : goal.loop-page-preserved
loop-page-preserved c = all_more (λ (p : FilePage). IsNewPage (info_by c.args.directory.now) c.args.asked.changes.now p.file p.page) c.args.asked.fresh.now c.loop-page.page-index _ (omega arith) c.loop-page.invariant (c.if-not-is_new.ensures.all refl)

pub returns : goal.returns
returns c = λ k d less. c.loop-page.invariant k d (omega (arith, less))
