use Rattle.std.proofs.Common.{refl, sym, ap, ◌∙◌, ◌+◌, arith}
use Rattle.pool_growth.specs.Asked.{changed_pages}
use Rattle.pool_growth.proofs.Checked.{counted_changed, counted_same}
use Rattle.pool_growth.proofs.checking.count_changed.Goals as goal
use Rattle.pool_growth.proofs.checking.count_changed.Goals.{then-is_changed, else-is_changed}

pub loop-page-init : goal.loop-page-init
unfolding changed_pages
loop-page-init c = record { so_far = refl; few = omega arith }

pub loop-page-preserved : goal.loop-page-preserved
loop-page-preserved c = elim c.if-is_changed.branch [
  | then-is_changed w ↦
      let few = c.loop-page.invariant.few in
      let count = w.count-is in
      record {
        so_far = w.count-is ∙ ap (λ n. n + 1) c.loop-page.invariant.so_far ∙ sym (counted_changed c.args.changes.now c.loop-page.page (sym c.is_changed.ensures ∙ w.if-is_changed.true));
        few = omega (arith, few, count);
      }
  | else-is_changed w ↦
      let few = c.loop-page.invariant.few in
      let count = w.count-is in
      record {
        so_far = w.count-is ∙ c.loop-page.invariant.so_far ∙ sym (counted_same c.args.changes.now c.loop-page.page (sym c.is_changed.ensures ∙ w.if-is_changed.false));
        few = omega (arith, few, count);
      }
]
