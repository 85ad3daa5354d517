use Rattle.upgrades.proofs.Names.{arith}
use Rattle.upgrades.proofs.Counting.{no_file_before, one_file_more}
use Rattle.upgrades.specs.NewPool.{files_in}
use Rattle.upgrades.proofs.places.first_of.Goals as goal

pub loop-h-init : goal.loop-h-init
loop-h-init c = let none = no_file_before (files_in c.args.files.now) in record { is = omega (arith, none); few = omega arith }

pub loop-h-preserved : goal.loop-h-preserved
loop-h-preserved c =
    let more = one_file_more (files_in c.args.files.now) c.loop-h.h in
    record {
      is = omega (arith, more, c.loop-h.invariant.is, c.pages_of-first.ensures.count);
      few = omega (arith, c.loop-h.invariant.few, c.pages_of-first.ensures.few);
    }
