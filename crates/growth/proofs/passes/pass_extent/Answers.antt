use Rattle.std.proofs.Common.{◌≡◌, subst, sym, refl}
use Rattle.directories.specs.declared.entry.Extent.{Extent}
use Rattle.growth.specs.Room.{PassesOver}
use Rattle.growth.proofs.Passed.{passes_one}
use Rattle.growth.proofs.passes.pass_extent.Goals as goal

pub returns-then-blocks : goal.returns-then-blocks
returns-then-blocks c = subst (λ n. PassesOver (λ (y : Extent). c.args.extent.now ≡ y) c.args.count c.args.first n) (sym c.end_of.ensures)
    (passes_one c.args.count c.args.first c.args.extent.now (c.if-blocks.ensures.some refl))
