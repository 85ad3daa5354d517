use Rattle.ranges.proofs.{LastName.{forgets_none}, Names.{arith, rules, sizes, picture_of}}
use Rattle.ranges.proofs.forgetting.forget_row.Goals as goal

pub returns-then-count-eq0 : goal.returns-then-count-eq0
returns-then-count-eq0 g c =
    let forgets = forgets_none (picture_of c.args.core.now) c.args.pid c.args.first c.args.pages c.requires.row.fit (c.common_pages-count.ensures.none c.if-count-eq0.true) in
    search rules

pub overflow_add-first : goal.overflow_add-first
overflow_add-first g c = omega (arith, c.requires.row.row, (sizes g.M.Levels.mode).most)
