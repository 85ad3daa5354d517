use Rattle.{std.proofs.Common.{ℕ, Option, sym, subst}, regions.{proofs.StandLemmas.{IsFirstOrNone, first_on-is, some_on, none_some, none_from}, specs.{RunList.{attr_at}}}}
use Rattle.regions.proofs.table.Regions.first_on.Goals as goal

pub returns-in_err-first_page-clause-none : goal.returns-in_err-first_page-clause-none
returns-in_err-first_page-clause-none g c =
    let P : Option ℕ → Type 0 = λ o. IsFirstOrNone g.M.Levels.mode (attr_at c.args.self.now) c.args.low c.args.key o in
    none_from c.from_residual.result _ (subst P (sym c.in_err-first_page.ensures.found) (first_on-is g.M.Levels.mode 16 c.args.low c.args.key c.args.self.now c.first_page.ensures.maximal))

pub returns-clause-some : goal.returns-clause-some
returns-clause-some g c =
    let P : Option ℕ → Type 0 = λ o. IsFirstOrNone g.M.Levels.mode (attr_at c.args.self.now) c.args.low c.args.key o in
    some_on g.M.Levels.mode (attr_at c.args.self.now) c.args.low c.args.key c.new.result c.in_ok-first_page.field-0 c.new.ensures.found
    (subst P (sym c.in_ok-first_page.ensures.found) (first_on-is g.M.Levels.mode 16 c.args.low c.args.key c.args.self.now c.first_page.ensures.maximal))

pub returns-clause-none : goal.returns-clause-none
returns-clause-none g c =
    let P : Option ℕ → Type 0 = λ o. IsFirstOrNone g.M.Levels.mode (attr_at c.args.self.now) c.args.low c.args.key o in
    let is = subst P (sym c.in_ok-first_page.ensures.found) (first_on-is g.M.Levels.mode 16 c.args.low c.args.key c.args.self.now c.first_page.ensures.maximal) in
    none_some c.new.result _ (c.new.ensures.known.1 (is.above, is.user))
