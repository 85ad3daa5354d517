use Rattle.inspection.proofs.{Names.{sizes, ℕ, ◌+◌, ◌*◌, ◌/◌, ap, sym, ◌∙◌, arith, rules, nat_tests, span_positive, picture_of}, Trees.{ended, if_none, passed_on, placed}}
use Rattle.inspection.proofs.tables.place_on_way.Goals as goal

pub returns-in_err-step-2-clause-none : goal.returns-in_err-step-2-clause-none
returns-in_err-step-2-clause-none g c =
    let inv = c.loop-n.invariant in
    let test = sym c.ne.ensures ∙ c.loop-n-test.true in
    if_none c.from_residual-in_err-step-2.result
    (ended (picture_of c.args.core.now) c.args.pid c.args.page c.args.n.0 c.loop-n.step inv.stands (λ e. grind (arith, nat_tests, test, e)) inv.passed c.in_err-step-2.ensures.none)

pub loop-n-preserved : goal.loop-n-preserved
loop-n-preserved g c =
    let inv = c.loop-n.invariant in
    let test = sym c.ne.ensures ∙ c.loop-n-test.true in
    let next = c.in_ok-step-2.ensures.next in
    record {
      stands = next.each c.args.pid inv.stands;
      passed = λ r d lives less.
          passed_on (picture_of c.args.core.now) c.args.pid c.args.page c.args.n.0 c.loop-n.step inv.stands (λ e. grind (arith, nat_tests, test, e)) inv.passed r d lives
          (let lower = next.lower in let least = inv.stands.level in omega (arith, less, lower, least));
    }

pub overflow_add-step : goal.overflow_add-step
overflow_add-step g c = let levels = (sizes g.M.Levels.mode).levels.1 in let most = c.loop-n.invariant.stands.level in omega (arith, most, levels)

pub entry_pages-span-requires : goal.entry_pages-span-requires
entry_pages-span-requires g c = let levels = (sizes g.M.Levels.mode).levels.1 in let most = c.loop-n.invariant.stands.level in omega (arith, most, levels)

pub nonzero_div-result : goal.nonzero_div-result
nonzero_div-result g c = let some = span_positive (c.loop-n.step.level + 1) in omega (arith, some, c.entry_pages-span.ensures)

pub returns-clause-some : goal.returns-clause-some
returns-clause-some g c =
    placed (picture_of c.args.core.now) c.args.pid c.args.page c.args.n.0 (c.args.page / c.entry_pages-span.result * c.entry_pages-span.result) c.loop-n.step c.loop-n.invariant.stands
    (search rules) c.requires.inside (ap (λ (x : ℕ). c.args.page / x * x) c.entry_pages-span.ensures)
