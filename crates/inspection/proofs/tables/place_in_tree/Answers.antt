use Rattle.inspection.{proofs.{Names.{sizes, user_pages_fit, ℕ, ◌∙◌, subst, arith, picture_of}, Trees.{out_of, passed_more}}, specs.Tables.{HaveOneWay, IsOffWay, IsOutOf}}
use Rattle.inspection.proofs.tables.place_in_tree.Goals as goal

pub place_on_way-requires-clause-inside : goal.place_on_way-requires-clause-inside
place_on_way-requires-clause-inside g c = let fits = user_pages_fit g.M.Levels.mode in let least = (sizes g.M.Levels.mode).least in omega (arith, fits, least)

pub place_on_way-requires-in-Some-next_run-clause-inside : goal.place_on_way-requires-in-Some-next_run-clause-inside
place_on_way-requires-in-Some-next_run-clause-inside g c =
    let run = c.in-Some-next_run.ensures.some in
    let some = run.nonempty in
    let high = run.high in
    let fits = user_pages_fit g.M.Levels.mode in
    omega (arith, c.get.ensures.number, c.user_page-page.ensures, some, high, fits)

pub loop-run-preserved : goal.loop-run-preserved
loop-run-preserved g c =
    let p = picture_of c.args.core.now in
    let first = c.in-Some-next_run.run'.first in
    let off = c.in_default-place_on_way.ensures.none in
    let O : ℕ → Type 0 = λ x. IsOffWay p c.in_ok-pid.pid x c.args.n.0 in
    let H : ℕ → Type 0 = λ x. HaveOneWay p c.in_ok-pid.pid x c.way_end-low.result in
    passed_more p c.in_ok-pid.pid c.args.n.0 c.loop-run.low first c.way_end-low.result c.loop-run.invariant c.in-Some-next_run.ensures.some.none_before
    (subst O (c.get.ensures.number ∙ c.user_page-page.ensures) off) (subst H c.user_page-page.ensures c.way_end-low.ensures.one_way)

pub returns-clause-none : goal.returns-clause-none
returns-clause-none g c =
    let T : ℕ → Type 0 = λ x. IsOutOf (picture_of c.args.core.now) x c.args.n.0 in
    subst T c.in_ok-pid.ensures.found.0
    (out_of (picture_of c.args.core.now) c.in_ok-pid.pid c.args.n.0 c.loop-run.low c.in_default.ensures.none c.loop-run.invariant c.in_default-next_run.ensures.none)
