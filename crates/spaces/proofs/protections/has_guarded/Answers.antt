use Rattle.spaces.proofs.{Guards.{none_in_row, none_to_the_end, one_in_row}, Names.{sym, ◌∙◌, files_of}}
use Rattle.spaces.proofs.protections.has_guarded.Goals as goal

pub returns-then-run-end : goal.returns-then-run-end
returns-then-run-end g c =
    none_in_row g.M.Levels.mode (files_of c.args.store.now) c.args.regions.now c.args.range.first c.args.range.pages c.loop-run.page c.in-Some.run' c.loop-run.invariant.past c.in-Some.ensures.some c.if-run-end.true

pub returns-then-is_guarded : goal.returns-then-is_guarded
returns-then-is_guarded g c =
    one_in_row g.M.Levels.mode (files_of c.args.store.now) c.args.regions.now c.args.range.first c.args.range.pages c.loop-run.page c.in-Some.run' c.loop-run.invariant.from c.in-Some.ensures.some c.if-run-end.false
    (sym c.is_guarded.ensures ∙ c.if-is_guarded.true)

pub returns : goal.returns
returns g c =
    none_to_the_end g.M.Levels.mode (files_of c.args.store.now) c.args.regions.now c.args.range.first c.args.range.pages c.loop-run.page c.loop-run.invariant.past c.in_default.ensures.none
