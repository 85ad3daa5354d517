use Rattle.{std.proofs.{Common.{◌<◌, ◌∙◌, List, ap, length, get_or, sym, subst, arith}, lemmas.Grind.{common_steps}}, regions.{proofs.{PushLemmas.{unused}, StandLemmas.{behind_run, on_behind}}, specs.{Run.{IsRun}, Search.{first_on}, declared.run.Run.{Run}}}}
use Rattle.regions.proofs.table.Regions.first_page.Goals as goal

pub loop-run-init : goal.loop-run-init
loop-run-init g c = ap (λ (l : List Run). first_on c.args.low c.args.key l) c.runs_behind-run-items.ensures.found ∙ on_behind c.args.low c.args.key c.args.self.now

pub page_on-requires : goal.page_on-requires
page_on-requires g c =
    let run = subst (λ (l : List Run). c.loop-run.run-index < length l → IsRun g.M.Levels.mode (get_or l c.loop-run.run-index unused)) (sym c.runs_behind-run-items.ensures.found)
    (behind_run g.M.Levels.mode 16 c.args.low c.args.self.now c.loop-run.run-index unused c.runs_behind-run-items.ensures.maximal)
    c.loop-run-test.true in
    omega (arith, run.nonempty)

pub loop-run-preserved : goal.loop-run-preserved
loop-run-preserved g c = grind (arith, common_steps)
