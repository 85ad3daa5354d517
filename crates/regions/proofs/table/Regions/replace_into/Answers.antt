use Rattle.{vm_types.proofs.Modes.{sizes}, std.proofs.Common.{arith, rules}, regions.proofs.{MapLemmas.{replaced_behind, replaced_end, replaced_is}, ResultLemmas.{made, replaced_longer, replaces, row_run, run_of_row, too_long}}}
use Rattle.regions.specs.{Run.{IsRun}, RunList.{list_replaced}}
use Rattle.regions.proofs.table.Regions.replace_into.Goals as goal

pub returns-in_err-paste : goal.returns-in_err-paste
returns-in_err-paste g c =
    let run : IsRun g.M.Levels.mode (row_run c.args.first c.args.pages c.args.attr) = run_of_row g.M.Levels.mode c.args.first c.args.pages c.args.attr c.requires.some c.requires.low c.requires.high c.requires.file_pages in
    too_long g.M.Levels.mode c.args.self.now _ _ (replaces g.M.Levels.mode c.args.first c.args.pages c.args.attr c.args.self.now c.as_slice.ensures.maximal run) _ _ c.from_residual.result (search rules)
    (replaced_longer g.M.Levels.mode c.args.first c.args.pages c.args.attr c.args.self.now c.as_slice.ensures.maximal run)
    (rw (c.clear.ensures.none, c.as_slice.ensures.runs) at c.in_err-paste.ensures.err)

pub push-requires-clause-run : goal.push-requires-clause-run
push-requires-clause-run g c = run_of_row g.M.Levels.mode c.args.first c.args.pages c.args.attr c.requires.some c.requires.low c.requires.high c.requires.file_pages

pub push-requires-clause-behind : goal.push-requires-clause-behind
push-requires-clause-behind g c =
    rw (c.in_ok-paste.ensures.ok, c.clear.ensures.none, c.as_slice.ensures.runs)
    (replaced_behind g.M.Levels.mode c.args.self.now c.as_slice.ensures.maximal _
    (run_of_row g.M.Levels.mode c.args.first c.args.pages c.args.attr c.requires.some c.requires.low c.requires.high c.requires.file_pages))

pub returns-in_err-push : goal.returns-in_err-push
returns-in_err-push g c =
    let run : IsRun g.M.Levels.mode (row_run c.args.first c.args.pages c.args.attr) = run_of_row g.M.Levels.mode c.args.first c.args.pages c.args.attr c.requires.some c.requires.low c.requires.high c.requires.file_pages in
    too_long g.M.Levels.mode c.args.self.now _ _ (replaces g.M.Levels.mode c.args.first c.args.pages c.args.attr c.args.self.now c.as_slice.ensures.maximal run) _ _ c.from_residual-in_err-push.result (search rules)
    (replaced_is g.M.Levels.mode c.args.self.now c.as_slice.ensures.maximal (row_run c.args.first c.args.pages c.args.attr) run).longer
    (rw (c.in_ok-paste.ensures.ok, c.clear.ensures.none, c.as_slice.ensures.runs) at c.in_err-push.ensures.err)

pub paste-requires-2-clause-behind : goal.paste-requires-2-clause-behind
paste-requires-2-clause-behind g c =
    rw (c.in_ok-push.ensures.ok, c.in_ok-paste.ensures.ok, c.clear.ensures.none, c.as_slice.ensures.runs)
    (replaced_end g.M.Levels.mode c.args.self.now c.as_slice.ensures.maximal _
    (run_of_row g.M.Levels.mode c.args.first c.args.pages c.args.attr c.requires.some c.requires.low c.requires.high c.requires.file_pages))

pub returns-in_err-paste-2 : goal.returns-in_err-paste-2
returns-in_err-paste-2 g c =
    let run : IsRun g.M.Levels.mode (row_run c.args.first c.args.pages c.args.attr) = run_of_row g.M.Levels.mode c.args.first c.args.pages c.args.attr c.requires.some c.requires.low c.requires.high c.requires.file_pages in
    too_long g.M.Levels.mode c.args.self.now _ _ (replaces g.M.Levels.mode c.args.first c.args.pages c.args.attr c.args.self.now c.as_slice.ensures.maximal run) (list_replaced c.args.self.now (row_run c.args.first c.args.pages c.args.attr)) _ c.from_residual-in_err-paste-2.result (search rules)
    (omega arith)
    (rw (c.in_ok-push.ensures.ok, c.in_ok-paste.ensures.ok, c.clear.ensures.none, c.as_slice.ensures.runs, c.as_slice-2.ensures.runs) at c.in_err-paste-2.ensures.err)

pub returns : goal.returns
returns g c =
    let run : IsRun g.M.Levels.mode (row_run c.args.first c.args.pages c.args.attr) = run_of_row g.M.Levels.mode c.args.first c.args.pages c.args.attr c.requires.some c.requires.low c.requires.high c.requires.file_pages in
    made g.M.Levels.mode c.args.self.now _ _ (replaces g.M.Levels.mode c.args.first c.args.pages c.args.attr c.args.self.now c.as_slice.ensures.maximal run) _ _
    (rw (c.in_ok-push.ensures.ok, c.in_ok-paste.ensures.ok, c.clear.ensures.none, c.as_slice.ensures.runs, c.as_slice-2.ensures.runs) at c.in_ok-paste-2.ensures.ok)
    c.in_ok-paste-2.ensures.few

pub overflow_add-run : goal.overflow_add-run
overflow_add-run g c = omega (arith, c.requires.high, (sizes g.M.Levels.mode).most)
