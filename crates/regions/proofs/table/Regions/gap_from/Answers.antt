use Rattle.{std.proofs.Common.{◌∙◌, List, ap}, regions.{proofs.BehindLemmas.{gap_behind}, specs.{Search.{gap_from}, declared.run.Run.{Run}}}}
use Rattle.regions.proofs.table.Regions.gap_from.Goals as goal

pub loop-run-init : goal.loop-run-init
loop-run-init g c = ap (λ (l : List Run). gap_from c.args.page l) c.runs_behind-run-items.ensures.found ∙ gap_behind g.M.Levels.mode 16 c.args.page c.args.self.now c.runs_behind-run-items.ensures.maximal
