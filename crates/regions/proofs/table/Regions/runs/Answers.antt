use Rattle.{std.proofs.Common.{List, length, sym, ◌∙◌, ap}, regions.{proofs.CountLemmas.{run_count-maximal}, specs.declared.run.Run.{Run}}}
use Rattle.regions.proofs.table.Regions.runs.Goals as goal

pub returns-clause-count : goal.returns-clause-count
returns-clause-count g c = ap (λ (l : List Run). length l) c.as_slice.ensures.runs ∙ sym (run_count-maximal g.M.Levels.mode c.args.self.now c.as_slice.ensures.maximal)
