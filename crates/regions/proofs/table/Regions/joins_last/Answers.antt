use Rattle.{std.proofs.Common.{List, sym, ◌∙◌, ap, arith}, regions.{proofs.PushLemmas.{joins_last-is, last_run, unused}, specs.{RunList.{joins_last}, declared.run.Run.{Run}}}}
use Rattle.regions.proofs.table.Regions.joins_last.Goals as goal

pub joins-requires : goal.joins-requires
joins-requires g c = let run = last_run g.M.Levels.mode c.self.inside.runs c.self.inside.len unused (omega arith) (omega arith) c.self.invariant.2 in omega (arith, run.nonempty)

pub returns : goal.returns
returns g c = c.joins.ensures ∙ sym (joins_last-is c.self.inside.runs c.self.inside.len unused c.args.next (omega arith) (omega arith)) ∙ ap (λ (l : List Run). joins_last l c.args.next) c.self.view_is
