use Rattle.std.proofs.{Common.{◌∙◌, List, ap, leb, sym, subst, rules}, lemmas.List.{take_rest}, lemmas.List.Sorted.{IsPartitionPoint-from_clause, IsPartitionedBy-leb}}
use Rattle.regions.{specs.{declared.run.Run.{Run}, RunList.{IsMaximal}, Search.{runs_behind}}, proofs.BehindLemmas.{ends_rise, point_behind}}
use Rattle.regions.proofs.table.Regions.runs_behind.Goals as goal

pub returns : goal.returns
returns g c =
    let order = subst (λ (l : List Run). IsMaximal g.M.Levels.mode 16 l) (sym c.as_slice-runs.ensures.runs) c.as_slice-runs.ensures.maximal in
    let parted = IsPartitionedBy-leb (λ run. run.end) _ c.args.page (ends_rise g.M.Levels.mode 16 c.as_slice-runs.result.now order) in
    let point = IsPartitionPoint-from_clause (λ run. leb run.end c.args.page) _ _ c.partition_point-ended.ensures.partitioned parted (λ a r q k. search rules) in
    record {
      found = take_rest c.as_slice-runs.result.now c.partition_point-ended.result
          ∙ point_behind c.args.page c.as_slice-runs.result.now c.partition_point-ended.result c.partition_point-ended.ensures.bound point
          ∙ ap (λ (l : List Run). runs_behind c.args.page l) c.as_slice-runs.ensures.runs;
      maximal = c.as_slice-runs.ensures.maximal;
    }
