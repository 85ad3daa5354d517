use Rattle.{vm_types.specs.Limits.{user_end}, std.proofs.Common.{◌≡◌, ◌≤◌, drop}, regions.specs.{RunList.{IsMaximal}, Search.{lowest_gap}}}
use Rattle.regions.proofs.table.Regions.lowest_gap.Given as goal

abbrev pub invariant-loop-run : goal.invariant-loop-run
invariant-loop-run g l = record {
  low : 16 ≤ l.start;
  high : l.start ≤ user_end g.M.Levels.mode;
  order : IsMaximal g.M.Levels.mode l.start (drop l.run-index l.run-items);
  same : lowest_gap g.M.Levels.mode l.pages l.start (drop l.run-index l.run-items) ≡ lowest_gap g.M.Levels.mode l.pages 16 l.run-items;
}
