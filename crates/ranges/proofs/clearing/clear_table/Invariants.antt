use Rattle.ranges.{proofs.Names.{top_level, ◌≡◌, ◌+◌, ◌-◌, ◌/◌, ◌≤◌, Some, IsTableOf, picture_of}, specs.{RowsCleared.{ClearsPages}, Steps.{SameTables}}}
use Rattle.ranges.proofs.clearing.clear_table.Given as goal

abbrev pub invariant-loop-index : goal.invariant-loop-index
invariant-loop-index g l = record {
  low : l.part.first ≤ l.first + l.index;
  high : l.index ≤ l.end;
  place : IsTableOf l.core.frames (top_level g.M.Levels.mode) l.root.0 (l.first / 512) l.row.table.0;
  root_is : (picture_of l.core).root l.part.pid ≡ Some l.root.0;
  tables : SameTables l.initial.core.frames l.core.frames;
  pages : ClearsPages l.initial.core l.core l.part.pid l.part.first (l.first + l.index);
}

abbrev pub decreases-loop-index : goal.decreases-loop-index
decreases-loop-index g l = l.end - l.index
