use Rattle.ranges.{proofs.Names.{top_level, ◌≡◌, ◌-◌, ◌/◌, ◌≤◌, Some, picture_of, IsTableOf}, specs.RowsPermitted.{PermitsPages}}
use Rattle.ranges.proofs.permitting.permit_table.Given as goal

abbrev pub invariant-loop-page : goal.invariant-loop-page
invariant-loop-page g l = record {
  low : l.part.first ≤ l.page;
  high : l.page ≤ l.part.end;
  place : IsTableOf l.core.frames (top_level g.M.Levels.mode) l.row.root.0 (l.part.first / 512) l.part.table.0;
  root_is : (picture_of l.core).root l.part.pid ≡ Some l.row.root.0;
  pages : PermitsPages l.initial.core l.core l.part.pid l.part.first l.page l.prot;
}

abbrev pub decreases-loop-page : goal.decreases-loop-page
decreases-loop-page g l = l.part.end - l.page
