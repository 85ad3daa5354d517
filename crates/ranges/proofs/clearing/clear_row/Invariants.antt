use Rattle.ranges.{proofs.Names.{◌-◌, ◌≤◌, max, picture_of}, specs.{RowsCleared.{ClearsPages}, Steps.{IsCleared}}}
use Rattle.ranges.proofs.clearing.clear_row.Given as goal

abbrev pub invariant-loop-part : goal.invariant-loop-part
invariant-loop-part g l = record {
  low : l.initial.page ≤ l.page;
  high : l.page ≤ max l.initial.page l.end;
  pages : ClearsPages l.initial.core l.core l.pid l.initial.page l.page;
  cleared : IsCleared (picture_of l.core) l.pid l.initial.page l.page;
}

abbrev pub decreases-loop-part : goal.decreases-loop-part
decreases-loop-part g l = l.end - l.page
