use Rattle.ranges.{proofs.Names.{ℕ, ◌-◌, ◌≤◌, picture_of}, specs.{RowsCleared.{ClearsPages}, Steps.{IsCleared}}}
use Rattle.ranges.proofs.clearing.clear_part.Given as goal

abbrev pub invariant-loop-page : goal.invariant-loop-page
invariant-loop-page g l = record {
  low : l.fn.start ≤ l.page;
  high : l.page ≤ l.end;
  pages : ClearsPages l.initial.core l.core l.pid l.fn.start l.page;
  cleared : (low : ℕ) → low ≤ l.fn.start → IsCleared (picture_of l.initial.core) l.pid low l.fn.start → IsCleared (picture_of l.core) l.pid low l.page;
}

abbrev pub decreases-loop-page : goal.decreases-loop-page
decreases-loop-page g l = l.end - l.page
