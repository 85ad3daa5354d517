use Rattle.ranges.{proofs.Names.{◌-◌, ◌≤◌, max}, specs.RowsPermitted.{PermitsPages}}
use Rattle.ranges.proofs.permitting.reprotect.Given as goal

abbrev pub invariant-loop-page : goal.invariant-loop-page
invariant-loop-page g l = record {
  low : l.initial.page ≤ l.page;
  high : l.page ≤ max l.initial.page l.end;
  pages : PermitsPages l.initial.core l.core l.pid l.initial.page l.page l.prot;
}

abbrev pub decreases-loop-page : goal.decreases-loop-page
decreases-loop-page g l = l.end - l.page
