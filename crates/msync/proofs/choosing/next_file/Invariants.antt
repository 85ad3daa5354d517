use Rattle.msync.{proofs.Names.{◌-◌, ◌≤◌, attr_at}, specs.{Choice.{is_whole, IsNextFile}, Judging.{is_resized_by}}}
use Rattle.msync.proofs.choosing.next_file.Given as goal

abbrev pub invariant-loop-page : goal.invariant-loop-page
invariant-loop-page g l = record {
  from : l.row.first ≤ l.page;
  to : l.page ≤ l.row.end;
  next : IsNextFile (is_whole (is_resized_by l.core) (attr_at l.regions) l.row.first (l.page - l.row.first)) l.from l.least;
}

abbrev pub decreases-loop-page : goal.decreases-loop-page
decreases-loop-page g l = l.row.end - l.page
