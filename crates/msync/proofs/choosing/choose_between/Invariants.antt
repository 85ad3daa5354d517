use Rattle.msync.{proofs.Names.{◌-◌, ◌≤◌, ◌≡◌, attr_at, is_touched, IsGathering}, specs.{Choice.{of_files, is_chosen, Appends}, Judging.{is_resized_by}, Rooms.{size_of}}}
use Rattle.msync.proofs.choosing.choose_between.Given as goal

abbrev pub invariant-loop-page : goal.invariant-loop-page
invariant-loop-page g l = record {
  from : l.row.first ≤ l.page;
  to : l.page ≤ l.row.end;
  chosen : Appends (is_chosen (of_files (is_touched l.core.cache)) (is_resized_by l.core) (attr_at l.regions) l.row.first (l.page - l.row.first)) l.fn.lists.pages.items l.lists.pages.items 0 l.count;
  next : IsGathering l.core.cache l.lists.pages.items l.lists.ranks.items l.count;
  size : size_of l.lists ≡ size_of l.fn.lists;
}

abbrev pub decreases-loop-page : goal.decreases-loop-page
decreases-loop-page g l = l.row.end - l.page
