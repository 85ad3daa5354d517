use Rattle.std.proofs.Common.{◌≡◌, ◌≤◌, length}
use Rattle.pool_growth.specs.Asked.{changed_pages}
use Rattle.pool_growth.proofs.checking.count_changed.Given as goal

abbrev pub invariant-loop-page : goal.invariant-loop-page
invariant-loop-page l = record { so_far : l.count ≡ length (changed_pages l.changes l.page); few : l.count ≤ l.page }
