use Rattle.std.proofs.Common.{◌≡◌, ◌+◌, drop}
use Rattle.pool_growth.specs.Files.{added_count}
use Rattle.pool_store.specs.Store.{info_by}
use Rattle.pool_growth.proofs.lookups.added_count.Given as goal

abbrev pub invariant-loop-change : goal.invariant-loop-change
invariant-loop-change l = l.count + added_count (info_by l.directory) (drop l.change-index l.changes) ≡ added_count (info_by l.directory) l.changes
