use Rattle.std.proofs.Common.{◌≤◌}
use Rattle.std.specs.Vec.{vec_capacity}
use Rattle.pool_store.specs.Store.{info_by}
use Rattle.sized_stores.specs.Store.{AreDurable}
use Rattle.sized_stores.proofs.store.durable_sizes.Given as goal

-- those of the files before this one stand there, and there is room for the others
abbrev pub invariant-loop-file : goal.invariant-loop-file
invariant-loop-file l = AreDurable (info_by l.directory) l.file l.sizes.items × (l.places ≤ vec_capacity l.sizes)
