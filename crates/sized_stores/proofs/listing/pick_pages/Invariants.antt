use Rattle.std.proofs.Common.{◌≡◌}
use Rattle.std.specs.Vec.{vec_capacity}
use Rattle.pool_store.specs.Store.{info_by}
use Rattle.sized_stores.proofs.Picked.{PicksFirst}
use Rattle.sized_stores.proofs.listing.pick_pages.Given as goal

-- those of the pages before this one are picked
abbrev pub invariant-loop-i : goal.invariant-loop-i
invariant-loop-i l = PicksFirst (info_by l.directory) l.new l.pages l.i l.limit l.list.pages.items l.list.places.items × (vec_capacity l.list.pages ≡ vec_capacity l.fn.list.pages)
    × (vec_capacity l.list.places ≡ vec_capacity l.fn.list.places)
