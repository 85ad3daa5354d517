use Rattle.std.proofs.Common.{◌≡◌, ◌≤◌}
use Rattle.std.specs.Vec.{vec_capacity}
use Rattle.pool_store.specs.Store.{info_by}
use Rattle.sized_stores.proofs.Zeroed.{first_zero, ListsFirst}
use Rattle.sized_stores.proofs.listing.list_zeros.Given as goal

-- those of the pages before this one that are zeros are listed
abbrev pub invariant-loop-page : goal.invariant-loop-page
invariant-loop-page l = ListsFirst (info_by l.asked.directory.now) l.asked.sizes.now l.asked.pages.now l.file l.limit l.page l.fn.kept.items l.kept.items × (first_zero l.asked.sizes.now l.file ≤ l.page)
    × (vec_capacity l.kept ≡ vec_capacity l.fn.kept)
