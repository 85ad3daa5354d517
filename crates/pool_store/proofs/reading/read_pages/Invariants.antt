use Rattle.std.proofs.Common.{◌≡◌, ◌*◌, vec_len, vec_capacity}
use Rattle.pool_store.proofs.PageReads.{HaveRead}
use Rattle.pool_store.proofs.reading.read_pages.Given as goal

-- the pages before this one are read, and there is room for the others
abbrev pub invariant-loop-home : goal.invariant-loop-home
invariant-loop-home g l = HaveRead g.D.SectorDisk l.journal l.fn.disk l.disk l.home l.entries.items × (vec_len l.entries ≡ 16 * l.home) × (vec_capacity l.entries ≡ 16 * l.pages)
