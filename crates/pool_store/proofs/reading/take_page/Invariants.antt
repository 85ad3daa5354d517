use Rattle.std.proofs.Common.{◌≡◌, ◌+◌, vec_len, vec_capacity}
use Rattle.pool_store.proofs.Entries.{FillsPage}
use Rattle.pool_store.proofs.reading.take_page.Given as goal

-- the entries before this one are read to where they belong
abbrev pub invariant-loop-place : goal.invariant-loop-place
invariant-loop-place l = FillsPage l.page l.place l.fn.entries.items l.entries.items × (vec_len l.entries ≡ vec_len l.fn.entries + 16) × (vec_capacity l.entries ≡ vec_capacity l.fn.entries)
