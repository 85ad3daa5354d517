use Rattle.std.proofs.Common.{◌≡◌, ◌+◌, replicate, vec_len, vec_capacity}
use Rattle.pool_store.specs.Reading.{AppendsPage}
use Rattle.pool_store.proofs.reading.take_blank.Given as goal

-- so many are appended
abbrev pub invariant-loop-place : goal.invariant-loop-place
invariant-loop-place l = AppendsPage (replicate 4096 0) l.place l.fn.entries.items l.entries.items × (vec_len l.entries ≡ vec_len l.fn.entries + l.place) × (vec_capacity l.entries ≡ vec_capacity l.fn.entries)
