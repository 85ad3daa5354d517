use Rattle.std.proofs.Common.{ℕ, ◌≡◌, ◌+◌, ◌*◌, ◌<◌, length}
use Rattle.directories.specs.{Entries.{SaysEntry, entry_bytes}, Layouts.{entry_in}}
use Rattle.pool_growth.specs.Asked.{entries_then}
use Rattle.pool_growth.proofs.front.page_then.Given as goal

-- the first entries are written
abbrev pub invariant-loop-place : goal.invariant-loop-place
invariant-loop-place l = record {
  size : length l.bytes ≡ 4096;
  says : (i : ℕ) → i < l.place → SaysEntry (entry_bytes l.bytes i) (entry_in (entries_then l.directory l.changes) (16 * l.page + i));
}
