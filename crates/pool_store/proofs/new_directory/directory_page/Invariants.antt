use Rattle.pool_store.proofs.Names.{◌≡◌, ◌+◌, ◌*◌, ◌^◌, ◌<◌, ℕ, Some, length}
use Rattle.directories.specs.{Entries.{SaysEntry, entry_bytes}, declared.entry.Entry.{Entry}}
use Rattle.pool_store.specs.Format.{entry_given}
use Rattle.pool_store.proofs.new_directory.directory_page.Given as goal

-- the first entries are written
abbrev pub invariant-loop-place : goal.invariant-loop-place
invariant-loop-place g l = record {
  size : length l.bytes ≡ 4096;
  says : (i : ℕ) → i < l.place → SaysEntry (entry_bytes l.bytes i) (entry_given l.sources (16 * l.page + i));
  short : (i : ℕ) (e : Entry) → i < l.place → entry_given l.sources (16 * l.page + i) ≡ Some e → e.length < 2 ^ 32;
}
