use Rattle.upgrades.proofs.Names.{◌≡◌, ◌+◌, ◌*◌, ◌<◌, ℕ, length}
use Rattle.directories.specs.Entries.{SaysEntry, entry_bytes}
use Rattle.upgrades.specs.NewPool.{entry_kept, files_in}
use Rattle.upgrades.proofs.new_directory.directory_page.Given as goal

-- the first entries are written
abbrev pub invariant-loop-place : goal.invariant-loop-place
invariant-loop-place l = record {
  size : length l.bytes ≡ 4096;
  says : (i : ℕ) → i < l.place → SaysEntry (entry_bytes l.bytes i) (entry_kept (files_in l.files) (16 * l.page + i));
}
