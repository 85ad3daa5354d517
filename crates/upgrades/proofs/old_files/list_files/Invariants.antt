use Rattle.upgrades.proofs.Names.{◌≡◌, ◌<◌, ℕ, length}
use Rattle.upgrades.specs.{NewPool.{files_in}, Old.{files_of}}
use Rattle.upgrades.proofs.old_files.list_files.Given as goal

-- the first f files are listed
abbrev pub invariant-loop-f : goal.invariant-loop-f
invariant-loop-f l = record {
  size : length l.files ≡ 64;
  listed : (h : ℕ) → h < l.f → files_in l.files h ≡ files_of l.store h;
}
