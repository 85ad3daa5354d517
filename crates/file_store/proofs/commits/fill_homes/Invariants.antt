use Rattle.file_store.{proofs.Names.{◌≡◌, ◌<◌, ℕ, Some, length, slice_get, slice_index, FilePage}, specs.Store.{home_of}}
use Rattle.file_store.proofs.commits.fill_homes.Given as goal

abbrev pub invariant-loop-i : goal.invariant-loop-i
invariant-loop-i l = record { size : length l.homes ≡ 1023; each : (i : ℕ) (p : FilePage) → i < l.i → slice_get l.pages i ≡ Some p → slice_index l.homes i ≡ home_of l.directory p }
