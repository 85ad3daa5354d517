use Rattle.std.proofs.Common.{ℕ, ◌≡◌, ◌<◌, ◌≤◌, ◌^◌, Some}
use Rattle.directories.specs.{Layouts.{entry_in}, declared.entry.Entry.{Entry}}
use Rattle.pool_store.proofs.reading.are_bounded.Given as goal

-- the files before this one are bounded
abbrev pub invariant-loop-file : goal.invariant-loop-file
invariant-loop-file l = (f : ℕ) (e : Entry) → f < l.file → entry_in l.entries f ≡ Some e → (f < 4096) × (e.length ≤ 2 ^ 42) × (e.extent_count ≤ 30)
