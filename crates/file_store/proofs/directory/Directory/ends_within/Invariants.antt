use Rattle.file_store.{proofs.Names.{◌≡◌, ℕ, ◌<◌, ◌≤◌, get_or, Some, None}, specs.{Directory.{home_end}, declared.directory.Entry.{Entry}}}
use Rattle.file_store.proofs.directory.Directory.ends_within.Given as goal

abbrev pub invariant-loop-entry : goal.invariant-loop-entry
invariant-loop-entry l = (f : ℕ) (e : Entry) → f < l.entry-index → get_or l.self.entries f None ≡ Some e → home_end e ≤ l.homes
