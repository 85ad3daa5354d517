use Rattle.file_store.{proofs.Names.{◌≡◌, ◌<◌, ◌^◌, ℕ, length, get_or, Some, None}, specs.{Directory.{AreGood, AreEntries}, declared.directory.Entry.{Entry}}}
use Rattle.file_store.proofs.directory.Directory.from_sector.Given as goal

abbrev pub invariant-loop-f : goal.invariant-loop-f
invariant-loop-f l = record { size : length l.entries ≡ 64; fits : (f : ℕ) (e : Entry) → f < l.f → get_or l.entries f None ≡ Some e → e.info.length < 2 ^ 32; read : AreEntries l.sector l.entries l.f; good : AreGood l.homes l.sector l.f }
