-- What the proofs of this crate cite of the crates below it and of the standard library: `use Rattle.stores.proofs.Names.{..}`.
pub use Rattle.disk_model.proofs.{Moments.{goes_on, started, stays, then, weaker, wider}}
pub use Rattle.disk_model.specs.{Moments.{AsksOnly, LeavesNow, LeavesOnly, Nothing, Touches}, Stop.{Image, MayLeave}, declared.sector_disk.SectorDisk.{Ghosts}}
pub use Rattle.std.proofs.Common.{ℕ, zero, suc, Bool, true, false, not, List, Option, Some, None, Result, Ok, Err, OnOk, ◌≡◌, ◌⊎◌, ◌∙◌, refl, sym, ap, subst, ⊎_elim, inl, inr, arith}
pub use Rattle.std.proofs.Common.{◌≤◌, ◌<◌, ◌*◌, [], ◌∷◌, get_or, true≢false}
pub use Rattle.std.proofs.lemmas.{Bool.{cases_eq}, Slice.Eq.{bytes_eq-Decides}}
pub use Rattle.sync_journal.specs.{Runs.{RunsOnDevice}}
