-- What the proofs of this crate cite of the crates below it and of the standard library: `use Rattle.pool_store.proofs.Names.{..}`.
pub use Rattle.disk_model.proofs.{Moments.{asks_once, goes_on, started, stays, then, wider}, Naming.{once_apart, once_named, once_none, once_still, once_wider}, Pieces.{joined-same, joined_parts}}
pub use Rattle.disk_model.specs.{Moments.{LeavesOnly, Nothing, Touches}, Sectors.{part_of}, Stop.{Image, MayLeave, NamesOnce}, declared.sector_disk.SectorDisk.{Ghosts}}
pub use Rattle.std.proofs.Common.{ℕ, zero, suc, Bool, true, false, List, Option, Some, None, Result, Err, OnOk, ◌≡◌, ◌⊎◌, ◌∙◌, refl, sym, ap, subst, ⊎_elim, inl, inr, arith, rules}
pub use Rattle.std.proofs.Common.{◌≤◌, ◌<◌, ◌+◌, ◌-◌, ◌*◌, ◌/◌, ◌%◌, ◌^◌, min, eqb, drop, drop-drop, get_or, length, length-drop, replicate, set, slice_get}
pub use Rattle.std.proofs.lemmas.{Bool.{Decides.{nat_tests}, cases_eq, cases_lt, cond-false, cond-true, false≢true, ne_eqb}, List.{append-nil, drop-set-lt, get_or_past, length-set, take_at}}
pub use Rattle.std.proofs.lemmas.{Option.{none-some, same_Some, slice_get_past, slice_get_read, slice_get_within}, Result.{on_err_weaker, on_ok_weaker}, Slice.Eq.{bytes_eq-Decides}}
pub use Rattle.std.specs.{Option.{option_map}, Prelude.{IfSome, IsErrAnd, IsErrOf, IsSome}}
pub use Rattle.sync_journal.specs.{Blocks.{LeavesInBlocks}, Layout.{IsPageSector}, Runs.{RunsOnDevice}}
unfoldable pub use Rattle.disk_model.specs.Sectors.{joined}
