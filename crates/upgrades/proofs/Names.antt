-- What the proofs of this crate cite of the crates below it and of the standard library: `use Rattle.upgrades.proofs.Names.{..}`.
pub use Rattle.disk_model.proofs.{Moments.{asks_none, stays, wider}, Naming.{once_apart, once_named, once_none, once_still, once_wider}, Pieces.{joined-same, joined_parts}}
pub use Rattle.disk_model.specs.{Moments.{AsksOnly, Nothing, Touches}, Sectors.{part_of}, Stop.{Image, MayLeave, Names, NamesOnce}, declared.sector_disk.SectorDisk.{Ghosts}}
pub use Rattle.std.proofs.Common.{ℕ, zero, suc, Bool, true, false, List, Option, Some, None, Result, Ok, Err, OnOk, ◌≡◌, ◌⊎◌, ◌∙◌, refl, sym, ap, subst, ⊎_elim, inl, inr, arith, rules}
pub use Rattle.std.proofs.Common.{◌≤◌, ◌<◌, ◌+◌, ◌-◌, ◌*◌, ◌/◌, ◌%◌, ◌^◌, min, length, replicate, slice_get}
pub use Rattle.std.proofs.lemmas.{Bool.{Decides.{nat_tests}, cases_eq, cases_lt, cond-false, cond-true, false≢true}, List.{append-nil, get_or_past, take_at}}
pub use Rattle.std.proofs.lemmas.{Option.{none-some, same_Some}, Result.{IfOk-weaker, on_err_weaker, on_ok_weaker}, Slice.Eq.{bytes_eq-Decides}}
pub use Rattle.std.specs.{Option.{option_map}, Prelude.{IsErrAnd, IsErrOf}}
pub use Rattle.sync_journal.{proofs.Runs.{of_more, one_more}, specs.{Layout.{IsPageSector}, Runs.{RunsOnDevice}}}
unfoldable pub use Rattle.disk_model.specs.Sectors.{joined}
