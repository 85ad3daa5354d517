-- What the proofs of this crate cite of the crates below it and of the standard library: `use Rattle.sync_journal.proofs.Names.{..}`.
pub use Rattle.{byteorder.specs.{Endian.{little_bytes, little_number}, Numbers.{little_number-reads_back}}, disk_model.proofs.Moments.{asks_once, asks_then, asks_named, weaker, started, then, goes_on, wider, after_none, after_page}}
pub use Rattle.disk_model.{proofs.{Moments.{asks_none, stays, asks_wider}, Naming.{once_apart, once_named, once_wider, once_still, once_none}, Pieces.{joined-same, joined_parts}}, specs.Moments.{AsksOnly, LeavesOnly, Touches, Nothing}}
pub use Rattle.{disk_model.specs.{Sectors.{part_of}, Stop.{Image, Names, NamesOnce, MayLeave, IsOfPage, ChangesPage, Elapses}, declared.sector_disk.{DiskFault.{DiskFault}, SectorDisk.{Ghosts}}}, std.proofs.Common.{refl, ◌<◌, ◌≡◌, ◌+◌, inl}}
pub use Rattle.std.proofs.Common.{length, List, ◌≤◌, true, inr, ◌⊎◌, ℕ, ◌*◌, subst, [], arith, sym, ⊎_elim, Result, ap, Err, Ok, ◌∙◌, false, get_or, ◌≢◌, None, replicate, ◌==◌, if◌then◌else◌, Option, zero, Bool, Some, add-one, suc, not}
pub use Rattle.std.proofs.{Common.{OnOk, take, OnErr, drop, ◌^◌, ◌-◌, drop-drop, ◌++◌, ◌∷◌, lit<, rules, length-take}, lemmas.{Bool.{cases_eq, cases_lt, eqb-false, eqb-true, eq-eqb, Decides.{nat_tests}}, List.{length-take-le, get_or-take}}}
pub use Rattle.std.{proofs.lemmas.{List.{get_or-drop, drop-replicate, take-append-le, get_or_append_left, take_at}, Result.{on_ok_weaker}, Slice.Eq.{bytes_eq-Decides}}, specs.{List.{flat_map}, Prelude.{IsErr, IsErrOf, IsErrAnd, IfSome}}}
pub use Rattle.std.specs.Prelude.{MatchOption, IfOk}
pub use borrow.Rule.Slice.PartMut.{put_mid, post_of}
unfoldable pub use Rattle.disk_model.specs.Sectors.{joined}
