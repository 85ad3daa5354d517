-- What the proofs of this crate cite of the crates below it and of the standard library: `use Rattle.file_store.proofs.Names.{..}`.
pub use Rattle.{byteorder.specs.{Endian.{little_bytes}, Numbers.{little_number-reads_back}}, disk_model.proofs.Moments.{asks_once, asks_wider, asks_then, wider, then, asks_named, goes_on, started, after_write, after_none, asks_none, weaker, stays}}
pub use Rattle.disk_model.{proofs.{Naming.{once_none, once_named, once_apart, once_wider, once_still}, Pages.{length_put}, Pieces.{joined-same, joined_parts}}, specs.{Moments.{AsksOnly, Touches, Nothing, LeavesOnly, LeavesNow}, Sectors.{part_of}, Stop.{Names, NamesOnce, Image, MayLeave, Elapses, ChangesOnly}}}
pub use Rattle.{disk_model.specs.declared.sector_disk.SectorDisk.{Ghosts}, std.proofs.Common.{ℕ, subst, inr, inl, ◌≡◌, ◌≤◌, ◌∙◌, arith, ⊎_elim, Ok, OnOk, Err, ◌⊎◌, sym, Result, ap, refl, zero, Option, List, map, Some, None, ◌<◌, eqb}}
pub use Rattle.std.proofs.Common.{slice_get, slice_index, length, suc, cond, ◌≢◌, get_or, ◌+◌, take, false, ◌*◌, drop, ◌/◌, ◌%◌, ◌-◌, [], ◌++◌, set, ◌^◌, replicate, Bool, true, ◌∷◌, length-drop, length-take, rules, drop-drop, min}
pub use Rattle.std.proofs.lemmas.{Bool.{cases_eq, eq-eqb, cases_lt, cond_both, cond-false, cases_Bool, ne_eqb, cond-true, false≢true, Decides.{nat_tests}}, Grind.{same_number_lists}, List.{get_or-take, length-take-le, length-map}}
pub use Rattle.std.proofs.lemmas.List.{get_or-map, get_or-append_right, get_or_past, get_or_append_left, get_or-drop, get_or-set_same, get_or-set_other, drop_at, drop-replicate, take_all, take_at, length-append, drop_all, ext_get_or}
pub use Rattle.std.proofs.lemmas.{List.{length-replicate, get_or-replicate, append-nil, drop-set-lt, length-set, take_rest}, Option.{same_Some, slice_get_within, slice_get-get_or, slice_get_past, none-some, slice_get_cases, slice_get_read}}
pub use Rattle.std.{proofs.lemmas.{Option.{MatchOption-at_none}, Result.{on_ok_weaker}, Slice.{put_mid-paste}}, specs.{Io.KnownBytes.{Consumes}, Option.{option_map}, Prelude.{IsErrAnd, OnErr, IfSome}}}
pub use Rattle.std.specs.Prelude.{IsErr, IsErrOf, IsSome, IfErr}
pub use Rattle.sync_journal.proofs.{Changes.{closed_not_bad}, Gates.{closed}, Images.{standing_closed}, Layouts.{looking, looked_then}, Maps.{same_number}, OneRecoveries.{ones_fix}, OldJournals.{places_apart, place_behind}, Runs.{one_more, read_only}, Sectors.{so_before, so_since}, Shared.{none_are}}
pub use Rattle.sync_journal.specs.{Commit.{sector_or, one_journal, IsAtRest}, Gate.{closed_sector}, Journal.{live_homes}, Layout.{first_home_sector, home_count, home_sector, IsPageSector, IsOutside, IsRecovered}, Layouts.{HomesStandAs, IsKept, IsSettled, StandsForPages, StandsForEitherPages}, Map.{AreHomes, home_rank}}
pub use Rattle.sync_journal.specs.{OldJournal.{old_homes, old_sizes, StandsAsFound, IsLookedAtIn}, OldLayouts.{old_gate, is_old_open, old_home_count, old_place, old_standing, sizes_under, IsBadOld}, Recovering.{RecoversOne}, Runs.{RunsOnDevice}, Standing.{IsAskedIn, place_or_home_in}}
pub use Rattle.sync_journal.specs.declared.{faults.RecoverFault.{RecoverFault}, journal.Journal.{Journal}, old_journal.OldJournal.{OldJournal}, version.Version.{Version, TheVariants.{One, Two, Three}}}
pub use Rattle.vm_types.specs.declared.file.{FileInfo.{FileInfo}, FilePage.{FilePage}}
pub use borrow.Rule.Slice.PartMut.{put_mid, post_of, mid_of}
unfoldable pub use Rattle.{disk_model.specs.Sectors.{joined}, sync_journal.specs.{Commit.{changed}, Map.{place_among}}}
