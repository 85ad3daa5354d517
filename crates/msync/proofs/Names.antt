-- What the proofs of this crate cite of the crates below it and of the standard library: `use Rattle.msync.proofs.Names.{..}`.
pub use Rattle.{swap.{proofs.Counting.{one_less}, specs.{Slots.{IsSectorOfSlot, slots_of, SlotTable, IsReady, or_none, IsInUse}, Written.{IsAsWritten, written_in}, declared.slots.Swap.{Swap}}}, disk_model.proofs.Moments.{asks_wider, holds_now, weaker}}
pub use Rattle.{disk_model.specs.{Moments.{AsksOnly, LeavesNow, LeavesOnly}, Stop.{Image}, declared.sector_disk.SectorDisk.{Ghosts}}, file_store.{proofs.Causes.{on_err}, specs.Commit.{cut_page}}}
pub use Rattle.stores.specs.{Images.{StandsForContents, StandsForEitherContents, SaysMostOf}, Store.{AnyDirectory, files_in, always_free_in, HasRoom}}
pub use Rattle.{stores.specs.declared.store.Store.{Store}, file_store.specs.{Standing.{IsPageOf}, Store.{entry_of}}}
pub use Rattle.{file_store.specs.declared.directory.{Directory.{Directory}, Entry.{Entry}}, directories.specs.declared.entry.Entry.{Entry as PoolEntry}}
pub use Rattle.pool_store.specs.{Files.{info_of}, Store.{entry_of as pool_entry_of}, declared.directory.Directory.{Directory as PoolDirectory}}
pub use Rattle.frames.{proofs.FrameLemmas.{with_bytes-others, with_bytes-same, IsHeld-not_zero, IsHeld-above, IsSound-step}, specs.FrameTable.{FrameTable, frame_count, role_of, IsFrame, with_bytes, bytes_of, IsSound, is_handed_out, IsHeld}}
pub use Rattle.{frames.specs.declared.role.Role.{Role, TheVariants.{Private, Cache, Table, Free}}, page_cache.{proofs.NodeLemmas.{same_file_page, same_file_page_true}, specs.CacheTable.{is_touched, place_of, CacheTable}}}
pub use Rattle.{page_cache.specs.{Gathering.{Gathers, IsGathering, IsTouchedIn, HasAll}, declared.place.Place.TheVariants.{Slot, Home, Frame}}, regions.specs.{RunList.{IsNextRun, attr_at}, declared.run.Run.{Run}}, residency.proofs.Bits.{leaf_dirty}}
pub use Rattle.residency.proofs.{Bits.{seven_clear, bit_seven}, Cleaning.{views_untouched, entries_untouched, Untouches, held_untouched, all_placed, fit_untouched}, Counts.{any-same, sum-one, count-same, sum-none, count-none}}
pub use Rattle.residency.proofs.{Granting.{user_map-same}, Homing.{Homes, held_none, views, held_else, same, fit_homed}, Places.{record_of, cases_page}, Setting.{bytes_else, view_seated, held_same, entries_written, each_view, fit_written}}
pub use Rattle.residency.specs.{Leaves.{KeepsAllButFrames, IsChanged, ChangesLeaves}, Parts.{IsFit, nowhere, HasPlaces}, Picture.{Picture, picture_of, root_in, attr_where, is_private, entry, is_live, own_in, view_of, IsOwned, bytes_in}}
pub use Rattle.{residency.specs.{Picture.{bytes_at, is_data}, Seats.{InFrame, InSlot, seat, Seat}, Shows.{ShowsPages}, Steps.{SameBeside}, declared.{kernel.Core.{Core}, leaves.Change.TheVariants.{ClearDirty}}}, std.proofs.Common.{Result}}
pub use Rattle.std.proofs.Common.{◌≤◌, Bool, subst, ◌∙◌, arith, ◌⊎◌, sym, ap, Err, Ok, List, ℕ, refl, ◌≡◌, ◌<◌, ⊎_elim, [], true, length, take, get_or, ◌≢◌, ◌&&◌, replicate, None, slice_get, ◌*◌, not, ◌-◌, inl, inr, ◌++◌, Some, min, false}
pub use Rattle.std.proofs.{Common.{Option, get_or-take, rules, ◌==◌, if◌then◌else◌, ltb, ◌+◌, leb, ◌^◌, ◌/◌, ◌∷◌, ◌%◌, suc, nat_lt, zero, below_more}, Math.Bool.{and-false, and-true}, lemmas.Bool.{cases_lt, cases_Bool, and_from, and_parts}}
pub use Rattle.std.proofs.lemmas.{Bool.{false≢true, cases_eq, both_ways, not-true, false_from_ne_true, Decides.{nat_tests}}, List.{length-take-le, get_or_past}, Option.{get_or_from_slice_get, slice_get_within, slice_get-get_or, same_Some}}
pub use Rattle.{std.{proofs.lemmas.Result.{on_err_weaker}, specs.{Option.{option_map}, Prelude.{IfOk, IsErrOf, is_some}}}, sv39_walk.specs.Entry.{frame_of, is_dirty, is_valid}}
pub use Rattle.vm_types.{proofs.Naming.{any-where, any-at}, specs.Attributes.{file_page_eq, backing_after}}
pub use Rattle.vm_types.specs.{Checks.{first_of, page_count, pages_from}, Counting.{any_below, count_below, sum_below}, Files.{trimmed, inside_of, cut, Files, Contents}}
pub use Rattle.vm_types.specs.{Msync.{committed, committed_pages, synced, touched_in, msync_ruling, shares, or_else, row_ruling, is_shared_page}, State.{State}, Step.{commit_of, msync_outcome, commits}, View.{Pages, attrs_of, View}}
pub use Rattle.vm_types.specs.declared.{command.MsyncMode.{MsyncMode, TheVariants.{Sync, Async}}, file.{FileInfo.{FileInfo}, FilePage.{FilePage}}, number.SlotNo.{SlotNo}, object.{ObjectPage.{ObjectPage}, PageKey.{PageKey}}}
pub use Rattle.vm_types.specs.declared.{object.PageKey.TheVariants.{File, Object}, refusal.{Errno.TheVariants.{EIO, ENOMEM}, Stall.{Stall, TheVariants.{SwapDevice}}}, region.{Attr.{Attr}, Backing.{Backing, TheVariants.{Shared}}}}
pub use Rattle.vm_types.specs.declared.{command.Command.TheVariants.{Msync}, reply.{Answer.{Answer, TheVariants.{Stalled}}, Reply.{Reply, TheVariants.{Done, Refused}}}}
unfoldable pub use Rattle.{residency.specs.Picture.{held, view}, vm_types.specs.{Msync.{touched_count}, Rows.{is_covered}}}
