-- What the proofs of this crate cite of the crates below it and of the standard library: `use Rattle.spaces.proofs.Names.{..}`.
pub use Rattle.{disk_model.specs.{Moments.{AsksOnly, Nothing}, declared.sector_disk.SectorDisk.{Ghosts}}, fault.proofs.AccessShowing.{shows_files, shows_kept, bytes_shown, ShowsFiles, IsHomeDurable, shows_own, shows_shared, shows_common}}
pub use Rattle.fault.proofs.{Asking.{asks_slots_same}, Forms.{shared_none, mapped_page}, Ready.{view-mapped, own_in-none}, Serving.{tends_none}, Settled.{one_view}, Storing.{views_others, views_file, view-attr, fit_own, fit_file}}
pub use Rattle.fault.{proofs.{Storing.{entries_own, entries_file}, SwapSteps.{ready_released}}, specs.{Changes.{KeepsSlotted, IsThatPage, KeepsRoom, KeepsSeen, KeepsOtherViews}, Files.{BringsFiles, Proceeds}, Outcome.{IsRefusal}}}
pub use Rattle.fault.specs.{Outcome.{IsReadyFor, Reads, Grants, verdict_of, IsFrameFor, IsReadyToStore, IsOpenToStore, IsWalked}, Serving.{Reaches, Tends}, Wants.{RefusesAccess, ShowsFile, ReadsHome}}
pub use Rattle.{fault.specs.declared.refusal.AccessRefusal.{AccessRefusal}, sized_stores.specs.{Store.{IsReadySized, SizedDirectory, directory_in, directory_of, files_of, kept_of}, declared.store.SizedStore.{SizedStore as AnyStore}}, stores.specs.Store.{HasRoom}, frames.proofs.FrameLemmas.{with_bytes-others, IsHeld-not_zero}}
pub use Rattle.frames.{proofs.FrameLemmas.{IsHeld-above, IsSound-step}, specs.{FrameTable.{with_bytes, bytes_of, frame_count, IsFrame, IsFull, IsHeld, FrameTable, IsSound}, declared.role.Role.{Role, TheVariants.{Free}}}}
pub use Rattle.lifecycle.{proofs.{Returned.{none_taken, still_framed}, Shortage.{tables_alike}}, specs.Changes.{AddsProcess, RemovesProcess, KeepsProcesses, TakesNoFrame, TakesRoot, StallsToFork, ForksEntries, TakesTables}}
pub use Rattle.{msync.{proofs.Settled.{held_framed}, specs.Shows.{IsSoundCore, MarksEnds, cut_off_page, CoreShows}}, page_cache.{proofs.CountLemmas.{any_below-none}, specs.CacheTable.{is_touched, place_of}}, page_tables.specs.Change.{KeepsFrames}}
pub use Rattle.ranges.{proofs.{Emptied.{none_here}, Marking.{used_where, used_at}, Outlived.{shows_named, held_shown}}, specs.{Rows.{KeepsNamed, plain, without_maps, RemapsRow, with_map, ReprotectsRow, remapped}, Steps.{ReturnsTables}}}
pub use Rattle.{ranges.specs.Steps.{KeepsEntriesOfOthers}, regions.proofs.{CountLemmas.{run_count-maximal, run_count-same}, PermissionLemmas.{reads_replaced, reads_same, reads_kept, reads_removed}, RunLemmas.{lt_or_le}}}
pub use Rattle.{regions.{proofs.SearchLemmas.{is_free-at, is_place-is, is_free-all}, specs.{Permission.{IsReadableMap, ReadsToo}, RunList.{attr_at, IsNextRun}, declared.run.Run.{Run}}}, residency.proofs.Places.{objects-fewer}}
pub use Rattle.residency.{proofs.{Shown.{object-kept}, Tables.{sum-below}}, specs.{Ages.{GivesForTables, KeepsRoles}, Calls.{Refuses}, Parts.{IsFit, AreObjects, is_shared}, Picture.{picture_of, Picture, is_live, attr_where, view_of}}}
pub use Rattle.residency.specs.{Picture.{entry, own_in, root_in}, Reading.{ReadsStore}, Shows.{KeepsFiles, ShowsPages}, Stalls.{StallCause, ReadCause}, Steps.{SameBeside}, Ways.{KeepsAround}, declared.kernel.Core.{Core}}
pub use Rattle.std.proofs.Common.{Some, Err, rules, true, ◌/◌, ap, Ok, ◌≡◌, sym, Result, is_some, ℕ, inl, refl, ◌⊎◌, false, List, ◌≢◌, subst, ◌∙◌, Option, if◌then◌else◌, Bool, ⊎_elim, ◌==◌, arith, ◌++◌, None, ◌∷◌, [], option_map, ◌-◌, ◌<◌}
pub use Rattle.std.proofs.{Common.{◌≤◌, ◌+◌, ◌&&◌, not, ◌||◌, is_none, mul_comm, ◌*◌, IsSome, zero, suc, eqb-true, inr, eq-eqb, ne_eqb, leb, nat_lt, ◌%◌, min}, lemmas.Bool.{true≢false, and_parts, false≢true, cases_Bool, cases_eq, cases_lt}}
pub use Rattle.{std.{proofs.lemmas.{Bool.{false_from_ne_true, Decides.{nat_tests}}, Option.{none-some, same_Some}}, specs.Prelude.{IfOk, get_or}}, sv39_walk.specs.Walk.{is_store}, swap.specs.Slots.{slots_of, IsReady, SlotTable}}
pub use Rattle.{swap.specs.declared.slots.Swap.{Swap}, vm_types.{proofs.{Modes.{sizes}, Naming.{any-at}, NewObjects.{least-clear, free-unused}}, specs.{Access.{with_number, loaded, with_shown_bytes}, Attributes.{attr_after}}}}
pub use Rattle.vm_types.specs.{Attributes.{backing_after, backing_fits, with_prot}, Capacity.{tables_of}, Checks.{first_of, Check, page_count, pages_from}, Counting.{any_below}, Files.{Files}, Limits.{user_end, named_limit, object_limit}}
pub use Rattle.vm_types.specs.{Limits.{widest_end}, Mapping.{first_attr, mapped, mmap_errno, attr_for, mmap_place, with_mapping, has_too_many_runs, place_for, is_taken, first_backing}, Objects.{named_objects, Maps, free_object, maps_of}}
pub use Rattle.vm_types.specs.{Objects.{is_of_object, is_used, uses, names, is_object_page, is_named}, Permission.{can_write, kept}, Placement.{is_free, is_place}, Processes.{without_space, without_process, least_free_pid, with_process}}
pub use Rattle.vm_types.specs.{Ranges.{is_guarded_page, is_guarded, denies_stores, without_pages, unmapped, row_checks, permitted, reprotected, covered_checks, uncopied, without_own, munmap_checks, without_row}, Replies.{reply_of}}
pub use Rattle.vm_types.specs.{Rows.{in_row, replaced, IsUserMap, removed, protected}, Runs.{run_count}, Stalls.{reads_swap, is_success, cause_of, is_open_to, needs_frames, reads_files}, State.{State, shown, copy_or_behind, with_view}}
pub use Rattle.vm_types.specs.{Step.{outcome, answers, Outcome, fork_outcome, exit_outcome, spawn_outcome, mmap_outcome, refused_or, protect_outcome, fetch_outcome, judged, load_outcome, uncopy_outcome, store_outcome}, Verdict.{fault_of}}
pub use Rattle.vm_types.specs.{Verdict.{Faults, Verdict, Fine, verdict, lets, is_past_end, page_verdict}, View.{View, attrs_of}, Width.{byte_count}, declared.{access.{Access.{Access}, StoredValue.{StoredValue}}, command.Command.{Command}}}
pub use Rattle.vm_types.specs.declared.command.{Command.TheVariants.{Fetch, Store, Load, Fork, Spawn, Exit, Mmap, Mprotect, Dontneed, Munmap, Truncate}, MapSource.{MapSource, TheVariants.{Common, Private}}, Placing.{Placing, TheVariants.{Hint}}}
pub use Rattle.vm_types.specs.declared.{command.Placing.TheVariants.{NoReplace}, file.FilePage.{FilePage}, number.Phys.{Phys}, object.PageKey.{PageKey, TheVariants.{Object, File}}, permission.Prot.{Prot}, refusal.Code.{Code, TheVariants.{BusAdrerr, SegvAccerr}}}
pub use Rattle.vm_types.specs.declared.refusal.{Code.TheVariants.{BusAdraln}, Errno.{Errno, TheVariants.{ESRCH, EAGAIN, ENOMEM, EEXIST, EACCES, EINVAL}}, Fault.{Fault}, Stall.{Stall, TheVariants.{StoreDevice, NoSwap, SwapDevice, NoFrames}}}
pub use Rattle.vm_types.specs.declared.{region.{Attr.{Attr}, Backing.{Backing, TheVariants.{Anon, Shared}}}, reply.{Answer.{Answer}, Reply.{Reply, TheVariants.{Refused, Stalled, Faulted, Done, Process, Address, Value}}}}
pub use Rattle.vm_types.specs.declared.width.Width.{Width, TheVariants.{Four}}
unfoldable pub use Rattle.{lifecycle.specs.Changes.{IsShortToFork}, residency.specs.{Capacity.{IsShort, tables_over}, Picture.{view}}, vm_types.specs.{Capacity.{table_count}, Counting.{sum_below}, Objects.{least_from}, Placement.{placed}}}
unfoldable pub use Rattle.vm_types.specs.{Placement.{lowest_from, lowest_place}, Processes.{least_free_from}, Rows.{is_covered}}
