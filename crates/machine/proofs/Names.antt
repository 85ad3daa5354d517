-- What the proofs of this crate cite of the crates below it and of the standard library: `use Rattle.machine.proofs.Names.{..}`.
pub use Rattle.residency.{proofs.Moves.{view-none}, specs.{Calls.{UsesDevice, IsStart}, Parts.{IsFit}, Picture.{is_live, picture_of, Picture}, Reading.{ReadsStore}, Shows.{ShowsPages}, Stalls.{ReadCause}, declared.kernel.Core.{Core}}}
pub use Rattle.disk_model.{proofs.{Moments.{stays, asks_none, asks_then, asks_wider, joined, started, holds_now, weaker, goes_on, still_leaves}, Naming.{once_none}}, specs.{Moments.{LeavesOnly, LeavesNow, Touches, Nothing}, Stop.{Image, MayLeave}, Tally.{Tally}}}
pub use Rattle.{disk_model.specs.declared.sector_disk.SectorDisk.{Ghosts}, fault.{proofs.{AccessAsking.{asks_same}, AccessSlotted.{slotted_same}, Asking.{asks_slots_same}, Wanted.{calm_same}}, specs.Changes.{KeepsRoom}}}
pub use Rattle.sized_stores.specs.{Store.{can_resize_in, directory_in, directory_of, disk_of, durable_files_of, files_in, files_of, is_resized, is_resized_in, kept_of, shortest_in, shortest_of, with_length, HaveSizes, IsReadySized, IsSizeOf, SizedDirectory}, declared.{sizes.Size.{Size}, store.SizedStore.{SizedStore}}}
pub use Rattle.stores.specs.Store.{AnyDirectory, StoreKept, StoreKept.{OfJournal, OfPool}}
pub use Rattle.stores.specs.{Images.{StandsForContents, StandsForEitherContents, standing_page, file_info, StandsAs, StandsFor}, declared.faults.OpenFault.{OpenFault}}
pub use Rattle.{frames.specs.FrameTable.{frame_count}, msync.{proofs.SettledPages.{settles_nothing}, specs.Core.{GivesBack, Failed, Lacking, LacksTaken, Commits, KeepsAll, KeepsMemory, Unread, Acknowledged}}}
pub use Rattle.{page_cache.specs.declared.place.Place.TheVariants.{Home}, ranges.{proofs.Named.{named-alike}, specs.Steps.{KeepsDevices}}, spaces.proofs.{Asking.{writes_none}, Pages.{attrs_seen}, Returning.{empties_none, permits_none, takes_none}}}
pub use Rattle.{spaces.specs.{Accesses.{KeepsToPage, AsksFor}, Calls.{IsCaused}, Idle.{is_idle, is_denial, refused_count, names_store, names_swap}, Ranges.{GivesPagesBack}}, std.proofs.Common.{sym, ◌≡◌, Bool, ℕ, ◌∙◌, subst, true, false}}
pub use Rattle.std.proofs.Common.{ap, if◌then◌else◌, not, List, ◌≢◌, refl, ⊎_elim, [], Some, is_some, ◌⊎◌, rules, ◌*◌, inr, arith, None, ◌≤◌, inl, ◌<◌, ◌∷◌, ◌%◌, ◌==◌, Option, ◌/◌, nat_lt, sum_by, ◌+◌, zero, add-zero, suc, add-one, ◌++◌}
pub use Rattle.std.{proofs.{Common.{length, set, take_all, length-set, take}, lemmas.{Bool.{cases_Bool, false≢true, false_from_ne_true, true_from_ne_false}, List.{take_more_set, take_more, Sums.{sum_by-cons}}}}, specs.Prelude.{option_map}}
pub use Rattle.{swap.specs.Slots.{slots_of}, vm_types.specs.{Access.{with_shown_bytes}, Checks.{first_of, Check, pages_from, page_count}, Files.{Files, Contents}, History.{Past}, Limits.{user_end}}}
pub use Rattle.vm_types.specs.{Mapping.{mmap_place, mmap_errno}, Msync.{msync_ruling, committed, Refuses, or_else, Passes, Takes, touched_count, shows_resized, Ruling, row_ruling}, Objects.{maps_of, names, is_named}, Prefix.{is_io_error, may_have_taken}}
pub use Rattle.vm_types.specs.{Prefix.{is_msync, IsPrefixHolding, is_done, this_or_further, acknowledged, after_msyncs, after_event, Event}, Processes.{least_free_pid}, Ranges.{covered_checks, asked_checks, row_checks, munmap_checks}}
pub use Rattle.vm_types.specs.{Replies.{reply_of}, Rows.{is_covered}, Run.{Stalls, Step, Answers, Fails, Lacks, Stays}, Stalls.{is_success, Causes, MayStall}, State.{State, halted, IsRunning}, Step.{outcome, past_after, answers, load_outcome, commits_lengths, truncate_outcome}, Truncation.{length_in, truncate_checks, truncated}}
pub use Rattle.vm_types.specs.{Step.{store_outcome, takes, fetch_outcome, Outcome, ruling, commits, commit_of, msync_outcome, noted, mmap_outcome, spawn_outcome, fork_outcome, refused_or}, Verdict.{Fine, Faults, Verdict}, View.{View}}
pub use Rattle.vm_types.specs.{View.{attrs_of}, declared.{access.{Access.{Access}, StoredValue.{StoredValue}}, command.Command.{Command, TheVariants.{Msync, Truncate, Munmap, Dontneed, Mprotect, Spawn, Fetch, Exit, Fork, Mmap, Load, Store}}}}
pub use Rattle.vm_types.specs.declared.{command.{Command.TheVariants.{PastFaults}, MapSource.{MapSource}, MsyncMode.{MsyncMode, TheVariants.{Sync, Async}}}, object.{ObjectPage.{ObjectPage}, PageKey.{PageKey, TheVariants.{File, Object}}}}
pub use Rattle.vm_types.specs.declared.{file.FileInfo.{FileInfo}, permission.Prot.{Prot}, refusal.{Errno.{Errno, TheVariants.{EIO, ESRCH, ENOMEM, ENOSPC, EINVAL}}, Fault.{Fault}, Stall.{Stall, TheVariants.{SwapDevice, StoreDevice}}}, region.Backing.{Backing}}
pub use Rattle.vm_types.specs.declared.{region.Backing.TheVariants.{Anon}, reply.{Answer.{Answer}, Reply.{Reply, TheVariants.{Refused, Faulted, Stalled, Done, Halted}}}, width.Width.{Width}}
unfoldable pub use Rattle.residency.specs.Picture.{view, held}
