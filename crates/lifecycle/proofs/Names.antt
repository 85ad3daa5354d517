-- What the proofs of this crate cite of the crates below it and of the standard library: `use Rattle.lifecycle.proofs.Names.{..}`.
pub use Rattle.{disk_model.specs.declared.sector_disk.SectorDisk.{Ghosts}, fault.proofs.{Asking.{no_new_taken, no_new_then, no_new_held, asks_slots_then, asks_slots_kept, asks_slots_if, no_new_frees, asks_swap}, Forms.{used_inside}}}
pub use Rattle.fault.proofs.{Forms.{none_here, none_common}, Settling.{keeps_files_then}, Spawning.{fit_mapped, entries_remapped, one_some, bare_started, fit_started}, Steps.{room_then, tables_same, tables_then, same_with, bare_freed}}
pub use Rattle.fault.{proofs.{Steps.{device_then, room_freed}, SwapSteps.{ready_released}, WaySteps.{takes_stall, takes_none, takes_then, takes_done, nothing_on}}, specs.{Asking.{AsksNoNew, AsksSlots, AsksSlotsIf}, Changes.{KeepsSpaces}}}
pub use Rattle.{fault.specs.{Changes.{KeepsRoom, KeepsBare, KeepsTables, LinksTables, IsTableOnWay}, WaysLinked.{MakesWhole}}, frames.specs.FrameTable.{bytes_of, role_of, FrameTable, frame_count, Shares, count_of, IsSound, IsFull}}
pub use Rattle.{frames.specs.{FrameTable.{IsCountFor, IsFrame}, declared.role.Role.{Role, TheVariants.{Free, Table, Private, Cache, Zero}}}, memory.specs.Notes.{NamesNoMore}, page_cache.specs.CacheTable.{place_of, is_touched}}
pub use Rattle.{page_cache.specs.declared.place.Place.{Place, TheVariants.{Home, Frame, Slot}}, page_tables.proofs.{Bits.{parked_private, parked_framed, parked_frame}, Data.{KeepsTrees, data_shared}, Ends.{way_forth, last_entry-is}}}
pub use Rattle.page_tables.{proofs.{Ends.{missing_of-is, page_is_entry}, Fields.{root_field}, Places.{row_stays, row_same}, Ways.{cases_bool, last_at-stop, last_table-stop, only_way}}, specs.Change.{KeepsFrames, SetsEntry}}
pub use Rattle.page_tables.specs.{Entry.{number_of, IsEntry, IsPageEntry}, Places.{IsTableOf}, Tree.{IsPage, missing_of, Way, last_table, IsTable, Points, IsSpare, IsBelowRoot, page_entry, IsForest, IsRoot}, declared.forms.Entry.{Entry}}
pub use Rattle.{page_tables.specs.declared.forms.Entry.TheVariants.{Parked, Swapped, Leaf}, ranges.proofs.{BetweenEntries.{same_table, place_at, row_at, none_passed, none_at}, ClearedPages.{but_then, but_memory, rest-refl, rest_then, same_beside}}}
pub use Rattle.ranges.proofs.{ClearedPages.{one_page, returned_any}, ClearedPlaces.{past}, Emptied.{unmapped_zero, row_out, low_zero}, Forgotten.{IsRowRemapped, none_left_forgot, row_forgot}, Gaps.{missing_same}, LastName.{away_or}}
pub use Rattle.ranges.{proofs.{Named.{named-imp}, Returning.{not_away, same_but-refl}, Sharing.{sits, sits_none, private_used}}, specs.{Rows.{KeepsNamed, without_maps, IsLasting}, Steps.{IsMappedBeside, IsWithoutTables}}}
pub use Rattle.{ranges.specs.Steps.{KeepsEntriesOfOthers, LosesSlots, KeepsDevices, ReturnsTables}, regions.{proofs.ResultLemmas.{on_err}, specs.{RunList.{attr_at}, declared.run.Run.{Run}}}, residency.proofs.Aging.{gives_then, ages_map}}
pub use Rattle.residency.proofs.{Counts.{count-sole, count-most, count-same}, Entries.{entry-of, entries_kept, entry-same}, Evicted.{seat_number}, Exiting.{entries_left, fit_left}, Granting.{user_map-same, readable-same, granting_changed}}
pub use Rattle.residency.proofs.{Granting.{entry_for-same, KeepsBehind, past_end-same, granting_same, granting_by}, LeafSteps.{cases_attr}, Leaving.{home_held}, Moves.{bytes_same, set_by, view-none, page_kept, count_kept, behind_kept, owned_back, owned_forth}}
pub use Rattle.residency.proofs.{Places.{places_same, dirty_changed, dirty_same}, Puts.{SameButSlots, fit_slots, slots_forth, slots_back, slots_counts, slots_pages}, Putting.{with_slots}, Rooted.{rooted_frames, rooted_same}, SeatForms.{away_seat, seat_own, seat_common, bit_clear}, Seats.{off-none}}
pub use Rattle.residency.proofs.{Seats.{counted_filled, cases_seat, counted_shared, holders_none}, Setting.{held_by, held_same, view_seated, set_held, other_views, fit_set, set_views, each_view}, Start.{no_bit, seat-none, entry-dead, cases_some}}
pub use Rattle.residency.{proofs.{TableSteps.{rooted_set, sets_page}, Tables.{sum-below}}, specs.{Ages.{GivesForTables, Same, KeepsRoles, KeepsRolesBut, Cleared, Left, Ages, IsGiven}, Calls.{KeepsBesideProcesses, ObtainsTable, KeepsPages}}}
pub use Rattle.residency.specs.{Calls.{Frees, Refuses, UsesDevice}, Capacity.{touched_file, stored_object}, Parts.{AreObjects, IsFit, Nothing, IsMapped, IsGranting, IsEntryFor, Resident, Away, OnWay, IsUsed, AsRoot, IsRootedBut, IsFitBut}}
pub use Rattle.residency.specs.{Parts.{nowhere, IsBehind}, Picture.{bytes_in, view_of, Picture, entry, own_in, picture_of, is_live, IsOwned, number_of_frame, page_in, count_in, bytes_at, is_data, attr_where, root_in}, Seats.{InFrame}}
pub use Rattle.residency.specs.{Seats.{InSlot, seat, Seat, is_private, is_swapped, is_seat, off}, Shows.{KeepsFiles}, Stalls.{StallCause}, Steps.{Remaps, Spawns, Exits, SameBeside, SetsPage}, Ways.{IsWhole}, declared.kernel.Core.{Core}}
pub use Rattle.std.proofs.Common.{inr, Option, None, ◌≡◌, ◌∙◌, eq-eqb, ◌≢◌, if◌then◌else◌, inl, Some, ◌==◌, sym, ap, ℕ, refl, ne_eqb, List, true, subst, ◌⊎◌, Bool, false, Ok, ◌≤◌, arith, ◌<◌, ◌^◌, suc, zero, ◌*◌, ◌+◌, ◌-◌, get_or, ◌/◌, ◌%◌}
pub use Rattle.std.{proofs.{Common.{[], eqb-true, rules}, Math.Path.{fun_ext}, lemmas.{Bool.{cases_eq, cases_Bool, false≢true, cases_lt, and_parts}, Option.{same_Some}}}, specs.Prelude.{IsSome, Result, IsErrAnd, Err, is_some, IfErr}}
pub use Rattle.{std.specs.Prelude.{option_map, ◌&&◌, slice_index_or}, sv39_walk.specs.{Entry.{can_write, is_valid, entry_at, is_pointer, is_accessed, is_leaf}, Walk.{index_of}, declared.pte.Pte.{Pte}}, swap.specs.Slots.{slots_of, IsReady}}
pub use Rattle.{swap.specs.{Slots.{SlotTable, IsInUse}, declared.{pages.Pages.{Pages}, slots.Swap.{Swap}}}, vm_types.{proofs.{Modes.{user_pages_fit, sizes}, Naming.{named-at, named-where}}, specs.Capacity.{has_own, tables_below}}}
pub use Rattle.vm_types.specs.{Capacity.{tables_of, used_rows, object_page_limit}, Counting.{any_below}, Limits.{top_level, user_end, table_entries, object_limit}, Objects.{uses, names, is_named, Maps}, Rows.{in_row}, View.{View}}
pub use Rattle.vm_types.specs.declared.{number.{FrameNo.{FrameNo}, SlotNo.{SlotNo}}, object.{ObjectPage.{ObjectPage}, PageKey.{PageKey, TheVariants.{Object, File}}}, refusal.Stall.{Stall, TheVariants.{NoFrames, SwapDevice, StoreDevice}}}
pub use Rattle.{fault.proofs.Steps.{stall_then}, vm_types.specs.declared.{refusal.Stall.TheVariants.{NoSwap}, region.{Attr.{Attr}, Backing.{Backing}}}}
unfoldable pub use Rattle.{residency.specs.{Capacity.{IsShort, copies_over, tables_over}, Picture.{view, held}, Seats.{holders_at}}, sv39_walk.specs.Entry.{frame_of, has_bit}, vm_types.specs.Counting.{count_below, sum_below}}
unfoldable pub use Rattle.vm_types.specs.Processes.{least_free_from}
