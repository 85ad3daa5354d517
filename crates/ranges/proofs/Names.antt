-- What the proofs of this crate cite of the crates below it and of the standard library: `use Rattle.ranges.proofs.Names.{..}`.
pub use Rattle.{swap.{proofs.Counting.{one_less}, specs.Slots.{SlotTable, slots_of}}, frames.specs.{FrameTable.{role_of, FrameTable, frame_count, count_of, bytes_of, IsFrame, IsSound, Releases, IsHeld}, declared.role.Role.{Role}}}
pub use Rattle.{frames.specs.declared.role.Role.TheVariants.{Free, Private, Cache, Table, Zero}, memory.{proofs.Numbers.{of_number}, specs.Notes.{NamesNoMore}}, page_cache.specs.CacheTable.{place_of, cache_frames, CacheTable, slot_count}}
pub use Rattle.{page_cache.specs.{CacheTable.{IsInside}, declared.place.Place.{Place, TheVariants.{Slot, Home, Frame}}}, page_tables.proofs.{Bits.{over_some, parked_framed, parked_unexecutable, parked_invalid}, Data.{free_is_no_table}}}
pub use Rattle.page_tables.proofs.{Data.{data_released, KeepsTrees}, Ends.{way_forth, page_is_entry, page_entry-missing, missing_of-is}, Needed.{stay_way, still_used}, Pages.{same_place, below_place, place_above, span_positive}}
pub use Rattle.page_tables.{proofs.{Places.{row_stays, last_in_row, row_same, entry_in_row}, Pruning.{Prunes-refl}, Spans.{missing_in_place, fewer_past, missing_as_far}, Ways.{ends, only_way}}, specs.Change.{KeepsFrames, SetsEntry, Prunes}}
pub use Rattle.page_tables.specs.{Change.{IsPruned}, Entry.{IsPageEntry, IsEntry, number_of}, Leaves.{is_barred, IsEntryOver}, Places.{IsTableOf}, Tree.{IsPage, page_entry, IsTable, IsRoot, missing_of, last_table, IsForest, Points, Way}}
pub use Rattle.{page_tables.specs.{Tree.{IsBelowRoot}, declared.forms.Entry.{Entry, TheVariants.{Swapped}}}, regions.{proofs.PermissionLemmas.{reads_protected}, specs.{Permission.{IsReadableMap, ReadsToo}, RunList.{IsNextRun, attr_at}}}}
pub use Rattle.{regions.specs.declared.run.Run.{Run}, residency.proofs.{Bits.{valid_zero}, Counts.{any-same, any-more, count-same}, Entries.{entry-of, entries_kept}, Evicted.{seat_number, fit_released}, Granting.{user_map-same}}}
pub use Rattle.residency.proofs.{Granting.{entry_for-same, readable-same, KeepsBehind, granting_changed}, Handed.{same, release_spares}, Leaving.{home_held}, Linked.{fit_same}, Moves.{view-none, own_kept, behind_kept, count_kept}}
pub use Rattle.residency.proofs.{Moves.{owned_forth, owned_back, page_kept, counted_kept, shares_same, bytes_same, set_by}, Places.{named_by, named-same, cases_page, named-more, dirty_same, objects-same, places_renamed, places_same, dirty_changed}, Putting.{with_slots}}
pub use Rattle.residency.proofs.{Refusing.{used_inside}, Rooted.{used_kept, rooted_by}, SeatForms.{seat_own, seat_common, away_seat, views_given, held_given, swapped_form}, Seats.{counted_same, off-none, seat-same, seat-other, cases_seat}}
pub use Rattle.residency.proofs.{Setting.{other_views, set_held, fit_set, view_seated, held_same, each_view}, SlotReleased.{fit_slot_released}, Start.{seat-none}, TableSteps.{sets_page, rooted_set, shares_kept}, Ways.{by_page, each_page}}
pub use Rattle.residency.specs.{Calls.{KeepsBesidePlaces}, Capacity.{stored_object, touched_file}, Parts.{nowhere, IsFit, Nothing, IsRootedBut, Resident, Away, IsEntryFor, AsRoot, IsGranting, IsUsed, OnWay, AreObjects, IsMapped, IsBehind}}
pub use Rattle.residency.specs.{Parts.{HasPlaces, IsResident, is_shared, IsFitBut}, Picture.{entry, Picture, own_in, view_of, bytes_in, picture_of, is_swapped, is_private, attr_where, IsOwned, page_in, count_in, bytes_at, is_live}}
pub use Rattle.residency.specs.{Seats.{seat, Seat, InSlot, InFrame, AreCounted, off, OthersSame, is_seat}, Shows.{KeepsFiles, ShowsPages, object_bytes}, Steps.{SetsPage, SameBeside, HasNoEntry, Forgets, Remaps, KeepsShares}, Ways.{IsWhole}}
pub use Rattle.{residency.specs.{Ways.{KeepsAround}, declared.kernel.Core.{Core}}, std.proofs.Common.{◌≤◌, ◌∙◌, ◌%◌, ◌<◌, ◌*◌, arith, subst, ℕ, ◌≡◌, Some, ◌/◌, ◌+◌, get_or, inr, suc, Option, ◌↔◌, inl, refl, ap, true, ◌⊎◌, sym, rules, ◌≢◌}}
pub use Rattle.std.proofs.{Common.{None, List, false, ◌^◌, bit_or, eqb-true, ◌==◌, ne_eqb, eq-eqb, Bool, zero, ◌-◌, length}, lemmas.Bool.{cases_eq, false≢true, cases_lt, ltb-true, leb-true, leb-false, and_parts, ltb-false, and_cases}}
pub use Rattle.std.proofs.lemmas.{Bool.{cases_Bool, or_parts, not-false, not-true, Decides.{nat_tests}}, List.{length-replicate, get_or_past, get_or-replicate}, Nat.{le_or_r, le_or_l}, Option.{same_Some, none-some}}
pub use Rattle.{std.specs.Prelude.{is_some, option_map, ltb, leb, max, IsSome, min, ◌&&◌, ◌||◌, replicate, IfSome, if◌then◌else◌}, sv39_walk.specs.Entry.{is_valid, can_read, can_execute, can_write, has_bit, is_dirty, frame_of, entry_at}}
pub use Rattle.{sv39_walk.specs.Walk.{index_of}, vm_types.{proofs.{Modes.{user_pages_fit, sizes}, Naming.{named-where, named-at, any-where, any-at}}, specs.Attributes.{attr_after, backing_after, with_prot, backing_fits}}}
pub use Rattle.vm_types.specs.{Counting.{any_below}, Limits.{top_level, user_end, widest_end, named_limit, table_entries}, Objects.{is_object_page, names, Maps, uses, is_of_object, named_objects}, Ranges.{permitted}, Rows.{in_row, removed}}
pub use Rattle.vm_types.specs.{Rows.{protected, IsUserMap}, State.{State}, View.{View}, declared.{number.SlotNo.{SlotNo}, object.{ObjectPage.{ObjectPage}, PageKey.{PageKey, TheVariants.{Object, File}}}, permission.Prot.{Prot}}}
pub use Rattle.vm_types.specs.declared.region.{Attr.{Attr}, Backing.{Backing, TheVariants.{Common, Anon}}}
unfoldable pub use Rattle.{residency.specs.{Capacity.{copies_over}, Picture.{view, held}, Seats.{holders_at}}, vm_types.specs.{Capacity.{held_count}, Objects.{is_named, is_used, least_from}}}
