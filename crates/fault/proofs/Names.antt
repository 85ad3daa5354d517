-- What the proofs of this crate cite of the crates below it and of the standard library: `use Rattle.fault.proofs.Names.{..}`.
pub use Rattle.disk_model.{proofs.{Moments.{asks_once, asks_wider, asks_none, asks_then}, Naming.{once_none, once_wider}}, specs.{Moments.{Nothing, AsksOnly, Touches}, Stop.{NamesOnce}, declared.sector_disk.SectorDisk.{Ghosts}}}
pub use Rattle.{sized_stores.specs.{Store.{IsSectorOf, IsReadySized, directory_of, files_in, files_of}, declared.store.SizedStore.{SizedStore as AnyStore}}, file_store.specs.Standing.{IsPageOf, AreBounded}}
pub use Rattle.frames.proofs.FrameLemmas.{with_bytes-same, with_bytes-others}
pub use Rattle.frames.specs.{FrameTable.{IsFull, frame_count, bytes_of, role_of, IsSound, count_of, IsFrame, FrameTable, Releases, is_handed_out, IsHeld, with_bytes, Takes, SameButFor}, declared.role.Role.{Role, TheVariants.{Private}}}
pub use Rattle.{frames.specs.declared.role.Role.TheVariants.{Free, Table, Cache}, memory.proofs.Walks.{translated-entry}, page_cache.specs.{CacheTable.{is_touched, place_of}, declared.place.Place.{Place, TheVariants.{Frame, Home, Slot}}}}
pub use Rattle.page_tables.proofs.{Pruning.{otherwise}, Bits.{over_some, parked_framed, parked_invalid}, Data.{KeepsTrees}, Ends.{page_entry-missing, missing_of-is, way_forth, page_is_entry}, Linking.{empty_last}, Places.{row_same}, Ways.{ends}}
pub use Rattle.page_tables.specs.{Change.{KeepsFrames, SetsEntry, AddsTable, LinksTable}, Entry.{number_of, IsEntry, IsPageEntry}, Leaves.{IsEntryOver, IsLeaf, is_barred}, Tree.{IsPage, missing_of, IsForest, page_entry, IsRoot, Points}}
pub use Rattle.{page_tables.specs.{Tree.{IsBelowRoot, IsSpare, IsTable, last_table, Way}, declared.forms.Entry.{Entry, TheVariants.{Swapped}}}, regions.{proofs.ResultLemmas.{on_err}, specs.Permission.{ReadsToo, IsReadableMap}}}
pub use Rattle.{regions.specs.{RunList.{attr_at}, declared.run.Run.{Run}}, residency.proofs.{Aging.{gives_same, gives_then}, Asking.{asks_same, asks_between}, BroughtIn.{trees_brought, entries_brought, views_brought, held_else, held_here}}}
pub use Rattle.residency.proofs.{BroughtIn.{fit_touched}, Callers.{shown_stays}, Counts.{count-sole}, Entries.{entry-of, entry-same, entries_kept}, Evicted.{fit_released, seat_number}, Granting.{entry_for-same, past_end-same, KeepsBehind}}
pub use Rattle.residency.proofs.{Granting.{readable-same, user_map-same}, Handed.{release_spares, same}, Homing.{one_slot}, Linked.{loose_table, rooted_taken, fit_same, shares_taken, fit_linked}, Moves.{view-none, fit_moved, behind_kept}}
pub use Rattle.residency.proofs.{Moves.{view_kept, owned_forth}, Places.{cases_page, one_frame, places_same, places_renamed, named-more, dirty_same, objects-same}, Putting.{with_slots}, Returning.{frees_spent}, Rooted.{used_kept}}
pub use Rattle.residency.proofs.{SeatForms.{seat_own, seat_common, seat_away, held_given, views_given, bit_clear, away_seat, swapped_form}, Seats.{holders_none, counted_same, seat-same, off-none}, Setting.{set_views, set_held, fit_set}}
pub use Rattle.residency.proofs.{Setting.{other_views, fit_filled, held_same, view_seated, bytes_else, fit_written, entries_written, each_view}, Shown.{keeps_then}, SlotReleased.{fit_slot_released}, Sparing.{missing_ends, frees_then}}
pub use Rattle.residency.{proofs.{Start.{seat-none, entry-dead}, TableSteps.{rooted_set, sets_page}, Taking.{trees_changed, fit_own, held_changed, entries_changed, views_changed, fit_spent}, Ways.{by_page}}, specs.Ages.{KeepsRolesBut}}
pub use Rattle.residency.specs.{Ages.{GivesForTables, Same, KeepsRoles}, AskedFrames.{IsRefused, UsesSwap, ComesIn}, Calls.{KeepsPages, KeepsRest, Frees, ObtainsCached, AsksSwap, IsSpareable, AsksSwapAlso, GivesToSwap, ObtainsTable}}
pub use Rattle.residency.specs.{Calls.{NeedsSlot, Refuses, UsesDevice, IsStaying, ObtainsOwn}, Evictions.{Spares}, Parts.{IsFit, is_shared, IsBehind, IsGranting, Away, Resident, IsResident, HasPlaces, IsEntryFor, IsWithin, IsFitBut}}
pub use Rattle.residency.specs.{Parts.{IsLeafFor, IsRootedBut, nowhere, IsCountedBut, IsUsed, IsMapped, AreObjects, OnWay, AsRoot, IsSwapped, IsPageFor}, Picture.{Picture, is_data, picture_of, IsOwned, bytes_at, is_live, view_of, bytes_in}}
pub use Rattle.residency.specs.{Picture.{own_in, root_in, attr_where, count_in, page_in}, Reading.{IsRead, ReadsStore}, Seats.{seat, InSlot, is_swapped, is_private, InFrame, Seat, is_seat}, Shows.{KeepsFiles, object_bytes, ShowsPages}}
pub use Rattle.residency.specs.{Sound.{AreBounded-prop, IsSound-prop}, Stalls.{HasStallCause, HasReadCause, StallCause, ReadCause, CountsNothing}, Steps.{SameBeside, BringsIn, SetsPage, ChangesFrame, Spawns, Remaps, KeepsShares, TakesOwn}}
pub use Rattle.{residency.specs.{Ways.{IsWhole, KeepsAround}, declared.kernel.Core.{Core}}, std.proofs.Common.{ℕ, inr, Option, subst, arith, inl, ◌⊎◌, sym, ap, None, true, ◌<◌, ◌∙◌, ◌≢◌, Some, ◌≡◌, refl, ne_eqb, List, eq-eqb, false, ◌+◌}}
pub use Rattle.std.proofs.{Common.{Err, Result, Ok, get_or, Bool, eqb-true, length, ◌||◌, if◌then◌else◌, ◌≤◌, not, ◌/◌, ◌%◌, ◌*◌, [], suc, zero, ◌-◌, rules, ⊎_elim}, Props.{props}, lemmas.Bool.{cases_Bool, cases_lt, cases_eq, false≢true}}
pub use Rattle.{std.proofs.lemmas.Bool.{and_parts, and_from, true_from_ne_false, false_from_ne_true, leb-false, lt-leb}, residency.proofs.Places.{record_of, object_of}, residency.proofs.Bits.{not_swapped}, memory.proofs.{Leaves.{is_page, nonzero}, Looks.{in_frame}}}
pub use Rattle.std.{proofs.lemmas.{Bool.Decides.{nat_tests}, List.{get_or_past}, Option.{same_Some}}, specs.Prelude.{◌==◌, ◌&&◌, is_some, OnOk, OnErr, IfErr, IfOk, option_map, nat_le, IsSome, IsErrAnd, IfSome, MatchOption, IsErr, IsTrue}}
pub use Rattle.sv39_walk.specs.{Entry.{is_valid, is_dirty, frame_of, is_user, is_reserved, is_accessed, grants, is_leaf}, Walk.{is_store, page_of, translated}, declared.translation.WalkFault.{WalkFault, TheVariants.{Reserved, TooDeep}}}
pub use Rattle.{sv39_walk.specs.declared.translation.WalkFault.TheVariants.{Misaligned, Denied, NotAccessed, NotDirty, Invalid, Outside}, swap.{proofs.Stack.{inside_of}, specs.Slots.{SlotTable, IsSectorOfSlot, IsSectorOfFreeSlot, IsReady}}}
pub use Rattle.{swap.specs.{Slots.{ReleasesSlot, slots_of, IsInUse}, Written.{IsAsWritten}, declared.{pages.Pages.{Pages}, slots.Swap.{Swap}}}, vm_types.proofs.{Modes.{user_pages_fit, sizes}, Naming.{named-at}}}
pub use Rattle.vm_types.specs.{Access.{with_shown_bytes}, Attributes.{stands_on}, Files.{is_past_end_of, Files}, Limits.{top_level, user_end, widest_end}, Objects.{is_named, names, is_object_page}, Permission.{can_write}, Rows.{IsUserMap}}
pub use Rattle.vm_types.specs.{State.{behind, or_zeros, copy_or_behind, with_view, shown, State}, Verdict.{lets, is_past_end, Fine, page_verdict, Faults, Verdict}, View.{View}, Width.{byte_count}, declared.access.Access.{Access}}
pub use Rattle.vm_types.specs.declared.{access.Access.TheVariants.{Store, Fetch, Load}, file.{FileInfo.{FileInfo}, FilePage.{FilePage}}, number.{FrameNo.{FrameNo}, Phys.{Phys}, SlotNo.{SlotNo}}, object.ObjectPage.{ObjectPage}}
pub use Rattle.vm_types.specs.declared.{object.PageKey.{PageKey, TheVariants.{File, Object}}, permission.Prot.{Prot}, refusal.{Code.{Code, TheVariants.{BusAdrerr, SegvMaperr, SegvAccerr}}, Stall.{Stall, TheVariants.{NoFrames, SwapDevice}}}}
pub use Rattle.vm_types.specs.declared.{refusal.Stall.TheVariants.{NoSwap, StoreDevice}, region.{Attr.{Attr}, Backing.{Backing, TheVariants.{Common, Shared, Anon}}}, width.Width.{Width}}
pub use Rattle.residency.{proofs.{Asking.{entries_taken}, Chance.{chance_owned, chance_cached}, Sparing.{frees_none}}, specs.{AskedFrames.{TakesOwnFrame}, Chances.{AreAllMarked, GivesChance, KeepsButA}, Views.{IsLeftBut}}}
unfoldable pub use Rattle.{frames.specs.FrameTable.{zero_bytes}, residency.specs.{Capacity.{IsShort}, Picture.{entry, view, held}, Seats.{holders_at}}, sv39_walk.specs.{Entry.{has_bit}, Walk.{frame_in, answer_of}}}
unfoldable pub use Rattle.vm_types.specs.View.{zero_page}
