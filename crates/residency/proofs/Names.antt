-- What the proofs of this crate cite of the crates below it and of the standard library: `use Rattle.residency.proofs.Names.{..}`.
pub use Rattle.swap.{proofs.Counting.{every, one_less}, specs.{Slots.{slots_of, IsSectorOfFreeSlot, IsSectorOfSlot, SlotTable, IsSwapFull, ReleasesSlot, IsReady, SharesSlot, IsInUse, Puts, Same}, declared.pages.Pages.{Pages}}}
pub use Rattle.{swap.specs.declared.slots.Swap.{Swap}, vm_types.{proofs.{Modes.{sizes, user_pages_fit, two_modes}, Naming.{any-at}}, specs.{Attributes.{stands_on, backing_after, backing_fits}, Capacity.{object_page_limit, has_own}}}}
pub use Rattle.vm_types.specs.{Capacity.{tables_below, tables_of}, Files.{is_past_end_of}, Limits.{top_level, user_end, object_limit, widest_end, table_entries}, Objects.{names, is_object_page, uses, Maps, is_of_object}, Rows.{IsUserMap}}
pub use Rattle.vm_types.specs.{State.{State}, Verdict.{is_past_end}, View.{View}, declared.{file.{FileInfo.{FileInfo}, FilePage.{FilePage}}, number.{FrameNo.{FrameNo}, SlotNo.{SlotNo}}, object.{ObjectPage.{ObjectPage}, PageKey.{PageKey}}}}
pub use Rattle.vm_types.specs.declared.{object.PageKey.TheVariants.{Object, File}, refusal.Stall.{Stall, TheVariants.{SwapDevice, NoFrames, StoreDevice, NoSwap}}, region.{Attr.{Attr}, Backing.{Backing, TheVariants.{Anon, Shared, Common}}}}
pub use Rattle.{clock_replace.specs.declared.clock.Clock.{Clock}, disk_model.{proofs.{Moments.{asks_once, asks_then, asks_wider, asks_none}, Naming.{once_none, once_named}}, specs.{Moments.{AsksOnly, Nothing}, Stop.{Names, NamesOnce}}}}
pub use Rattle.{disk_model.specs.declared.sector_disk.SectorDisk.{Ghosts}, file_store.specs.Standing.{IsPageOf, AreBounded}}
pub use Rattle.stores.specs.Images.{standing_page}
pub use Rattle.sized_stores.specs.{Reading.{ReadsSizedPage}, Store.{IsSectorOf, SizedDirectory, directory_in, directory_of, disk_of, files_in, files_of, kept_of}, declared.{sizes.Size.{Size}, store.SizedStore.{SizedStore}}}
pub use Rattle.frames.{proofs.FrameLemmas.{with_bytes-others, with_bytes-same}, specs.FrameTable.{IsFull, role_of, SameButFor, IsFrame, count_of, FrameTable, Takes, bytes_of, with_bytes, Releases, frame_count, IsSound, IsCountFor, IsFresh}}
pub use Rattle.{frames.specs.{FrameTable.{IsHeld}, declared.role.Role.{Role, TheVariants.{Table, Free, Private, Cache, Zero}}}, memory.{proofs.Numbers.{is_number, of_number}, specs.Notes.{NamesFrame}}}
pub use Rattle.{page_cache.specs.{CacheTable.{place_of, is_touched, SameButForPage, CacheTable}, declared.place.Place.{Place, TheVariants.{Home, Slot, Frame}}}, page_tables.proofs.{Bits.{parked_framed}, Data.{KeepsTrees, data_changed}}}
pub use Rattle.page_tables.proofs.{Data.{data_released, DropsTree, root_released, data_written}, Ends.{missing_of-is, page_entry-missing, way_forth, same_last, last_is}, Keeping.{empty_not_linking, fresh_forest}, Linking.{empty_last}}
pub use Rattle.page_tables.{proofs.{Pages.{fields_same}, Setting.{cases_place}, Tight.{same_taken}, Ways.{ends, index_of-lt, EndsAt}}, specs.{Change.{AddsTable, SetsEntry, LinksTable, KeepsFrames}, Entry.{number_of, IsEntry}}}
pub use Rattle.page_tables.specs.{Tree.{IsPage, page_entry, IsRoot, Points, missing_of, IsSpare, Way, IsEmptyTable, IsTable, last_table, IsForest, IsBelowRoot}, declared.forms.Entry.{Entry, TheVariants.{Leaf, Parked, Swapped}}}
pub use Rattle.{regions.specs.{Permission.{IsReadableMap}, RunList.{attr_at}, Search.{StandsOn}, declared.run.Run.{Run}}, std.proofs.Common.{subst, inl, sym, Option, true, Some, inr, ◌≡◌, ℕ, ◌<◌, ap, ◌∙◌, refl, None, ◌⊎◌, List, arith, ◌≢◌}}
pub use Rattle.std.proofs.Common.{◌/◌, false, ◌^◌, not, if◌then◌else◌, ◌+◌, ◌==◌, ◌*◌, ◌-◌, ◌%◌, ne_eqb, suc, ◌≤◌, Bool, zero, get_or, eq-eqb, [], is_some, ◌∷◌, ◌++◌, ◌&&◌, length, ◌||◌, rules, get_or-set_other, get_or-set_same, vec_len}
pub use Rattle.std.proofs.{Common.{vec_capacity, slice_index_or}, Math.Nat.{div-add-mod, mod-lt, one-le-pow}, lemmas.Bool.{false≢true, and_right, cases_Bool, and_parts, not-true, cases_eq, or_right, and_from, cases_lt, eqb-true, or_left}}
pub use Rattle.std.{proofs.lemmas.{Bool.Decides.{nat_tests}, List.{get_or_read, get_or_past}, Nat.Bits.{bit_at_ones}, Option.{same_Some}, Result.{IfOk-weaker}}, specs.Prelude.{IsSome, OnErr, IfNone, option_map, IsErrAnd, IfSome, IfOk}}
pub use Rattle.{std.specs.{Prelude.{MatchResult, IfErr}, declared.result.Result.{Result, TheVariants.{Err, Ok}}}, sv39_walk.specs.{Entry.{is_valid, is_dirty, is_accessed, can_write, is_pointer, entry_at}, Walk.{index_of}}}
pub use Rattle.sv39_walk.specs.declared.pte.Pte.{Pte}
unfoldable pub use Rattle.{frames.specs.FrameTable.{zero_bytes}, sv39_walk.specs.Entry.{frame_of, has_bit}, vm_types.specs.{Counting.{sum_below, count_below, any_below}, Objects.{is_named}, View.{zero_page}}}
