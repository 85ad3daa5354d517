-- What the proofs of this crate cite of the crates below it and of the standard library: `use Rattle.memory.proofs.Names.{..}`.
pub use Rattle.frames.{proofs.FrameLemmas.{with_bytes-others}, specs.{FrameTable.{FrameTable, frame_count, Takes, SameButFor, Releases, role_of, with_bytes, bytes_of}, declared.role.Role.{Role, TheVariants.{Table, Free, Private}}}}
pub use Rattle.page_tables.proofs.{Bits.{parked_frame, parked_private}, Ends.{way_forth, missing_of-is, last_entry-is, page_entry-missing, last_from_way, page_entry-whole}, Keeping.{empty_not_linking, table_moved_back, table_moved}}
pub use Rattle.page_tables.proofs.{Keeping.{zeros_empty}, Setting.{entry_at-bytes, points_moved, cases_place, others_turned}, Ways.{only_way, index_of-lt, ends, last_table-zero, last_table-stop, last_table-next, next_table, cases_bool}}
pub use Rattle.page_tables.specs.{Change.{LinksTable, SetsEntry, Prunes, AddsTable}, Entry.{IsEntry, number_of}, Places.{IsTableOf}, Tree.{IsRoot, IsUnlinked, IsTable, Way, last_table, IsSpare, Points, IsForest, page_entry, IsPage}}
pub use Rattle.{page_tables.specs.{Tree.{missing_of, last_entry}, declared.forms.Entry.{Entry}}, std.proofs.Common.{◌<◌, None, ◌⊎◌, ◌∙◌, Err, Ok, ap, ℕ, Some, Result, subst, suc, arith, ◌-◌, ◌≢◌, inr, inl, ◌≡◌, get_or, zero, sym, refl}}
pub use Rattle.std.proofs.Common.{◌&&◌, Bool, ◌+◌, false, true, ◌%◌, ◌||◌, if◌then◌else◌, not, Option, ◌/◌, ◌^◌, length, ◌*◌, slice_index_or, rules, eqb-true, bit_or, slice_set, get_or-set_other, get_or-set_same, vec_capacity, ◌≤◌, vec_len}
pub use Rattle.std.proofs.{Common.{List, min, length-set, ne_eqb, eq-eqb}, lemmas.{Bool.{cases_eq, false≢true, Decides.{nat_tests}}, List.{get_or_default, get_or-replicate, get_or_read}, Nat.Bits.{bit_at_set_other, bit_at-zero, bit_at_set_same}}}
pub use Rattle.{std.{proofs.lemmas.{Nat.Bits.{bit_at_ones}, Option.{same_Some}}, specs.{Int.{w64, bit_at}, Prelude.{OnErr, IfOk, nat_lt, nat_le, ◌==◌, IsErr, IfSome, IsSome}}}, sv39_walk.proofs.Entries.{is_pointer-zero}}
pub use Rattle.sv39_walk.{proofs.Way.{last_of-zero, last_of-next, last_of-stop}, specs.Entry.{entry_at, is_pointer, frame_of, is_valid, is_user, is_accessed, is_dirty, is_reserved, grants, is_leaf, is_swapped, is_private}}
pub use Rattle.sv39_walk.specs.{Walk.{index_of, last_of, leads_on, is_store, page_of}, declared.translation.WalkFault.{WalkFault, TheVariants.{Denied, Invalid, Misaligned, NotAccessed, Outside, TooDeep, Reserved, NotDirty}}}
pub use Rattle.vm_types.{proofs.Modes.{sizes, user_pages_fit, two_modes}, specs.{Limits.{top_level, user_end}, declared.{access.Access.{Access}, number.{FrameNo.{FrameNo}, NoFree.{NoFree}, Phys.{Phys}}}}}
unfoldable pub use Rattle.sv39_walk.specs.{Entry.{has_bit}, Walk.{translated, answer_of, frame_in, is_canonical}}
