-- What the proofs of this crate cite of the crates below it and of the standard library: `use Rattle.inspection.proofs.Names.{..}`.
pub use Rattle.{frames.specs.{FrameTable.{FrameTable, role_of}, declared.role.Role.TheVariants.{Table, Zero}}, machine.specs.{Machine.{halted_of}, declared.machine.Machine.{Machine, TheVariants.{Sv48, Sv39}}}}
pub use Rattle.page_tables.{proofs.{Ends.{last_entry-is, missing_of-is, page_entry-whole, last_is}, Pages.{fields_same, span_positive}, Ways.{next_table, ends}}, specs.{Places.{IsTableOf}, Tree.{page_entry, IsPage, Points, Way}}}
pub use Rattle.{page_tables.specs.Tree.{last_table, IsTable, IsOnWay, missing_of, IsForest}, ranges.proofs.{BetweenEntries.{none_between}, Emptied.{unmapped_zero, none_here}, Gaps.{one_some, in_span_of, in_row_of, user_inside}}}
pub use Rattle.{ranges.specs.Steps.{IsGapEnd}, residency.{proofs.Entries.{entry-of}, specs.{Leaves.{IsOver}, Parts.{IsGranting, IsFit, IsUsed, IsRootedBut, IsMapped, OnWay, AsRoot}, Picture.{entry, Picture, picture_of}}}}
pub use Rattle.std.proofs.{Common.{ℕ, arith, ◌≢◌, inr, ◌∙◌, ◌≤◌, inl, sym, ◌⊎◌, ◌<◌, Some, ◌≡◌, ◌/◌, true, refl, false, subst, suc, ◌-◌, ap, Option, Bool, None, ◌%◌, ◌+◌, ◌^◌, ◌*◌, zero, rules}, Math.Nat.{mul-mod_left, mul-div_cancel}}
pub use Rattle.std.{proofs.{Math.Nat.{div-mul-le_self}, lemmas.Bool.{false_from_ne_true, cases_eq, false≢true, cases_lt, Decides.{nat_tests}}}, specs.Prelude.{if◌then◌else◌, ◌==◌, IfSome, IfNone, is_some}}
pub use Rattle.{sv39_walk.specs.{Entry.{entry_at, is_pointer, frame_of}, Walk.{index_of}}, vm_types.{proofs.Modes.{user_pages_fit, sizes}, specs.{Limits.{user_end, top_level, user_start}, declared.number.FrameNo.{FrameNo}}}}
