-- What the proofs of this crate cite of the crates below it and of the standard library: `use Rattle.page_tables.proofs.Names.{..}`.
pub use Rattle.{byteorder.specs.{Endian.{little_from, little_number, little_bytes}, Numbers.{length-bytes_low_first, little_number-reads_back}}, frames.proofs.FrameLemmas.{with_bytes-others, with_bytes-same, zero_bytes-at}}
pub use Rattle.frames.specs.{FrameTable.{Shares, Releases, with_bytes, count_of, SameButFor, role_of, FrameTable, bytes_of, Takes, IsSound, zero_bytes, frame_count, IsFresh, is_handed_out}, declared.role.Role.{Role, TheVariants.{Free}}}
pub use Rattle.{frames.specs.declared.role.Role.TheVariants.{Table, Zero, Private}, std.proofs.Common.{eq-eqb, ◌<◌, Bool, ◌≡◌, false, ◌≤◌, ◌≢◌, inl, ne_eqb, inr, ◌*◌, ℕ, ◌^◌, sym, ◌∙◌, ◌/◌, ap, true, ◌+◌, ◌%◌, subst, refl, arith, get_or}}
pub use Rattle.std.proofs.{Common.{List, drop, zero, suc, ◌⊎◌, ◌-◌, length-drop, ◌++◌, take, length, rules}, Math.Nat.{pow-succ', div-lt_iff_lt-mul, mul-div_cancel, div-mul-le_self, pow-suc, div-div-eq-div-mul}, lemmas.Bool.{cases_Bool}}
pub use Rattle.std.proofs.lemmas.{Bool.{false≢true, cases_eq, cases_lt, Decides.{Decides-eqb}}, List.{get_or-drop, get_or-append_right, length-take-le, drop_at, append_assoc, get_or-take, get_or_append_left, get_or_past, ext_get_or}}
pub use Rattle.{std.{proofs.lemmas.{Nat.{pow-add, le-div}, Slice.Eq.{slice_eq-Decides}}, specs.Prelude.{◌||◌, ◌&&◌, ◌==◌, not, ◌↔◌, Ok, Err, Result, IfOk}}, sv39_walk.{proofs.Entries.{is_pointer-zero}, specs.Entry.{is_valid, can_read}}}
pub use Rattle.{sv39_walk.specs.Entry.{is_private, can_execute, is_pointer, is_leaf}, vm_types.{proofs.Modes.{user_pages_fit}, specs.{Limits.{top_level}, declared.{number.{FrameNo.{FrameNo}, NoFree.{NoFree}}, permission.Prot.{Prot}}}}}
pub use borrow.Rule.Slice.PartMut.{post_of, mid_of, put_mid}
unfoldable pub use Rattle.sv39_walk.specs.{Entry.{has_bit, frame_of, high_bits, entry_at}, Walk.{index_of}}
