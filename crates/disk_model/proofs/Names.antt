-- What the proofs of this crate cite of the crates below it and of the standard library: `use Rattle.disk_model.proofs.Names.{..}`.
pub use Rattle.std.proofs.Common.{false, Bool, ◌<◌, ap, ◌-◌, true, if◌then◌else◌, ◌≡◌, ℕ, ◌+◌, suc, ◌∙◌, arith, ◌≤◌, refl, ⊎_elim, sym, subst, inr, inl, ◌⊎◌, get_or, length-take, length, List, drop, length-drop, drop-drop, take, ◌*◌, []}
pub use Rattle.std.proofs.{Common.{length-append, zero, ◌++◌, add-one, ◌^◌, MutBor, rules, replicate, ◌/◌}, Math.Seq.{take-add}, lemmas.{Bool.{cases_eq, cases_lt, false≢true}, List.{drop-take, length-take-le, drop_at, take_all, drop-replicate, take-replicate}}}
pub use Rattle.std.{proofs.lemmas.Slice.{take-put_mid, put_mid-paste, take-put_mid_below}, specs.Simd.{first_chunks}}
pub use base.Fml.{ftrue, Share, flft, fbor, fobs, Lft, GName}
pub use base.Logic.{SProp, emp, fst∗, id⊢, via, ent, sep}
pub use borrow.Rule.Slice.PartMut.{put_mid}
pub use contract.Monad.{Fun}
pub use contract.Running.{tables}
pub use denote.Builtin.{Array, bool, u64, u8, ArrayOf}
pub use denote.Exit.{yes}
pub use denote.Memory.{mem}
pub use denote.RattleType.{RattleType, owns}
pub use denote.Ref.{mut_Tells, MutRef, mut_vals, Bor}
pub use denote.Shadow.{pure_i}
pub use denote.Signature.{plain}
pub use denote.Slice.{shr_slice_vals, slice_val, shr_slice_Tells, ShrSlice}
pub use denote.Steps.{nothing, closes, opens}
pub use denote.Triple.Entry.{on_entry}
pub use denote.Triple.Spec.{Meets, triple_of}
pub use denote.Triple.Table.{entered}
pub use denote.Triple.Walked.{walk_Meets, says, ends_at, walked, walk_of, AllGo, Walks, stay_ref, Goes-ref, stay_none_slice, Goes-none_slice, Stays}
pub use mathlib.Core.List.{◌∷◌}
pub use mir.Syntax.{named}
pub use mir.Val.{Val, vstruct, vcons, vnil, vptr, vunit}
pub use prog.Memory.{Memory}
pub use prog.Routine.{Routine}
pub use prog.Wp.{Tables, WpFn, Loops, Calls}
pub use seplogic.Ra.Ura.{Ura}
pub use sound.WpLaws.{WpFn-mono}
pub use types.ByLocal.{pass_all, free_all, look_at, sets, get, alloc_all}
pub use types.Kit.{suffices, join, keep, ◌$◌, done, qed, !, raw, ◌∵◌, ◌⊛◌, fsplit, use1, ‵, split, fsplit3, fjoin, move, feq_i, fjoin3, frame, by}
pub use types.Logic.{Logic}
pub use types.Part.{agg}
pub use types.Run.{no_more, enter, and_then, returns, of_opd, unit_lit}
pub use types.SemTy.{Body}
unfoldable pub use contract.Running.{tables_of}
