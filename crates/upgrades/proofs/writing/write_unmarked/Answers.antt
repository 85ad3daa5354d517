use Rattle.upgrades.proofs.Names.{inl, inr, refl, sym, subst, ◌∙◌, arith, once_apart, once_still, once_wider, wider, Image}
use Rattle.file_store.proofs.{Blocks.{none_on}, Copied.{copies_done, copies_unwritten}, Looking.{ok_is_no_err}, Making.{makes_more, makes_of, makes_synced}}
use Rattle.file_store.specs.{Blocks.{KindBehind}, Format.{IsFrom, IsKindSector}}
use Rattle.pool_store.{proofs.{Formats.{inner_from}, Making.{made_once}}, specs.Format.{IsInnerSector, IsUnmarkedPoolSector}}
use Rattle.upgrades.proofs.Copies.{copies_refused}
use Rattle.upgrades.specs.{NewPool.{IsInnerUpgrade, files_in, pages_before}, Old.{IsOldPage, standing_page}}
use Rattle.upgrades.proofs.writing.write_unmarked.Goals as goal

pub write_kind-requires-clause-room : goal.write_kind-requires-clause-room
write_kind-requires-clause-room g c = omega (arith, c.sync.ensures.size, c.write_inner.ensures.copies.run.size, c.requires.pool.room)

pub returns-in_err-write_inner-clause-copies : goal.returns-in_err-write_inner-clause-copies
returns-in_err-write_inner-clause-copies g c =
    let pages = pages_before (files_in c.args.files.now) 64 in let m = c.args.sizes.blocks in let old = c.args.old.now in
    copies_refused g.D.SectorDisk g.E.SectorDisk (IsOldPage (g.D.SectorDisk.content old)) (IsInnerSector m pages) (IsInnerSector m pages) (IsUnmarkedPoolSector m pages) old c.write_inner.new.old c.args.new.now c.args.new.now c.write_inner.new.new
    c.in_err-write_inner.field-0.0 c.from_residual.result c.from_residual.ensures.1 (λ k at. inr at) c.in_err-write_inner.ensures.copies

pub returns-in_err-write_inner-clause-last : goal.returns-in_err-write_inner-clause-last
returns-in_err-write_inner-clause-last g c = λ keeps_old keeps.
    let pages = pages_before (files_in c.args.files.now) 64 in
    record {
      epochs = inl (wider g.E.SectorDisk (IsInnerSector c.args.sizes.blocks pages) (IsFrom 8) c.args.new.now c.write_inner.new.new (inner_from c.args.sizes.blocks pages) (c.write_inner.ensures.copies.run.touches keeps));
      kind_behind = none_on _ _ _ c.from_residual.ensures.1;
      kind = none_on _ _ _ c.from_residual.ensures.1;
      synced = none_on _ _ _ c.from_residual.ensures.1;
    }

pub returns-in_err-sync-clause-copies : goal.returns-in_err-sync-clause-copies
returns-in_err-sync-clause-copies g c =
    let d = g.D.SectorDisk in let n = g.E.SectorDisk in let m = c.args.sizes.blocks in let old = c.args.old.now in let pages = pages_before (files_in c.args.files.now) 64 in
    let Read = IsOldPage (g.D.SectorDisk.content old) in let Inner = IsInnerSector m pages in let All = IsUnmarkedPoolSector m pages in
    let i = c.write_inner.ensures.copies in let s = c.sync.ensures in let read = c.write_inner.new.old in let new = c.args.new.now in let made = c.write_inner.new.new in let mid = c.sync.new.self in
    let calm = c.in_ok-write_inner.ensures.copies.causes.new_still (ok_is_no_err _ _) in let old_calm = c.in_ok-write_inner.ensures.copies.causes.old_still (ok_is_no_err _ _) in
    let synced = makes_synced n All new made mid (makes_of n Inner All new made (λ k at. inr at) i.run) s.size s.kept s.cause.later s.asks s.same s.unsynced s.time in
    let failed = c.in_err-sync.ensures.cause.failed refl in
    record {
      copies = copies_unwritten d n Read All old read new mid i.old_run i.once_old synced c.from_residual-in_err-sync.result c.from_residual-in_err-sync.ensures.1 old_calm (omega (arith, failed, calm));
      once = once_still All _ _ _ (once_wider Inner All _ _ (λ k at. inr at) i.once) s.asks;
    }

pub returns-in_err-sync-clause-last : goal.returns-in_err-sync-clause-last
returns-in_err-sync-clause-last g c = λ keeps_old keeps.
    let n = g.E.SectorDisk in let pages = pages_before (files_in c.args.files.now) 64 in let Inner = IsInnerSector c.args.sizes.blocks pages in let s = c.sync.ensures in
    record {
      epochs = inl (wider n Inner (IsFrom 8) c.args.new.now c.sync.new.self (inner_from c.args.sizes.blocks pages)
          ((makes_synced n Inner c.args.new.now c.write_inner.new.new c.sync.new.self c.write_inner.ensures.copies.run s.size s.kept s.cause.later s.asks s.same s.unsynced s.time).touches keeps));
      kind_behind = none_on _ _ _ c.from_residual-in_err-sync.ensures.1;
      kind = none_on _ _ _ c.from_residual-in_err-sync.ensures.1;
      synced = none_on _ _ _ c.from_residual-in_err-sync.ensures.1;
    }

pub returns-in_err-write_kind-clause-copies : goal.returns-in_err-write_kind-clause-copies
returns-in_err-write_kind-clause-copies g c =
    let d = g.D.SectorDisk in let n = g.E.SectorDisk in let m = c.args.sizes.blocks in let old = c.args.old.now in let pages = pages_before (files_in c.args.files.now) 64 in
    let Read = IsOldPage (g.D.SectorDisk.content old) in let Inner = IsInnerSector m pages in let All = IsUnmarkedPoolSector m pages in
    let i = c.write_inner.ensures.copies in let s = c.sync.ensures in let read = c.write_inner.new.old in let new = c.args.new.now in let made = c.write_inner.new.new in let mid = c.sync.new.self in
    let calm = c.in_ok-write_inner.ensures.copies.causes.new_still (ok_is_no_err _ _) in let old_calm = c.in_ok-write_inner.ensures.copies.causes.old_still (ok_is_no_err _ _) in
    let synced = makes_synced n All new made mid (makes_of n Inner All new made (λ k at. inr at) i.run) s.size s.kept s.cause.later s.asks s.same s.unsynced s.time in
    let w = c.write_kind.ensures in let last = c.write_kind.new.disk in
    let run = makes_more n All new mid last synced (makes_of n IsKindSector All mid last (λ k at. inl at) (made_once n IsKindSector mid last w.run w.once)) in
    let failed = c.in_err-write_kind.ensures.failed refl in let before = c.in_ok-sync.ensures.cause.calm in
    record {
      copies = copies_unwritten d n Read All old read new last i.old_run i.once_old run c.from_residual-in_err-write_kind.result c.from_residual-in_err-write_kind.ensures.1 old_calm (omega (arith, failed, before, calm));
      once = once_apart Inner IsKindSector All _ _ _ (λ k at. inr at) (λ k at. inl at) (λ k inner kind. let far = inner_from m pages k inner in omega (arith, far, kind)) (once_still Inner _ _ _ i.once s.asks) w.once;
    }

pub returns-clause-copies : goal.returns-clause-copies
returns-clause-copies g c =
    let d = g.D.SectorDisk in let n = g.E.SectorDisk in let m = c.args.sizes.blocks in let old = c.args.old.now in let pages = pages_before (files_in c.args.files.now) 64 in
    let Read = IsOldPage (g.D.SectorDisk.content old) in let Inner = IsInnerSector m pages in let All = IsUnmarkedPoolSector m pages in
    let i = c.write_inner.ensures.copies in let s = c.sync.ensures in let read = c.write_inner.new.old in let new = c.args.new.now in let made = c.write_inner.new.new in let mid = c.sync.new.self in
    let calm = c.in_ok-write_inner.ensures.copies.causes.new_still (ok_is_no_err _ _) in let old_calm = c.in_ok-write_inner.ensures.copies.causes.old_still (ok_is_no_err _ _) in
    let synced = makes_synced n All new made mid (makes_of n Inner All new made (λ k at. inr at) i.run) s.size s.kept s.cause.later s.asks s.same s.unsynced s.time in
    let w = c.write_kind.ensures in let last = c.write_kind.new.disk in
    let run = makes_more n All new mid last synced (makes_of n IsKindSector All mid last (λ k at. inl at) (made_once n IsKindSector mid last w.run w.once)) in
    record {
      copies = copies_done d n Read All old read new last i.old_run i.once_old run _ old_calm (c.in_ok-write_kind.ensures.calm ∙ c.in_ok-sync.ensures.cause.calm ∙ calm);
      once = once_apart Inner IsKindSector All _ _ _ (λ k at. inr at) (λ k at. inl at) (λ k inner kind. let far = inner_from m pages k inner in omega (arith, far, kind)) (once_still Inner _ _ _ i.once s.asks) w.once;
    }

pub returns-in_err-write_kind-clause-last : goal.returns-in_err-write_kind-clause-last
returns-in_err-write_kind-clause-last g c = λ keeps_old keeps.
    let n = g.E.SectorDisk in let m = c.args.sizes.blocks in let pages = pages_before (files_in c.args.files.now) 64 in let Inner = IsInnerSector m pages in
    let Q = IsInnerUpgrade m (files_in c.args.files.now) (standing_page (g.D.SectorDisk.content c.args.old.now)) in
    let s = c.sync.ensures in let w = c.write_kind.ensures in let k1 = w.kept keeps in let new = c.args.new.now in
    let behind : KindBehind n (IsFrom 8) Q new c.write_kind.new.disk = record {
      tables = c.sync.new.self;
      before = wider n Inner (IsFrom 8) new c.sync.new.self (inner_from m pages)
          ((makes_synced n Inner new c.write_inner.new.new c.sync.new.self c.write_inner.ensures.copies.run s.size s.kept s.cause.later s.asks s.same s.unsynced s.time).touches k1);
      synced = c.in_ok-sync.ensures.synced k1;
      holds = subst (λ (image : Image). Q image) (sym (s.same k1)) (c.in_ok-write_inner.ensures.inner keeps_old (s.kept k1));
      kind = w.touches keeps;
    } in
    record {
      epochs = inr behind;
      kind_behind = none_on _ _ _ c.from_residual-in_err-write_kind.ensures.1;
      kind = none_on _ _ _ c.from_residual-in_err-write_kind.ensures.1;
      synced = none_on _ _ _ c.from_residual-in_err-write_kind.ensures.1;
    }

pub returns-clause-last : goal.returns-clause-last
returns-clause-last g c = λ keeps_old keeps.
    let n = g.E.SectorDisk in let m = c.args.sizes.blocks in let pages = pages_before (files_in c.args.files.now) 64 in let Inner = IsInnerSector m pages in
    let Q = IsInnerUpgrade m (files_in c.args.files.now) (standing_page (g.D.SectorDisk.content c.args.old.now)) in
    let s = c.sync.ensures in let w = c.write_kind.ensures in let k1 = w.kept keeps in let new = c.args.new.now in
    let behind : KindBehind n (IsFrom 8) Q new c.write_kind.new.disk = record {
      tables = c.sync.new.self;
      before = wider n Inner (IsFrom 8) new c.sync.new.self (inner_from m pages)
          ((makes_synced n Inner new c.write_inner.new.new c.sync.new.self c.write_inner.ensures.copies.run s.size s.kept s.cause.later s.asks s.same s.unsynced s.time).touches k1);
      synced = c.in_ok-sync.ensures.synced k1;
      holds = subst (λ (image : Image). Q image) (sym (s.same k1)) (c.in_ok-write_inner.ensures.inner keeps_old (s.kept k1));
      kind = w.touches keeps;
    } in
    record {
      epochs = inr behind;
      kind_behind = behind;
      kind = c.in_ok-write_kind.ensures.done keeps;
      synced = c.in_ok-write_kind.ensures.synced keeps;
    }
