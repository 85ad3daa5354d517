use Rattle.pool_store.proofs.Names.{inl, inr, refl, sym, subst, ◌∙◌, arith, once_apart, once_still, once_wider, wider, Image}
use Rattle.file_store.proofs.{Blocks.{none_on}, Filling.{fills_done, fills_error, fills_failed}, Making.{makes_more, makes_of, makes_synced}}
use Rattle.file_store.specs.{Blocks.{KindBehind}, Format.{IsFrom, IsKindSector, total_pages}}
use Rattle.pool_store.{proofs.{Formats.{inner_from}, Making.{made_once}}, specs.Format.{IsInnerPoolOf, IsInnerSector, IsUnmarkedPoolSector}}
use Rattle.pool_store.proofs.formatting.write_kind_last.Goals as goal

pub write_kind-requires-clause-room : goal.write_kind-requires-clause-room
write_kind-requires-clause-room g c = omega (arith, c.sync.ensures.size, c.write_inner.ensures.fills.run.size, c.requires.pool.room)

pub returns-in_err-write_inner-clause-fills : goal.returns-in_err-write_inner-clause-fills
returns-in_err-write_inner-clause-fills g c =
    let d = g.D.SectorDisk in
    let pages = total_pages c.args.sources.now in
    let Inner = IsInnerSector c.args.sizes.blocks pages in
    let All = IsUnmarkedPoolSector c.args.sizes.blocks pages in
    fills_error d All _ _ c.args.disk.now c.write_inner.new.disk
    (makes_of d Inner All c.args.disk.now c.write_inner.new.disk (λ k at. inr at) c.write_inner.ensures.fills.run)
    (once_wider Inner All _ _ (λ k at. inr at) c.write_inner.ensures.fills.once)
    _ _ _ c.in_err-write_inner.field-0.0 c.from_residual.result c.args.disk.now c.from_residual.ensures.1 refl c.in_err-write_inner.ensures.fills (λ bytes. bytes)

pub returns-in_err-write_inner-clause-last : goal.returns-in_err-write_inner-clause-last
returns-in_err-write_inner-clause-last g c = λ keeps.
    let pages = total_pages c.args.sources.now in
    record {
      epochs = inl (wider g.D.SectorDisk (IsInnerSector c.args.sizes.blocks pages) (IsFrom 8) c.args.disk.now c.write_inner.new.disk (inner_from c.args.sizes.blocks pages) (c.write_inner.ensures.fills.run.touches keeps));
      kind_behind = none_on _ _ _ c.from_residual.ensures.1;
      kind = none_on _ _ _ c.from_residual.ensures.1;
      synced = none_on _ _ _ c.from_residual.ensures.1;
    }

pub returns-in_err-sync-clause-fills : goal.returns-in_err-sync-clause-fills
returns-in_err-sync-clause-fills g c =
    let d = g.D.SectorDisk in
    let pages = total_pages c.args.sources.now in
    let Inner = IsInnerSector c.args.sizes.blocks pages in
    let All = IsUnmarkedPoolSector c.args.sizes.blocks pages in
    let s = c.sync.ensures in
    let failed = c.in_err-sync.ensures.cause.failed refl in
    let calm = c.in_ok-write_inner.ensures.fills.calm in
    fills_failed d All _ _ c.args.disk.now c.sync.new.self
    (makes_synced d All c.args.disk.now c.write_inner.new.disk c.sync.new.self
    (makes_of d Inner All c.args.disk.now c.write_inner.new.disk (λ k at. inr at) c.write_inner.ensures.fills.run) s.size s.kept s.cause.later s.asks s.same s.unsynced s.time)
    (once_still All _ _ _ (once_wider Inner All _ _ (λ k at. inr at) c.write_inner.ensures.fills.once) s.asks)
    c.from_residual-in_err-sync.result c.from_residual-in_err-sync.ensures.1 (omega (arith, failed, calm))

pub returns-in_err-sync-clause-last : goal.returns-in_err-sync-clause-last
returns-in_err-sync-clause-last g c = λ keeps.
    let d = g.D.SectorDisk in
    let pages = total_pages c.args.sources.now in
    let Inner = IsInnerSector c.args.sizes.blocks pages in
    let s = c.sync.ensures in
    record {
      epochs = inl (wider d Inner (IsFrom 8) c.args.disk.now c.sync.new.self (inner_from c.args.sizes.blocks pages)
          ((makes_synced d Inner c.args.disk.now c.write_inner.new.disk c.sync.new.self c.write_inner.ensures.fills.run s.size s.kept s.cause.later s.asks s.same s.unsynced s.time).touches keeps));
      kind_behind = none_on _ _ _ c.from_residual-in_err-sync.ensures.1;
      kind = none_on _ _ _ c.from_residual-in_err-sync.ensures.1;
      synced = none_on _ _ _ c.from_residual-in_err-sync.ensures.1;
    }

pub returns-in_err-write_kind-clause-fills : goal.returns-in_err-write_kind-clause-fills
returns-in_err-write_kind-clause-fills g c =
    let d = g.D.SectorDisk in
    let pages = total_pages c.args.sources.now in
    let Inner = IsInnerSector c.args.sizes.blocks pages in
    let All = IsUnmarkedPoolSector c.args.sizes.blocks pages in
    let s = c.sync.ensures in
    let w = c.write_kind.ensures in
    let failed = c.in_err-write_kind.ensures.failed refl in
    let calm = c.in_ok-sync.ensures.cause.calm in
    let before = c.in_ok-write_inner.ensures.fills.calm in
    fills_failed d All _ _ c.args.disk.now c.write_kind.new.disk
    (makes_more d All c.args.disk.now c.sync.new.self c.write_kind.new.disk
    (makes_synced d All c.args.disk.now c.write_inner.new.disk c.sync.new.self
    (makes_of d Inner All c.args.disk.now c.write_inner.new.disk (λ k at. inr at) c.write_inner.ensures.fills.run) s.size s.kept s.cause.later s.asks s.same s.unsynced s.time)
    (makes_of d IsKindSector All c.sync.new.self c.write_kind.new.disk (λ k at. inl at) (made_once d IsKindSector c.sync.new.self c.write_kind.new.disk w.run w.once)))
    (once_apart Inner IsKindSector All _ _ _ (λ k at. inr at) (λ k at. inl at) (λ k inner kind. let far = inner_from c.args.sizes.blocks pages k inner in omega (arith, far, kind))
    (once_still Inner _ _ _ c.write_inner.ensures.fills.once s.asks) w.once)
    c.from_residual-in_err-write_kind.result c.from_residual-in_err-write_kind.ensures.1 (omega (arith, failed, calm, before))

pub returns-clause-fills : goal.returns-clause-fills
returns-clause-fills g c =
    let d = g.D.SectorDisk in
    let pages = total_pages c.args.sources.now in
    let Inner = IsInnerSector c.args.sizes.blocks pages in
    let All = IsUnmarkedPoolSector c.args.sizes.blocks pages in
    let s = c.sync.ensures in
    let w = c.write_kind.ensures in
    let calm = c.in_ok-write_kind.ensures.calm ∙ c.in_ok-sync.ensures.cause.calm ∙ c.in_ok-write_inner.ensures.fills.calm in
    fills_done d All _ _ c.args.disk.now c.write_kind.new.disk
    (makes_more d All c.args.disk.now c.sync.new.self c.write_kind.new.disk
    (makes_synced d All c.args.disk.now c.write_inner.new.disk c.sync.new.self
    (makes_of d Inner All c.args.disk.now c.write_inner.new.disk (λ k at. inr at) c.write_inner.ensures.fills.run) s.size s.kept s.cause.later s.asks s.same s.unsynced s.time)
    (makes_of d IsKindSector All c.sync.new.self c.write_kind.new.disk (λ k at. inl at) (made_once d IsKindSector c.sync.new.self c.write_kind.new.disk w.run w.once)))
    (once_apart Inner IsKindSector All _ _ _ (λ k at. inr at) (λ k at. inl at) (λ k inner kind. let far = inner_from c.args.sizes.blocks pages k inner in omega (arith, far, kind))
    (once_still Inner _ _ _ c.write_inner.ensures.fills.once s.asks) w.once)
    _ calm c.in_ok-write_inner.ensures.fills.whole

pub returns-in_err-write_kind-clause-last : goal.returns-in_err-write_kind-clause-last
returns-in_err-write_kind-clause-last g c = λ keeps.
    let d = g.D.SectorDisk in
    let pages = total_pages c.args.sources.now in
    let Inner = IsInnerSector c.args.sizes.blocks pages in
    let Q = IsInnerPoolOf c.args.sizes.blocks g.R.Read.remaining c.args.sources.now in
    let s = c.sync.ensures in
    let w = c.write_kind.ensures in
    let k1 = w.kept keeps in
    let behind : KindBehind d (IsFrom 8) Q c.args.disk.now c.write_kind.new.disk = record {
      tables = c.sync.new.self;
      before = wider d Inner (IsFrom 8) c.args.disk.now c.sync.new.self (inner_from c.args.sizes.blocks pages)
          ((makes_synced d Inner c.args.disk.now c.write_inner.new.disk c.sync.new.self c.write_inner.ensures.fills.run s.size s.kept s.cause.later s.asks s.same s.unsynced s.time).touches k1);
      synced = c.in_ok-sync.ensures.synced k1;
      holds = subst (λ (image : Image). Q image) (sym (s.same k1)) (c.in_ok-write_inner.ensures.inner (s.kept k1));
      kind = w.touches keeps;
    } in
    record {
      epochs = inr behind;
      kind_behind = none_on _ _ _ c.from_residual-in_err-write_kind.ensures.1;
      kind = none_on _ _ _ c.from_residual-in_err-write_kind.ensures.1;
      synced = none_on _ _ _ c.from_residual-in_err-write_kind.ensures.1;
    }

pub returns-clause-last : goal.returns-clause-last
returns-clause-last g c = λ keeps.
    let d = g.D.SectorDisk in
    let pages = total_pages c.args.sources.now in
    let Inner = IsInnerSector c.args.sizes.blocks pages in
    let Q = IsInnerPoolOf c.args.sizes.blocks g.R.Read.remaining c.args.sources.now in
    let s = c.sync.ensures in
    let w = c.write_kind.ensures in
    let k1 = w.kept keeps in
    let behind : KindBehind d (IsFrom 8) Q c.args.disk.now c.write_kind.new.disk = record {
      tables = c.sync.new.self;
      before = wider d Inner (IsFrom 8) c.args.disk.now c.sync.new.self (inner_from c.args.sizes.blocks pages)
          ((makes_synced d Inner c.args.disk.now c.write_inner.new.disk c.sync.new.self c.write_inner.ensures.fills.run s.size s.kept s.cause.later s.asks s.same s.unsynced s.time).touches k1);
      synced = c.in_ok-sync.ensures.synced k1;
      holds = subst (λ (image : Image). Q image) (sym (s.same k1)) (c.in_ok-write_inner.ensures.inner (s.kept k1));
      kind = w.touches keeps;
    } in
    record {
      epochs = inr behind;
      kind_behind = behind;
      kind = c.in_ok-write_kind.ensures.done keeps;
      synced = c.in_ok-write_kind.ensures.synced keeps;
    }
