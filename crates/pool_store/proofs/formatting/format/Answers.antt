use Rattle.file_store.proofs.{Asking.{none_once}, Causes.{is_this, same_Err}, Filling.{causes_later, causes_device, causes_none}, Looking.{ok_is_no_err}, Making.{makes_more, makes_of}, Marking.{looked_makes, when_filling, when_looking, when_marking}}
use Rattle.pool_store.proofs.Names.{once_wider, once_apart, ◌≡◌, ◌⊎◌, ℕ, length, Result, Err, OnOk, inl, inr, refl, ◌∙◌, sym, ap, subst, ⊎_elim, arith, rules, false≢true, on_ok_weaker, IsErrOf, stays, Image, MayLeave, Nothing, Touches}
use Rattle.file_store.specs.{declared.faults.FormatFault.{FormatFault}, declared.faults.FormatFault.TheVariants.{TooLarge, Formatted, Source, Device}, Format.{total_pages, AreWhole, IsMarkSector}, Making.{HasFormatCauses}}
use Rattle.pool_journal.specs.Pools.{pool_home_count}
use Rattle.pool_store.proofs.{Formats.{Leaves, fits, format_refused, marked_whole, unmarked_from, when_marked, when_read, when_unmarked}, Making.{made_once}}
use Rattle.pool_store.specs.{Format.{IsPoolStoreSector, IsTooLargeFor, IsUnmarkedPoolSector}, Formatted.{FormatsPool}, Pools.{pool_mark}}
use Rattle.pool_store.proofs.formatting.format.{Given.{Over}, Goals.{After-write_mark}}
use Rattle.pool_store.proofs.formatting.format.Goals as goal

pub check_unmarked-requires : goal.check_unmarked-requires
check_unmarked-requires g c =
    let m = c.args.blocks in
    let sources = c.args.sources.now in
    let fit = fits m g.R.Read.remaining sources (g.D.SectorDisk.sector_count c.args.disk.now)
    (λ bad. absurd (false≢true (sym c.if-is_too_large.false ∙ c.is_too_large.ensures.1 (subst (λ n. IsTooLargeFor m n sources) (sym c.sectors.ensures) bad)))) in
    let room = fit.room in
    omega (arith, room)

pub write_unmarked-requires-clause-files : goal.write_unmarked-requires-clause-files
write_unmarked-requires-clause-files g c =
    let m = c.args.blocks in
    let sources = c.args.sources.now in
    (fits m g.R.Read.remaining sources (g.D.SectorDisk.sector_count c.args.disk.now)
    (λ bad. absurd (false≢true (sym c.if-is_too_large.false ∙ c.is_too_large.ensures.1 (subst (λ n. IsTooLargeFor m n sources) (sym c.sectors.ensures) bad))))).files

pub write_unmarked-requires-clause-room : goal.write_unmarked-requires-clause-room
write_unmarked-requires-clause-room g c =
    let m = c.args.blocks in
    let sources = c.args.sources.now in
    let fit = fits m g.R.Read.remaining sources (g.D.SectorDisk.sector_count c.args.disk.now)
    (λ bad. absurd (false≢true (sym c.if-is_too_large.false ∙ c.is_too_large.ensures.1 (subst (λ n. IsTooLargeFor m n sources) (sym c.sectors.ensures) bad)))) in
    let room = fit.room in
    omega (arith, room, c.check_unmarked.ensures.run.size)

pub write_unmarked-requires-clause-homes : goal.write_unmarked-requires-clause-homes
write_unmarked-requires-clause-homes g c =
    let m = c.args.blocks in
    let sources = c.args.sources.now in
    let fit = fits m g.R.Read.remaining sources (g.D.SectorDisk.sector_count c.args.disk.now)
    (λ bad. absurd (false≢true (sym c.if-is_too_large.false ∙ c.is_too_large.ensures.1 (subst (λ n. IsTooLargeFor m n sources) (sym c.sectors.ensures) bad)))) in
    let homes = fit.homes in
    let same = ap (pool_home_count m) c.check_unmarked.ensures.run.size in
    omega (arith, homes, same)

pub write_mark-requires : goal.write_mark-requires
write_mark-requires g c =
    let m = c.args.blocks in
    let sources = c.args.sources.now in
    let fit = fits m g.R.Read.remaining sources (g.D.SectorDisk.sector_count c.args.disk.now)
    (λ bad. absurd (false≢true (sym c.if-is_too_large.false ∙ c.is_too_large.ensures.1 (subst (λ n. IsTooLargeFor m n sources) (sym c.sectors.ensures) bad)))) in
    let room = fit.room in
    omega (arith, room, c.check_unmarked.ensures.run.size, c.write_unmarked.ensures.fills.run.size)

pub returns-then-is_too_large : goal.returns-then-is_too_large
returns-then-is_too_large g c =
    let d = g.D.SectorDisk in
    let old = c.args.disk.now in
    let leaves : d.keeps_model old → Leaves d c.args.blocks g.R.Read.remaining c.args.sources.now old old = λ k.
    when_read d c.args.blocks g.R.Read.remaining c.args.sources.now old (λ image left. g.met.D.SectorDisk.only_now old image k left) old (stays d Nothing old) in
    record {
      ok = search rules;
      marked = search rules;
      synced = search rules;
      whole = search rules;
      any_moment = λ k. (leaves k).any_moment;
      blocks = λ k. (leaves k).blocks;
      size = search rules;
      kept = search rules;
      later = search rules;
      asks = search rules;
      once = record { looked = d.asked old; looks = none_once _ _; makes = none_once _ _ };
      too_large = search rules;
      formatted = search rules;
      not_formatted = search rules;
      spared = λ k mark. stays d Nothing old;
      unwritten = search rules;
      source = search rules;
      causes = search rules;
    }

pub returns-in_err-check_unmarked : goal.returns-in_err-check_unmarked
returns-in_err-check_unmarked g c =
    let d = g.D.SectorDisk in
    let old = c.args.disk.now in
    let mid = c.check_unmarked.new.disk in
    let m = c.args.blocks in
    let sources = c.args.sources.now in
    let check = c.check_unmarked.ensures in
    let e = c.in_err-check_unmarked.ensures in
    let fault = c.in_err-check_unmarked.field-0.0 in
    format_refused d m g.R.Read.remaining sources old mid fault c.from_residual.result c.from_residual.ensures.1
    (λ bad. absurd (false≢true (sym c.if-is_too_large.false ∙ c.is_too_large.ensures.1 (subst (λ n. IsTooLargeFor m n sources) (sym c.sectors.ensures) bad))))
    (when_looking fault e.others).0 (looked_makes d (IsPoolStoreSector m (total_pages sources)) old mid (λ s at. inl at) check.run check.once)
    (record { looked = d.asked mid; looks = check.once; makes = none_once _ _ }) e.causes
    (λ k. when_read d m g.R.Read.remaining sources old (λ image left. g.met.D.SectorDisk.only_now old image (check.run.kept k) left) mid (check.run.touches k))
    (λ k is. e.marked k (ap Err is)) (λ k mark. ⊎_elim (λ e. inl (same_Err _ _ e)) (λ e. inr (same_Err _ _ e)) e.others) (λ k is. check.run.touches k)
    (λ is. absurd ((when_looking fault e.others).1 is))

pub returns-in_err-write_unmarked : goal.returns-in_err-write_unmarked
returns-in_err-write_unmarked g c =
    let d = g.D.SectorDisk in
    let old = c.args.disk.now in
    let mid = c.check_unmarked.new.disk in
    let made = c.write_unmarked.new.disk in
    let m = c.args.blocks in
    let sources = c.args.sources.now in
    let sectors = d.sector_count old in
    let W = IsPoolStoreSector m (total_pages sources) in
    let U = IsUnmarkedPoolSector m (total_pages sources) in
    let check = c.check_unmarked.ensures in
    let w = c.write_unmarked.ensures in
    let e = c.in_err-write_unmarked.ensures in
    let fault = c.in_err-write_unmarked.field-0.0 in
    let fine : IsTooLargeFor m sectors sources → ⊥ = λ bad. absurd (false≢true (sym c.if-is_too_large.false ∙ c.is_too_large.ensures.1 (subst (λ n. IsTooLargeFor m n sources) (sym c.sectors.ensures) bad))) in
    let other = when_filling fault e.fills.others in
    format_refused d m g.R.Read.remaining sources old made fault c.from_residual-in_err-write_unmarked.result c.from_residual-in_err-write_unmarked.ensures.1 fine other.0
    (makes_more d W old mid made (looked_makes d W old mid (λ s at. inl at) check.run check.once) (makes_of d U W mid made (λ s at. inr at) w.fills.run))
    (record { looked = d.asked mid; looks = check.once; makes = once_wider U W _ _ (λ s at. inr at) w.fills.once })
    (causes_later fault _ _ _ c.in_ok-check_unmarked.ensures.causes.calm e.fills.causes)
    (λ k. let before = w.fills.run.kept k in
    when_unmarked d m g.R.Read.remaining sources old (λ image left. g.met.D.SectorDisk.only_now old image (check.run.kept before) left) mid (check.run.touches before)
    (fits m g.R.Read.remaining sources sectors fine) made (w.fills.run.touches k) (w.last k).epochs)
    (λ k is. absurd (other.1 is)) (λ k mark. absurd (c.in_ok-check_unmarked.ensures.unmarked (w.fills.run.kept k) mark)) (λ k mark. absurd (c.in_ok-check_unmarked.ensures.unmarked (w.fills.run.kept k) mark)) (λ is. e.fills.source (ap Err is))

-- where the mark was asked to be written, whatever is told of it
marked_store : {T : Type 0} (g : Over) (c : After-write_mark g) (r : Result T FormatFault) → (IsErrOf r TooLarge ⊎ (IsErrOf r Formatted ⊎ IsErrOf r Source) → ⊥)
    → (g.D.SectorDisk.keeps_model c.write_mark.new.disk → OnOk r (g.D.SectorDisk.content c.write_mark.new.disk 0 ≡ pool_mark))
    → (g.D.SectorDisk.keeps_model c.write_mark.new.disk → OnOk r ((k : ℕ) → g.D.SectorDisk.unsynced c.write_mark.new.disk k → ⊥))
    → OnOk r (AreWhole g.R.Read.remaining c.args.sources.now (length c.args.sources.now))
    → HasFormatCauses (g.D.SectorDisk.failures c.args.disk.now) (g.D.SectorDisk.failures c.write_mark.new.disk) r
    → FormatsPool g.D.SectorDisk c.args.blocks g.R.Read.remaining c.args.sources.now c.args.disk.now c.write_mark.new.disk r
marked_store g c r none marked synced all causes =
    let d = g.D.SectorDisk in
    let old = c.args.disk.now in
    let mid = c.check_unmarked.new.disk in
    let made = c.write_unmarked.new.disk in
    let new = c.write_mark.new.disk in
    let m = c.args.blocks in
    let sources = c.args.sources.now in
    let sectors = d.sector_count old in
    let W = IsPoolStoreSector m (total_pages sources) in
    let U = IsUnmarkedPoolSector m (total_pages sources) in
    let check = c.check_unmarked.ensures in
    let w = c.in_ok-write_unmarked.ensures in
    let mark = c.write_mark.ensures in
    let fine : IsTooLargeFor m sectors sources → ⊥ = λ bad. absurd (false≢true (sym c.if-is_too_large.false ∙ c.is_too_large.ensures.1 (subst (λ n. IsTooLargeFor m n sources) (sym c.sectors.ensures) bad))) in
    let fit = fits m g.R.Read.remaining sources sectors fine in
    let run = makes_more d W old made new
    (makes_more d W old mid made (looked_makes d W old mid (λ s at. inl at) check.run check.once) (makes_of d U W mid made (λ s at. inr at) w.fills.run))
    (makes_of d IsMarkSector W made new (λ s at. inl at) (made_once d IsMarkSector made new mark.run mark.once)) in
    let only : d.keeps_model new → (c : Image) → d.left_since old (d.moment old) c → MayLeave (d.content old) (d.unsynced old) c = λ k image left. g.met.D.SectorDisk.only_now old image (check.run.kept (w.fills.run.kept (mark.kept k))) left in
    let reads : d.keeps_model new → Touches d Nothing old mid = λ k. check.run.touches (w.fills.run.kept (mark.kept k)) in
    let leaves : d.keeps_model new → Leaves d m g.R.Read.remaining sources old new = λ k.
    let last = w.last (mark.kept k) in
    when_marked d m g.R.Read.remaining sources old (only k) mid (reads k) fit made (w.fills.run.touches (mark.kept k)) last.kind_behind last.kind last.synced new (mark.touches k) in
    record {
      ok = λ k. let last = w.last (mark.kept k) in on_ok_weaker r (λ is. marked_whole d m g.R.Read.remaining sources old (only k) mid (reads k) fit made (w.fills.run.touches (mark.kept k)) last.kind_behind last.kind new (mark.touches k) is) (marked k);
      marked = marked;
      synced = synced;
      whole = all;
      any_moment = λ k. (leaves k).any_moment;
      blocks = λ k. (leaves k).blocks;
      size = run.size;
      kept = run.kept;
      later = run.later;
      asks = run.asks;
      once = record {
        looked = d.asked mid;
        looks = check.once;
        makes = once_apart U IsMarkSector W _ _ _ (λ s at. inr at) (λ s at. inl at)
            (λ s inside at. let low = unmarked_from m (total_pages sources) s inside in omega (arith, low, at)) w.fills.once mark.once;
      };
      too_large = (λ is. absurd (none (inl is)), λ large. absurd (fine large));
      formatted = λ k is. absurd (none (inr (inl is)));
      not_formatted = λ k is. absurd (c.in_ok-check_unmarked.ensures.unmarked (w.fills.run.kept (mark.kept k)) is);
      spared = λ k is. absurd (c.in_ok-check_unmarked.ensures.unmarked (w.fills.run.kept (mark.kept k)) is);
      unwritten = λ k. ⊎_elim (λ is. absurd (none (inl is))) (λ is. absurd (none (inr (inl is))));
      source = λ is. absurd (none (inr (inr is)));
      causes = causes;
    }

pub returns-in_err-write_mark : goal.returns-in_err-write_mark
returns-in_err-write_mark g c =
    let failed = c.in_err-write_mark.ensures.failed refl in
    let calm = c.in_ok-write_unmarked.ensures.fills.calm ∙ c.in_ok-check_unmarked.ensures.causes.calm in
    subst (λ r. FormatsPool g.D.SectorDisk c.args.blocks g.R.Read.remaining c.args.sources.now c.args.disk.now c.write_mark.new.disk r)
    (sym (is_this c.from_residual-in_err-write_mark.result Device c.from_residual-in_err-write_mark.ensures.1))
    (marked_store g (goal.at.returns-in_err-write_mark g c).After-write_mark (Err Device)
    (⊎_elim (λ is. when_marking.0 (same_Err _ _ is)) (⊎_elim (λ is. when_marking.1.0 (same_Err _ _ is)) (λ is. when_marking.1.1 (same_Err _ _ is))))
    (λ k. tt) (λ k. tt) tt (causes_device _ _ (omega (arith, failed, calm))))

pub returns : goal.returns
returns g c =
    marked_store g (goal.at.returns g c).After-write_mark _ (⊎_elim (λ is. ok_is_no_err _ _ is) (⊎_elim (λ is. ok_is_no_err _ _ is) (λ is. ok_is_no_err _ _ is)))
    c.in_ok-write_mark.ensures.done c.in_ok-write_mark.ensures.synced c.in_ok-write_unmarked.ensures.fills.whole
    (causes_none _ _ _ (c.in_ok-write_mark.ensures.calm ∙ c.in_ok-write_unmarked.ensures.fills.calm ∙ c.in_ok-check_unmarked.ensures.causes.calm))
