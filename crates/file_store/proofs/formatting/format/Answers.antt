use Rattle.file_store.proofs.Names.{once_wider, once_apart, ◌≡◌, ◌⊎◌, ◌≤◌, ℕ, length, Result, Err, OnOk, inl, inr, refl, ◌∙◌, sym, ap, subst, ⊎_elim, arith, rules, false≢true, on_ok_weaker, IsErrOf, stays, Nothing, Image}
use Rattle.file_store.specs.{declared.faults.FormatFault.{FormatFault, TheVariants.{TooLarge, Formatted, Source, Device}}, Formatted.{FormatsStore}, Layout.{mark}, Making.{HasFormatCauses}}
use Rattle.file_store.specs.Format.{total_pages, AreWhole, IsTooLarge, IsMarkSector, IsUnmarkedSector, IsStoreSector, IsStoreOf, IsStoreIfMarked}
use Rattle.file_store.proofs.{Asking.{none_once}, Causes.{is_this, same_Err}, Filling.{causes_later, causes_device, causes_none}, Formats.{marked_whole, no_store, store_whole}, Images.{unmarked_from}}
use Rattle.file_store.proofs.{Looking.{ok_is_no_err}, Making.{makes_more, makes_of}, Marking.{LeavesNoPart, nothing_made, unmarked_made, marked_made, looked_makes, when_looking, when_filling, when_marking, format_refused}}
use Rattle.file_store.proofs.{NewStores.{store_fits}, formatting.format.{Given.{Over}, Goals.{After-write_mark}}}
use Rattle.file_store.proofs.formatting.format.Goals as goal

pub returns-then-is_too_large : goal.returns-then-is_too_large
returns-then-is_too_large g c =
    let d = g.D.SectorDisk in let old = c.args.disk.now in let sources = c.args.sources.now in let sectors = d.sector_count old in
    let P : Image → Type 0 = IsStoreIfMarked g.R.Read.remaining sectors sources in
    let leaves : d.keeps_model old → LeavesNoPart d P old old = λ k.
    nothing_made d P old (no_store g.R.Read.remaining sectors sources) (λ image left. g.met.D.SectorDisk.only_now old image k left) old (stays d Nothing old) in
    record {
      ok = search rules;
      marked = search rules;
      synced = search rules;
      whole = search rules;
      any_moment = leaves;
      size = search rules;
      kept = search rules;
      later = search rules;
      asks = search rules;
      once = record { looked = d.asked old; looks = none_once _ _; makes = none_once _ _ };
      too_large = search rules;
      formatted = search rules;
      not_formatted = search rules;
      spared = λ k mark. stays d Nothing old;
      unwritten = search rules;
      source = search rules;
      causes = search rules;
    }

pub returns-in_err-check_unmarked : goal.returns-in_err-check_unmarked
returns-in_err-check_unmarked g c =
    let d = g.D.SectorDisk in let old = c.args.disk.now in let mid = c.check_unmarked.new.disk in
    let sources = c.args.sources.now in let sectors = d.sector_count old in
    let P : Image → Type 0 = IsStoreIfMarked g.R.Read.remaining sectors sources in
    let check = c.check_unmarked.ensures in let e = c.in_err-check_unmarked.ensures in let fault = c.in_err-check_unmarked.field-0.0 in
    format_refused d g.R.Read.remaining sources old mid fault c.from_residual.result c.from_residual.ensures.1
    (λ bad. absurd (false≢true (sym c.if-is_too_large.false ∙ c.is_too_large.ensures.1 (subst (λ n. IsTooLarge n sources) (sym c.sectors.ensures) bad))))
    (when_looking fault e.others).0 (looked_makes d (IsStoreSector (total_pages sources)) old mid (λ s at. inl at) check.run check.once)
    (record { looked = d.asked mid; looks = check.once; makes = none_once _ _ }) e.causes
    (λ k. nothing_made d P old (no_store g.R.Read.remaining sectors sources) (λ image left. g.met.D.SectorDisk.only_now old image (check.run.kept k) left) mid (check.run.touches k))
    (λ k is. e.marked k (ap Err is)) (λ k mark. ⊎_elim (λ e. inl (same_Err _ _ e)) (λ e. inr (same_Err _ _ e)) e.others) (λ k is. check.run.touches k)
    (λ is. absurd ((when_looking fault e.others).1 is))

pub returns-in_err-write_unmarked : goal.returns-in_err-write_unmarked
returns-in_err-write_unmarked g c =
    let d = g.D.SectorDisk in let old = c.args.disk.now in let mid = c.check_unmarked.new.disk in let made = c.write_unmarked.new.disk in
    let sources = c.args.sources.now in let sectors = d.sector_count old in
    let P : Image → Type 0 = IsStoreIfMarked g.R.Read.remaining sectors sources in
    let W : ℕ → Type 0 = IsStoreSector (total_pages sources) in let check = c.check_unmarked.ensures in let w = c.write_unmarked.ensures in
    let e = c.in_err-write_unmarked.ensures in let fault = c.in_err-write_unmarked.field-0.0 in
    let known : IsTooLarge sectors sources → ⊥ = λ bad. absurd (false≢true (sym c.if-is_too_large.false ∙ c.is_too_large.ensures.1 (subst (λ n. IsTooLarge n sources) (sym c.sectors.ensures) bad))) in
    let fits = store_fits sectors sources known in let other = when_filling fault e.fills.others in
    format_refused d g.R.Read.remaining sources old made fault c.from_residual-in_err-write_unmarked.result c.from_residual-in_err-write_unmarked.ensures.1 known other.0
    (makes_more d W old mid made (looked_makes d W old mid (λ s at. inl at) check.run check.once) (makes_of d (IsUnmarkedSector (total_pages sources)) W mid made (λ s at. inr at) w.fills.run))
    (record { looked = d.asked mid; looks = check.once; makes = once_wider (IsUnmarkedSector (total_pages sources)) W _ _ (λ s at. inr at) w.fills.once })
    (causes_later fault _ _ _ c.in_ok-check_unmarked.ensures.causes.calm e.fills.causes)
    (λ k. let before = w.fills.run.kept k in
    unmarked_made d P old (no_store g.R.Read.remaining sectors sources) (λ image left. g.met.D.SectorDisk.only_now old image (check.run.kept before) left) mid (check.run.touches before)
    (IsUnmarkedSector (total_pages sources)) (unmarked_from (total_pages sources)) made (w.fills.run.touches k))
    (λ k is. absurd (other.1 is)) (λ k mark. absurd (c.in_ok-check_unmarked.ensures.unmarked (w.fills.run.kept k) mark)) (λ k mark. absurd (c.in_ok-check_unmarked.ensures.unmarked (w.fills.run.kept k) mark)) (λ is. e.fills.source (ap Err is))

-- where the mark was asked to be written, whatever is told of it
marked_store : {T : Type 0} (g : Over) (c : After-write_mark g) (r : Result T FormatFault) → (IsErrOf r TooLarge ⊎ (IsErrOf r Formatted ⊎ IsErrOf r Source) → ⊥)
    → (g.D.SectorDisk.keeps_model c.write_mark.new.disk → OnOk r (g.D.SectorDisk.content c.write_mark.new.disk 0 ≡ mark))
    → (g.D.SectorDisk.keeps_model c.write_mark.new.disk → OnOk r ((k : ℕ) → g.D.SectorDisk.unsynced c.write_mark.new.disk k → ⊥))
    → OnOk r (AreWhole g.R.Read.remaining c.args.sources.now (length c.args.sources.now))
    → HasFormatCauses (g.D.SectorDisk.failures c.args.disk.now) (g.D.SectorDisk.failures c.write_mark.new.disk) r
    → FormatsStore g.D.SectorDisk g.R.Read.remaining c.args.sources.now c.args.disk.now c.write_mark.new.disk r
marked_store g c r none marked synced all causes =
    let d = g.D.SectorDisk in let old = c.args.disk.now in let mid = c.check_unmarked.new.disk in let made = c.write_unmarked.new.disk in
    let new = c.write_mark.new.disk in let sources = c.args.sources.now in let sectors = d.sector_count old in
    let P : Image → Type 0 = IsStoreIfMarked g.R.Read.remaining sectors sources in
    let W : ℕ → Type 0 = IsStoreSector (total_pages sources) in let check = c.check_unmarked.ensures in let w = c.in_ok-write_unmarked.ensures in
    let m = c.write_mark.ensures.writes.run in
    let known : IsTooLarge sectors sources → ⊥ = λ bad. absurd (false≢true (sym c.if-is_too_large.false ∙ c.is_too_large.ensures.1 (subst (λ n. IsTooLarge n sources) (sym c.sectors.ensures) bad))) in
    let fits = store_fits sectors sources known in
    let run = makes_more d W old made new
    (makes_more d W old mid made (looked_makes d W old mid (λ s at. inl at) check.run check.once) (makes_of d (IsUnmarkedSector (total_pages sources)) W mid made (λ s at. inr at) w.fills.run))
    (makes_of d IsMarkSector W made new (λ s at. inl at) m) in
    let whole : d.keeps_model made → (c : Image) → ((k : ℕ) → 1 ≤ k → c k ≡ d.content made k) → P c =
    λ last. store_whole g.R.Read.remaining sectors sources (d.content made) (w.written last) fits.0 fits.1 in
    let leaves : d.keeps_model new → LeavesNoPart d P old new = λ k.
    let last = m.kept k in let before = w.fills.run.kept last in
    marked_made d P old (no_store g.R.Read.remaining sectors sources) (λ image left. g.met.D.SectorDisk.only_now old image (check.run.kept before) left) mid (check.run.touches before)
    (IsUnmarkedSector (total_pages sources)) (unmarked_from (total_pages sources)) made (w.fills.run.touches last) (w.synced last)
    (whole last) new (m.touches k) in
    record {
      ok = λ k. on_ok_weaker r (marked_whole d (IsStoreOf g.R.Read.remaining sectors sources) made new (λ image same. (whole (m.kept k) image same).store) (m.touches k)) (marked k);
      marked = marked;
      synced = synced;
      whole = all;
      any_moment = leaves;
      size = run.size;
      kept = run.kept;
      later = run.later;
      asks = run.asks;
      once = record {
        looked = d.asked mid;
        looks = check.once;
        makes = once_apart (IsUnmarkedSector (total_pages sources)) IsMarkSector W _ _ _ (λ s at. inr at) (λ s at. inl at)
            (λ s inside mark. let low = unmarked_from (total_pages sources) s inside in omega (arith, low, mark)) w.fills.once c.write_mark.ensures.writes.once;
      };
      too_large = (λ is. absurd (none (inl is)), λ large. absurd (known large));
      formatted = λ k is. absurd (none (inr (inl is)));
      not_formatted = λ k mark. absurd (c.in_ok-check_unmarked.ensures.unmarked (w.fills.run.kept (m.kept k)) mark);
      spared = λ k mark. absurd (c.in_ok-check_unmarked.ensures.unmarked (w.fills.run.kept (m.kept k)) mark);
      unwritten = λ k. ⊎_elim (λ is. absurd (none (inl is))) (λ is. absurd (none (inr (inl is))));
      source = λ is. absurd (none (inr (inr is)));
      causes = causes;
    }

pub returns-in_err-write_mark : goal.returns-in_err-write_mark
returns-in_err-write_mark g c =
    let failed = c.in_err-write_mark.ensures.writes.failed refl in
    let calm = c.in_ok-write_unmarked.ensures.fills.calm ∙ c.in_ok-check_unmarked.ensures.causes.calm in
    subst (λ r. FormatsStore g.D.SectorDisk g.R.Read.remaining c.args.sources.now c.args.disk.now c.write_mark.new.disk r)
    (sym (is_this c.from_residual-in_err-write_mark.result Device c.from_residual-in_err-write_mark.ensures.1))
    (marked_store g (goal.at.returns-in_err-write_mark g c).After-write_mark (Err Device)
    (⊎_elim (λ is. when_marking.0 (same_Err _ _ is)) (⊎_elim (λ is. when_marking.1.0 (same_Err _ _ is)) (λ is. when_marking.1.1 (same_Err _ _ is))))
    (λ k. tt) (λ k. tt) tt (causes_device _ _ (omega (arith, failed, calm))))

pub returns : goal.returns
returns g c =
    marked_store g (goal.at.returns g c).After-write_mark _ (⊎_elim (λ is. ok_is_no_err _ _ is) (⊎_elim (λ is. ok_is_no_err _ _ is) (λ is. ok_is_no_err _ _ is)))
    c.in_ok-write_mark.ensures.marked c.in_ok-write_mark.ensures.writes.synced c.in_ok-write_unmarked.ensures.fills.whole
    (causes_none _ _ _ (c.in_ok-write_mark.ensures.writes.calm ∙ c.in_ok-write_unmarked.ensures.fills.calm ∙ c.in_ok-check_unmarked.ensures.causes.calm))
