use Rattle.file_store.proofs.{Causes.{is_this, same_Err}, Copied.{causes_after, causes_before, causes_none, causes_marking, copied_old_once}, Formats.{marked_whole}, Looking.{ok_is_no_err}, Marking.{LeavesNoPart, nothing_made}}
use Rattle.file_store.proofs.{Marking.{unmarked_made, marked_made}, Names.{◌≡◌, ◌⊎◌, ◌≤◌, ◌<◌, ℕ, Result, Err, OnOk, Some, refl, inl, inr, ⊎_elim, sym, ap, subst, ◌∙◌, on_ok_weaker, IsErrOf, Image, Nothing, AsksOnly, stays}}
use Rattle.file_store.proofs.{Names.{asks_none, NamesOnce, once_wider, asks_once, asks_then, asks_wider, home_count, old_home_count, one_more, One}, Openings.{content_is}}
use Rattle.file_store.proofs.Refusing.{of_old, broken_from, when_checking, when_copying, when_marking, room_is_not_small, causes_checked, upgrade_refused}
use Rattle.file_store.proofs.{Upgrades.{copied_from, copied_asked, layout_from, old_fault_cases, too_small, no_upgrade, upgrade_whole, entries_fit}}
use Rattle.file_store.{proofs.upgrading.upgrade.{Given.{Over}, Goals.{After-write_mark}}, specs.{Directory.{home_end, IsSoundDirectory}, Faults.{old_fault}, Format.{IsMarkSector}, Store.{entry_of}}}
use Rattle.file_store.specs.{Upgrade.{old_entry, IsOldStore, IsUnmarkedUpgrade, IsUpgradeOf, IsUpgradeIfMarked, IsCopiedSector, IsUpgradeSector, IsOldHead, IsOldAsked, HasUpgradeCauses}, Upgraded.{UpgradesStore}}
use Rattle.file_store.specs.{Layout.{mark}, declared.{directory.Entry.{Entry}, faults.UpgradeFault.{UpgradeFault, TheVariants.{OldLayout, OldJournal, NewDevice, NewSmall, Formatted}}}}
use Rattle.file_store.proofs.upgrading.upgrade.Goals as goal

pub copy_unmarked-requires-clause-copied : goal.copy_unmarked-requires-clause-copied
copy_unmarked-requires-clause-copied g c =
    let d = g.D.SectorDisk in let store = c.in_ok-store.store in let found = c.in_ok-store.ensures.found in
    record {
      version = found.version;
      sound = subst (λ (n : ℕ). IsSoundDirectory (old_home_count One n) (entry_of store.directory)) (sym c.find.ensures.looks.run.size) found.sound;
      few = found.few;
      found = λ keeps. subst (λ (image : Image). IsOldStore One image store) (sym (content_is d c.args.old.now c.find.new.disk (c.find.ensures.looks.run.touches keeps))) (found.found keeps);
      fits = λ f e is. subst (λ (n : ℕ). home_end e ≤ home_count n) (sym c.check_new.ensures.run.size) ((c.in_ok-check_new.ensures.room (ok_is_no_err _ _)).fits f e is);
    }

-- the old store is refused
pub returns-in_err-store : goal.returns-in_err-store
returns-in_err-store g c =
    let d = g.D.SectorDisk in let n = g.E.SectorDisk in let old = c.args.old.now in let read = c.find.new.disk in
    let new = c.args.new.now in let image = d.content old in let find = c.find.ensures in let fault = c.in_err-store.field-0.0 in
    let e = c.in_err-store.ensures in
    upgrade_refused d n old read new new (old_fault fault) c.from_residual.result c.from_residual.ensures.1 find.looks.run refl (λ k. k)
    (λ k. once_wider (IsOldHead One image) (IsOldAsked One image) (d.asked old) (d.asked read) (λ s at. inl at) (find.once k)) (λ k. asks_none n (IsUpgradeSector image) new new (λ s. refl))
    (causes_before fault _ _ _ e.looks find.looks.run.later)
    (λ k k'. nothing_made n (IsUpgradeIfMarked (d.sector_count old) (n.sector_count new) image) new
    (no_upgrade (d.sector_count old) (n.sector_count new) image) (λ i left. g.met.E.SectorDisk.only_now new i k' left) new (stays n Nothing new))
    (λ k is. e.bad_layout k (ap Err (layout_from fault is)))
    (λ k bad. ⊎_elim (λ device. inr (ap old_fault device)) (⊎_elim (λ layout. inl (ap old_fault layout)) (λ journal. absurd ((e.bad_journal k (ap Err journal)).1 bad))) (old_fault_cases fault))
    (λ k is. (e.bad_journal k (ap Err (broken_from fault is))).0)
    (λ k bad. ⊎_elim (λ device. inr (inr (ap old_fault device))) (⊎_elim (λ layout. inl (ap old_fault layout)) (λ journal. inr (inl (ap old_fault journal)))) (old_fault_cases fault))
    (λ k is. absurd ((of_old fault).0 is))
    (λ k small. ⊎_elim (λ device. inr (inr (inl (ap old_fault device)))) (⊎_elim (λ layout. inl (ap old_fault layout)) (λ journal. inr (inl (ap old_fault journal)))) (old_fault_cases fault))
    (λ k is. absurd ((of_old fault).1 is)) (λ k mark. stays n Nothing new) (λ k is. stays n Nothing new)

-- the new device is
pub returns-in_err-check_new : goal.returns-in_err-check_new
returns-in_err-check_new g c =
    let d = g.D.SectorDisk in let n = g.E.SectorDisk in let old = c.args.old.now in let read = c.find.new.disk in
    let new = c.args.new.now in let image = d.content old in let find = c.find.ensures in let checked = c.check_new.new.new in
    let check = c.check_new.ensures in let found = c.in_ok-store.ensures.found in let calm = c.in_ok-store.ensures.looks.calm in
    let fault = c.in_err-check_new.field-0.0 in let e = c.in_err-check_new.ensures in let other = when_checking fault e.causes.others in
    upgrade_refused d n old read new checked fault c.from_residual-in_err-check_new.result c.from_residual-in_err-check_new.ensures.1 find.looks.run check.run.size check.run.kept
    (λ k. once_wider (IsOldHead One image) (IsOldAsked One image) (d.asked old) (d.asked read) (λ s at. inl at) (find.once k)) (λ k. asks_wider n IsMarkSector (IsUpgradeSector image) new checked (λ s at. inl at) check.asks)
    (causes_checked fault _ _ _ _ calm other.1.1 check.run.later e.causes)
    (λ k k'. nothing_made n (IsUpgradeIfMarked (d.sector_count old) (n.sector_count new) image) new
    (no_upgrade (d.sector_count old) (n.sector_count new) image) (λ i left. g.met.E.SectorDisk.only_now new i (check.run.kept k') left) checked (check.run.touches k'))
    (λ k is. absurd (other.0 is)) (λ k bad. absurd (found.good_layout k bad)) (λ k is. absurd (other.1.0 is)) (λ k bad. absurd (found.good_journal k bad))
    (λ k is. too_small (n.sector_count new) image (entry_of c.in_ok-store.store.directory) (found.found k).entries (e.small (ap Err is)))
    (λ k small. ⊎_elim (λ is. inr (inr (inr (same_Err _ _ is))))
    (λ is. absurd (room_is_not_small (n.sector_count new) c.in_ok-store.store.directory image (found.found k).entries (e.room (λ other. ⊎_elim (λ a. cc) (λ a. cc) is)) small)) e.causes.others)
    (λ k is. e.marked k (ap Err is)) (λ k mark. check.run.touches k) (λ k is. check.run.touches k)

-- a device fails while the files are copied
pub returns-in_err-copy_unmarked : goal.returns-in_err-copy_unmarked
returns-in_err-copy_unmarked g c =
    let d = g.D.SectorDisk in let n = g.E.SectorDisk in let old = c.args.old.now in let read = c.find.new.disk in
    let new = c.args.new.now in let image = d.content old in let find = c.find.ensures in let checked = c.check_new.new.new in
    let check = c.check_new.ensures in let found = c.in_ok-store.ensures.found in let calm = c.in_ok-store.ensures.looks.calm in
    let entries = entry_of c.in_ok-store.store.directory in let sectors = n.sector_count new in let copied = c.copy_unmarked.new.old in
    let made = c.copy_unmarked.new.new in let copies = c.copy_unmarked.ensures.copies in
    let still = c.in_ok-check_new.ensures.causes.still (ok_is_no_err _ _) in let has = c.in_ok-check_new.ensures.room (ok_is_no_err _ _) in
    let known : d.keeps_model copied → (f : ℕ) (e : Entry) → old_entry One image f ≡ Some e → (f < 64) × (home_end e ≤ home_count sectors) = λ k.
    entries_fit sectors image entries (found.found (copies.old_run.kept k)).entries c.in_ok-store.store.directory.numbers has.fits in
    let same : d.keeps_model copied → d.content read ≡ image = λ k. content_is d old read (find.looks.run.touches (copies.old_run.kept k)) in
    let P : Image → Type 0 = IsUpgradeIfMarked (d.sector_count old) sectors image in
    let once_old : d.keeps_model copied → NamesOnce (IsOldAsked One image) (d.asked old) (d.asked copied) = λ k.
    copied_old_once d c.in_ok-store.store.journal old read copied found.version (same k) (found.found (copies.old_run.kept k)).stands (find.once (copies.old_run.kept k)) (copies.once_old k) in
    let asks_made : d.keeps_model copied → AsksOnly n (IsUpgradeSector image) new made = λ k. asks_then n (IsUpgradeSector image) new checked made
    (asks_wider n IsMarkSector (IsUpgradeSector image) new checked (λ s at. inl at) check.asks)
    (asks_wider n (IsCopiedSector entries) (IsUpgradeSector image) checked made (copied_asked image entries (found.found (copies.old_run.kept k)).entries) copies.run.asks) in
    let run = one_more d Nothing old read copied find.looks.run copies.old_run in let fault = c.in_err-copy_unmarked.field-0.0 in
    let e = c.in_err-copy_unmarked.ensures in let other = when_copying fault e.copies.others in
    upgrade_refused d n old copied new made fault c.from_residual-in_err-copy_unmarked.result c.from_residual-in_err-copy_unmarked.ensures.1 run (copies.run.size ∙ check.run.size) (λ k. check.run.kept (copies.run.kept k))
    once_old asks_made (causes_after fault _ _ _ _ _ _ calm still e.copies.causes)
    (λ k k'. unmarked_made n P new (no_upgrade (d.sector_count old) sectors image) (λ image left. g.met.E.SectorDisk.only_now new image (check.run.kept (copies.run.kept k')) left) checked (check.run.touches (copies.run.kept k'))
    (IsCopiedSector entries) (copied_from entries) made (copies.run.touches k'))
    (λ k is. absurd (other.0 is)) (λ k bad. absurd (found.good_layout (copies.old_run.kept k) bad)) (λ k is. absurd (other.1.0 is)) (λ k bad. absurd (found.good_journal (copies.old_run.kept k) bad))
    (λ k is. absurd (other.1.1.0 is)) (λ k small. absurd (room_is_not_small sectors c.in_ok-store.store.directory image (found.found (copies.old_run.kept k)).entries has small))
    (λ k is. absurd (other.1.1.1 is)) (λ k mark. absurd (c.in_ok-check_new.ensures.unmarked (copies.run.kept k) mark))
    (λ k. ⊎_elim (λ is. absurd (other.0 is)) (⊎_elim (λ is. absurd (other.1.0 is)) (⊎_elim (λ is. absurd (other.1.1.0 is)) (λ is. absurd (other.1.1.1 is)))))

-- where the mark was asked to be written, whatever is told of it
marked_upgrade : {T : Type 0} (g : Over) (c : After-write_mark g) (r : Result T UpgradeFault) → (IsErrOf r OldLayout ⊎ (IsErrOf r OldJournal ⊎ (IsErrOf r NewSmall ⊎ IsErrOf r Formatted)) → ⊥)
    → (g.E.SectorDisk.keeps_model c.write_mark.new.disk → OnOk r (g.E.SectorDisk.content c.write_mark.new.disk 0 ≡ mark))
    → (g.E.SectorDisk.keeps_model c.write_mark.new.disk → OnOk r ((k : ℕ) → g.E.SectorDisk.unsynced c.write_mark.new.disk k → ⊥))
    → HasUpgradeCauses (g.D.SectorDisk.failures c.args.old.now) (g.D.SectorDisk.failures c.copy_unmarked.new.old) (g.E.SectorDisk.failures c.args.new.now) (g.E.SectorDisk.failures c.write_mark.new.disk) r
    → UpgradesStore g.D.SectorDisk g.E.SectorDisk c.args.old.now c.copy_unmarked.new.old c.args.new.now c.write_mark.new.disk r
marked_upgrade g c r none marked synced causes =
    let d = g.D.SectorDisk in let n = g.E.SectorDisk in let old = c.args.old.now in let read = c.find.new.disk in
    let new = c.args.new.now in let image = d.content old in let find = c.find.ensures in let checked = c.check_new.new.new in
    let check = c.check_new.ensures in let found = c.in_ok-store.ensures.found in let entries = entry_of c.in_ok-store.store.directory in
    let sectors = n.sector_count new in let copied = c.copy_unmarked.new.old in let made = c.copy_unmarked.new.new in
    let copies = c.copy_unmarked.ensures.copies in let has = c.in_ok-check_new.ensures.room (ok_is_no_err _ _) in
    let known : d.keeps_model copied → (f : ℕ) (e : Entry) → old_entry One image f ≡ Some e → (f < 64) × (home_end e ≤ home_count sectors) = λ k.
    entries_fit sectors image entries (found.found (copies.old_run.kept k)).entries c.in_ok-store.store.directory.numbers has.fits in
    let same : d.keeps_model copied → d.content read ≡ image = λ k. content_is d old read (find.looks.run.touches (copies.old_run.kept k)) in
    let P : Image → Type 0 = IsUpgradeIfMarked (d.sector_count old) sectors image in
    let once_old : d.keeps_model copied → NamesOnce (IsOldAsked One image) (d.asked old) (d.asked copied) = λ k.
    copied_old_once d c.in_ok-store.store.journal old read copied found.version (same k) (found.found (copies.old_run.kept k)).stands (find.once (copies.old_run.kept k)) (copies.once_old k) in
    let run = one_more d Nothing old read copied find.looks.run copies.old_run in let m = c.write_mark.ensures.writes.run in
    let last_new = c.write_mark.new.disk in
    let written : d.keeps_model copied → n.keeps_model made → IsUnmarkedUpgrade image (n.content made) = λ k last. subst (λ (i : Image). IsUnmarkedUpgrade i (n.content made)) (same k) (c.in_ok-copy_unmarked.ensures.written k last) in
    let whole : d.keeps_model copied → n.keeps_model made → (i : Image) → ((s : ℕ) → 1 ≤ s → i s ≡ n.content made s) → P i = λ k last.
    upgrade_whole (d.sector_count old) sectors image (n.content made) has.room (found.good_layout (copies.old_run.kept k)) (known k) (written k last) in
    let leaves : d.keeps_model copied → n.keeps_model last_new → LeavesNoPart n P new last_new = λ k k'.
    let last = m.kept k' in
    marked_made n P new (no_upgrade (d.sector_count old) sectors image) (λ image left. g.met.E.SectorDisk.only_now new image (check.run.kept (copies.run.kept last)) left) checked (check.run.touches (copies.run.kept last))
    (IsCopiedSector entries) (copied_from entries) made (copies.run.touches last)
    (c.in_ok-copy_unmarked.ensures.synced last) (whole k last) last_new (m.touches k') in
    record {
      ok = λ k k'. let last = m.kept k' in on_ok_weaker r (marked_whole n (IsUpgradeOf (d.sector_count old) sectors image) made last_new (λ i same_i. (whole k last i same_i).store) (m.touches k')) (marked k');
      marked = marked;
      synced = synced;
      any_moment = leaves;
      old_size = run.size;
      size = m.size ∙ copies.run.size ∙ check.run.size;
      old_kept = run.kept;
      kept = λ k. check.run.kept (copies.run.kept (m.kept k));
      only_read = run.touches;
      asks_old = λ k. asks_once d (IsOldAsked One image) (IsOldAsked One image) old copied (λ s at. at) (once_old k);
      once_old = once_old;
      asks = λ k. asks_then n (IsUpgradeSector image) new made last_new
          (asks_then n (IsUpgradeSector image) new checked made (asks_wider n IsMarkSector (IsUpgradeSector image) new checked (λ s at. inl at) check.asks)
          (asks_wider n (IsCopiedSector entries) (IsUpgradeSector image) checked made (copied_asked image entries (found.found (copies.old_run.kept k)).entries) copies.run.asks))
          (asks_wider n IsMarkSector (IsUpgradeSector image) made last_new (λ s at. inl at) m.asks);
      old_layout = λ k is. absurd (none (inl is));
      good_layout = λ k bad. absurd (found.good_layout (copies.old_run.kept k) bad);
      old_journal = λ k is. absurd (none (inr (inl is)));
      good_journal = λ k bad. absurd (found.good_journal (copies.old_run.kept k) bad);
      new_small = λ k is. absurd (none (inr (inr (inl is))));
      large = λ k small. absurd (room_is_not_small sectors c.in_ok-store.store.directory image (found.found (copies.old_run.kept k)).entries has small);
      formatted = λ k is. absurd (none (inr (inr (inr is))));
      not_formatted = λ k mark. absurd (c.in_ok-check_new.ensures.unmarked (copies.run.kept (m.kept k)) mark);
      unwritten = λ k is. absurd (none is);
      causes = causes;
    }

-- the new one fails at its mark
pub returns-in_err-write_mark : goal.returns-in_err-write_mark
returns-in_err-write_mark g c =
    let done = c.in_ok-copy_unmarked.ensures.copies.causes in let failed = c.in_err-write_mark.ensures.writes.failed refl in let other = when_marking in
    subst (λ r. UpgradesStore g.D.SectorDisk g.E.SectorDisk c.args.old.now c.copy_unmarked.new.old c.args.new.now c.write_mark.new.disk r)
    (sym (is_this c.from_residual-in_err-write_mark.result NewDevice c.from_residual-in_err-write_mark.ensures.1))
    (marked_upgrade g (goal.at.returns-in_err-write_mark g c).After-write_mark (Err NewDevice)
    (⊎_elim (λ is. other.0 (same_Err _ _ is)) (⊎_elim (λ is. other.1.0 (same_Err _ _ is)) (⊎_elim (λ is. other.1.1.0 (same_Err _ _ is)) (λ is. other.1.1.1 (same_Err _ _ is)))))
    (λ k. tt) (λ k. tt)
    (causes_marking _ _ _ _ _ (done.old_still (ok_is_no_err _ _) ∙ c.in_ok-store.ensures.looks.calm) (done.new_still (ok_is_no_err _ _) ∙ c.in_ok-check_new.ensures.causes.still (ok_is_no_err _ _)) failed))

pub returns : goal.returns
returns g c =
    let done = c.in_ok-copy_unmarked.ensures.copies.causes in
    marked_upgrade g (goal.at.returns g c).After-write_mark _
    (⊎_elim (λ is. ok_is_no_err _ _ is) (⊎_elim (λ is. ok_is_no_err _ _ is) (⊎_elim (λ is. ok_is_no_err _ _ is) (λ is. ok_is_no_err _ _ is))))
    c.in_ok-write_mark.ensures.marked c.in_ok-write_mark.ensures.writes.synced
    (causes_none _ _ _ _ _ (done.old_still (ok_is_no_err _ _) ∙ c.in_ok-store.ensures.looks.calm)
    (c.in_ok-write_mark.ensures.writes.calm ∙ done.new_still (ok_is_no_err _ _) ∙ c.in_ok-check_new.ensures.causes.still (ok_is_no_err _ _)))
