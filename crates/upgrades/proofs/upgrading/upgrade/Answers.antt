use Rattle.upgrades.proofs.Names.{◌≡◌, ◌⊎◌, ◌∙◌, ℕ, Option, Result, Ok, Err, OnOk, inl, inr, refl, ⊎_elim, sym, ap, subst, arith, on_ok_weaker, IsErrOf, Image, MayLeave, Nothing, Touches, once_apart, once_none, once_wider, one_more, stays, wider}
use Rattle.vm_types.specs.declared.file.FileInfo.{FileInfo}
use Rattle.file_store.proofs.{Causes.{is_this, same_Err}, Copied.{causes_after, causes_before, causes_marking, causes_none}, Looking.{ok_is_no_err}, Openings.{content_is}}
use Rattle.file_store.proofs.{Refusing.{broken_from, causes_checked, of_old, when_checking, when_copying, when_marking}, Upgrades.{layout_from, old_fault_cases}}
use Rattle.file_store.specs.{Faults.{old_fault}, Format.{IsFrom, IsMarkSector}, Layout.{IsMark}, Making.{LooksFirst}, Upgrade.{HasUpgradeCauses, IsOldAsked as IsVersionAsked}}
use Rattle.file_store.specs.declared.faults.UpgradeFault.{UpgradeFault, TheVariants.{OldLayout, OldJournal, NewDevice, NewSmall, Formatted}}
use Rattle.pool_journal.specs.Pools.{pool_home_count}
use Rattle.pool_store.{proofs.{Formats.{unmarked_from}, Stopped.{marked_made, nothing_made, unmarked_made}}, specs.{Format.{IsUnmarkedPoolSector}, Pools.{pool_mark}}}
use Rattle.upgrades.proofs.{Ends.{Leaves, are_files, file_was, files_asked, head_asked, headed, lacks_head, lacks_mark, last_of, new_asked, old_asked, room_is_not_small, sector_of, unmarked_of, upgrade_refused, with_mark}, Old.{short_listed}, Whole.{AreFiles}}
use Rattle.upgrades.specs.{Copying.{WritesKindLast}, Finding.{LooksAtKind}, NewPool.{HasRoomFor, IsInnerUpgrade, IsTooSmall, IsUnmarkedUpgrade, IsUpgradeIfHeaded, IsUpgradeIfMarked, IsUpgradeSector, files_in, pages_before}, Old.{file_info, standing_page, version_in}, Upgraded.{UpgradesToPool}}
use Rattle.upgrades.proofs.upgrading.upgrade.{Given.{Over}, Goals.{After-write_mark}}
use Rattle.upgrades.proofs.upgrading.upgrade.Goals as goal

pub check_new-requires-clause-short : goal.check_new-requires-clause-short
check_new-requires-clause-short g c = short_listed c.in_ok-store.store c.list_files-files.result c.list_files-files.ensures

pub write_unmarked-requires : goal.write_unmarked-requires
write_unmarked-requires g c =
    let is = c.of-sizes.ensures in let room = c.in_ok-check_new.ensures.room (ok_is_no_err _ _) in
    let count = is.homes ∙ ap (pool_home_count c.args.blocks) (c.sectors.ensures ∙ c.check_new.ensures.run.size) in
    record {
      ready = c.in_ok-store.ensures.ready;
      pool = record {
        sized = (omega (arith, is.blocks, c.requires.0), omega (arith, is.blocks, c.requires.1));
        room = omega (arith, is.blocks, room.front, c.check_new.ensures.run.size);
        homes = is.homes ∙ ap (pool_home_count c.args.blocks) c.sectors.ensures ∙ ap (λ m. pool_home_count m (g.E.SectorDisk.sector_count c.check_new.new.new)) (sym is.blocks);
      };
      files = c.list_files-files.ensures;
      homes = omega (arith, count, room.homes);
    }

-- the old store is refused
pub returns-in_err-store : goal.returns-in_err-store
returns-in_err-store g c =
    let d = g.D.SectorDisk in let n = g.E.SectorDisk in let old = c.args.old.now in let found = c.find.new.disk in let new = c.args.new.now in
    let m = c.args.blocks in let image = d.content old in let os = d.sector_count old in let sectors = n.sector_count new in
    let P : Image → Type 0 = IsUpgradeIfMarked m os sectors image in let B : Image → Type 0 = IsUpgradeIfHeaded m os sectors image in
    let Q : Image → Type 0 = IsInnerUpgrade m (file_info image) (standing_page image) in let NoMark : Type 0 = IsMark (n.content new 0) → ⊥ in
    let fault = c.in_err-store.field-0.0 in let e = c.in_err-store.ensures in let find = c.find.ensures in
    upgrade_refused d n m old found new new (old_fault fault) c.from_residual.result c.from_residual.ensures.1 find.looks.run refl (λ k. k)
    (λ k. head_asked d image old found (find.once k))
    (λ k. record { looked = n.asked new; looks = once_none IsMarkSector _ _ (λ s. refl); makes = once_none (IsUpgradeSector m image) _ _ (λ s. refl) })
    (causes_before fault _ _ _ e.looks find.looks.run.later)
    (λ k k'. nothing_made n P B Q new NoMark (λ i left. g.met.E.SectorDisk.only_now new i k' left) (lacks_mark m os sectors image (n.content new 0)) (lacks_head m os sectors image (n.content new 0)) new (stays n Nothing new))
    (λ k is. e.bad_layout k (ap Err (layout_from fault is)))
    (λ k bad. ⊎_elim (λ device. inr (ap old_fault device)) (⊎_elim (λ layout. inl (ap old_fault layout)) (λ journal. absurd (e.layout_first k (ap Err journal) bad))) (old_fault_cases fault))
    (λ k is. e.bad_journal k (ap Err (broken_from fault is)))
    (λ k bad. ⊎_elim (λ device. inr (inr (ap old_fault device))) (⊎_elim (λ layout. inl (ap old_fault layout)) (λ journal. inr (inl (ap old_fault journal)))) (old_fault_cases fault))
    (λ k is. absurd ((of_old fault).0 is))
    (λ k small. ⊎_elim (λ device. inr (inr (inl (ap old_fault device)))) (⊎_elim (λ layout. inl (ap old_fault layout)) (λ journal. inr (inl (ap old_fault journal)))) (old_fault_cases fault))
    (λ k is. absurd ((of_old fault).1 is)) (λ k mark. stays n Nothing new) (λ k is. stays n Nothing new)

-- the new device is refused
pub returns-in_err-check_new : goal.returns-in_err-check_new
returns-in_err-check_new g c =
    let d = g.D.SectorDisk in let n = g.E.SectorDisk in let old = c.args.old.now in let found = c.find.new.disk in let new = c.args.new.now in let mid = c.check_new.new.new in
    let m = c.args.blocks in let image = d.content old in let os = d.sector_count old in let sectors = n.sector_count new in let find = c.find.ensures in let store = c.in_ok-store.ensures in
    let fs = files_in c.list_files-files.result in let check = c.check_new.ensures in
    let same : d.keeps_model found → ◌≡◌ {A = ℕ → Option FileInfo} fs (file_info image) = λ k t f. (c.list_files-files.ensures f ∙ file_was d c.in_ok-store.store old found find.looks.run store.ready k f) t in
    let P : Image → Type 0 = IsUpgradeIfMarked m os sectors image in let B : Image → Type 0 = IsUpgradeIfHeaded m os sectors image in
    let Q : Image → Type 0 = IsInnerUpgrade m (file_info image) (standing_page image) in let NoMark : Type 0 = IsMark (n.content new 0) → ⊥ in
    let fault = c.in_err-check_new.field-0.0 in let e = c.in_err-check_new.ensures in let other = when_checking fault e.causes.others in
    upgrade_refused d n m old found new mid fault c.from_residual-in_err-check_new.result c.from_residual-in_err-check_new.ensures.1 find.looks.run check.run.size check.run.kept
    (λ k. head_asked d image old found (find.once k))
    (λ k. record { looked = n.asked mid; looks = check.once; makes = once_none (IsUpgradeSector m image) _ _ (λ s. refl) })
    (causes_checked fault _ _ _ _ store.looks.calm other.1.1 check.run.later e.causes)
    (λ k k'. nothing_made n P B Q new NoMark (λ i left. g.met.E.SectorDisk.only_now new i (check.run.kept k') left) (lacks_mark m os sectors image (n.content new 0)) (lacks_head m os sectors image (n.content new 0)) mid (check.run.touches k'))
    (λ k is. absurd (other.0 is)) (λ k bad. absurd (store.good_layout k bad)) (λ k is. absurd (other.1.0 is)) (λ k bad. absurd (store.good_journal k bad))
    (λ k is. subst (λ (f : ℕ → Option FileInfo). IsTooSmall m sectors f) (same k) (e.small (ap Err is)))
    (λ k small. ⊎_elim (λ is. inr (inr (inr (same_Err _ _ is))))
    (λ is. absurd (room_is_not_small m sectors (file_info image) (subst (λ (f : ℕ → Option FileInfo). HasRoomFor m sectors f) (same k) (e.room (λ other. ⊎_elim (λ a. cc) (λ a. cc) is))) small)) e.causes.others)
    (λ k is. e.marked k (ap Err is)) (λ k mark. check.run.touches k) (λ k is. check.run.touches k)

-- a device fails while all but the mark is written
pub returns-in_err-write_unmarked : goal.returns-in_err-write_unmarked
returns-in_err-write_unmarked g c =
    let d = g.D.SectorDisk in let n = g.E.SectorDisk in let old = c.args.old.now in let found = c.find.new.disk in let read = c.write_unmarked.new.old in let new = c.args.new.now in let mid = c.check_new.new.new in
    let m = c.args.blocks in let image = d.content old in let os = d.sector_count old in let sectors = n.sector_count new in let find = c.find.ensures in let store = c.in_ok-store.ensures in
    let fs = files_in c.list_files-files.result in let check = c.check_new.ensures in let made = c.write_unmarked.new.new in let w = c.write_unmarked.ensures in
    let same : d.keeps_model found → ◌≡◌ {A = ℕ → Option FileInfo} fs (file_info image) = λ k t f. (c.list_files-files.ensures f ∙ file_was d c.in_ok-store.store old found find.looks.run store.ready k f) t in
    let P : Image → Type 0 = IsUpgradeIfMarked m os sectors image in let B : Image → Type 0 = IsUpgradeIfHeaded m os sectors image in
    let Q : Image → Type 0 = IsInnerUpgrade m (file_info image) (standing_page image) in let NoMark : Type 0 = IsMark (n.content new 0) → ⊥ in
    let b = c.of-sizes.result.blocks in let blocks = c.of-sizes.ensures.blocks in let pages = pages_before fs 64 in let Written = IsUnmarkedPoolSector b pages in
    let kept = w.copies.old_run.kept in let fits = c.in_ok-check_new.ensures.room (ok_is_no_err _ _) in
    let are : d.keeps_model read → AreFiles (file_info image) (standing_page image) = λ k. are_files d c.in_ok-store.store old found find.looks.run store.ready (kept k) in
    let room : d.keeps_model read → HasRoomFor m sectors (file_info image) = λ k. subst (λ (f : ℕ → Option FileInfo). HasRoomFor m sectors f) (same (kept k)) fits in
    let writes : n.keeps_model made → Touches n (IsFrom 1) mid made = λ k'. wider n Written (IsFrom 1) mid made (unmarked_from b pages) (w.copies.run.touches k') in
    let only : n.keeps_model made → (i : Image) → n.left_since new (n.moment new) i → MayLeave (n.content new) (n.unsynced new) i = λ k' i left. g.met.E.SectorDisk.only_now new i (check.run.kept (w.copies.run.kept k')) left in
    let fault = c.in_err-write_unmarked.field-0.0 in let e = c.in_err-write_unmarked.ensures in let other = when_copying fault e.copies.others in
    let calm = c.in_ok-check_new.ensures.causes.still (ok_is_no_err _ _) in
    upgrade_refused d n m old read new made fault c.from_residual-in_err-write_unmarked.result c.from_residual-in_err-write_unmarked.ensures.1 (one_more d Nothing old found read find.looks.run w.copies.old_run)
    (w.copies.run.size ∙ check.run.size) (λ k'. check.run.kept (w.copies.run.kept k'))
    (λ k. files_asked d c.in_ok-store.store old found find.looks.run store.ready read (kept k) (find.once (kept k)) (w.copies.once_old k))
    (λ k. record { looked = n.asked mid; looks = check.once; makes = once_wider Written (IsUpgradeSector m image) _ _ (sector_of b m fs image blocks (same (kept k))) w.copies.once })
    (causes_after fault _ _ _ _ _ _ store.looks.calm calm e.copies.causes)
    (λ k k'. unmarked_made n P B Q new NoMark (only k') (lacks_mark m os sectors image (n.content new 0)) (lacks_head m os sectors image (n.content new 0)) mid (check.run.touches (w.copies.run.kept k'))
    (headed m os sectors image (are k) (room k)) made (writes k')
    (last_of n b m fs (file_info image) (d.content found) image mid made c.write_unmarked.result blocks (same (kept k)) (content_is d old found (find.looks.run.touches (kept k))) (w.last k k')).epochs)
    (λ k is. absurd (other.0 is)) (λ k bad. absurd (store.good_layout (kept k) bad)) (λ k is. absurd (other.1.0 is)) (λ k bad. absurd (store.good_journal (kept k) bad))
    (λ k is. absurd (other.1.1.0 is)) (λ k small. absurd (room_is_not_small m sectors (file_info image) (room k) small))
    (λ k is. absurd (other.1.1.1 is)) (λ k mark. absurd (c.in_ok-check_new.ensures.unmarked (w.copies.run.kept k) mark))
    (λ k. ⊎_elim (λ is. absurd (other.0 is)) (⊎_elim (λ is. absurd (other.1.0 is)) (⊎_elim (λ is. absurd (other.1.1.0 is)) (λ is. absurd (other.1.1.1 is)))))

-- where the mark was asked to be written, whatever is told of it
marked_upgrade : {T : Type 0} (g : Over) (c : After-write_mark g) (r : Result T UpgradeFault) → (IsErrOf r OldLayout ⊎ (IsErrOf r OldJournal ⊎ (IsErrOf r NewSmall ⊎ IsErrOf r Formatted)) → ⊥)
    → (g.E.SectorDisk.keeps_model c.write_mark.new.disk → OnOk r (g.E.SectorDisk.content c.write_mark.new.disk 0 ≡ pool_mark))
    → (g.E.SectorDisk.keeps_model c.write_mark.new.disk → OnOk r ((k : ℕ) → g.E.SectorDisk.unsynced c.write_mark.new.disk k → ⊥))
    → HasUpgradeCauses (g.D.SectorDisk.failures c.args.old.now) (g.D.SectorDisk.failures c.write_unmarked.new.old) (g.E.SectorDisk.failures c.args.new.now) (g.E.SectorDisk.failures c.write_mark.new.disk) r
    → UpgradesToPool g.D.SectorDisk g.E.SectorDisk c.args.blocks c.args.old.now c.write_unmarked.new.old c.args.new.now c.write_mark.new.disk r
marked_upgrade g c r none marked synced causes =
    let d = g.D.SectorDisk in let n = g.E.SectorDisk in let old = c.args.old.now in let found = c.find.new.disk in let read = c.write_unmarked.new.old in let new = c.args.new.now in let mid = c.check_new.new.new in
    let m = c.args.blocks in let image = d.content old in let os = d.sector_count old in let sectors = n.sector_count new in let find = c.find.ensures in let store = c.in_ok-store.ensures in
    let fs = files_in c.list_files-files.result in let check = c.check_new.ensures in let made = c.write_unmarked.new.new in let w = c.write_unmarked.ensures in
    let same : d.keeps_model found → ◌≡◌ {A = ℕ → Option FileInfo} fs (file_info image) = λ k t f. (c.list_files-files.ensures f ∙ file_was d c.in_ok-store.store old found find.looks.run store.ready k f) t in
    let P : Image → Type 0 = IsUpgradeIfMarked m os sectors image in let B : Image → Type 0 = IsUpgradeIfHeaded m os sectors image in
    let Q : Image → Type 0 = IsInnerUpgrade m (file_info image) (standing_page image) in let NoMark : Type 0 = IsMark (n.content new 0) → ⊥ in
    let b = c.of-sizes.result.blocks in let blocks = c.of-sizes.ensures.blocks in let pages = pages_before fs 64 in let Written = IsUnmarkedPoolSector b pages in
    let run = one_more d Nothing old found read find.looks.run w.copies.old_run in
    let kept = w.copies.old_run.kept in let fits = c.in_ok-check_new.ensures.room (ok_is_no_err _ _) in
    let are : d.keeps_model read → AreFiles (file_info image) (standing_page image) = λ k. are_files d c.in_ok-store.store old found find.looks.run store.ready (kept k) in
    let room : d.keeps_model read → HasRoomFor m sectors (file_info image) = λ k. subst (λ (f : ℕ → Option FileInfo). HasRoomFor m sectors f) (same (kept k)) fits in
    let once_old : d.keeps_model read → LooksAtKind d (IsVersionAsked (version_in image) image) old read = λ k.
    files_asked d c.in_ok-store.store old found find.looks.run store.ready read (kept k) (find.once (kept k)) (w.copies.once_old k) in
    let inside : d.keeps_model read → (s : ℕ) → Written s → IsUpgradeSector m image s = λ k. sector_of b m fs image blocks (same (kept k)) in
    let writes : n.keeps_model made → Touches n (IsFrom 1) mid made = λ k'. wider n Written (IsFrom 1) mid made (unmarked_from b pages) (w.copies.run.touches k') in
    let only : n.keeps_model made → (i : Image) → n.left_since new (n.moment new) i → MayLeave (n.content new) (n.unsynced new) i = λ k' i left. g.met.E.SectorDisk.only_now new i (check.run.kept (w.copies.run.kept k')) left in
    let mark = c.write_mark.ensures in let end = c.write_mark.new.disk in
    let done : d.keeps_model read → n.keeps_model made → WritesKindLast {T = Unit {0}} {E = UpgradeFault} n m Q mid made (Ok c.in_ok-write_unmarked.field-0) = λ k k'.
    last_of n b m fs (file_info image) (d.content found) image mid made (Ok c.in_ok-write_unmarked.field-0) blocks (same (kept k)) (content_is d old found (find.looks.run.touches (kept k))) (c.in_ok-write_unmarked.ensures.last k k') in
    let all : d.keeps_model read → n.keeps_model made → IsUnmarkedUpgrade m (file_info image) (standing_page image) (n.content made) = λ k k'.
    unmarked_of n m (file_info image) (standing_page image) mid made (done k k').kind_behind (done k k').kind in
    let once : d.keeps_model read → LooksFirst (IsUpgradeSector m image) (n.asked new) (n.asked end) = λ k. record {
      looked = n.asked mid;
      looks = check.once;
      makes = once_apart Written IsMarkSector (IsUpgradeSector m image) _ _ _ (inside k) (λ s at. inl at) (λ s inside at. let low = unmarked_from b pages s inside in omega (arith, low, at)) w.copies.once mark.once;
    } in
    let leaves : d.keeps_model read → n.keeps_model end → Leaves d n m old new end = λ k k'.
    let last_kept = mark.kept k' in
    marked_made n P B Q new NoMark (only last_kept) (lacks_mark m os sectors image (n.content new 0)) (lacks_head m os sectors image (n.content new 0)) mid (check.run.touches (w.copies.run.kept last_kept))
    (headed m os sectors image (are k) (room k)) made (writes last_kept) (done k last_kept).kind_behind (done k last_kept).synced (all k last_kept).inner
    (λ i same_i. with_mark m os sectors image (are k) (room k) (n.content made) i (all k last_kept) same_i) end (mark.touches k') in
    record {
      ok = λ k k'. on_ok_weaker r (λ is. (with_mark m os sectors image (are k) (room k) (n.content made) (n.content end) (all k (mark.kept k'))
          (λ s far. ⊎_elim (λ at. absurd (omega (arith, at, far))) (λ e. e) ((mark.touches k').content s))).store is) (marked k');
      marked = marked;
      synced = synced;
      any_moment = λ k k'. (leaves k k').any_moment;
      blocks = λ k k'. (leaves k k').blocks;
      old_size = run.size;
      size = mark.size ∙ w.copies.run.size ∙ check.run.size;
      old_kept = run.kept;
      kept = λ k'. check.run.kept (w.copies.run.kept (mark.kept k'));
      only_read = run.touches;
      asks_old = λ k. old_asked d image old read (once_old k);
      once_old = once_old;
      asks = λ k. new_asked n (IsUpgradeSector m image) new end (λ s at. inl at) (once k);
      once = once;
      old_layout = λ k is. absurd (none (inl is));
      good_layout = λ k bad. absurd (store.good_layout (kept k) bad);
      old_journal = λ k is. absurd (none (inr (inl is)));
      good_journal = λ k bad. absurd (store.good_journal (kept k) bad);
      new_small = λ k is. absurd (none (inr (inr (inl is))));
      large = λ k small. absurd (room_is_not_small m sectors (file_info image) (room k) small);
      formatted = λ k' is. absurd (none (inr (inr (inr is))));
      not_formatted = λ k' is. absurd (c.in_ok-check_new.ensures.unmarked (w.copies.run.kept (mark.kept k')) is);
      unwritten = λ k' is. absurd (none is);
      causes = causes;
    }

-- the new one fails at its mark
pub returns-in_err-write_mark : goal.returns-in_err-write_mark
returns-in_err-write_mark g c =
    let done = c.in_ok-write_unmarked.ensures.copies.causes in let failed = c.in_err-write_mark.ensures.failed refl in let other = when_marking in
    subst (λ r. UpgradesToPool g.D.SectorDisk g.E.SectorDisk c.args.blocks c.args.old.now c.write_unmarked.new.old c.args.new.now c.write_mark.new.disk r)
    (sym (is_this c.from_residual-in_err-write_mark.result NewDevice c.from_residual-in_err-write_mark.ensures.1))
    (marked_upgrade g (goal.at.returns-in_err-write_mark g c).After-write_mark (Err NewDevice)
    (⊎_elim (λ is. other.0 (same_Err _ _ is)) (⊎_elim (λ is. other.1.0 (same_Err _ _ is)) (⊎_elim (λ is. other.1.1.0 (same_Err _ _ is)) (λ is. other.1.1.1 (same_Err _ _ is)))))
    (λ k. tt) (λ k. tt)
    (causes_marking _ _ _ _ _ (done.old_still (ok_is_no_err _ _) ∙ c.in_ok-store.ensures.looks.calm) (done.new_still (ok_is_no_err _ _) ∙ c.in_ok-check_new.ensures.causes.still (ok_is_no_err _ _)) failed))

pub returns : goal.returns
returns g c =
    let done = c.in_ok-write_unmarked.ensures.copies.causes in
    marked_upgrade g (goal.at.returns g c).After-write_mark _
    (⊎_elim (λ is. ok_is_no_err _ _ is) (⊎_elim (λ is. ok_is_no_err _ _ is) (⊎_elim (λ is. ok_is_no_err _ _ is) (λ is. ok_is_no_err _ _ is))))
    c.in_ok-write_mark.ensures.done c.in_ok-write_mark.ensures.synced
    (causes_none _ _ _ _ _ (done.old_still (ok_is_no_err _ _) ∙ c.in_ok-store.ensures.looks.calm)
    (c.in_ok-write_mark.ensures.calm ∙ done.new_still (ok_is_no_err _ _) ∙ c.in_ok-check_new.ensures.causes.still (ok_is_no_err _ _)))
