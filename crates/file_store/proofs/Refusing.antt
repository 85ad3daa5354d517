-- Why an upgrade is refused.
use Rattle.file_store.proofs.{Causes.{is_this, same_Err}, Marking.{LeavesNoPart}, Names.{◌≡◌, ◌⊎◌, ◌≤◌, ℕ, Result, Err, inl, inr, refl, ⊎_elim, sym, ap, subst, ◌∙◌, arith, IsErrAnd, IsErrOf, Image, Nothing, Touches, AsksOnly, Ghosts}}
use Rattle.file_store.{proofs.Names.{NamesOnce, asks_once, RunsOnDevice, One, IsBadOld}, specs.{Faults.{old_fault}, Layout.{IsMark}, Standing.{IsBadLayoutIn}, Store.{entry_of}}}
use Rattle.file_store.specs.{Upgrade.{old_entry, IsTooSmall, IsOldAsked, IsUpgradeSector, IsUpgradeIfMarked, HasUpgradeCauses, IsTooSmall.{FewSectors, FewHomes}}, Upgraded.{HasRoomFor}}
use Rattle.file_store.specs.{Upgraded.{HasCheckCauses, UpgradesStore}, declared.{directory.Directory.{Directory}, faults.OpenFault.{OpenFault, TheVariants.{Device, BadJournal}}}}
use Rattle.file_store.specs.declared.faults.UpgradeFault.{UpgradeFault, TheVariants.{OldDevice, OldLayout, OldJournal, NewDevice, NewSmall, Formatted}}

-- what a fault of the old store is not
pub of_old : (f : OpenFault) → (old_fault f ≡ NewSmall → ⊥) × (old_fault f ≡ Formatted → ⊥)
of_old Device = (λ e. cc, λ e. cc)
of_old f = (λ e. cc, λ e. cc)

pub broken_from : (f : OpenFault) → old_fault f ≡ OldJournal → f ≡ BadJournal
broken_from BadJournal e = refl
broken_from f e = cc

-- nor those of a look at the new device, of copying, and of marking
pub when_checking : {T : Type 0} (f : UpgradeFault) → IsErrOf {T = T} (Err f) NewSmall ⊎ (IsErrOf {T = T} (Err f) Formatted ⊎ IsErrOf {T = T} (Err f) NewDevice)
    → (f ≡ OldLayout → ⊥) × ((f ≡ OldJournal → ⊥) × (f ≡ OldDevice → ⊥))
when_checking f = ⊎_elim (λ a. (λ e. cc, (λ e. cc, λ e. cc))) (⊎_elim (λ a. (λ e. cc, (λ e. cc, λ e. cc))) (λ a. (λ e. cc, (λ e. cc, λ e. cc))))

pub when_copying : {T : Type 0} (f : UpgradeFault) → IsErrOf {T = T} (Err f) OldDevice ⊎ IsErrOf {T = T} (Err f) NewDevice
    → (f ≡ OldLayout → ⊥) × ((f ≡ OldJournal → ⊥) × ((f ≡ NewSmall → ⊥) × (f ≡ Formatted → ⊥)))
when_copying f = ⊎_elim (λ a. (λ e. cc, (λ e. cc, (λ e. cc, λ e. cc)))) (λ a. (λ e. cc, (λ e. cc, (λ e. cc, λ e. cc))))

pub when_marking : (NewDevice ≡ OldLayout → ⊥) × ((NewDevice ≡ OldJournal → ⊥) × ((NewDevice ≡ NewSmall → ⊥) × (NewDevice ≡ Formatted → ⊥)))
when_marking = (λ e. cc, (λ e. cc, (λ e. cc, λ e. cc)))

-- where there is room it is not too small
pub room_is_not_small : (sectors : ℕ) (directory : Directory) (old : Image) → ((f : ℕ) → entry_of directory f ≡ old_entry One old f) → HasRoomFor sectors directory → IsTooSmall sectors old → ⊥
room_is_not_small sectors directory old same has (FewSectors few) = let room = has.room in omega (arith, few, room)
room_is_not_small sectors directory old same has (FewHomes f e is less) = let fits = has.fits f e (same f ∙ is) in omega (arith, fits, less)

-- a look at the new device, after the old one did not fail
pub causes_checked : {T U : Type 0} (fault : UpgradeFault) (a b x y : ℕ) → b ≡ a → (fault ≡ OldDevice → ⊥) → x ≤ y → HasCheckCauses {T = T} x y (Err fault) → HasUpgradeCauses {T = U} a b x y (Err fault)
causes_checked fault a b x y calm other later causes = record {
  old_later = omega (arith, calm);
  new_later = later;
  old_device = λ e. absurd (other (same_Err _ _ e));
  new_device = λ e. causes.failed (ap Err (same_Err _ _ e));
  old_still = λ _. calm;
  new_still = λ others. causes.still (λ e. others (ap Err (same_Err _ _ e)));
}

module _ {D E T : Type 0} (g : Ghosts D) (h : Ghosts E) (old old' : D) (new new' : E) where
  pub upgrade_refused : (fault : UpgradeFault) (r : Result T UpgradeFault) → IsErrAnd r (λ f. f ≡ fault) → RunsOnDevice g Nothing old old' → h.sector_count new' ≡ h.sector_count new → (h.keeps_model new' → h.keeps_model new)
      → (g.keeps_model old' → NamesOnce (IsOldAsked One (g.content old)) (g.asked old) (g.asked old')) → (g.keeps_model old' → AsksOnly h (IsUpgradeSector (g.content old)) new new')
      → HasUpgradeCauses {T = T} (g.failures old) (g.failures old') (h.failures new) (h.failures new') (Err fault)
      → (g.keeps_model old' → h.keeps_model new' → LeavesNoPart h (IsUpgradeIfMarked (g.sector_count old) (h.sector_count new) (g.content old)) new new')
      → (g.keeps_model old' → fault ≡ OldLayout → IsBadLayoutIn One (g.sector_count old) (g.content old))
      → (g.keeps_model old' → IsBadLayoutIn One (g.sector_count old) (g.content old) → (fault ≡ OldLayout) ⊎ (fault ≡ OldDevice))
      → (g.keeps_model old' → fault ≡ OldJournal → IsBadOld One (g.sector_count old) (g.content old))
      → (g.keeps_model old' → IsBadOld One (g.sector_count old) (g.content old) → (fault ≡ OldLayout) ⊎ ((fault ≡ OldJournal) ⊎ (fault ≡ OldDevice)))
      → (g.keeps_model old' → fault ≡ NewSmall → IsTooSmall (h.sector_count new) (g.content old))
      → (g.keeps_model old' → IsTooSmall (h.sector_count new) (g.content old) → (fault ≡ OldLayout) ⊎ ((fault ≡ OldJournal) ⊎ ((fault ≡ OldDevice) ⊎ (fault ≡ NewSmall))))
      → (h.keeps_model new' → fault ≡ Formatted → IsMark (h.content new 0)) → (h.keeps_model new' → IsMark (h.content new 0) → Touches h Nothing new new')
      → (h.keeps_model new' → (fault ≡ OldLayout) ⊎ ((fault ≡ OldJournal) ⊎ ((fault ≡ NewSmall) ⊎ (fault ≡ Formatted))) → Touches h Nothing new new')
      → UpgradesStore g h old old' new new' r
  upgrade_refused fault r is run size kept once_old asks causes leaves old_layout good_layout old_journal good_journal new_small large formatted marked unwritten =
      subst (λ r. UpgradesStore g h old old' new new' r) (sym (is_this r fault is)) (record {
        ok = λ k k'. tt;
        marked = λ k. tt;
        synced = λ k. tt;
        any_moment = leaves;
        old_size = run.size;
        size = size;
        old_kept = run.kept;
        kept = kept;
        only_read = run.touches;
        asks_old = λ k. asks_once g (IsOldAsked One (g.content old)) (IsOldAsked One (g.content old)) old old' (λ s at. at) (once_old k);
        once_old = once_old;
        asks = asks;
        old_layout = λ k e. old_layout k (same_Err _ _ e);
        good_layout = λ k bad. ⊎_elim (λ e. inl (ap Err e)) (λ e. inr (ap Err e)) (good_layout k bad);
        old_journal = λ k e. old_journal k (same_Err _ _ e);
        good_journal = λ k bad. ⊎_elim (λ e. inl (ap Err e)) (⊎_elim (λ e. inr (inl (ap Err e))) (λ e. inr (inr (ap Err e)))) (good_journal k bad);
        new_small = λ k e. new_small k (same_Err _ _ e);
        large = λ k small. ⊎_elim (λ e. inl (ap Err e)) (⊎_elim (λ e. inr (inl (ap Err e))) (⊎_elim (λ e. inr (inr (inl (ap Err e)))) (λ e. inr (inr (inr (ap Err e)))))) (large k small);
        formatted = λ k e. formatted k (same_Err _ _ e);
        not_formatted = λ k mark. (refl, marked k mark);
        unwritten = λ k. ⊎_elim (λ e. unwritten k (inl (same_Err _ _ e)))
            (⊎_elim (λ e. unwritten k (inr (inl (same_Err _ _ e)))) (⊎_elim (λ e. unwritten k (inr (inr (inl (same_Err _ _ e))))) (λ e. unwritten k (inr (inr (inr (same_Err _ _ e)))))));
        causes = causes;
      })
