-- The old store is found, after its kind was looked at.
use Rattle.upgrades.proofs.Names.{◌≡◌, ◌∙◌, ℕ, Result, Err, refl, sym, ap, subst, arith, IfOk-weaker, on_err_weaker, on_ok_weaker, IsErrAnd, Ghosts, Image, NamesOnce, Nothing, RunsOnDevice, once_none, one_more}
use Rattle.std.specs.Prelude.{IfOk, IsErrOf}
use Rattle.sync_journal.specs.{OldLayouts.{IsBadOld, old_home_count}, declared.version.Version.{Version}}
use Rattle.file_store.proofs.{Causes.{is_this, same_Err}, Openings.{content_is}}
use Rattle.file_store.specs.{Directory.{IsSoundDirectory}, Format.{IsKindSector}, Opened.{IsOldFound, LooksAt, LooksFor}, Standing.{IsBadLayoutIn}, Store.{entry_of}, Upgrade.{IsOldHead, IsOldStore}}
use Rattle.file_store.specs.declared.{faults.OpenFault.{OpenFault, TheVariants.{BadJournal, BadLayout}}, old_store.OldStore.{OldStore}}
use Rattle.upgrades.specs.{Finding.{FindsOld}, Old.{IsBadJournal, IsBadLayout, IsReadable, version_in}}

module _ {D : Type 0} (g : Ghosts D) where
  -- the kind can't be read, or there is no room for it
  pub finds_none : {T : Type 0} (fault : OpenFault) (r : Result OldStore OpenFault) (old new : D) → IsErrAnd r (λ f. f ≡ fault)
      → LooksFor g {T = T} (IsBadLayout (g.sector_count old) (g.content old)) old new (Err fault) → NamesOnce IsKindSector (g.asked old) (g.asked new) → FindsOld g old new r
  finds_none fault r old new is looks kind = subst (λ r. FindsOld g old new r) (sym (is_this r fault is)) (record {
    looks = record { run = looks.run; calm = tt; device = λ e. looks.device (ap Err (same_Err _ _ e)); still = λ other. looks.still (λ e. other (ap Err (same_Err _ _ e))) };
    once = λ k. record { looked = g.asked new; kind = kind; rest = once_none (IsOldHead (version_in (g.content old)) (g.content old)) (g.asked new) (g.asked new) (λ s. refl) };
    ready = tt;
    good_layout = λ k. tt;
    good_journal = λ k. tt;
    bad_layout = λ k e. looks.bad k (ap Err (same_Err _ _ e));
    bad_journal = λ k e. absurd (looks.no_journal (ap Err (same_Err _ _ e)));
    layout_first = λ k e bad. looks.no_journal (ap Err (same_Err _ _ e));
  })

  -- it was read, and a store of its layout looked for
  module _ (old mid new : D) (version : Version) (run : RunsOnDevice g Nothing old mid) (calm : g.failures mid ≡ g.failures old) (kind : NamesOnce IsKindSector (g.asked old) (g.asked mid))
      (is : g.keeps_model mid → version_in (g.content old) ≡ version) (r : Result OldStore OpenFault) (looks : LooksAt g mid new r)
      (once : g.keeps_model new → NamesOnce (IsOldHead version (g.content mid)) (g.asked mid) (g.asked new)) (found : IfOk r (λ store. IsOldFound g version mid new store))
      (bad_layout : g.keeps_model new → IsErrOf r BadLayout → IsBadLayoutIn version (g.sector_count mid) (g.content mid))
      (bad_journal : g.keeps_model new → IsErrOf r BadJournal → IsBadOld version (g.sector_count mid) (g.content mid) × (IsBadLayoutIn version (g.sector_count mid) (g.content mid) → ⊥)) where
    same : g.keeps_model new → g.content mid ≡ g.content old
    same k = content_is g old mid (run.touches (looks.run.kept k))

    -- what is said of layout, size and image of the one device is said of the other
    there : (F : Version → ℕ → Image → Type 0) → g.keeps_model new → F (version_in (g.content old)) (g.sector_count old) (g.content old) → F version (g.sector_count mid) (g.content mid)
    there F k held = subst (λ (n : ℕ). F version n (g.content mid)) (sym run.size) (subst (λ (image : Image). F version (g.sector_count old) image) (sym (same k))
        (subst (λ v. F v (g.sector_count old) (g.content old)) (is (looks.run.kept k)) held))

    back : (F : Version → ℕ → Image → Type 0) → g.keeps_model new → F version (g.sector_count mid) (g.content mid) → F (version_in (g.content old)) (g.sector_count old) (g.content old)
    back F k held = subst (λ v. F v (g.sector_count old) (g.content old)) (sym (is (looks.run.kept k))) (subst (λ (image : Image). F version (g.sector_count old) image) (same k)
        (subst (λ (n : ℕ). F version n (g.content mid)) run.size held))

    may_be_read : (store : OldStore) → IsOldFound g version mid new store → IsReadable g store new
    may_be_read store at = record {
      sound = subst (λ v. IsSoundDirectory (old_home_count v (g.sector_count new)) (entry_of store.directory)) (sym at.version)
          (subst (λ (n : ℕ). IsSoundDirectory (old_home_count version n) (entry_of store.directory)) (sym looks.run.size) at.sound);
      few = at.few;
      version = λ k. ap (λ (image : Image). version_in image) (content_is g mid new (looks.run.touches k) ∙ same k) ∙ is (looks.run.kept k) ∙ sym at.version;
      found = λ k. subst (λ v. IsOldStore v (g.content new) store) (sym at.version) (subst (λ (image : Image). IsOldStore version image store) (sym (content_is g mid new (looks.run.touches k))) (at.found k));
    }

    pub finds : FindsOld g old new r
    finds = record {
      looks = record {
        run = one_more g Nothing old mid new run looks.run;
        calm = on_ok_weaker r (λ e. e ∙ calm) looks.calm;
        device = λ e. let more = looks.device e in omega (arith, more, calm);
        still = on_err_weaker r (λ f other. f other ∙ calm) looks.still;
      };
      once = λ k. record {
        looked = g.asked mid;
        kind = kind;
        rest = back (λ v n image. NamesOnce (IsOldHead v image) (g.asked mid) (g.asked new)) k (once k);
      };
      ready = IfOk-weaker r (λ store. IsOldFound g version mid new store) (λ store. IsReadable g store new) may_be_read found;
      good_layout = λ k. IfOk-weaker r (λ store. IsOldFound g version mid new store) (λ store. IsBadLayout (g.sector_count old) (g.content old) → ⊥)
          (λ store at bad. at.good_layout k (there IsBadLayoutIn k bad)) found;
      good_journal = λ k. IfOk-weaker r (λ store. IsOldFound g version mid new store) (λ store. IsBadJournal (g.sector_count old) (g.content old) → ⊥)
          (λ store at bad. at.good_journal k (there IsBadOld k bad)) found;
      bad_layout = λ k e. back IsBadLayoutIn k (bad_layout k e);
      bad_journal = λ k e. back IsBadOld k (bad_journal k e).0;
      layout_first = λ k e bad. (bad_journal k e).1 (there IsBadLayoutIn k bad);
    }
