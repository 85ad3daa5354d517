-- A store that a commit has left.
use Rattle.file_store.proofs.{Names.{◌≡◌, ℕ, ◌≤◌, ◌∙◌, Result, Ok, Err, OnOk, List, sym, subst, Ghosts, live_homes, first_home_sector, home_count, AreHomes, IsAtRest, IsOutside, Journal}, Images.{same_head, entry_same}}
use Rattle.file_store.specs.{declared.store.FileStore.{FileStore}, Directory.{IsSoundDirectory}, Store.{IsReadyStore, entry_of}}

module _ {D : Type 0} (g : Ghosts D) where
  -- the journal is live with these homes, and the rest of the store is as it was
  pub ready_with : (old : FileStore D) (disk : D) (journal : Journal) (homes : List ℕ) → IsReadyStore g old
      → g.sector_count disk ≡ g.sector_count old.disk → (g.keeps_model disk → g.keeps_model old.disk)
      → AreHomes (home_count (g.sector_count old.disk)) homes → live_homes journal ≡ homes
      → (g.keeps_model disk → IsAtRest g homes disk)
      → (g.keeps_model disk → (k : ℕ) → IsOutside (g.sector_count old.disk) k → g.content disk k ≡ g.content old.disk k)
      → IsReadyStore g (record { disk = disk; journal = journal; directory = old.directory })
  ready_with old disk journal homes ready size kept are live rest outside = record {
    room = subst (λ n. first_home_sector ≤ n) (sym size) ready.room;
    sound = subst (λ n. IsSoundDirectory (home_count n) (entry_of old.directory)) (sym size) ready.sound;
    live = subst (λ list. AreHomes (home_count (g.sector_count disk)) list) (sym live) (subst (λ n. AreHomes (home_count n) homes) (sym size) are);
    at_rest = λ keeps. record {
      journal = subst (λ list. IsAtRest g list disk) (sym live) (rest keeps);
      directory = λ f. (ready.at_rest (kept keeps)).directory f ∙ sym (entry_same (g.content old.disk) (g.content disk)
          (same_head (g.sector_count old.disk) (g.content old.disk) (g.content disk) (outside keeps)) f);
    };
  }

  pub ready_again : {T E : Type 0} (result : Result T E) (old : FileStore D) (disk : D) (journal : Journal) (homes : List ℕ) → IsReadyStore g old
      → g.sector_count disk ≡ g.sector_count old.disk → (g.keeps_model disk → g.keeps_model old.disk)
      → AreHomes (home_count (g.sector_count old.disk)) homes → OnOk result (live_homes journal ≡ homes)
      → (g.keeps_model disk → OnOk result (IsAtRest g homes disk))
      → (g.keeps_model disk → OnOk result ((k : ℕ) → IsOutside (g.sector_count old.disk) k → g.content disk k ≡ g.content old.disk k))
      → OnOk result (IsReadyStore g (record { disk = disk; journal = journal; directory = old.directory }))
  ready_again (Err e) old disk journal homes ready size kept are live rest outside = tt
  ready_again (Ok x) old disk journal homes ready size kept are live rest outside = ready_with old disk journal homes ready size kept are live rest outside
