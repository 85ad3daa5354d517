-- Mark and kind, sectors 0 and 1, of which alone is made how many pages every commit may take. No call writes them.
use Rattle.stores.proofs.Names.{ℕ, ◌≡◌, ◌<◌, ◌*◌, ◌∙◌, ◌⊎◌, Bool, true, false, refl, ap, ⊎_elim, inl, inr, arith, goes_on, started, Ghosts, Image, LeavesOnly, MayLeave, Touches}
use Rattle.stores.proofs.{Heads.{same_blocks, same_mark}, Says.{front_synced}}
use Rattle.pool_journal.{proofs.Loose.{loose_high}, specs.Maps.{entries_of}}
use Rattle.stores.specs.Images.{is_pool, says_by, SaysMostOf}
use Rattle.stores.specs.Store.{StoreKept, StoreKept.{OfJournal, OfPool}, disk_of, kept_of, IsCommittedIn, IsReadyStore}
use Rattle.stores.specs.declared.store.Store.{Store}

-- images with the same mark and kind say the same
most_alike : (sectors : ℕ) (old image : Image) → image 0 ≡ old 0 → image 1 ≡ old 1 → SaysMostOf sectors old image
most_alike sectors old image mark kind = ap (λ b. (says_by b sectors image).most) (same_mark old image mark) ∙ from (is_pool old)
  where
    from : (b : Bool) → (says_by b sectors image).most ≡ (says_by b sectors old).most
    from false = refl
    from true = ap (λ m. 504 * m) (same_blocks old image kind)

-- Neither is of what a commit writes.
pub front_kept : (kept : StoreKept) (k : ℕ) → k < 2 → IsCommittedIn kept k → ⊥
front_kept (OfJournal directory journal) k low =
    ⊎_elim (⊎_elim (λ gate. omega (arith, gate, low)) (λ inside. omega (arith, inside.0, low))) (λ home. omega (arith, home.2.0, low))
front_kept (OfPool directory journal) k low = ⊎_elim (λ gate. omega (arith, gate, low))
    (λ loose. loose_high journal.sizes.blocks journal.second (entries_of journal.map) k loose (omega (arith, low)))

module _ {D : Type 0} (g : Ghosts D) where
  -- Where they are synced, and not written, every image of a stop says what the device did.
  pub most_stays : (W : ℕ → Type 0) (old new : D) → ((image : Image) → g.left_since old (g.moment old) image → MayLeave (g.content old) (g.unsynced old) image)
      → ((k : ℕ) → k < 2 → g.unsynced old k → ⊥) → ((k : ℕ) → k < 2 → W k → ⊥) → Touches g W old new
      → LeavesOnly g old new (SaysMostOf (g.sector_count old) (g.content old))
  most_stays W old new only_now synced apart run = goes_on g W old old new (SaysMostOf (g.sector_count old) (g.content old))
      (started g old (SaysMostOf (g.sector_count old) (g.content old)) only_now (λ image may. said image (record { kept = λ k. ⊎_elim (λ u. inl (inl u)) (λ e. inr e) (may.kept k) })))
      run said
    where
      at : (image : Image) → MayLeave (g.content old) (λ k. g.unsynced old k ⊎ W k) image → (k : ℕ) → k < 2 → image k ≡ g.content old k
      at image may k low = ⊎_elim (⊎_elim (λ u. absurd (synced k low u)) (λ written. absurd (apart k low written))) (λ e. e) (may.kept k)

      said : (image : Image) → MayLeave (g.content old) (λ k. g.unsynced old k ⊎ W k) image → SaysMostOf (g.sector_count old) (g.content old) image
      said image may = most_alike (g.sector_count old) (g.content old) image (at image may 0 (omega arith)) (at image may 1 (omega arith))

  -- So it is from a ready store on, whatever a commit writes.
  pub most_committed : (store : Store D) (new : D) → ((d : D) (image : Image) → g.keeps_model d → g.left_since d (g.moment d) image → MayLeave (g.content d) (g.unsynced d) image)
      → IsReadyStore g store → g.keeps_model (disk_of store) → Touches g (IsCommittedIn (kept_of store)) (disk_of store) new
      → LeavesOnly g (disk_of store) new (SaysMostOf (g.sector_count (disk_of store)) (g.content (disk_of store)))
  most_committed store new only_now ready keeps = most_stays (IsCommittedIn (kept_of store)) (disk_of store) new (λ image left. only_now (disk_of store) image keeps left)
      (front_synced g store ready keeps) (front_kept (kept_of store))
