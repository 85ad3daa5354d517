-- How the parts of making a store go on.
use Rattle.file_store.proofs.Names.{◌≡◌, ◌⊎◌, ◌≤◌, ◌<◌, ℕ, Result, OnOk, sym, subst, ◌∙◌, arith, IsErr, ChangesOnly, Elapses, Names, NamesOnce, Ghosts, then, wider, after_write, after_none, asks_then, asks_wider, asks_named, asks_none, IsPageSector}
use Rattle.file_store.{proofs.Names.{RunsOnDevice}, specs.Making.{Makes, WritesTo, WritesSynced}}

module _ {D : Type 0} (g : Ghosts D) where
  -- one part after another
  pub makes_more : (W : ℕ → Type 0) (old mid new : D) → Makes g W old mid → Makes g W mid new → Makes g W old new
  makes_more W old mid new first second = record {
    size = second.size ∙ first.size;
    kept = λ h. first.kept (second.kept h);
    later = omega (arith, first.later, second.later);
    asks = asks_then g W old mid new first.asks second.asks;
    touches = λ h. then g W old mid new (first.touches (second.kept h)) (second.touches h);
  }

  -- more sectors
  pub makes_of : (W V : ℕ → Type 0) (old new : D) → ((k : ℕ) → W k → V k) → Makes g W old new → Makes g V old new
  makes_of W V old new more made = record {
    size = made.size;
    kept = made.kept;
    later = made.later;
    asks = asks_wider g W V old new more made.asks;
    touches = λ h. wider g W V old new more (made.touches h);
  }

  -- a write to a sector of W
  pub makes_write : (W : ℕ → Type 0) (n : ℕ) (old new : D) → W n → g.sector_count new ≡ g.sector_count old → (g.keeps_model new → g.keeps_model old)
      → g.failures old ≤ g.failures new → Names (λ k. k ≡ n) (g.asked old) (g.asked new) → (g.keeps_model new → ChangesOnly n (g.content old) (g.content new))
      → (g.keeps_model new → (k : ℕ) → g.unsynced new k → g.unsynced old k ⊎ (k ≡ n))
      → (g.keeps_model new → Elapses (g.moment old) (g.moment new) (g.left_since old) (g.left_since new) (g.content new) (g.unsynced new))
      → Makes g W old new
  makes_write W n old new here size kept later asks changes marks time = record {
    size = size;
    kept = kept;
    later = later;
    asks = asks_named g W (λ k. k ≡ n) old new (λ k at. subst W (sym at) here) asks;
    touches = λ h. after_write g W n old new here (changes h) (marks h) (time h);
  }

  -- a page written to sectors of W
  pub makes_page : (W : ℕ → Type 0) (first : ℕ) (old new : D) → ((k : ℕ) → IsPageSector first k → W k) → RunsOnDevice g (IsPageSector first) old new
      → Names (IsPageSector first) (g.asked old) (g.asked new) → Makes g W old new
  makes_page W first old new inside run asks = record {
    size = run.size;
    kept = run.kept;
    later = run.later;
    asks = asks_named g W (IsPageSector first) old new inside asks;
    touches = λ h. wider g (IsPageSector first) W old new inside (run.touches h);
  }

  -- a sync behind it
  pub makes_synced : (W : ℕ → Type 0) (old mid new : D) → Makes g W old mid → g.sector_count new ≡ g.sector_count mid
      → (g.keeps_model new → g.keeps_model mid) → g.failures mid ≤ g.failures new → ((k : ℕ) → g.asked new k ≡ g.asked mid k) → (g.keeps_model new → g.content new ≡ g.content mid)
      → (g.keeps_model new → (k : ℕ) → g.unsynced new k → g.unsynced mid k)
      → (g.keeps_model new → Elapses (g.moment mid) (g.moment new) (g.left_since mid) (g.left_since new) (g.content new) (g.unsynced new))
      → Makes g W old new
  makes_synced W old mid new made size kept later asks same marks time = makes_more W old mid new made (record {
    size = size;
    kept = kept;
    later = later;
    asks = asks_none g W mid new asks;
    touches = λ h. after_none g W mid new (same h) (marks h) (time h);
  })

  -- a part that was written, and one that was synced
  pub written : {T E : Type 0} (W : ℕ → Type 0) (old new : D) (r : Result T E) → Makes g W old new → NamesOnce W (g.asked old) (g.asked new) → (IsErr r → g.failures old < g.failures new) → OnOk r (g.failures new ≡ g.failures old) → WritesTo g W old new r
  written W old new r run once failed calm = record { run = run; once = once; failed = failed; calm = calm }

  pub written_synced : {T E : Type 0} (W : ℕ → Type 0) (old new : D) (r : Result T E) → Makes g W old new → NamesOnce W (g.asked old) (g.asked new) → (IsErr r → g.failures old < g.failures new) → OnOk r (g.failures new ≡ g.failures old)
      → (g.keeps_model new → OnOk r ((k : ℕ) → g.unsynced new k → ⊥)) → WritesSynced g W old new r
  written_synced W old new r run once failed calm synced = record { writes = written W old new r run once failed calm; synced = synced }
