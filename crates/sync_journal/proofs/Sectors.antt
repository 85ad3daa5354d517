-- What calls that only read leave as it was.
use Rattle.sync_journal.proofs.Names.{◌≡◌, ℕ, ⊎_elim, sym, subst, Image, MayLeave, Touches, Nothing, LeavesOnly, Ghosts, started, goes_on}

-- a run of reads leaves what each sector holds
pub same_content : {D : Type 0} (g : Ghosts D) (old new : D) → Touches g Nothing old new → (k : ℕ) → g.content new k ≡ g.content old k
same_content g old new run k = ⊎_elim (λ none. absurd none) (λ e. e) (run.content k)

module _ {D : Type 0} (g : Ghosts D) (old new : D) (run : Touches g Nothing old new) where
  pub same_image : g.content new ≡ g.content old
  same_image = λ t k. same_content g old new run k t

  pub reads_unsynced : (k : ℕ) → g.unsynced new k → g.unsynced old k
  reads_unsynced k u = ⊎_elim (λ before. before) (λ none. absurd none) (run.unsynced k u)

  -- what holds of the image holds of every stop meanwhile
  pub while_read : (P : Image → Type 0) → P (g.content old) → ((image : Image) → g.left_since old (g.moment old) image → MayLeave (g.content old) (g.unsynced old) image)
      → ((k : ℕ) → g.unsynced old k → ⊥) → LeavesOnly g old new P
  while_read P here only_now synced = goes_on g Nothing old old new P (started g old P only_now (λ image may. all image (λ k. ⊎_elim (λ u. absurd (synced k u)) (λ e. e) (may.kept k))))
      run (λ image may. all image (λ k. ⊎_elim (⊎_elim (λ u. absurd (synced k u)) (λ none. absurd none)) (λ e. e) (may.kept k)))
    where
      all : (image : Image) → ((k : ℕ) → image k ≡ g.content old k) → P image
      all image same = let is : image ≡ g.content old = λ t k. same k t in subst P (sym is) here

  -- what is said of the device now was so before, and the other way
  module _ (P : ℕ → Image → Type 0) (size : g.sector_count new ≡ g.sector_count old) where
    pub so_before : P (g.sector_count new) (g.content new) → P (g.sector_count old) (g.content old)
    so_before here = subst (λ n. P n (g.content old)) size (subst (λ (image : Image). P (g.sector_count new) image) same_image here)

    pub so_since : P (g.sector_count old) (g.content old) → P (g.sector_count new) (g.content new)
    so_since here = subst (λ n. P n (g.content new)) (sym size) (subst (λ (image : Image). P (g.sector_count old) image) (sym same_image) here)
