-- How runs of device calls go on.
use Rattle.sync_journal.proofs.Names.{◌≡◌, ◌⊎◌, ◌≤◌, ◌<◌, ◌+◌, ℕ, List, get_or, ◌∙◌, inl, inr, ⊎_elim, arith, Touches, Nothing, ChangesPage, IsOfPage, Elapses, Ghosts, wider, then, after_page, after_none}
use Rattle.sync_journal.specs.{Layout.{IsGate, IsJournalSector, IsReplayed, IsPublished, IsCommitted, IsRecovered, home_count, home_sector}, Map.{AreHomes}, Runs.{RunsOnDevice}}

home_ends : (count h k : ℕ) → h < count → k < home_sector h + 8 → k < home_sector count
home_ends count h k below inside = omega arith

module _ {D : Type 0} (g : Ghosts D) where
  -- one run after another
  pub one_more : (W : ℕ → Type 0) (old mid new : D) → RunsOnDevice g W old mid → RunsOnDevice g W mid new → RunsOnDevice g W old new
  one_more W old mid new first second = record {
    size = second.size ∙ first.size;
    kept = λ h. first.kept (second.kept h);
    later = omega (arith, first.later, second.later);
    touches = λ h. then g W old mid new (first.touches (second.kept h)) (second.touches h);
  }

  -- more sectors
  pub of_more : (W V : ℕ → Type 0) (old new : D) → ((k : ℕ) → W k → V k) → RunsOnDevice g W old new → RunsOnDevice g V old new
  of_more W V old new more run = record { size = run.size; kept = run.kept; later = run.later; touches = λ h. wider g W V old new more (run.touches h) }

  -- a read or a sync
  pub no_write : (W : ℕ → Type 0) (old new : D) → g.sector_count new ≡ g.sector_count old → (g.keeps_model new → g.keeps_model old)
      → g.failures old ≤ g.failures new → (g.keeps_model new → g.content new ≡ g.content old)
      → (g.keeps_model new → (k : ℕ) → g.unsynced new k → g.unsynced old k)
      → (g.keeps_model new → Elapses (g.moment old) (g.moment new) (g.left_since old) (g.left_since new) (g.content new) (g.unsynced new))
      → RunsOnDevice g W old new
  no_write W old new size kept later same marks time = record { size = size; kept = kept; later = later; touches = λ h. after_none g W old new (same h) (marks h) (time h) }

  -- a sync after a run
  pub and_no_write : (W : ℕ → Type 0) (old mid new : D) → RunsOnDevice g W old mid → g.sector_count new ≡ g.sector_count mid
      → (g.keeps_model new → g.keeps_model mid) → g.failures mid ≤ g.failures new → (g.keeps_model new → g.content new ≡ g.content mid)
      → (g.keeps_model new → (k : ℕ) → g.unsynced new k → g.unsynced mid k)
      → (g.keeps_model new → Elapses (g.moment mid) (g.moment new) (g.left_since mid) (g.left_since new) (g.content new) (g.unsynced new))
      → RunsOnDevice g W old new
  and_no_write W old mid new run size kept later same marks time = one_more W old mid new run (no_write W mid new size kept later same marks time)

  -- a page written to sectors of W
  pub one_page : (W : ℕ → Type 0) (n : ℕ) (old new : D) → ((k : ℕ) → IsOfPage n k → W k) → g.sector_count new ≡ g.sector_count old → (g.keeps_model new → g.keeps_model old)
      → g.failures old ≤ g.failures new → (g.keeps_model new → ChangesPage n (g.content old) (g.content new))
      → (g.keeps_model new → (k : ℕ) → g.unsynced new k → g.unsynced old k ⊎ IsOfPage n k)
      → (g.keeps_model new → Elapses (g.moment old) (g.moment new) (g.left_since old) (g.left_since new) (g.content new) (g.unsynced new))
      → RunsOnDevice g W old new
  one_page W n old new inside size kept later changes marks time = record { size = size; kept = kept; later = later; touches = λ h. after_page g W n old new inside (changes h) (marks h) (time h) }

  -- what the parts of a commit write
  pub staged_run : (old staged : D) → RunsOnDevice g IsJournalSector old staged → RunsOnDevice g IsPublished old staged
  staged_run old staged = of_more IsJournalSector IsPublished old staged (λ k inside. inr inside)

  pub published_run : (old staged opened : D) → RunsOnDevice g IsJournalSector old staged → RunsOnDevice g IsGate staged opened → RunsOnDevice g IsPublished old opened
  published_run old staged opened stages opens = one_more IsPublished old staged opened (staged_run old staged stages) (of_more IsGate IsPublished staged opened (λ k gate. inl gate) opens)

  pub finished_run : (homes : List ℕ) (old new : D) → RunsOnDevice g (IsReplayed homes) old new → RunsOnDevice g (IsCommitted homes) old new
  finished_run homes old new = of_more (IsReplayed homes) (IsCommitted homes) old new (λ k. ⊎_elim (λ gate. inl (inl gate)) (λ at_home. inr at_home))

  pub committed_run : (homes : List ℕ) (old mid new : D) → RunsOnDevice g (IsReplayed homes) old mid → RunsOnDevice g IsPublished mid new → RunsOnDevice g (IsCommitted homes) old new
  committed_run homes old mid new first second = one_more (IsCommitted homes) old mid new (finished_run homes old mid first)
      (of_more IsPublished (IsCommitted homes) mid new (λ k own. inl own) second)

  -- what a recovery writes
  pub read_only : (W : ℕ → Type 0) (old new : D) → Touches g Nothing old new → Touches g W old new
  read_only W old new = wider g Nothing W old new (λ k none. absurd none)

  pub replayed : (sectors : ℕ) (homes : List ℕ) (old new : D) → AreHomes (home_count sectors) homes → Touches g (IsReplayed homes) old new → Touches g (IsRecovered sectors) old new
  replayed sectors homes old new are = wider g (IsReplayed homes) (IsRecovered sectors) old new (λ k. ⊎_elim (λ gate. inl gate)
      (λ at_home. (let inside = are.inside at_home.0 at_home.1 in inr (omega (arith, at_home.2.0), home_ends (home_count sectors) (get_or homes at_home.0 0) k inside at_home.2.1))))
