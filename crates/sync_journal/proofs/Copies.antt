-- The pages of a body copied to their homes, one after the other.
use Rattle.sync_journal.proofs.Names.{◌≡◌, ◌≢◌, ◌⊎◌, ◌<◌, ◌≤◌, ◌+◌, ℕ, List, length, get_or, inl, inr, sym, subst, ◌∙◌, ⊎_elim, arith, cases_eq, cases_lt, NamesOnce, Touches, Ghosts, Result, DiskFault, once_apart, once_wider}
use Rattle.sync_journal.specs.{Layout.{body_sector, home_sector, IsPageSector, IsHomeSector, IsCopied}, Map.{AreHomes}, Runs.{RunsOnDevice}, Standing.{AreCopied}, Steps.{WritesInto}}
use Rattle.sync_journal.proofs.Runs.{one_more, of_more}

-- two homes at two places are two homes
pub distinct_homes : (count : ℕ) (homes : List ℕ) (i j : ℕ) → AreHomes count homes → i < length homes → j < length homes → i ≢ j → get_or homes i 0 ≢ get_or homes j 0
distinct_homes count homes i j are below_i below_j other = ⊎_elim
    (λ lt. are.distinct i j lt below_j)
    (λ ge. λ same. are.distinct j i (omega arith) below_i (sym same))
    (cases_lt i j)

-- page j of the body is copied to a home
abbrev pub CopiesPage : {D : Type 0} → Ghosts D → ℕ → ℕ → D → D → Result (Unit {0}) DiskFault → Type 0
CopiesPage g j home old new result = WritesInto g (IsPageSector (home_sector home)) (λ k. IsPageSector (body_sector j) k ⊎ IsPageSector (home_sector home) k)
    ((i : ℕ) → i < 8 → g.content new (home_sector home + i) ≡ g.content old (body_sector j + i)) old new result

module _ (count : ℕ) (homes : List ℕ) (are : AreHomes count homes) where
  -- a page more is copied home
  pub copy_more : (before mid now : ℕ → ℕ) (j : ℕ) → j < length homes → NamesOnce (IsCopied homes j) before mid
      → NamesOnce (λ k. IsPageSector (body_sector j) k ⊎ IsPageSector (home_sector (get_or homes j 0)) k) mid now → NamesOnce (IsCopied homes (j + 1)) before now
  copy_more before mid now j below = once_apart (IsCopied homes j) Here (IsCopied homes (j + 1)) before mid now
      (λ k. ⊎_elim (λ body. inl (body.0, omega (arith, body.1))) (λ home. inr (home.0, omega (arith, home.1), home.2)))
      (λ k. ⊎_elim (λ page. inl (omega (arith, page.0), omega (arith, page.1))) (λ home. inr (j, omega arith, home)))
      two
    where
      Here : ℕ → Type 0
      Here k = IsPageSector (body_sector j) k ⊎ IsPageSector (home_sector (get_or homes j 0)) k

      two : (k : ℕ) → IsCopied homes j k → Here k → ⊥
      two k was is =
          let few = are.few in
          ⊎_elim
          (λ body. ⊎_elim (λ page. omega (arith, body.1, page.0)) (λ home. omega (arith, body.1, home.0, few, below)) is)
          (λ home. ⊎_elim (λ page. omega (arith, home.2.0, page.1, few, below))
          (λ home'. distinct_homes count homes home.0 j are (omega (arith, home.1, below)) below (λ e. omega (arith, e, home.1)) (omega (arith, home.2.0, home.2.1, home'.0, home'.1))) is)
          was

  -- and its home holds it
  pub copied_more : {D : Type 0} (g : Ghosts D) (n : ℕ) (old mid new : D) → n < length homes
      → Touches g (IsHomeSector homes) old mid → AreCopied homes n (g.content old) (g.content mid)
      → Touches g (IsPageSector (home_sector (get_or homes n 0))) mid new
      → ((i : ℕ) → i < 8 → g.content new (home_sector (get_or homes n 0) + i) ≡ g.content mid (body_sector n + i))
      → AreCopied homes (n + 1) (g.content old) (g.content new)
  copied_more g n old mid new below_n run so_far last here = λ j i below_j below_i. ⊎_elim
      (λ same. subst (λ m. Copied m i) (sym same) (here i below_i ∙ body_stays i below_i))
      (λ other. home_stays j i (omega (arith, below_j, other, below_n)) other below_i ∙ so_far j i (omega (arith, below_j, other)) below_i)
      (cases_eq j n)
    where
      Copied : ℕ → ℕ → Type 0
      Copied j i = g.content new (home_sector (get_or homes j 0) + i) ≡ g.content old (body_sector j + i)

      body_stays : (i : ℕ) → i < 8 → g.content mid (body_sector n + i) ≡ g.content old (body_sector n + i)
      body_stays i below_i = ⊎_elim (λ at_home. absurd (omega (arith, are.few, below_n, below_i, at_home.2.0))) (λ same. same) (run.content (body_sector n + i))

      home_stays : (j i : ℕ) → j < length homes → j ≢ n → i < 8 → g.content new (home_sector (get_or homes j 0) + i) ≡ g.content mid (home_sector (get_or homes j 0) + i)
      home_stays j i below_j other below_i =
          let away = distinct_homes count homes j n are below_j below_n other in
          ⊎_elim (λ at_home. absurd (away (omega (arith, at_home.0, at_home.1, below_i)))) (λ same. same) (last.content (home_sector (get_or homes j 0) + i))

-- a run that wrote one home is one that wrote homes
pub one_home : {D : Type 0} (g : Ghosts D) (homes : List ℕ) (j : ℕ) (old mid new : D) → j < length homes
    → RunsOnDevice g (IsHomeSector homes) old mid → RunsOnDevice g (IsPageSector (home_sector (get_or homes j 0))) mid new → RunsOnDevice g (IsHomeSector homes) old new
one_home g homes j old mid new below so_far more = one_more g (IsHomeSector homes) old mid new so_far
    (of_more g (IsPageSector (home_sector (get_or homes j 0))) (IsHomeSector homes) mid new (λ k inside. (j, below, inside)) more)

-- some of the copies are among all of them
pub copy_all : (homes : List ℕ) (n : ℕ) → n ≤ length homes → (before now : ℕ → ℕ) → NamesOnce (IsCopied homes n) before now → NamesOnce (IsCopied homes (length homes)) before now
copy_all homes n more before now = once_wider (IsCopied homes n) (IsCopied homes (length homes)) before now
    (λ k. ⊎_elim (λ body. inl (body.0, omega (arith, body.1, more))) (λ home. inr (home.0, omega (arith, home.1, more), home.2)))
