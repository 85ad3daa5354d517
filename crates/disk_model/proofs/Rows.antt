-- Pages written one after another.
use Rattle.disk_model.proofs.{Names.{◌≡◌, ◌⊎◌, ◌<◌, ◌≤◌, ◌+◌, ◌*◌, ◌-◌, ℕ, take, replicate, inl, inr, ⊎_elim, refl, sym, ap, subst, ◌∙◌, arith, cases_lt, drop-replicate, take-replicate}, Pages.{no_time, more_time}}
use Rattle.disk_model.specs.{Sectors.{sector_bytes, part_of}, Stop.{Image, MayLeave, ChangesPage, ChangesPages, IsOfPage, IsOfPages, Elapses}, declared.sector_disk.SectorDisk.{Ghosts}}

-- the first pages, and the one after them
pub of_first : (n i pages k : ℕ) → i ≤ pages → IsOfPages n i k → IsOfPages n pages k
of_first n i pages k within first = (first.0, omega (arith, first.1, within))

pub of_next : (n i k : ℕ) → IsOfPage (n + 8 * i) k → IsOfPages n (i + 1) k
of_next n i k next = (omega (arith, next.0), omega (arith, next.1))

pub first_or_next : (n i k : ℕ) → IsOfPages n (i + 1) k → IsOfPages n i k ⊎ IsOfPage (n + 8 * i) k
first_or_next n i k of =
    ⊎_elim (λ first. inl (of.0, first)) (λ from. inr (from, omega (arith, of.1))) (cases_lt k (n + 8 * i))

-- no sector is of both
pub first_or_else : (n i k : ℕ) → IsOfPages n i k → IsOfPage (n + 8 * i) k → ⊥
first_or_else n i k first next = omega (arith, first.1, next.0)

-- fewer pages
pub changes_more : (n i pages : ℕ) (old new : Image) → i ≤ pages → ChangesPages n i old new → ChangesPages n pages old new
changes_more n i pages old new within changes = record { others = λ k out. changes.others k (λ first. out (of_first n i pages k within first)) }

-- a sector is of them or not
pub of_pages : (n pages k : ℕ) → IsOfPages n pages k ⊎ (IsOfPages n pages k → ⊥)
of_pages n pages k = ⊎_elim
    (λ before. inr (λ inside. omega (arith, before, inside.0)))
    (λ from. ⊎_elim (λ inside. inl (from, inside)) (λ behind. inr (λ inside. omega (arith, behind, inside.1))) (cases_lt k (n + 8 * pages)))
    (cases_lt k n)

-- what a stop may leave before they are written it may leave after it
pub carried_by_pages : (n pages : ℕ) (old new : Image) (was is : ℕ → Type 0) → ChangesPages n pages old new → ((k : ℕ) → was k → is k)
    → ((k : ℕ) → IsOfPages n pages k → is k) → (c : Image) → MayLeave old was c → MayLeave new is c
carried_by_pages n pages old new was is changes still here c may = record {
  kept = λ k. ⊎_elim (λ inside. inl (here k inside))
      (λ out. ⊎_elim (λ u. inl (still k u)) (λ e. inr (e ∙ sym (changes.others k out))) (may.kept k))
      (of_pages n pages k);
}

-- the sectors of these pages are zeros
abbrev pub AreZeros : ℕ → ℕ → Image → Type 0
AreZeros n pages image = (k : ℕ) → IsOfPages n pages k → image k ≡ replicate sector_bytes 0

part_of_zeros : (j : ℕ) → j < 8 → part_of (replicate 4096 0) j ≡ replicate sector_bytes 0
part_of_zeros j below = ap (take 512) (drop-replicate (512 * j) 4096 0) ∙ take-replicate 512 (4096 - 512 * j) 0 (omega (arith, below))

pub zeros_none : (n : ℕ) (image : Image) → AreZeros n 0 image
zeros_none n image k of = absurd (omega (arith, of.0, of.1))

pub zeros_next : (n i : ℕ) (old new : Image) → AreZeros n i old → ChangesPage (n + 8 * i) old new
    → ((j : ℕ) → j < 8 → new (n + 8 * i + j) ≡ part_of (replicate 4096 0) j) → AreZeros n (i + 1) new
zeros_next n i old new zeros changes written k of = ⊎_elim
    (λ first. changes.others k (first_or_else n i k first) ∙ zeros k first)
    (λ next.
    let j = k - (n + 8 * i) in
    let below : j < 8 = omega (arith, next.0, next.1) in
    let here : n + 8 * i + j ≡ k = omega (arith, next.0) in
    subst (λ m. new m ≡ replicate sector_bytes 0) here (written j below ∙ part_of_zeros j below))
    (first_or_next n i k of)

module _ {D : Type 0} (g : Ghosts D) where
  -- From old to new these pages were written, and no others.
  pub record WritesPages (n pages : ℕ) (old new : D) : Type 0 where
    pub others : ChangesPages n pages (g.content old) (g.content new)
    pub unsynced : (k : ℕ) → g.unsynced new k → g.unsynced old k ⊎ IsOfPages n pages k
    pub marked : (k : ℕ) → IsOfPages n pages k → g.unsynced new k
    pub still : (k : ℕ) → g.unsynced old k → g.unsynced new k
    pub time : Elapses (g.moment old) (g.moment new) (g.left_since old) (g.left_since new) (g.content new) (g.unsynced new)

  pub pages_none : (n : ℕ) (d : D) → WritesPages n 0 d d
  pages_none n d = record {
    others = record { others = λ k out. refl };
    unsynced = λ k u. inl u;
    marked = λ k of. absurd (omega (arith, of.0, of.1));
    still = λ k u. u;
    time = no_time (g.moment d) (g.left_since d) (g.content d) (g.unsynced d);
  }

  -- one page more
  pub pages_next : (n i : ℕ) (old mid new : D) → WritesPages n i old mid → ChangesPage (n + 8 * i) (g.content mid) (g.content new)
      → ((k : ℕ) → g.unsynced new k → g.unsynced mid k ⊎ IsOfPage (n + 8 * i) k)
      → ((k : ℕ) → IsOfPage (n + 8 * i) k → g.unsynced new k)
      → ((k : ℕ) → g.unsynced mid k → g.unsynced new k)
      → Elapses (g.moment mid) (g.moment new) (g.left_since mid) (g.left_since new) (g.content new) (g.unsynced new)
      → WritesPages n (i + 1) old new
  pages_next n i old mid new first changes marks marked still time = record {
    others = record {
      others = λ k out. changes.others k (λ next. out (of_next n i k next)) ∙ first.others.others k (λ early. out (of_first n i (i + 1) k (omega arith) early));
    };
    unsynced = λ k u. ⊎_elim
        (λ u'. ⊎_elim (λ o. inl o) (λ early. inr (of_first n i (i + 1) k (omega arith) early)) (first.unsynced k u'))
        (λ next. inr (of_next n i k next))
        (marks k u);
    marked = λ k of. ⊎_elim (λ early. still k (first.marked k early)) (marked k) (first_or_next n i k of);
    still = λ k u. still k (first.still k u);
    time = more_time (g.moment old) (g.moment mid) (g.moment new) (g.left_since old) (g.left_since mid) (g.left_since new) (g.content mid) (g.content new) (g.unsynced mid) (g.unsynced new)
        first.time time (carried_by_pages (n + 8 * i) 1 (g.content mid) (g.content new) (g.unsynced mid) (g.unsynced new) (record { others = changes.others }) still marked);
  }
