-- Which sectors the parts of a commit and of a recovery ask for.
use Rattle.sync_journal.proofs.{Names.{◌≡◌, ◌⊎◌, ◌<◌, ◌≤◌, ◌+◌, ℕ, true, List, length, inl, inr, ⊎_elim, refl, sym, subst, arith, cases_eq, Image, Names, NamesOnce, AsksOnly, Ghosts, asks_named, asks_once}}
use Rattle.sync_journal.{proofs.Names.{asks_then, once_named, once_apart}, specs.{Commit.{AsksInTwo}, Gate.{is_open}, Layout.{page_limit, gate_sector, map_sector, body_sector, home_sector}}}
use Rattle.sync_journal.specs.{Layout.{IsPageSector, IsGate, IsBodySector, IsCopied, IsStaged, IsOpened, IsFinished, IsMovedHome, IsCommitted}, Standing.{IsOpenFor, IsAskedIn}}

-- Over how often each sector had been asked for, at three moments.
module _ (before mid now : ℕ → ℕ) where
  -- a page is read, and another one written
  pub page_copied : (from to : ℕ) → from + 8 ≤ to → Names (IsPageSector from) before mid → Names (IsPageSector to) mid now
      → NamesOnce (λ k. IsPageSector from k ⊎ IsPageSector to k) before now
  page_copied from to apart reads writes = once_apart (IsPageSector from) (IsPageSector to) (λ k. IsPageSector from k ⊎ IsPageSector to k) before mid now
      (λ k source. inl source) (λ k target. inr target) (λ k source target. omega (arith, apart, source.1, target.0))
      (once_named (IsPageSector from) (IsPageSector from) before mid (λ k inside. inside) reads)
      (once_named (IsPageSector to) (IsPageSector to) mid now (λ k inside. inside) writes)

  -- a page more is written into the body
  pub filled_more : (j : ℕ) → NamesOnce (IsBodySector j) before mid → Names (IsPageSector (body_sector j)) mid now → NamesOnce (IsBodySector (j + 1)) before now
  filled_more j so_far page = once_apart (IsBodySector j) (IsPageSector (body_sector j)) (IsBodySector (j + 1)) before mid now
      (λ k inside. (inside.0, omega (arith, inside.1))) (λ k inside. (omega (arith, inside.0), omega (arith, inside.1))) (λ k first second. omega (arith, first.1, second.0))
      so_far (once_named (IsPageSector (body_sector j)) (IsPageSector (body_sector j)) mid now (λ k inside. inside) page)

  -- and the map after the body
  pub staged_asks : (n : ℕ) → NamesOnce (IsBodySector n) before mid → Names (IsPageSector map_sector) mid now → NamesOnce (IsStaged n) before now
  staged_asks n so_far map = once_apart (IsBodySector n) (IsPageSector map_sector) (IsStaged n) before mid now
      (λ k inside. (omega (arith, inside.0), inside.1)) (λ k inside. (inside.0, omega (arith, inside.1))) (λ k first second. omega (arith, first.0, second.1))
      so_far (once_named (IsPageSector map_sector) (IsPageSector map_sector) mid now (λ k inside. inside) map)

  -- and the gate after both
  pub publish_asks : (n : ℕ) → NamesOnce (IsStaged n) before mid → NamesOnce IsGate mid now → NamesOnce (IsOpened n) before now
  publish_asks n stages opens = once_apart (IsStaged n) IsGate (IsOpened n) before mid now
      (λ k inside. (omega (arith, inside.0), inside.1)) (λ k gate. (omega (arith, gate), omega (arith, gate))) (λ k first gate. omega (arith, first.0, gate))
      stages opens

  -- the gate after the homes
  pub finish_asks : (homes : List ℕ) → NamesOnce (IsCopied homes (length homes)) before mid → NamesOnce IsGate mid now → NamesOnce (IsFinished homes) before now
  finish_asks homes copies closes = once_apart (IsCopied homes (length homes)) IsGate (IsFinished homes) before mid now
      (λ k copy. inr copy) (λ k gate. inl gate)
      (λ k copy gate. ⊎_elim (λ body. omega (arith, body.0, gate)) (λ home. omega (arith, home.2.0, gate)) copy)
      copies closes

-- what is asked for to finish a commit is what a commit may ask for
pub in_finish : (homes : List ℕ) (k : ℕ) → length homes ≤ page_limit → IsFinished homes k → IsCommitted homes k
in_finish homes k few = ⊎_elim (λ gate. inl (inl gate)) (⊎_elim (λ body. inl (inr (omega (arith, body.0), omega (arith, body.1, few)))) (λ home. inr home))

pub in_opening : (homes : List ℕ) (n k : ℕ) → n ≤ page_limit → IsOpened n k → IsCommitted homes k
in_opening homes n k few inside = ⊎_elim (λ e. inl (inl e)) (λ other. inl (inr (omega (arith, inside.0, other), omega (arith, inside.1, few)))) (cases_eq k gate_sector)

module _ {D : Type 0} (g : Ghosts D) where
  -- what a commit asks for
  pub in_two : (live : List ℕ) (pages : ℕ) (old mid new : D) → NamesOnce (IsMovedHome live) (g.asked old) (g.asked mid) → NamesOnce (IsOpened pages) (g.asked mid) (g.asked new)
      → AsksInTwo g live pages old new
  in_two live pages old mid new copies opens = record { between = g.asked mid; copies = copies; opens = opens }

  -- nothing new was asked for
  pub in_one : (live : List ℕ) (pages : ℕ) (old new : D) → NamesOnce (IsMovedHome live) (g.asked old) (g.asked new) → AsksInTwo g live pages old new
  in_one live pages old new copies = record { between = g.asked new; copies = copies; opens = record { each = λ k. inl refl } }

  pub finish_only : (homes : List ℕ) (old new : D) → length homes ≤ page_limit → NamesOnce (IsMovedHome homes) (g.asked old) (g.asked new) → AsksOnly g (IsCommitted homes) old new
  finish_only homes old new few once = asks_once g (IsCommitted homes) (IsMovedHome homes) old new (λ k moved. in_finish homes k few moved.1) once

  pub commit_only : (homes : List ℕ) (n : ℕ) (old mid new : D) → length homes ≤ page_limit → n ≤ page_limit → NamesOnce (IsMovedHome homes) (g.asked old) (g.asked mid)
      → NamesOnce (IsOpened n) (g.asked mid) (g.asked new) → AsksOnly g (IsCommitted homes) old new
  commit_only homes n old mid new few fits copies opens = asks_then g (IsCommitted homes) old mid new (finish_only homes old mid few copies)
      (asks_once g (IsCommitted homes) (IsOpened n) mid new (λ k. in_opening homes n k fits) opens)

  -- a recovery looks at the gate
  pub gate_asks : (image : Image) (old new : D) → Names (λ k. k ≡ gate_sector) (g.asked old) (g.asked new) → AsksOnly g (IsAskedIn image) old new
  gate_asks image old new names = asks_named g (IsAskedIn image) (λ k. k ≡ gate_sector) old new (λ k here. inl here) names

  -- and at the map, where the gate is open
  pub map_asks : (image : Image) (old mid new : D) → is_open image ≡ true → Names (λ k. k ≡ gate_sector) (g.asked old) (g.asked mid)
      → Names (IsPageSector map_sector) (g.asked mid) (g.asked new) → AsksOnly g (IsAskedIn image) old new
  map_asks image old mid new opened gate map = asks_then g (IsAskedIn image) old mid new (gate_asks image old mid gate)
      (asks_named g (IsAskedIn image) (IsPageSector map_sector) mid new (λ k inside. inr (opened, inl (inside.0, omega (arith, inside.1)))) map)

  -- the homes that are copied are those that the map names
  pub replay_asks : (image : Image) (homes : List ℕ) (old mid new : D) → IsOpenFor homes image → AsksOnly g (IsAskedIn image) old mid
      → NamesOnce (IsFinished homes) (g.asked mid) (g.asked new) → AsksOnly g (IsAskedIn image) old new
  replay_asks image homes old mid new opened first second =
      asks_then g (IsAskedIn image) old mid new first (asks_once g (IsAskedIn image) (IsFinished homes) mid new inside second)
    where
      inside : (k : ℕ) → IsFinished homes k → IsAskedIn image k
      inside k = ⊎_elim (λ gate. inl gate) (⊎_elim
          (λ body. inr (opened.gate, inl (omega (arith, body.0), subst (λ n. k < body_sector n) (sym opened.count) body.1)))
          (λ home. (let at = opened.each home.0 home.1 in inr (
            opened.gate,
            inr (home.0, subst (λ n. home.0 < n) (sym opened.count) home.1, subst (λ h. IsPageSector (home_sector h) k) (sym at) home.2),
          ))))
