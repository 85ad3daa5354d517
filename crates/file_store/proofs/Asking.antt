-- Which sectors calls ask for.
use Rattle.file_store.proofs.Names.{◌≡◌, ◌<◌, ℕ, Bool, true, false, inl, inr, ⊎_elim, refl, sym, arith, subst, FilePage, Image, Names, NamesOnce, once_none, once_named, once_apart, AsksOnly, Ghosts, asks_wider, asks_then}
use Rattle.file_store.proofs.Names.{one_journal, live_homes, IsPageSector, IsAskedIn, IsLookedAtIn, old_gate, is_old_open, sizes_under, Version, One, Two, Three}
use Rattle.file_store.specs.{declared.store.FileStore.{FileStore}, Standing.{IsHeadIn, IsAskedToOpen}, Versions.{directory_of}, Store.{home_of, IsSectorOf}, Upgrade.{IsOldHead}}

-- A look at mark and directory of a store of a layout, and at nothing twice: at none,
pub none_once : (W : ℕ → Type 0) (now : ℕ → ℕ) → NamesOnce W now now
none_once W now = once_none W now now (λ k. refl)

-- at one,
pub one_once : (W : ℕ → Type 0) (n : ℕ) (before now : ℕ → ℕ) → W n → Names (λ k. k ≡ n) before now → NamesOnce W before now
one_once W n before now here names = once_named W (λ k. k ≡ n) before now (λ k at. subst W (sym at) here) names

-- at one more,
pub then_once : (V W : ℕ → Type 0) (n : ℕ) (before mid now : ℕ → ℕ) → ((k : ℕ) → V k → W k) → W n → (V n → ⊥) → NamesOnce V before mid → Names (λ k. k ≡ n) mid now → NamesOnce W before now
then_once V W n before mid now inside here other so_far names = once_apart V (λ k. k ≡ n) W before mid now inside (λ k at. subst W (sym at) here) (λ k v at. other (subst V at v))
    so_far (once_named (λ k. k ≡ n) (λ k. k ≡ n) mid now (λ k at. at) names)

-- at the mark,
pub mark_once : (version : Version) (before now : ℕ → ℕ) → Names (λ k. k ≡ 0) before now → NamesOnce (IsHeadIn version) before now
mark_once version before now mark = once_named (IsHeadIn version) (λ k. k ≡ 0) before now (λ k at. inl (omega (arith, at))) mark

directory_behind : (version : Version) → 0 < directory_of version
directory_behind One = omega arith
directory_behind Two = omega arith
directory_behind Three = omega arith

-- and at the directory
pub layout_once : (version : Version) (before mid now : ℕ → ℕ) → Names (λ k. k ≡ 0) before mid → NamesOnce (λ k. k ≡ directory_of version) mid now → NamesOnce (IsHeadIn version) before now
layout_once version before mid now mark directory = once_apart (λ k. k ≡ 0) (λ k. k ≡ directory_of version) (IsHeadIn version) before mid now
    (λ k at. inl (omega (arith, at))) (λ k at. inr at) (λ k at behind. let some = directory_behind version in omega (arith, at, behind, some))
    (once_named (λ k. k ≡ 0) (λ k. k ≡ 0) before mid (λ k at. at) mark) directory

-- mark and directory lie before gate and map
before_map : (version : Version) (gate : Bool) → directory_of version < (sizes_under version gate).map
before_map One gate = omega arith
before_map Two gate = omega arith
before_map Three false = omega arith
before_map Three true = omega arith

before_gate : (version : Version) → directory_of version < old_gate version
before_gate One = omega arith
before_gate Two = omega arith
before_gate Three = omega arith

old_apart : (version : Version) (image : Image) (k : ℕ) → IsHeadIn version k → IsLookedAtIn version image k → ⊥
old_apart version image k head looked =
    let map = before_map version (is_old_open version image) in
    let gate = before_gate version in
    ⊎_elim
    (λ low. ⊎_elim (λ at. omega (arith, low, at, gate)) (λ at. omega (arith, low, at.1.0, map)) looked)
    (λ low. ⊎_elim (λ at. omega (arith, low, at, gate)) (λ at. omega (arith, low, at.1.0, map)) looked) head

-- and of a store that is only read then at gate and map
pub old_head_once : (version : Version) (image : Image) (before mid now : ℕ → ℕ) → NamesOnce (IsHeadIn version) before mid → NamesOnce (IsLookedAtIn version image) mid now → NamesOnce (IsOldHead version image) before now
old_head_once version image before mid now head looked = once_apart (IsHeadIn version) (IsLookedAtIn version image) (IsOldHead version image) before mid now
    (λ k at. inl at) (λ k at. inr at) (old_apart version image) head looked

module _ {D : Type 0} (g : Ghosts D) where
  -- a page by its home
  pub page_once : (store : FileStore D) (p : FilePage) (home : ℕ) (new : D) → home ≡ home_of store.directory p
      → Names (IsPageSector (one_journal.stands_at (live_homes store.journal) home)) (g.asked store.disk) (g.asked new) → Names (IsSectorOf store p) (g.asked store.disk) (g.asked new)
  page_once store p home new is names = subst (λ h. Names (IsPageSector (one_journal.stands_at (live_homes store.journal) h)) (g.asked store.disk) (g.asked new)) is names

  -- mark and directory alone
  pub head_asks : (image : Image) (old new : D) → AsksOnly g (IsHeadIn Two) old new → AsksOnly g (IsAskedToOpen image) old new
  head_asks image old new asks = asks_wider g (IsHeadIn Two) (IsAskedToOpen image) old new (λ k head. inl head) asks

  -- and then a recovery
  pub opening_asks : (image : Image) (old mid new : D) → g.content mid ≡ image → AsksOnly g (IsHeadIn Two) old mid → AsksOnly g (IsAskedIn (g.content mid)) mid new
      → AsksOnly g (IsAskedToOpen image) old new
  opening_asks image old mid new same first second = asks_then g (IsAskedToOpen image) old mid new (head_asks image old mid first)
      (asks_wider g (IsAskedIn image) (IsAskedToOpen image) mid new (λ k asked. inr asked)
      (subst (λ (held : Image). AsksOnly g (IsAskedIn held) mid new) same second))
