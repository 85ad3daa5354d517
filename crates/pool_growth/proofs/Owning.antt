-- The sectors of a home: its own, and those of slots that are given to it.
use Rattle.std.proofs.Common.{ℕ, Bool, true, false, suc, Option, Some, None, ◌≡◌, ◌<◌, ◌≤◌, ◌+◌, ◌⊎◌, subst, inl, inr, ⊎_elim, arith}
use Rattle.pool_journal.proofs.Loose.{Gives, slot_gives, same_place, no_map, no_home, map_low, stands_from}
use Rattle.pool_journal.specs.{Blanking.{IsSlotSectorOf}, Pools.{pool_gate, pool_home, pool_slot, pool_stands, slot_by, IsPoolMap}}
use Rattle.sync_journal.specs.{Blocks.{IsSameBlock}, Layout.{IsPageSector}}

-- what lies in blocks of its own
pub map_block : (m : ℕ) (b : Bool) (k j : ℕ) → IsSameBlock k j → IsPoolMap m b j → IsPoolMap m b k
map_block m false k j same inside = (omega (arith, same, inside.0), omega (arith, same, inside.1))
map_block m true k j same inside = (omega (arith, same, inside.0), omega (arith, same, inside.1))

pub slot_block : (m : ℕ) (b : Bool) (r k j : ℕ) → IsSameBlock k j → IsPageSector (pool_slot m b r) j → IsPageSector (pool_slot m b r) k
slot_block m false r k j same inside = (omega (arith, same, inside.0, inside.1), omega (arith, same, inside.0, inside.1))
slot_block m true r k j same inside = (omega (arith, same, inside.0, inside.1), omega (arith, same, inside.0, inside.1))

pub home_block : (m h k j : ℕ) → IsSameBlock k j → IsPageSector (pool_home m h) j → IsPageSector (pool_home m h) k
home_block m h k j same inside = (omega (arith, same, inside.0, inside.1), omega (arith, same, inside.0, inside.1))

module _ (m : ℕ) (entries : Bool → ℕ → ℕ) where
  -- a sector of a home, or of a slot that is given to it
  abbrev pub IsOwn : ℕ → ℕ → Type 0
  IsOwn h k = IsPageSector (pool_home m h) k ⊎ IsSlotSectorOf m entries h k

  -- where the page of a home stands
  abbrev pub at_home : ℕ → ℕ
  at_home h = pool_stands m h (slot_by m entries h)

  -- The page of a home stands in sectors of it.
  pub own_place : (h k : ℕ) → IsPageSector (at_home h) k → IsOwn h k
  own_place h k = here (slot_by m entries h) (slot_gives m entries h)
    where
      here : (o : Option (Bool × ℕ)) → Gives m entries h o → IsPageSector (pool_stands m h o) k → IsOwn h k
      here None gives at = inl at
      here (Some slot) gives at = inr (slot.0, slot.1, gives.0, gives.1, at)

  -- They are no other home's,
  pub own_once : (a b k : ℕ) → IsOwn a k → IsOwn b k → a ≡ b
  own_once a b k one two = ⊎_elim
      (λ home. ⊎_elim (λ also. omega (arith, home.0, home.1, also.0, also.1))
      (λ slot. absurd (no_home m slot.0 slot.1 k slot.2 slot.4 (omega (arith, home.0)))) two)
      (λ slot. ⊎_elim (λ home. absurd (no_home m slot.0 slot.1 k slot.2 slot.4 (omega (arith, home.0))))
      (λ other. (let same = same_place m slot.0 other.0 slot.1 other.1 k slot.2 other.2 slot.4 other.4 in
      let given : entries other.0 other.1 ≡ suc a = subst (λ body. entries body other.1 ≡ suc a) same.0 (subst (λ r. entries slot.0 r ≡ suc a) same.1 slot.3) in
      omega (arith, given, other.3))) two)
      one

  -- none of a map,
  pub own_not_map : (b : Bool) (h k : ℕ) → IsOwn h k → IsPoolMap m b k → ⊥
  own_not_map b h k own map = ⊎_elim (λ home. map_low m b k map (omega (arith, home.0))) (λ slot. no_map m b slot.0 slot.1 k slot.2 slot.4 map) own

  -- of the gate or one before it,
  pub own_not_gate : (h k : ℕ) → IsOwn h k → k < pool_gate + 8 → ⊥
  own_not_gate h k own low = ⊎_elim (λ home. omega (arith, home.0, low)) (λ slot. (let from = stands_from m h 0 (Some (slot.0, slot.1)) in omega (arith, from, slot.4.0, low))) own

  -- or past the homes;
  pub own_not_behind : (n h k : ℕ) → h < n → IsOwn h k → pool_home m n ≤ k → ⊥
  own_not_behind n h k below own high = ⊎_elim (λ home. omega (arith, home.1, below, high))
      (λ slot. no_home m slot.0 slot.1 k slot.2 slot.4 (omega (arith, high))) own

  -- and they are blocks.
  pub own_whole : (h k j : ℕ) → IsSameBlock k j → IsOwn h j → IsOwn h k
  own_whole h k j same = ⊎_elim (λ home. inl (home_block m h k j same home))
      (λ slot. inr (slot.0, slot.1, slot.2, slot.3, slot_block m slot.0 slot.1 k j same slot.4))
