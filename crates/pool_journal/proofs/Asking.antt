-- What the parts of a commit write and ask for, one after another.
use Rattle.std.proofs.Common.{◌≡◌, ◌⊎◌, ℕ, Bool, true, false, not, List, ap, subst, ⊎_elim, inl, inr, arith}
use Rattle.disk_model.{proofs.Naming.{once_apart}, specs.{Stop.{NamesOnce}, declared.sector_disk.SectorDisk.{Ghosts}}}
use Rattle.pool_journal.{proofs.{Loose.{same_place, no_map, no_home, map_low, map_high}, Thinned.{loose_home}}, specs.{Commit.{thinned, IsDropped, IsMoved}, Giving.{number_but}}}
use Rattle.pool_journal.specs.Committing.{IsPoolStaged}
use Rattle.pool_journal.specs.Pools.{pool_gate, pool_slot, IsPoolMap, IsLoose, IsLooseSlot, IsLooseHome, IsPoolUsed}
use Rattle.sync_journal.{proofs.Runs.{one_more, of_more}, specs.{Layout.{IsPageSector}, Runs.{RunsOnDevice}}}

-- what is copied home lies in no map, and no slot holds the gate
pub moved_map : (m : ℕ) (b : Bool) (entries : Bool → ℕ → ℕ) (k : ℕ) → IsMoved m entries k → IsPoolMap m b k → ⊥
moved_map m b entries k moved map = ⊎_elim (λ live. no_map m b live.0 live.1 k live.2 live.4 map) (λ home. map_low m b k map (omega (arith, home.3.0))) moved

slot_from : (m : ℕ) (b : Bool) (r k : ℕ) → IsPageSector (pool_slot m b r) k → k ≡ pool_gate → ⊥
slot_from m false r k slot at = omega (arith, slot.0, at)
slot_from m true r k slot at = omega (arith, slot.0, at)

pub moved_gate : (m : ℕ) (entries : Bool → ℕ → ℕ) (k : ℕ) → IsMoved m entries k → k ≡ pool_gate → ⊥
moved_gate m entries k moved at = ⊎_elim (λ live. slot_from m live.0 live.1 k live.4 at) (λ home. omega (arith, home.3.0, at)) moved

module _ (m : ℕ) (second : Bool) (was : Bool → ℕ → ℕ) (homes : List ℕ) where
  abbrev InBodies : ℕ → Type 0
  InBodies k = IsDropped m was homes k ⊎ IsLooseSlot m was k

  moved_or_free : (k : ℕ) → IsDropped m was homes k → IsLooseSlot m was k → ⊥
  moved_or_free k moved free = ⊎_elim
      (λ live. (let one = same_place m free.0 live.0 free.1 live.1 k free.2 live.2 free.4 live.4 in
      live.3 (ap (number_but homes) (subst (λ b. was b live.1 ≡ 0) one.0 (subst (λ r. was free.0 r ≡ 0) one.1 free.3)))))
      (λ home. no_home m free.0 free.1 k free.2 free.4 (omega (arith, home.3.0)))
      moved.1

  not_in_map : (k : ℕ) → InBodies k → IsPoolMap m (not second) k → ⊥
  not_in_map k there map = ⊎_elim
      (λ moved. moved_map m (not second) (thinned homes was) k moved.1 map)
      (λ free. no_map m (not second) free.0 free.1 k free.2 free.4 map)
      there

  not_the_gate : (k : ℕ) → InBodies k ⊎ IsPoolMap m (not second) k → k ≡ pool_gate → ⊥
  not_the_gate k there at = ⊎_elim
      (⊎_elim (λ moved. moved_gate m (thinned homes was) k moved.1 at) (λ free. slot_from m free.0 free.1 k free.4 at))
      (λ map. map_high m (not second) k map (omega (arith, at)))
      there

  pub is_used : (k : ℕ) → InBodies k ⊎ IsPoolMap m (not second) k → IsPoolUsed m second was k
  is_used k = ⊎_elim
      (⊎_elim (λ moved. ⊎_elim (λ live. inr (inr (live.0, live.1, live.2, live.4))) (λ home. inr (inl (inr (inr (loose_home m homes was k home))))) moved.1) (λ free. inr (inl (inr (inl free)))))
      (λ map. inr (inl (inl map)))

  -- What is copied home, the new pages and the other map are apart,
  pub staged_asks : (before copied written mapped : ℕ → ℕ) → NamesOnce (IsDropped m was homes) before copied → NamesOnce (IsLooseSlot m was) copied written
      → NamesOnce (IsPoolMap m (not second)) written mapped → NamesOnce (IsPoolStaged m second was homes) before mapped
  staged_asks before copied written mapped copies writes maps =
      once_apart InBodies (IsPoolMap m (not second)) (IsPoolStaged m second was homes) before written mapped (λ k there. inl there) (λ k map. inr map) not_in_map
      (once_apart (IsDropped m was homes) (IsLooseSlot m was) InBodies before copied written (λ k moved. inl moved) (λ k free. inr free) moved_or_free copies writes)
      maps

  -- and the gate is apart from them.
  pub named_asks : (before mapped now : ℕ → ℕ) → NamesOnce (IsPoolStaged m second was homes) before mapped → NamesOnce (λ k. k ≡ pool_gate) mapped now → NamesOnce (IsPoolUsed m second was) before now
  named_asks before mapped now stages names =
      once_apart (IsPoolStaged m second was homes) (λ k. k ≡ pool_gate) (IsPoolUsed m second was) before mapped now is_used (λ k at. inl at) not_the_gate stages names

  -- All but the gate is loose.
  module _ {D : Type 0} (g : Ghosts D) where
    pub copied_run : (old copied : D) → RunsOnDevice g (IsLooseHome m (thinned homes was)) old copied → RunsOnDevice g (IsLoose m second was) old copied
    copied_run old copied = of_more g (IsLooseHome m (thinned homes was)) (IsLoose m second was) old copied (λ k home. inr (inr (loose_home m homes was k home)))

    pub filled_run : (old copied written : D) → RunsOnDevice g (IsLooseHome m (thinned homes was)) old copied → RunsOnDevice g (IsLooseSlot m was) copied written
        → RunsOnDevice g (IsLoose m second was) old written
    filled_run old copied written copies writes = one_more g (IsLoose m second was) old copied written (copied_run old copied copies)
        (of_more g (IsLooseSlot m was) (IsLoose m second was) copied written (λ k free. inr (inl free)) writes)

    pub writes_loose : (old copied written mapped : D) → RunsOnDevice g (IsLooseHome m (thinned homes was)) old copied → RunsOnDevice g (IsLooseSlot m was) copied written
        → RunsOnDevice g (IsPoolMap m (not second)) written mapped → RunsOnDevice g (IsLoose m second was) old mapped
    writes_loose old copied written mapped copies writes maps = one_more g (IsLoose m second was) old written mapped (filled_run old copied written copies writes)
        (of_more g (IsPoolMap m (not second)) (IsLoose m second was) written mapped (λ k map. inl map) maps)
