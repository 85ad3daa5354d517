-- Slots filled one after the other.
use Rattle.std.proofs.Common.{◌≡◌, ◌<◌, ◌+◌, ◌*◌, ◌∙◌, ℕ, Bool, true, false, List, length, refl, sym, ap, subst, ⊎_elim, arith}
use Rattle.std.proofs.lemmas.Bool.{cases_eq}
use Rattle.disk_model.proofs.Naming.{once_apart, once_named}
use Rattle.disk_model.specs.{Sectors.{part_of}, Stop.{Names, NamesOnce}}
use Rattle.disk_model.specs.declared.sector_disk.SectorDisk.{Ghosts}
use Rattle.pool_journal.specs.{Filling.{slot_at, filled_at, AreSlots, IsFilled, HoldsSlots}, Pools.{pool_slot}, declared.slot.Slot.{Slot}}
use Rattle.sync_journal.{proofs.Runs.{of_more, one_more}, specs.{Layout.{IsPageSector}, Runs.{RunsOnDevice}}}

-- two slots in which one sector lies are one
same_place : (m : ℕ) (a b : Bool) (r s k : ℕ) → r < 504 * m → s < 504 * m → IsPageSector (pool_slot m a r) k → IsPageSector (pool_slot m b s) k → (a ≡ b) × (r ≡ s)
same_place m false false r s k one two first second = (refl, omega (arith, first.0, first.1, second.0, second.1))
same_place m true true r s k one two first second = (refl, omega (arith, first.0, first.1, second.0, second.1))
same_place m false true r s k one two first second = absurd (omega (arith, one, first.1, second.0))
same_place m true false r s k one two first second = absurd (omega (arith, two, second.1, first.0))

same_slot : (a b : Slot) → a.second ≡ b.second → a.place ≡ b.place → a ≡ b
same_slot a b body place = ap (λ s. make s a.place) body ∙ ap (make b.second) place
  where
    make : Bool → ℕ → Slot
    make s p = record { second = s; place = p }

module _ (m : ℕ) (slots : List Slot) (are : AreSlots m slots) where
  pub two_slots : (i j k : ℕ) → i < j → j < length slots → IsPageSector (filled_at m slots i) k → IsPageSector (filled_at m slots j) k → ⊥
  two_slots i j k less below first second =
      let same = same_place m (slot_at slots i).second (slot_at slots j).second (slot_at slots i).place (slot_at slots j).place k (are.inside i (omega (arith, less, below))) (are.inside j below) first second in
      are.apart i j less below (same_slot (slot_at slots i) (slot_at slots j) same.0 same.1)

  -- one more is filled
  pub once_more : (j : ℕ) (before mid now : ℕ → ℕ) → j < length slots → NamesOnce (IsFilled m slots j) before mid → Names (IsPageSector (filled_at m slots j)) mid now → NamesOnce (IsFilled m slots (j + 1)) before now
  once_more j before mid now below so_far page = once_apart (IsFilled m slots j) (IsPageSector (filled_at m slots j)) (IsFilled m slots (j + 1)) before mid now
      (λ k was. (was.0, omega (arith, was.1), was.2)) (λ k here. (j, omega arith, here)) (λ k was here. two_slots was.0 j k was.1 below was.2 here)
      so_far (once_named (IsPageSector (filled_at m slots j)) (IsPageSector (filled_at m slots j)) mid now (λ k here. here) page)

  module _ {D : Type 0} (g : Ghosts D) (j : ℕ) (old mid new : D) (below : j < length slots) (run : RunsOnDevice g (IsPageSector (filled_at m slots j)) mid new) where
    pub run_more : RunsOnDevice g (IsFilled m slots (length slots)) old mid → RunsOnDevice g (IsFilled m slots (length slots)) old new
    run_more before = one_more g (IsFilled m slots (length slots)) old mid new before (of_more g (IsPageSector (filled_at m slots j)) (IsFilled m slots (length slots)) mid new (λ k here. (j, below, here)) run)

    pub held_more : (was told : ℕ → Type 0) → ((k : ℕ) → told k → was k) → (pages : ℕ → List ℕ) (page : List ℕ) → (told j → page ≡ pages j) → g.keeps_model new → HoldsSlots m slots j was pages (g.content mid)
        → ((i : ℕ) → i < 8 → g.content new (filled_at m slots j + i) ≡ part_of page i) → HoldsSlots m slots (j + 1) told pages (g.content new)
    held_more was told before_too pages page is keeps held written p i before of small = ⊎_elim
        (λ same. subst (λ s. g.content new (filled_at m slots s + i) ≡ part_of (pages s) i) (sym same) (written i small ∙ ap (λ b. part_of b i) (is (subst told same of))))
        (λ other. (let less : p < j = omega (arith, before, other) in
        ⊎_elim {C = g.content new (filled_at m slots p + i) ≡ g.content mid (filled_at m slots p + i)}
        (λ here. absurd (two_slots p j (filled_at m slots p + i) less below (omega arith, omega (arith, small)) here)) (λ e. e) ((run.touches keeps).content (filled_at m slots p + i))
        ∙ held p i less (before_too p of) small))
        (cases_eq p j)
