-- Slots that the pages of a commit are written to.
use Rattle.std.specs.Prelude.{ℕ, ◌+◌, ◌*◌, ◌<◌, ◌≡◌, false, List, length, get_or, Result, OnOk}
use Rattle.disk_model.specs.{Sectors.{part_of}, Stop.{Image, NamesOnce}}
use Rattle.disk_model.specs.declared.sector_disk.SectorDisk.{Ghosts}
use Rattle.pool_journal.specs.Pools.{pool_slot}
use Rattle.pool_journal.specs.declared.slot.Slot.{Slot}
use Rattle.sync_journal.specs.{Layout.{IsPageSector}, Source.{IsTold}, Steps.{TakesPages}}
use Rattle.sync_journal.specs.declared.faults.CommitFault.{CommitFault}
use Rattle.sync_journal.specs.declared.source.PageSource as Pages

-- the slot at a place of a list
abbrev pub slot_at : List Slot → ℕ → Slot
slot_at slots j = get_or slots j (record { second = false; place = 0 })

-- its first sector
abbrev pub filled_at : ℕ → List Slot → ℕ → ℕ
filled_at m slots j = pool_slot m (slot_at slots j).second (slot_at slots j).place

-- Slots of a pool whose maps have m blocks:
pub record AreSlots (m : ℕ) (slots : List Slot) : Type 0 where
  -- each is one of its bodies',
  pub inside : (j : ℕ) → j < length slots → (slot_at slots j).place < 504 * m
  -- and none stands twice.
  pub apart : (i j : ℕ) → i < j → j < length slots → slot_at slots i ≡ slot_at slots j → ⊥

-- a sector of one of the first n of them
abbrev pub IsFilled : ℕ → List Slot → ℕ → ℕ → Type 0
IsFilled m slots n k = (j : ℕ) × (j < n) × IsPageSector (filled_at m slots j) k

-- the first n of them hold those of these pages that are told
abbrev pub HoldsSlots : ℕ → List Slot → ℕ → (ℕ → Type 0) → (ℕ → List ℕ) → Image → Type 0
HoldsSlots m slots n told pages image = (j i : ℕ) → j < n → told j → i < 8 → image (filled_at m slots j + i) ≡ part_of (pages j) i

module _ {D S : Type 0} (g : Ghosts D) (s : Pages.Ghosts S) where
  -- The pages that a source gives are written to the first n of these slots:
  pub record WritesSlots (m : ℕ) (slots : List Slot) (n : ℕ) (Written : ℕ → Type 0) (old new : D) (from left : S) (result : Result (Unit {0}) CommitFault) : Type 0 where
    -- they hold them, each as far as the source tells it,
    pub body : g.keeps_model new → OnOk result (HoldsSlots m slots n (IsTold s from left) (s.pages from) (g.content new))
    -- no sector is asked for twice, nor any but these,
    pub once : NamesOnce Written (g.asked old) (g.asked new)
    -- and nothing else is done.
    pub takes : TakesPages g s Written old new from left result
    pub open takes use *
