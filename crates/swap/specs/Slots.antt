-- Slots of swap.
use Rattle.std.specs.Prelude.{◌≡◌, ◌≢◌, ℕ, ◌+◌, ◌*◌, ◌<◌, ◌≤◌, ◌==◌, List, [], Option, Some, None, length}
use Rattle.vm_types.specs.Counting.{count_below}
use Rattle.disk_model.specs.Stop.{IsOfPage}
use Rattle.disk_model.specs.declared.sector_disk.SectorDisk.{Ghosts}
use Rattle.swap.specs.Counts.{count_at}
use Rattle.swap.specs.Written.{written_in, IsAsWritten}
use Rattle.swap.specs.declared.slots.Swap.{Swap}

-- the slots by their numbers, from 0: how many, the bytes and the share count of each
pub record SlotTable : Type 0 where
  pub total : ℕ
  pub bytes : ℕ → List ℕ
  pub count : ℕ → ℕ

abbrev pub or_none : Option (List ℕ) → List ℕ
or_none None = []
or_none (Some w) = w

module _ {D : Type 0} where
  abbrev pub slots_of : Swap D → SlotTable
  slots_of s = record {
    total = length s.counts;
    bytes = λ n. or_none (written_in s.pages.written.notes n);
    count = count_at s.counts;
  }

-- the slot has a share
abbrev pub IsInUse : SlotTable → ℕ → Type 0
IsInUse t n = 0 < t.count n

-- no slot is free
abbrev pub IsSwapFull : SlotTable → Type 0
IsSwapFull t = (n : ℕ) → n < t.total → IsInUse t n

-- how many slots are free
abbrev pub free_slots : SlotTable → ℕ
free_slots t = count_below (λ n. t.count n == 0) t.total

-- one of the eight sectors of slot n
abbrev pub IsSectorOfSlot : ℕ → ℕ → Type 0
IsSectorOfSlot n k = IsOfPage (8 * n) k

-- a sector of a slot that is free
abbrev pub IsSectorOfFreeSlot : SlotTable → ℕ → Type 0
IsSectorOfFreeSlot t k = (n : ℕ) × (n < t.total) × (t.count n ≡ 0) × IsSectorOfSlot n k

-- what is true of slots at all times: at most 65,536 of them, each with at most 64 shares, and none past the last
pub record AreSoundSlots (t : SlotTable) : Type 0 where
  pub most : t.total ≤ 65536
  pub shared : (n : ℕ) → t.count n ≤ 64
  pub inside : (n : ℕ) → IsInUse t n → n < t.total

-- all but slot n is as it was
pub record SameButForSlot (n : ℕ) (old new : SlotTable) : Type 0 where
  pub total : new.total ≡ old.total
  pub bytes : (m : ℕ) → m ≢ n → IsInUse old m → new.bytes m ≡ old.bytes m
  pub counts : (m : ℕ) → m ≢ n → new.count m ≡ old.count m

-- every share, and every slot in use with its bytes, is as it was
pub record Same (old new : SlotTable) : Type 0 where
  pub total : new.total ≡ old.total
  pub bytes : (m : ℕ) → IsInUse old m → new.bytes m ≡ old.bytes m
  pub counts : (m : ℕ) → new.count m ≡ old.count m

-- slot n, which was free, has these bytes and one share
pub record Puts (old new : SlotTable) (n : ℕ) (page : List ℕ) : Type 0 where
  pub others : SameButForSlot n old new
  pub inside : n < old.total
  pub was_free : old.count n ≡ 0
  pub holds : new.bytes n ≡ page
  pub counted : new.count n ≡ 1

-- one more shares slot n
pub record SharesSlot (old new : SlotTable) (n : ℕ) : Type 0 where
  pub others : SameButForSlot n old new
  pub bytes_kept : new.bytes n ≡ old.bytes n
  pub raised : new.count n ≡ old.count n + 1

-- one less shares slot n, which is free where nobody is left
pub record ReleasesSlot (old new : SlotTable) (n : ℕ) : Type 0 where
  pub others : SameButForSlot n old new
  pub bytes_kept : new.bytes n ≡ old.bytes n
  pub lowered : new.count n + 1 ≡ old.count n

-- so many slots, all of them free
pub record AreNewSlots (t : SlotTable) (slots : ℕ) : Type 0 where
  pub total : t.total ≡ slots
  pub free : (n : ℕ) → t.count n ≡ 0

module _ {D : Type 0} (g : Ghosts D) where
  -- Slots may be put and got: they lie on the device, which holds what was put as long as it keeps its model.
  pub record IsReady (s : Swap D) : Type 0 where
    pub room : 8 * (slots_of s).total ≤ g.sector_count s.pages.disk
    pub as_written : IsAsWritten g s.pages.disk s.pages.written.notes
