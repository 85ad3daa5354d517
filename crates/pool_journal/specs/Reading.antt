-- The page that stands for a home under a map.
use Rattle.std.specs.Prelude.{ℕ, suc, ◌≡◌, ◌<◌, ◌⊎◌, Bool, true, false, List, get_or, Result}
use Rattle.disk_model.specs.declared.sector_disk.DiskFault.{DiskFault}
use Rattle.disk_model.specs.declared.sector_disk.SectorDisk.{Ghosts}
use Rattle.pool_journal.specs.Pools.{pool_stands, slot_by}
use Rattle.sync_journal.specs.Steps.{ReadsSectors}

-- The page is read that stands for home h where a map gives the slots so: in the first slot of the home, or where it has none, in the home itself.
abbrev pub ReadsHome : {D : Type 0} → Ghosts D → ℕ → (Bool → ℕ → ℕ) → ℕ → D → D → List ℕ → Result (Unit {0}) DiskFault → Type 0
ReadsHome g m entries h old new to result = ReadsSectors g (pool_stands m h (slot_by m entries h)) old new to result

-- Of the first homes, so many, those are marked whose numbers are among the first n of a list:
pub record MarksHomes (homes : ℕ) (numbers : List ℕ) (n : ℕ) (old new : List Bool) : Type 0 where
  -- each of them,
  pub named : (i h : ℕ) → i < n → h < homes → get_or numbers i 0 ≡ suc h → get_or new h false ≡ true
  -- beside those that were marked,
  pub kept : (h : ℕ) → get_or old h false ≡ true → get_or new h false ≡ true
  -- and no others.
  pub others : (h : ℕ) → get_or new h false ≡ true → (get_or old h false ≡ true) ⊎ ((i : ℕ) × (i < n) × (get_or numbers i 0 ≡ suc h))
