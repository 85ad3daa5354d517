-- What a format does.
use Rattle.std.specs.Prelude.{ℕ, ◌≤◌, ◌≡◌, ◌⊎◌, ◌↔◌, List, length, Option, Result, OnOk, IsErrOf}
use Rattle.disk_model.specs.Moments.{Touches, AsksOnly, Nothing, LeavesOnly}
use Rattle.disk_model.specs.declared.sector_disk.SectorDisk.{Ghosts}
use Rattle.file_store.specs.declared.faults.FormatFault.{FormatFault}
use Rattle.file_store.specs.declared.faults.FormatFault.TheVariants.{TooLarge, Formatted, Source, Device}
use Rattle.file_store.specs.declared.sources.FileSource.{FileSource}
use Rattle.file_store.specs.Format.{total_pages, AreWhole, HasReader, IsTooLarge, IsStoreSector, IsStoreOf, IsStoreIfMarked}
use Rattle.file_store.specs.Layout.{mark, IsMark}
use Rattle.file_store.specs.Making.{HasFormatCauses, LooksFirst}

module _ {D : Type 0} (g : Ghosts D) where
  module _ {R T : Type 0} where
    -- A store of these sources' files is made on a device:
    pub record FormatsStore (remaining : R → Option (List ℕ)) (sources : List (FileSource R)) (old new : D) (result : Result T FormatFault) : Type 0 where
      -- after Ok it holds the store, with its mark, and all of it is synced,
      pub ok : g.keeps_model new → OnOk result (IsStoreOf remaining (g.sector_count old) sources (g.content new))
      pub marked : g.keeps_model new → OnOk result (g.content new 0 ≡ mark)
      pub synced : g.keeps_model new → OnOk result ((k : ℕ) → g.unsynced new k → ⊥)
      -- and each reader that tells its bytes told enough of them.
      pub whole : OnOk result (AreWhole remaining sources (length sources))
      -- Whatever it returns, every image that a stop at any moment of the call might leave has no mark or all the rest of the store, and with its
      -- mark is the store, where the device had no mark and nothing unsynced.
      pub any_moment : g.keeps_model new → ((k : ℕ) → g.unsynced old k → ⊥) → (IsMark (g.content old 0) → ⊥)
          → LeavesOnly g old new (IsStoreIfMarked remaining (g.sector_count old) sources)
      -- The device keeps its size, and no sector is asked for but the mark, directory and gate, and the homes of the files:
      -- the mark is looked at, and then each of them asked for once at most.
      pub size : g.sector_count new ≡ g.sector_count old
      pub kept : g.keeps_model new → g.keeps_model old
      pub later : g.failures old ≤ g.failures new
      pub asks : AsksOnly g (IsStoreSector (total_pages sources)) old new
      pub once : LooksFirst (IsStoreSector (total_pages sources)) (g.asked old) (g.asked new)
      -- It is refused with `TooLarge` exactly where the files are too many or too large,
      pub too_large : IsErrOf result TooLarge ↔ IsTooLarge (g.sector_count old) sources
      -- with `Formatted` exactly where there is a mark, unless the device fails first,
      pub formatted : g.keeps_model new → IsErrOf result Formatted → IsMark (g.content old 0)
      pub not_formatted : g.keeps_model new → IsMark (g.content old 0) → IsErrOf result TooLarge ⊎ (IsErrOf result Formatted ⊎ IsErrOf result Device)
      -- and nothing was written then, nor where there is a mark, whatever is returned;
      pub spared : g.keeps_model new → IsMark (g.content old 0) → Touches g Nothing old new
      pub unwritten : g.keeps_model new → IsErrOf result TooLarge ⊎ IsErrOf result Formatted → Touches g Nothing old new
      -- with `Source` only where a reader was asked for bytes, and with `Device` exactly where the device failed.
      pub source : IsErrOf result Source → HasReader sources
      pub causes : HasFormatCauses (g.failures old) (g.failures new) result
      pub open causes use *
