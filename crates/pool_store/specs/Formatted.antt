-- What a format of layout 4 does.
use Rattle.std.specs.Prelude.{ℕ, ◌≤◌, ◌≡◌, ◌⊎◌, ◌↔◌, List, length, Option, Result, OnOk, IsErrOf}
use Rattle.disk_model.specs.{Moments.{Touches, AsksOnly, Nothing, LeavesOnly}, Stop.{Image}}
use Rattle.disk_model.specs.declared.sector_disk.SectorDisk.{Ghosts}
use Rattle.directories.specs.Kinds.{IsKind}
use Rattle.file_store.specs.{Blocks.{KindBehind, KindLast, MakesByBlocks}, Format.{AreWhole, HasReader, IsFrom, total_pages}, Making.{HasFormatCauses, LooksFirst}}
use Rattle.file_store.specs.declared.{faults.FormatFault.{FormatFault}, faults.FormatFault.TheVariants.{TooLarge, Formatted, Source, Device}, sources.FileSource.{FileSource}}
use Rattle.file_store.specs.Layout.{IsMark}
use Rattle.pool_store.specs.Format.{IsPoolIfHeaded, IsPoolOrNone, IsPoolStoreOf, IsPoolStoreSector, IsTooLargeFor, new_pages}
use Rattle.pool_store.specs.Pools.{pool_mark}

module _ {D : Type 0} (g : Ghosts D) where
  -- All of a new store but the mark is written and synced:
  pub record WritesKindLast {T E : Type 0} (m : ℕ) (Q : Image → Type 0) (old new : D) (result : Result T E) : Type 0 where
    -- first what lies outside the block of the mark, which has Q when it is synced, and then the kind, or not so far yet;
    pub epochs : KindLast g (IsFrom 8) Q old new
    -- after Ok so far,
    pub kind_behind : OnOk result (KindBehind g (IsFrom 8) Q old new)
    pub kind : OnOk result (IsKind m new_pages (g.content new 1))
    -- and nothing is unsynced.
    pub synced : OnOk result ((k : ℕ) → g.unsynced new k → ⊥)

  module _ {R T : Type 0} where
    -- A store of these sources' files, with maps of m blocks, is made on a device:
    pub record FormatsPool (m : ℕ) (remaining : R → Option (List ℕ)) (sources : List (FileSource R)) (old new : D) (result : Result T FormatFault) : Type 0 where
      -- after Ok it holds the store, with its mark, and all of it is synced,
      pub ok : g.keeps_model new → OnOk result (IsPoolStoreOf m remaining (g.sector_count old) sources (g.content new))
      pub marked : g.keeps_model new → OnOk result (g.content new 0 ≡ pool_mark)
      pub synced : g.keeps_model new → OnOk result ((k : ℕ) → g.unsynced new k → ⊥)
      -- and each reader that tells its bytes told enough of them.
      pub whole : OnOk result (AreWhole remaining sources (length sources))
      -- Whatever it returns, every image that a stop at any moment of the call might leave lacks the mark or is the store, and is no other, where
      -- the device had no mark and nothing unsynced.
      pub any_moment : g.keeps_model new → ((k : ℕ) → g.unsynced old k → ⊥) → (IsMark (g.content old 0) → ⊥)
          → LeavesOnly g old new (IsPoolOrNone m remaining (g.sector_count old) sources)
      -- So it is, too, where a stop leaves any bytes in each block of 4,096 bytes that was written to since the last sync: an image with kind and
      -- mark is the store.
      pub blocks : g.keeps_model new → ((k : ℕ) → g.unsynced old k → ⊥) → (IsMark (g.content old 0) → ⊥)
          → MakesByBlocks g (IsPoolIfHeaded m remaining (g.sector_count old) sources) old new
      -- The device keeps its size, and no sector is asked for but the mark, the kind, the gate, the block of the first map that says how many count,
      -- and the homes of directory and files: the mark is looked at, and then each of them asked for once at most.
      pub size : g.sector_count new ≡ g.sector_count old
      pub kept : g.keeps_model new → g.keeps_model old
      pub later : g.failures old ≤ g.failures new
      pub asks : AsksOnly g (IsPoolStoreSector m (total_pages sources)) old new
      pub once : LooksFirst (IsPoolStoreSector m (total_pages sources)) (g.asked old) (g.asked new)
      -- It is refused with `TooLarge` exactly where the files are too many or too large,
      pub too_large : IsErrOf result TooLarge ↔ IsTooLargeFor m (g.sector_count old) sources
      -- with `Formatted` exactly where there is a mark, unless the device fails first,
      pub formatted : g.keeps_model new → IsErrOf result Formatted → IsMark (g.content old 0)
      pub not_formatted : g.keeps_model new → IsMark (g.content old 0) → IsErrOf result TooLarge ⊎ (IsErrOf result Formatted ⊎ IsErrOf result Device)
      -- and nothing was written then, nor where there is a mark, whatever is returned;
      pub spared : g.keeps_model new → IsMark (g.content old 0) → Touches g Nothing old new
      pub unwritten : g.keeps_model new → IsErrOf result TooLarge ⊎ IsErrOf result Formatted → Touches g Nothing old new
      -- with `Source` only where a reader was asked for bytes, and with `Device` exactly where the device failed.
      pub source : IsErrOf result Source → HasReader sources
      pub causes : HasFormatCauses (g.failures old) (g.failures new) result
      pub open causes use *
