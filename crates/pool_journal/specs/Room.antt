-- The steps of a commit over the journal of a pool: room is made, and free slots are filled.
use Rattle.std.specs.Prelude.{ℕ, ◌<◌, ◌≤◌, ◌≡◌, ◌⊎◌, Bool, List, length, Result, OnOk, IsErr, suc, get_or, ◌*◌, ◌+◌}
use Rattle.disk_model.specs.{Moments.{AsksOnly}, Stop.{NamesOnce}}
use Rattle.disk_model.specs.declared.sector_disk.DiskFault.{DiskFault}
use Rattle.disk_model.specs.declared.sector_disk.SectorDisk.{Ghosts}
use Rattle.pool_journal.specs.Commit.{thinned, IsThinned, IsDropped}
use Rattle.pool_journal.specs.Filling.{IsFilled, WritesSlots}
use Rattle.pool_journal.specs.Giving.{AreApart, AreFree, GivesFirst}
use Rattle.pool_journal.specs.Journal.{IsPoolJournal, live_count}
use Rattle.pool_journal.specs.Maps.{entries_of}
use Rattle.pool_journal.specs.Pools.{IsLooseHome, IsLooseSlot, IsSingle}
use Rattle.pool_journal.specs.declared.pool.PoolJournal.{PoolJournal}
use Rattle.pool_journal.specs.declared.slot.Slot.{Slot}
use Rattle.sync_journal.specs.declared.faults.CommitFault.{CommitFault}
use Rattle.sync_journal.specs.declared.source.PageSource as Pages
use Rattle.sync_journal.specs.Runs.{RunsOnDevice}

-- But for its next map a journal is as it was:
pub record ChangesNext (was now : PoolJournal) : Type 0 where
  pub is : IsPoolJournal now
  pub sizes : now.sizes ≡ was.sizes
  pub second : now.second ≡ was.second
  pub map : now.map ≡ was.map
  pub free : now.free ≡ was.free

-- Room is made for these homes:
pub record MakesRoom {D : Type 0} (g : Ghosts D) (homes : List ℕ) (was now : PoolJournal) (old new : D) (result : Result (Unit {0}) DiskFault) : Type 0 where
  -- the next map is the map, thinned by them, and the others that lose their slots are copied home;
  pub thins : g.keeps_model new → OnOk result (IsThinned was.sizes.blocks (entries_of was.map) (entries_of now.next) homes (g.content old) (g.content new))
  -- it gives each slot to what the map gives it to, or to none,
  pub keeps_slots : (body : Bool) (r : ℕ) → (entries_of now.next body r ≡ entries_of was.map body r) ⊎ (entries_of now.next body r ≡ 0)
  -- to homes of the device alone,
  pub homes_are : (body : Bool) (r : ℕ) → entries_of now.next body r ≤ was.sizes.homes
  -- none to these, nor two to one where none had two,
  pub new_homes : (body : Bool) (r j : ℕ) → j < length homes → entries_of now.next body r ≡ suc (get_or homes j 0) → ⊥
  pub single : IsSingle was.sizes.blocks (entries_of was.map) → IsSingle was.sizes.blocks (entries_of now.next)
  -- no more than leave it a body's slots beside those for these, where they are no more than a body has;
  pub room : OnOk result (length homes ≤ 504 * was.sizes.blocks → live_count was.sizes.blocks (entries_of now.next) + length homes ≤ 504 * was.sizes.blocks)
  -- and nothing else of the journal changes.
  pub changes : ChangesNext was now
  pub open changes use *
  -- No sector is written but of homes that have slots,
  pub run : RunsOnDevice g (IsLooseHome was.sizes.blocks (thinned homes (entries_of was.map))) old new
  pub open run use *
  -- nor any asked for but these and their slots, where they have to be dropped, and where no home has two none twice;
  pub asks : AsksOnly g (IsDropped was.sizes.blocks (entries_of was.map) homes) old new
  pub once : IsSingle was.sizes.blocks (entries_of was.map) → NamesOnce (IsDropped was.sizes.blocks (entries_of was.map) homes) (g.asked old) (g.asked new)
  -- or the device failed.
  pub failed : IsErr result → g.failures old < g.failures new
  pub calm : OnOk result (g.failures new ≡ g.failures old)

-- the slots that a journal has listed for a commit
abbrev pub slots_of : PoolJournal → List Slot
slots_of journal = journal.taken.slots.items

-- Free slots are filled:
pub record FillsSlots {D S : Type 0} (g : Ghosts D) (s : Pages.Ghosts S) (homes : List ℕ) (was now : PoolJournal) (old new : D) (from left : S) (result : Result (Unit {0}) CommitFault) : Type 0 where
  -- those that are listed, one for each home, hold the pages that the source gives, and no other sector is written or asked for;
  pub fills : WritesSlots g s was.sizes.blocks (slots_of now) (length homes) (IsLooseSlot was.sizes.blocks (entries_of was.map)) old new from left result
  pub open fills use *
  pub asks_slots : AsksOnly g (IsFilled was.sizes.blocks (slots_of now) (length homes)) old new
  -- the next map gives them to the homes,
  pub given : OnOk result (GivesFirst (length homes) (slots_of now) homes was.next now.next)
  -- they are as many, and free, and none is listed twice,
  pub long : length (slots_of now) ≡ length homes
  pub are : AreFree was.sizes.blocks (entries_of was.map) (slots_of now)
  pub apart : AreApart (slots_of now)
  -- and nothing else of the journal changes.
  pub changes : ChangesNext was now
