-- What a load, a store and a fetch ask for, and when they change nothing; what a spawn and a fork take of memory; that calls on
-- ranges take none, and which pages and entries they leave; which sectors of the two devices each of them asks for that asks any;
-- and that the history is told without any change.
use Rattle.vm_types.specs.declared.mode.Levels as Levels
use Rattle.std.specs.Prelude.{ℕ, ◌≡◌, ◌≢◌, ◌/◌, ◌%◌, None}
use Rattle.disk_model.specs.declared.sector_disk.SectorDisk.{Ghosts}
use Rattle.disk_model.specs.Moments.{AsksOnly, Nothing}
use Rattle.disk_model.specs.Stop.{NamesOnce}
use Rattle.fault.specs.Asking.{AsksIfFull, AsksSlots, IsSectorOfPage}
use Rattle.fault.specs.Outcome.{IsWalked}
use Rattle.msync.specs.Asking.{AsksToCommit}
use Rattle.msync.specs.Settling.{SettlesMemory}
use Rattle.page_cache.specs.declared.place.Place.TheVariants.{Home}
use Rattle.residency.specs.Calls.{Refuses}
use Rattle.residency.specs.Picture.{picture_of}
use Rattle.residency.specs.declared.kernel.Core.{Core}
use Rattle.sized_stores.specs.Store.{IsSectorOf, disk_of}
use Rattle.spaces.specs.Accesses.{AsksFor, WritesNumber}
use Rattle.spaces.specs.Processes.{ForkTakes, SpawnTakes}
use Rattle.spaces.specs.Ranges.{EmptiesRange, KeepsEntriesBeside, PermitsRange, TakesNothing, first_mapped}
use Rattle.truncation.specs.Resizing.{WantsEnd, length_now, page_cut}
use Rattle.vm_types.specs.Checks.{page_count}
use Rattle.vm_types.specs.Limits.{user_end}
use Rattle.vm_types.specs.declared.access.Access.TheVariants as Access
use Rattle.vm_types.specs.declared.command.Command.{Command}
use Rattle.vm_types.specs.declared.command.Command.TheVariants.{Spawn, Fork, Exit, Mmap, Munmap, Mprotect, Dontneed, Msync, Truncate, Load, Store, Fetch, PastFaults}
use Rattle.vm_types.specs.declared.number.Phys.{Phys}
use Rattle.vm_types.specs.declared.object.PageKey.TheVariants.{File}
use Rattle.vm_types.specs.declared.refusal.Stall.{Stall}
use Rattle.vm_types.specs.declared.refusal.Stall.TheVariants.{StoreDevice}
use Rattle.vm_types.specs.declared.reply.Reply.{Reply}
use Rattle.vm_types.specs.declared.reply.Reply.TheVariants.{Done, Stalled}
use Rattle.vm_types.specs.declared.width.Width.TheVariants.{Four}

module _ {M : Type 0} {levels : Levels.Ghosts M} {D E : Type 0} (g : Ghosts D) (h : Ghosts E) where
  -- A truncate asks for no more than it wants, with lengths in bytes:
  pub record AsksForEnd (old new : Core D E M levels) (file length : ℕ) (reply : Reply) : Type 0 where
    -- nothing changes where the file is so long already;
    pub still : length_now old file ≡ length → new ≡ old
    -- of the store it asks for no sector but those of the page within which the shorter of the two lengths ends, each once at most, and of swap for
    -- none but that page's and, where no frame is free, those of free slots;
    pub asks : AsksOnly g (IsSectorOf old.store (page_cut old file length)) (disk_of old.store) (disk_of new.store)
    pub once : NamesOnce (IsSectorOf old.store (page_cut old file length)) (g.asked (disk_of old.store)) (g.asked (disk_of new.store))
    pub asks_swap : AsksIfFull h old new None (IsSectorOfPage (picture_of old) (File (page_cut old file length)))
    -- it stalls only where a frame is wanted for that page, for the store's device only where that is to be read from its home, and for want of
    -- frames or slots only where none could be given up.
    pub wanted : (stall : Stall) → reply ≡ Stalled stall → WantsEnd (picture_of old) file (length_now old file) length
    pub home : reply ≡ Stalled StoreDevice → (picture_of old).place (File (page_cut old file length)) ≡ Home
    pub refuses : (stall : Stall) → reply ≡ Stalled stall → stall ≢ StoreDevice → Refuses (picture_of new) None stall

  -- An access asks for no more than it wants, and the devices for sectors of its page and of free slots alone. Where the tables grant it
  -- nothing changes, but the number that a store writes. A spawn and a fork take frames for tables alone, and give others up only for
  -- that; they ask swap for free slots alone, a spawn only where no frame is free, and the store for nothing. An exit and a call on a
  -- range take no frame and drop no page, and a call on a range changes no entry beside it; in it an mmap and a dontneed leave none, and
  -- an mprotect those of the permission over the same frames. An msync takes no frame either, and of its entries none loses more than
  -- D; it asks swap for slots of the pages that it takes alone, and the store for what a commit writes.
  -- A truncate asks the devices for one page and for free slots alone, and telling the history changes nothing.
  abbrev pub Accesses : Core D E M levels → Core D E M levels → Command → Reply → Type 0
  Accesses old new (Load pid addr width) reply =
      AsksFor g h old new pid addr Access.Load reply × ((place : Phys) → IsWalked (picture_of old) pid addr width Access.Load place → new ≡ old)
  Accesses old new (Fetch pid addr) reply =
      AsksFor g h old new pid addr Access.Fetch reply × ((place : Phys) → IsWalked (picture_of old) pid addr Four Access.Fetch place → new ≡ old)
  Accesses old new (Store pid addr stored) reply =
      AsksFor g h old new pid addr Access.Store reply × ((place : Phys) → IsWalked (picture_of old) pid addr stored.width Access.Store place
      → reply ≡ Done → WritesNumber old new (place.0 / 4096) (addr % 4096) stored)
  Accesses old new Spawn reply = SpawnTakes (picture_of old) (picture_of new) reply × (new.store ≡ old.store) × AsksIfFull h old new None Nothing
  Accesses old new (Fork pid) reply = ForkTakes (picture_of old) (picture_of new) pid reply × (new.store ≡ old.store) × AsksSlots h old new None Nothing
  Accesses old new (Exit pid) reply = TakesNothing (picture_of old) (picture_of new) pid 0 (user_end levels.mode)
  Accesses old new (Mmap pid addr len prot source placing) reply =
      TakesNothing (picture_of old) (picture_of new) pid (first_mapped reply) (page_count len)
      × EmptiesRange (picture_of old) (picture_of new) pid (first_mapped reply) (page_count len) reply
  Accesses old new (Munmap pid addr len) reply =
      TakesNothing (picture_of old) (picture_of new) pid (addr / 4096) (page_count len)
      × KeepsEntriesBeside (picture_of old) (picture_of new) pid (addr / 4096) (page_count len)
  Accesses old new (Mprotect pid addr len prot) reply =
      TakesNothing (picture_of old) (picture_of new) pid 0 0 × PermitsRange (picture_of old) (picture_of new) pid (addr / 4096) (page_count len) prot reply
  Accesses old new (Dontneed pid addr len) reply =
      TakesNothing (picture_of old) (picture_of new) pid 0 0 × EmptiesRange (picture_of old) (picture_of new) pid (addr / 4096) (page_count len) reply
  Accesses old new (Msync pid addr len mode) reply = SettlesMemory (picture_of old) (picture_of new) × AsksToCommit g h old new pid addr len
  Accesses old new (Truncate file length) reply = AsksForEnd old new file length reply
  Accesses old new PastFaults reply = new ≡ old
