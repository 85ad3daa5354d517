-- When a truncate is refused, what it keeps whatever comes of it, and what it asks for. Lengths are in bytes.
use Rattle.vm_types.specs.declared.mode.Levels as Levels
use Rattle.std.specs.Prelude.{ℕ, ◌≡◌, ◌≢◌, ◌<◌, ◌≤◌, Bool, true, not, nat_lt, List, [], ◌∷◌, None, is_none, Some}
use Rattle.disk_model.specs.{Moments.{AsksOnly}, Stop.{NamesOnce}}
use Rattle.disk_model.specs.declared.sector_disk.SectorDisk.{Ghosts}
use Rattle.fault.specs.{Asking.{AsksIfFull, IsSectorOfPage}, Changes.{KeepsSeen, KeepsSpaces}}
use Rattle.page_cache.specs.declared.place.Place.TheVariants.{Home}
use Rattle.residency.specs.{Calls.{Refuses, UsesDevice}, Picture.{picture_of}, Reading.{ReadsStore}}
use Rattle.residency.specs.declared.kernel.Core.{Core}
use Rattle.sized_stores.specs.{Resizing.{ResizesFile}, Store.{IsSectorOf, disk_of}}
use Rattle.sized_stores.specs.declared.store.SizedStore.{SizedStore}
use Rattle.truncation.specs.Resizing.{WantsEnd, length_now, page_cut}
use Rattle.vm_types.specs.{Checks.{Check, first_of}, Files.{Files, is_unwritable}, Limits.{file_limit, longest_file}}
use Rattle.vm_types.specs.declared.file.FileInfo.{FileInfo}
use Rattle.vm_types.specs.declared.object.PageKey.TheVariants.{File}
use Rattle.vm_types.specs.declared.refusal.Errno.TheVariants.{EBADF, EACCES, EINVAL, EFBIG}
use Rattle.vm_types.specs.declared.refusal.Stall.{Stall}
use Rattle.vm_types.specs.declared.refusal.Stall.TheVariants.{StoreDevice}
use Rattle.vm_types.specs.declared.reply.Reply.{Reply}
use Rattle.vm_types.specs.declared.reply.Reply.TheVariants.{Done, Stalled}
use Rattle.spaces.specs.Calls.{AccountsFor}

-- the checks of a truncate in their order, over files that may get other lengths, or may not
abbrev pub resize_checks : Files → Bool → ℕ → ℕ → List Check
resize_checks files resizes file length =
    (is_none (files file), EBADF)
    ∷ (is_unwritable (files file), EACCES)
    ∷ (not resizes, EINVAL)
    ∷ (nat_lt longest_file length, EFBIG)
    ∷ []

-- A file that may get that length, of which these are the facts now.
pub record IsResizable (files : Files) (resizes : Bool) (file length : ℕ) (info : FileInfo) : Type 0 where
  pub fine : first_of (resize_checks files resizes file length) ≡ None
  pub there : files file ≡ Some info
  pub number : file < file_limit
  pub can : resizes ≡ true
  pub most : length ≤ longest_file

module _ {M : Type 0} {m : Levels.Ghosts M} {D E : Type 0} (g : Ghosts D) (h : Ghosts E) where
  -- A truncate keeps to its file, whatever comes of it:
  pub record KeepsToFile (old new : Core D E M m) (file length : ℕ) (reply : Reply) : Type 0 where
    -- it accounts for what it did,
    pub accounts : AccountsFor g h old new reply
    pub open accounts use *
    -- and changes nothing where the file is so long already.
    pub still : length_now old file ≡ length → new ≡ old
    -- The store is read at most, and then, where the call is done and the file wasn't so long, the file has that length in it, and else it is left;
    pub found : SizedStore D
    pub reads : ReadsStore g old.store found
    pub resizes : reply ≡ Done → length_now old file ≢ length → ResizesFile g found new.store file length
    pub left : (reply ≡ Done → length_now old file ≡ length) → new.store ≡ found
    -- the swap device is read and written at most,
    pub device : UsesDevice h old.swap.pages.disk new.swap.pages.disk
    -- the same processes live, with the same pages mapped, and where it stalls nobody sees a change.
    pub spaces : KeepsSpaces (picture_of old) (picture_of new)
    pub seen : (stall : Stall) → reply ≡ Stalled stall → KeepsSeen (picture_of old) (picture_of new)
    -- No device is asked unless a frame is wanted for the page within which the shorter of the two lengths ends, and then the store for no sector
    -- but those of that page, each once at most, and swap for none but that page's and, where no frame is free, those of free slots.
    pub idle : (WantsEnd (picture_of old) file (length_now old file) length → ⊥) → (found ≡ old.store) × (new.swap.pages ≡ old.swap.pages)
    pub asks : AsksOnly g (IsSectorOf old.store (page_cut old file length)) (disk_of old.store) (disk_of new.store)
    pub once : NamesOnce (IsSectorOf old.store (page_cut old file length)) (g.asked (disk_of old.store)) (g.asked (disk_of new.store))
    pub asks_swap : AsksIfFull h old new None (IsSectorOfPage (picture_of old) (File (page_cut old file length)))
    -- It stalls only where a frame is wanted for that page, for the store's device only where that is to be read from its home, and for want
    -- of frames or slots only where none could be given up.
    pub wanted : (stall : Stall) → reply ≡ Stalled stall → WantsEnd (picture_of old) file (length_now old file) length
    pub home : reply ≡ Stalled StoreDevice → (picture_of old).place (File (page_cut old file length)) ≡ Home
    pub refuses : (stall : Stall) → reply ≡ Stalled stall → stall ≢ StoreDevice → Refuses (picture_of new) None stall
