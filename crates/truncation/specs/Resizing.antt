-- What giving a file another length comes to, in the store and in memory. Lengths are in bytes. truncate(2), mmap(2).
use Rattle.vm_types.specs.declared.mode.Levels as Levels
use Rattle.std.specs.Prelude.{◌≡◌, ◌≢◌, ℕ, ◌*◌, ◌/◌, ◌%◌, ◌<◌, ◌≤◌, min, Bool, true, ◌||◌, nat_lt, length}
use Rattle.std.specs.Prelude.{None, Result, Ok, Err, IsSome, OnOk, OnErr, IfErr, MatchResult}
use Rattle.vm_types.specs.Files.{bytes_inside, cut}
use Rattle.vm_types.specs.Limits.{longest_file}
use Rattle.vm_types.specs.State.{State, home_page}
use Rattle.vm_types.specs.Truncation.{length_in, truncated}
use Rattle.vm_types.specs.declared.file.FilePage.{FilePage}
use Rattle.vm_types.specs.declared.number.FrameNo.{FrameNo}
use Rattle.vm_types.specs.declared.object.PageKey.{PageKey}
use Rattle.vm_types.specs.declared.object.PageKey.TheVariants.{File}
use Rattle.vm_types.specs.declared.refusal.Stall.{Stall}
use Rattle.vm_types.specs.declared.refusal.Stall.TheVariants.{StoreDevice}
use Rattle.disk_model.specs.declared.sector_disk.SectorDisk.{Ghosts}
use Rattle.disk_model.specs.Moments.{AsksOnly}
use Rattle.disk_model.specs.Stop.{NamesOnce}
use Rattle.file_store.specs.Standing.{IsPageOf}
use Rattle.sized_stores.specs.declared.store.SizedStore.{SizedStore}
use Rattle.sized_stores.specs.Resizing.{ResizesFile}
use Rattle.sized_stores.specs.Store.{can_resize, directory_of, disk_of, files_of, length_of, shortest_in, IsReadySized, IsSectorOf}
use Rattle.frames.specs.FrameTable.{bytes_of, with_bytes}
use Rattle.page_cache.specs.declared.place.Place.TheVariants.{Home, Frame}
use Rattle.swap.specs.Slots.{IsReady}
use Rattle.residency.specs.declared.kernel.Core.{Core}
use Rattle.residency.specs.Calls.{Refuses, UsesDevice}
use Rattle.residency.specs.Capacity.{IsShort}
use Rattle.residency.specs.Parts.{IsFit}
use Rattle.residency.specs.Picture.{Picture, picture_of}
use Rattle.residency.specs.Reading.{ReadsStore, page_at_home}
use Rattle.residency.specs.Shows.{ShowsPages}
use Rattle.residency.specs.Stalls.{HasReadCause}
use Rattle.fault.specs.Asking.{AsksIfFull, IsSectorOfPage}
use Rattle.fault.specs.Changes.{KeepsRoom, KeepsSeen, KeepsSpaces}
use Rattle.fault.specs.PagingIn.{PagesIn}

-- the page within which a file of so many bytes ends
abbrev pub end_page : ℕ → ℕ → FilePage
end_page file end = record { file = file; page = end / 4096 }

module _ {D : Type 0} where
  -- A state says of a file what its store keeps of it:
  pub record TellsFile (store : SizedStore D) (s : State) (file : ℕ) : Type 0 where
    -- how short it has been since its length was made durable;
    pub shortest : s.shortest file ≡ shortest_in (directory_of store) file
    -- its durable pages have the bytes that were not cut off since,
    pub durable : (k : ℕ) → bytes_inside (s.shortest file) k ≤ length (s.durable.pages file k)
    -- and its pages, as all mappings see them, no more than 4,096.
    pub pages : (k : ℕ) → 4096 * k < length_in (s.files file) → length (s.volatile file k) ≤ 4096

module _ {D : Type 0} (g : Ghosts D) where
  -- each page of a file would be read from the store as the state keeps it
  abbrev pub AreHomes : SizedStore D → State → Type 0
  AreHomes store s = (p : FilePage) → IsPageOf (files_of store) p.file p.page → page_at_home g store p ≡ home_page s p.file p.page

module _ {mode : ℕ} where
  -- Nothing of a file of so many bytes has to be cut in memory before it gets another length:
  pub data IsSettled (c : Picture mode) (file was length : ℕ) : Type 0 where
    -- the shorter of the two lengths ends where a page does,
    AtPage : min was length % 4096 ≡ 0 → IsSettled c file was length
    -- or the file gets shorter, and the page within which it is to end is at home.
    AtHome : length < was → c.place (File (end_page file length)) ≡ Home → IsSettled c file was length

  -- A frame is wanted for the page within which the shorter of the two lengths ends:
  pub record WantsEnd (c : Picture mode) (file was length : ℕ) : Type 0 where
    -- it ends within one, and not where one does,
    pub within : min was length % 4096 ≢ 0
    -- that page lies in no frame,
    pub away : (n : FrameNo) → c.place (File (end_page file (min was length))) ≢ Frame n
    -- and where the page is at home, the file gets no shorter.
    pub no_shorter : c.place (File (end_page file (min was length))) ≡ Home → was ≤ length

module _ {M : Type 0} {m : Levels.Ghosts M} {D E : Type 0} where
  -- A page of a file is cut in its frame:
  pub record CutsFrame (old new : Core D E M m) (page : FilePage) (frame n : ℕ) (marks : Bool) : Type 0 where
    -- its bytes from byte n on are zeros,
    pub frames : new.frames ≡ with_bytes old.frames frame (cut n (bytes_of old.frames frame))
    -- it is touched if it was, or if told so,
    pub touched : (picture_of new).touched (File page) ≡ ((picture_of old).touched (File page) || marks)
    -- and nothing else is otherwise.
    pub others : (p : PageKey) → p ≢ File page → (picture_of new).touched p ≡ (picture_of old).touched p
    pub place : (p : PageKey) → (picture_of new).place p ≡ (picture_of old).place p
    pub store : new.store ≡ old.store
    pub swap : new.swap ≡ old.swap
    pub roots : new.roots ≡ old.roots
    pub regions : new.regions ≡ old.regions
    pub page_of : new.page_of ≡ old.page_of
    pub refused : new.refused ≡ old.refused

  -- each page within which a file has got longer again since its length was made durable is touched
  abbrev pub AreEndsTouched : Core D E M m → Type 0
  AreEndsTouched c = (f : ℕ) → shortest_in (directory_of c.store) f < length_of (files_of c.store f) → shortest_in (directory_of c.store) f % 4096 ≢ 0
      → (picture_of c).touched (File (end_page f (shortest_in (directory_of c.store) f))) ≡ true

  -- the length that a file has now
  abbrev pub length_now : Core D E M m → ℕ → ℕ
  length_now c file = length_of (files_of c.store file)

  -- the page within which the shorter ends of the length that a file has now and another length
  abbrev pub page_cut : Core D E M m → ℕ → ℕ → FilePage
  page_cut c file length = end_page file (min (length_now c file) length)

module _ {M : Type 0} {m : Levels.Ghosts M} {D E : Type 0} (g : Ghosts D) (h : Ghosts E) where
  -- A page of a file is cut in a frame:
  pub record CutsPage (old new : Core D E M m) (page : FilePage) (n : ℕ) (marks : Bool) : Type 0 where
    -- it is brought into one, unless it lies in one,
    pub found : Core D E M m
    pub frame : FrameNo
    pub brings : PagesIn g h old found (File page) (Ok frame)
    pub idle : (n : FrameNo) → (picture_of old).place (File page) ≡ Frame n → found ≡ old
    -- and cut there, and memory is fit.
    pub cuts : CutsFrame found new page frame.0 n marks
    pub fit : IsFit (picture_of new)

  -- A page of a file isn't to be had in a frame:
  pub record LacksPage (old new : Core D E M m) (page : FilePage) (stall : Stall) : Type 0 where
    -- it lies in none,
    pub away : (n : FrameNo) → (picture_of old).place (File page) ≢ Frame n
    -- and stays where it was.
    pub stays : PagesIn g h old new (File page) (Err stall)

  -- a page of a file is cut in a frame, or isn't to be had in one
  abbrev pub CutsOrLacks : Core D E M m → Core D E M m → FilePage → ℕ → Bool → Result (Unit {0}) Stall → Type 0
  CutsOrLacks old new page n marks result = MatchResult result (λ done. CutsPage old new page n marks) (λ stall. LacksPage old new page stall)

  -- The page within which the shorter of a file's two lengths ends is made ready:
  pub data SettlesEnd (old new : Core D E M m) (file was length : ℕ) (result : Result (Unit {0}) Stall) : Type 0 where
    -- nothing has to be cut,
    NeedsNoCut : IsSettled (picture_of old) file was length → new ≡ old → OnErr result ⊥ → SettlesEnd old new file was length result
    -- or the page is cut, and touched where the file gets longer, or isn't to be had in a frame.
    NeedsCut : (IsSettled (picture_of old) file was length → ⊥)
        → CutsOrLacks old new (end_page file (min was length)) (min was length % 4096) (nat_lt was length) result → SettlesEnd old new file was length result

  -- A file may get another length:
  pub record MayResize (core : Core D E M m) (file length : ℕ) : Type 0 where
    -- memory is fit, both devices may be used,
    pub fit : IsFit (picture_of core)
    pub store : IsReadySized g core.store
    pub swap : IsReady h core.swap
    -- files may get other lengths, the file is there,
    pub can : can_resize core.store ≡ true
    pub there : IsSome (files_of core.store file)
    -- and a file can have that length.
    pub most : length ≤ longest_file

  -- Memory goes on, whatever comes of a call:
  pub record GoesOn (old new : Core D E M m) : Type 0 where
    -- it is fit, and both devices may be used further,
    pub fit : IsFit (picture_of new)
    pub ready : IsReadySized g new.store
    pub swap : IsReady h new.swap
    -- the same processes live, with the same regions, over as many frames and slots,
    pub spaces : KeepsSpaces (picture_of old) (picture_of new)
    pub room : KeepsRoom (picture_of old) (picture_of new)
    -- and the swap device was read and written at most.
    pub device : UsesDevice h old.swap.pages.disk new.swap.pages.disk

  -- A file gets another length:
  pub record Resizes (old new : Core D E M m) (file length : ℕ) (result : Result (Unit {0}) Stall) : Type 0 where
    -- memory goes on, whatever comes of it;
    pub goes_on : GoesOn old new
    pub open goes_on use *
    -- the store is read at most, and then the file has that length in it, unless a page isn't to be had in a frame;
    pub found : SizedStore D
    pub reads : ReadsStore g old.store found
    pub resizes : OnOk result (ResizesFile g found new.store file length)
    pub left : OnErr result (new.store ≡ found)
    -- memory shows the file so long then, or else what it showed, as long as both devices keep the disk model;
    pub shows : (s : State) → ShowsPages (picture_of old) s → AreHomes g old.store s → TellsFile old.store s file
        → g.keeps_model (disk_of new.store) → h.keeps_model new.swap.pages.disk → OnOk result (ShowsPages (picture_of new) (truncated s file length))
    pub stays : (s : State) → ShowsPages (picture_of old) s → AreHomes g old.store s → g.keeps_model (disk_of new.store) → h.keeps_model new.swap.pages.disk
        → OnErr result (ShowsPages (picture_of new) s)
    pub seen : OnErr result (KeepsSeen (picture_of old) (picture_of new))
    -- where each page is touched within which a file has got longer again, that is still so;
    pub ends : AreEndsTouched old → AreEndsTouched new
    -- no device is asked unless a frame is wanted for the page within which the shorter length ends, and then the store for no sector but those
    -- of that page, each once at most, and swap for none but that page's and, where no frame is free, those of free slots;
    pub idle : (WantsEnd (picture_of old) file (length_now old file) length → ⊥) → (found ≡ old.store) × (new.swap.pages ≡ old.swap.pages)
    pub asks : AsksOnly g (IsSectorOf old.store (page_cut old file length)) (disk_of old.store) (disk_of new.store)
    pub once : NamesOnce (IsSectorOf old.store (page_cut old file length)) (g.asked (disk_of old.store)) (g.asked (disk_of new.store))
    pub asks_swap : AsksIfFull h old new None (IsSectorOfPage (picture_of old) (File (page_cut old file length)))
    -- a stall has its cause, and else nothing is counted: a frame was wanted for that page, and none was to be had, or a device failed.
    pub cause : HasReadCause g h old new result
    pub wanted : OnErr result (WantsEnd (picture_of old) file (length_now old file) length)
    pub home : IfErr result (λ stall. stall ≡ StoreDevice → (picture_of old).place (File (page_cut old file length)) ≡ Home)
    pub refuses : IfErr result (λ stall. stall ≢ StoreDevice → Refuses (picture_of new) None stall)
    pub short : IfErr result (IsShort (picture_of new))
