-- How processes and files over a store are a state of the flat model, stops included.
use Rattle.std.specs.Prelude.{ℕ, ◌+◌, ◌/◌, ◌%◌, ◌<◌, ◌≤◌, ◌≡◌, Bool, true, length, Some}
use Rattle.vm_types.specs.declared.mode.Levels as Levels
use Rattle.disk_model.specs.{Moments.{LeavesNow}, Stop.{Image}}
use Rattle.disk_model.specs.declared.sector_disk.SectorDisk.{Ghosts}
use Rattle.stores.specs.Images.{most_pages, StandsForContents}
use Rattle.stores.specs.Store.{always_free_in, HasRoom}
use Rattle.sized_stores.specs.Store.{disk_of, kept_of, directory_of, durable_files_of, durable_in, files_in, shortest_in, length_of, is_resized_in, can_resize, IsReadySized, SizedDirectory}
use Rattle.swap.specs.Slots.{slots_of, IsReady}
use Rattle.frames.specs.FrameTable.{frame_count}
use Rattle.vm_types.specs.State.{State}
use Rattle.vm_types.specs.declared.{file.{FileInfo.{FileInfo}, FilePage.{FilePage}}, object.PageKey.{PageKey}}
use Rattle.vm_types.specs.declared.object.PageKey.TheVariants.{File}
use Rattle.residency.specs.declared.kernel.Core.{Core}
use Rattle.residency.specs.Parts.{IsFit}
use Rattle.residency.specs.Picture.{picture_of}
use Rattle.residency.specs.Shows.{ShowsPages}

-- for how many pages a room for what an msync takes has places, for how many frames and slots it has ranks, and for how many files it has places
pub record RoomSize : Type 0 where
  pub most : ℕ
  pub ranks : ℕ
  pub files : ℕ

-- the image says that every commit may take so many pages
abbrev pub SaysMost : ℕ → ℕ → Image → Type 0
SaysMost sectors most image = most_pages sectors image ≡ most

-- the page within which a file was cut off, since it has been so short
abbrev pub cut_off_page : SizedDirectory → ℕ → FilePage
cut_off_page d f = record { file = f; page = shortest_in d f / 4096 }

-- What is known of files that have got other lengths since theirs were made durable:
pub record MarksEnds (d : SizedDirectory) (touched : PageKey → Bool) : Type 0 where
  -- each is there durably,
  pub there : (f : ℕ) → is_resized_in d.sizes f ≡ true → (info : FileInfo) × (durable_in d f ≡ Some info)
  -- and where one has got longer again from within a page, that page is touched.
  pub ends : (f : ℕ) → is_resized_in d.sizes f ≡ true → shortest_in d f < length_of (files_in d f) → (shortest_in d f % 4096 ≡ 0 → ⊥) → touched (File (cut_off_page d f)) ≡ true

module _ {M : Type 0} {m : Levels.Ghosts M} {D E : Type 0} (g : Ghosts D) where
  -- The memory shows the state,
  pub record CoreShows (c : Core D E M m) (s : State) : Type 0 where
    pub pages : ShowsPages (picture_of c) s
    -- the durable files are those of the store, whose pages have 4,096 bytes each,
    pub files : (f : ℕ) → s.durable.files f ≡ durable_files_of c.store f
    pub whole : (f k : ℕ) → length (s.durable.pages f k) ≡ 4096
    -- files may get other lengths where the state says so, the same files have got one, and each has been as short,
    pub resizes : s.resizes ≡ can_resize c.store
    pub resized : (f : ℕ) → s.resized f ≡ is_resized_in c.store.sizes.items f
    pub shortest : (f : ℕ) → s.shortest f ≡ shortest_in (directory_of c.store) f
    -- an msync takes as many pages as the store always takes, and every image that a stop may leave now stands for what is durable, and says as many
    -- pages.
    pub most : s.most ≡ always_free_in (kept_of c.store)
    pub stands : g.keeps_model (disk_of c.store) → LeavesNow g (disk_of c.store) (StandsForContents (g.sector_count (disk_of c.store)) s.durable)
    pub most_stands : g.keeps_model (disk_of c.store) → LeavesNow g (disk_of c.store) (SaysMost (g.sector_count (disk_of c.store)) s.most)

  -- The room for what an msync takes has places for as many pages as the store always takes, a rank for each frame and each slot, and a place for
  -- each file that may get another length.
  pub record HasSyncRoom (c : Core D E M m) (room : RoomSize) : Type 0 where
    pub most : room.most ≡ always_free_in (kept_of c.store)
    pub ranks : frame_count c.frames + (slots_of c.swap).total ≤ room.ranks
    pub files : length c.store.sizes.items ≤ room.files

  module _ (h : Ghosts E) where
    -- Between two calls:
    pub record IsSoundCore (c : Core D E M m) : Type 0 where
      -- the store may be read, and committed to as often as msync asks,
      pub ready : IsReadySized g c.store
      pub room : HasRoom (kept_of c.store)
      -- slots may be put and got,
      pub swap : IsReady h c.swap
      -- memory is fit, and files that have got longer again are touched where they had been cut off.
      pub fit : IsFit (picture_of c)
      pub ends : MarksEnds (directory_of c.store) (picture_of c).touched
