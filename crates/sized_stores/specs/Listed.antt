-- What a commit of lengths takes, listed: the changes of the directory, and the pages.
use Rattle.std.specs.Prelude.{ℕ, ◌+◌, ◌*◌, ◌<◌, ◌≤◌, ◌≡◌, List, length, map, Result}
use Rattle.vm_types.specs.declared.file.FilePage.{FilePage}
use Rattle.disk_model.specs.declared.sector_disk.SectorDisk.{Ghosts}
use Rattle.pool_growth.specs.{Commit.{CommitsInSlots}, Sizes.{ProposesChanges}}
use Rattle.pool_growth.specs.Late as Late
use Rattle.pool_store.specs.declared.store.PoolStore.{PoolStore}
use Rattle.sync_journal.specs.Source.{Asks}
use Rattle.sync_journal.specs.declared.{faults.CommitFault.{CommitFault}, source.PageSource.{Ghosts as SourceGhosts}}
use Rattle.sized_stores.specs.Commit.{size_asked}
use Rattle.sized_stores.specs.Faults.{told_of}
use Rattle.sized_stores.specs.Given.{given_page, IsGivenPlace}
use Rattle.sized_stores.specs.Listing.{AreDistinct, AreSized, ListsPages}
use Rattle.sized_stores.specs.declared.{faults.SizeFault.{SizeFault}, room.SizeRoom.{SizeRoom}, sizes.Size.{Size}}

module _ {D : Type 0} where
  -- Lengths and pages are asked of a store:
  pub record AreAskedOf (store : PoolStore D) (sizes : List Size) (files : List ℕ) (list : List FilePage) : Type 0 where
    -- of its files, for each of which it has a length,
    pub all : length sizes ≡ length store.directory.entries.items
    pub sized : AreSized sizes files
    -- and no more pages than every commit takes, none of them twice.
    pub few : length list ≤ 504 * store.journal.sizes.blocks
    pub distinct : AreDistinct list

  -- What a commit of lengths and pages takes is listed:
  pub record ListsCommit (store : PoolStore D) (sizes : List Size) (files : List ℕ) (list : List FilePage) (room : SizeRoom) : Type 0 where
    -- the changes of the directory,
    pub changes : ProposesChanges store.journal.sizes.homes store.directory (map (size_asked sizes) files) room.changes.items
    -- and the pages, which are so few that a body has slots for them, with the directory's.
    pub limit : ℕ
    pub most : limit + store.directory.pages ≤ 504 * store.journal.sizes.blocks
    pub pages : ListsPages store.directory sizes files list limit room.fresh room.kept

  -- What is listed may be committed, all of it in slots.
  abbrev pub MayCommit : PoolStore D → SizeRoom → Type 0
  MayCommit store room = Late.MayCommit store room.changes.items room.fresh.pages.items room.kept.pages.items 0

-- the source of what is listed: each page is one of another source's, in the place that is listed with it, or zeros
abbrev pub listed_in : {S : Type 0} → SizeRoom → SourceGhosts S → SourceGhosts S
listed_in room s = record s {
  pages = λ source. given_page room.fresh.places.items room.kept.places.items (s.pages source);
  gives = λ source. IsGivenPlace room.fresh.places.items room.kept.places.items (s.gives source);
  sure = λ source. IsGivenPlace room.fresh.places.items room.kept.places.items (s.sure source);
}

-- a source gives the pages that are listed
abbrev pub GivesListed : SizeRoom → (ℕ → Type 0) → Type 0
GivesListed room Gives = (k : ℕ) → k < length room.fresh.pages.items + length room.kept.pages.items → IsGivenPlace room.fresh.places.items room.kept.places.items Gives k

module _ {D S : Type 0} (g : Ghosts D) (s : SourceGhosts S) where
  -- What is listed is committed:
  pub record CommitsListed (old new : PoolStore D) (room : SizeRoom) (given given' : S) (result : Result (Unit {0}) SizeFault) : Type 0 where
    -- this is what the commit of changes in slots tells,
    pub outcome : Result (Unit {0}) CommitFault
    pub told : result ≡ told_of outcome
    -- as the source gives what is listed,
    pub commits : CommitsInSlots g (listed_in room s) old new room.changes.items room.fresh.pages.items room.kept.pages.items given given' outcome
    -- of which pages are asked alone.
    pub asks : Asks s given given'
