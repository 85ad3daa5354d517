-- The store that an upgrade makes of one of an older layout. It is made anew, and so an upgrade is no life: lives begin with what it made.
use Rattle.std.specs.Prelude.{ℕ, List, Option}
use Rattle.disk_model.specs.Stop.{Image}
use Rattle.disk_model.specs.declared.sector_disk.SectorDisk.{Ghosts}
use Rattle.sync_journal.specs.OldLayouts.{old_standing, IsBadOld}
use Rattle.sync_journal.specs.declared.version.Version.TheVariants.{One}
use Rattle.file_store.specs.Standing.{IsBadLayoutIn, OldStandsFor, info_at, standing_page_at}
use Rattle.file_store.specs.Upgrade.{IsUpgradeOf, IsUpgradeIfMarked}
use Rattle.stores.specs.declared.new_stores.NewStore.{NewStore}
use Rattle.stores.specs.declared.new_stores.NewStore.TheVariants.{Journal, Pool}
use Rattle.upgrades.specs.NewPool as ToPool
use Rattle.upgrades.specs.Old as OfTwoOrThree
use Rattle.vm_types.specs.declared.file.FileInfo.{FileInfo}
use Rattle.vm_types.specs.Files.{Files, Contents}
use Rattle.vm_types.specs.View.{Pages}
use Rattle.lives.specs.Lives.{Life, LeftInLives}

-- What the upgrade to a new store reads, of layout 1 where it makes one of layout 2, and of layout 2 or 3 where it makes one of layout 4, is none of its
-- layout, or has a bad journal,
abbrev pub HasBadOldLayout : NewStore → ℕ → Image → Type 0
HasBadOldLayout Journal sectors old = IsBadLayoutIn One sectors old
HasBadOldLayout (Pool blocks) sectors old = OfTwoOrThree.IsBadLayout sectors old

abbrev pub HasBadOldJournal : NewStore → ℕ → Image → Type 0
HasBadOldJournal Journal sectors old = IsBadOld One sectors old
HasBadOldJournal (Pool blocks) sectors old = OfTwoOrThree.IsBadJournal sectors old

-- or stands for these files, with these bytes in their pages.
abbrev pub StoodFor : NewStore → ℕ → Files → Pages → Image → Type 0
StoodFor Journal sectors files pages old = OldStandsFor One sectors files pages old
StoodFor (Pool blocks) sectors files pages old = OfTwoOrThree.StandsFor sectors files pages old

-- what it says of file f, and page k of that as it stands
abbrev pub old_info : NewStore → Image → ℕ → Option FileInfo
old_info Journal old f = info_at One old f
old_info (Pool blocks) old f = OfTwoOrThree.file_info old f

abbrev pub old_page : NewStore → Image → ℕ → ℕ → List ℕ
old_page Journal old f k = standing_page_at One (old_standing One old) old f k
old_page (Pool blocks) old f k = OfTwoOrThree.standing_page old f k

-- The image is the new store that the upgrade makes of it, as the crate of its layout says it; or a stop may leave it meanwhile.
abbrev pub IsUpgradeBy : NewStore → ℕ → ℕ → Image → Image → Type 0
IsUpgradeBy Journal old_sectors sectors old image = IsUpgradeOf old_sectors sectors old image
IsUpgradeBy (Pool blocks) old_sectors sectors old image = ToPool.IsUpgradeOf blocks old_sectors sectors old image

abbrev pub IsUpgradeOrNone : NewStore → ℕ → ℕ → Image → Image → Type 0
IsUpgradeOrNone Journal old_sectors sectors old image = IsUpgradeIfMarked old_sectors sectors old image
IsUpgradeOrNone (Pool blocks) old_sectors sectors old image = ToPool.IsUpgradeIfMarked blocks old_sectors sectors old image

-- A store of an older layout stood for these contents, an upgrade made it anew on so many sectors, and this image is what lives of the new one
-- left.
pub record IsUpgradedStore {D E : Type 0} (g : Ghosts D) (h : Ghosts E) (sectors : ℕ) (before : Contents) (lives : List Life)
    (image : Image) : Type 0 where
  -- the layout of the new store
  pub store : NewStore
  -- the old one
  pub old_sectors : ℕ
  pub old : Image
  pub stood : StoodFor store old_sectors before.files before.pages old
  -- the new one
  pub first : Image
  pub made : IsUpgradeBy store old_sectors sectors old first
  pub lived : LeftInLives g h sectors lives first image
