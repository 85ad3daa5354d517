-- The second chance that an access gives the pages that were accessed before.
use Rattle.std.specs.Prelude.{◌≡◌, ◌≢◌, ◌⊎◌, ℕ, true, false, Option}
use Rattle.vm_types.specs.Limits.{top_level}
use Rattle.vm_types.specs.declared.access.Access.{Access}
use Rattle.vm_types.specs.declared.access.Access.TheVariants.{Store}
use Rattle.vm_types.specs.declared.number.FrameNo.{FrameNo}
use Rattle.vm_types.specs.declared.object.PageKey.{PageKey}
use Rattle.page_cache.specs.declared.place.Place.TheVariants.{Frame}
use Rattle.page_tables.specs.Tree.{IsPage}
use Rattle.residency.specs.Picture.{Picture, entry}
use Rattle.residency.specs.Parts.{is_shared}
use Rattle.residency.specs.Ways.{IsWhole}
use Rattle.residency.specs.Leaves.{concerns}
use Rattle.residency.specs.declared.leaves.Change.TheVariants.{ClearAccessed}
use Rattle.residency.specs.Chances.{AreAllMarked, KeepsButA}
use Rattle.fault.specs.Wants.{KeepsOwnFrame, ShowsFile}

-- Every other page whose entry has A keeps its entry but for A, unless that is so.
module _ {mode : ℕ} where
  pub record GivesOthersChance (old new : Picture mode) (pid page : ℕ) (unless : Type 0) : Type 0 where
    pub each : (q p : ℕ) → IsPage (top_level mode) p → (q ≢ pid) ⊎ (p ≢ page) → concerns ClearAccessed (entry old q p) ≡ true
        → KeepsButA (entry old q p) (entry new q p) ⊎ unless

-- every frame that may be given up for an access to a page has its mark: each but the one that it is to copy
module _ {mode : ℕ} where
  abbrev pub AreAllMarkedFor : Picture mode → ℕ → ℕ → Access → Type 0
  AreAllMarkedFor c pid page access = (keep : Option FrameNo) × KeepsOwnFrame c pid page access keep × AreAllMarked c keep

-- An access to a page wants one frame at most: no table is missing on its way, and a page of a file that a store is to copy lies in a frame.
module _ {mode : ℕ} where
  pub record WantsOneFrame (c : Picture mode) (pid page : ℕ) (access : Access) : Type 0 where
    pub whole : IsWhole c pid page
    pub here : (p : PageKey) (shows : ShowsFile c pid page p) → access ≡ Store → is_shared shows.attr.backing ≡ false → (n : FrameNo) × (c.place p ≡ Frame n)
