-- The second chance that pages have where a frame is given up.
use Rattle.std.specs.Prelude.{◌≡◌, ◌⊎◌, ℕ, true, Option}
use Rattle.vm_types.specs.Limits.{top_level}
use Rattle.vm_types.specs.declared.number.FrameNo.{FrameNo}
use Rattle.page_tables.specs.Tree.{IsPage}
use Rattle.residency.specs.Picture.{Picture, entry}
use Rattle.residency.specs.Leaves.{concerns}
use Rattle.residency.specs.declared.leaves.Change.TheVariants.{ClearAccessed}
use Rattle.residency.specs.Ages.{Ages}
use Rattle.residency.specs.Evictions.{IsAccessed, IsEvictable}

-- an entry is as it was, or lost A alone
abbrev pub KeepsButA : ℕ → ℕ → Type 0
KeepsButA e e' = Ages (λ n. ⊥) e e'

-- every frame that may be given up, but this one, has its mark
module _ {mode : ℕ} where
  abbrev pub AreAllMarked : Picture mode → Option FrameNo → Type 0
  AreAllMarked c keep = (n : ℕ) → IsEvictable c keep n → IsAccessed c n

-- A frame was asked for, but not this one: each page whose entry has A keeps its entry but for A, unless every frame that might
-- have been given up had its mark.
module _ {mode : ℕ} where
  pub record GivesChance (old new : Picture mode) (keep : Option FrameNo) : Type 0 where
    pub each : (pid page : ℕ) → IsPage (top_level mode) page → concerns ClearAccessed (entry old pid page) ≡ true
        → KeepsButA (entry old pid page) (entry new pid page) ⊎ AreAllMarked old keep
