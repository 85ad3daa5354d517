-- Why a commit may not make these changes.
use Rattle.std.specs.Prelude.{ℕ, List, Option}
use Rattle.directories.specs.declared.entry.Extent.{Extent}
use Rattle.directories.specs.declared.entry.Entry.{Entry}
use Rattle.directories.specs.Layouts.{ShareHome, IsExtent, LiesOutside, IsShort, SharesHome}
use Rattle.growth.specs.declared.faults.ChangeFault.{ChangeFault}
use Rattle.growth.specs.declared.faults.ChangeFault.TheVariants.{Outside, Short, Shared, Taken}
use Rattle.growth.specs.Changes.{IsOld}

-- a new extent of file f has a home that an extent of file g had before
pub record TakesHome (before after : List (Option Entry)) (f g : ℕ) : Type 0 where
  pub place : ℕ
  pub other_place : ℕ
  pub extent : Extent
  pub other : Extent
  pub is : IsExtent after f place extent
  pub fresh : IsOld before after f place → ⊥
  pub had : IsExtent before g other_place other
  pub shared : ShareHome extent other

-- each fault is told for its reason alone
abbrev pub IsChangeRefused : ℕ → ℕ → List (Option Entry) → List (Option Entry) → ChangeFault → Type 0
IsChangeRefused pages homes before after (Outside f) = LiesOutside pages homes after f
IsChangeRefused pages homes before after (Short f) = IsShort after f
IsChangeRefused pages homes before after (Shared f g) = SharesHome after f g
IsChangeRefused pages homes before after (Taken f g) = TakesHome before after f g
