-- One step of forgetting pages of objects.
use Rattle.vm_types.specs.declared.mode.Levels as Levels
use Rattle.std.specs.Prelude.{◌≡◌, ◌≢◌, ℕ, ◌<◌, ◌≤◌, ◌⊎◌, true, false}
use Rattle.vm_types.specs.Objects.{names}
use Rattle.vm_types.specs.declared.object.ObjectPage.{ObjectPage}
use Rattle.vm_types.specs.declared.object.PageKey.TheVariants.{Object}
use Rattle.residency.specs.Picture.{Picture, picture_of, entry}
use Rattle.residency.specs.Parts.{IsFit}
use Rattle.residency.specs.declared.kernel.Core.{Core}
use Rattle.residency.specs.Calls.{KeepsBesidePlaces}
use Rattle.residency.specs.Steps.{Forgets}
use Rattle.ranges.specs.Rows.{IsLastName}
use Rattle.ranges.specs.declared.forgetting.Named.{Named}

-- the first page of a process from one page up to, not including, another that names a page of an object
module _ {mode : ℕ} where
  pub record IsNextCommon (c : Picture mode) (pid first end : ℕ) (n : Named) : Type 0 where
    pub from : first ≤ n.at
    pub within : n.at < end
    pub here : names (c.at pid n.at) n.page.object n.page.page ≡ true
    pub none_before : (k object page : ℕ) → first ≤ k → k < n.at → names (c.at pid k) object page ≡ false

  -- a page of a process, which has no entry, names that page of an object, in memory that is fit
  pub record NamesWithoutEntry (c : Picture mode) (pid page : ℕ) (p : ObjectPage) : Type 0 where
    pub fit : IsFit c
    pub named : names (c.at pid page) p.object p.page ≡ true
    pub bare : entry c pid page ≡ 0

module _ {M : Type 0} {m : Levels.Ghosts M} {D E : Type 0} where
  -- A page of an object is forgotten where none but a row names it, and memory stays fit.
  pub record ForgetsLast (old new : Core D E M m) (pid first pages : ℕ) (p : ObjectPage) : Type 0 where
    pub fit : IsFit (picture_of new)
    pub last : IsLastName old new pid first pages p

  -- another process names it at that page too and nothing changed, or none does and it was forgotten
  abbrev pub IsForgottenThere : Core D E M m → Core D E M m → ℕ → ℕ → ObjectPage → Type 0
  IsForgottenThere old new pid k p =
      ((new ≡ old) × ((q : ℕ) × (q < 65) × (q ≢ pid) × (names ((picture_of old).at q k) p.object p.page ≡ true)))
      ⊎ (Forgets (picture_of old) (picture_of new) (Object p) × KeepsBesidePlaces old new
      × ((q : ℕ) → q ≢ pid → names ((picture_of old).at q k) p.object p.page ≡ false))
