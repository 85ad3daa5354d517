-- What the memory of a machine of either mode holds, and what is told of it.
use Rattle.std.specs.Prelude.{◌≡◌, ℕ, Option, false, IfSome, IfNone}
use Rattle.residency.specs.Picture.{Picture, picture_of}
use Rattle.machine.specs.Machine.{bits_of, halted_of, mode_of}
use Rattle.machine.specs.declared.machine.Machine.{Machine}
use Rattle.machine.specs.declared.machine.Machine.TheVariants.{Sv39, Sv48}
use Rattle.sized_stores.specs.Store.{SizedDirectory, directory_of}

module _ {D E : Type 0} where
  -- what memory holds
  abbrev pub memory_of : (m : Machine D E) → Picture (bits_of (mode_of m))
  memory_of (Sv39 m) = picture_of m.core
  memory_of (Sv48 m) = picture_of m.core

  -- what its store keeps of files: their lengths, now and durably
  abbrev pub files_kept : Machine D E → SizedDirectory
  files_kept (Sv39 m) = directory_of m.core.store
  files_kept (Sv48 m) = directory_of m.core.store

  -- the frame that is looked at first when one is to be given up
  abbrev pub hand_of : Machine D E → ℕ
  hand_of (Sv39 m) = m.core.clock.hand
  hand_of (Sv48 m) = m.core.clock.hand

  -- What is asked of a machine is told:
  pub record Tells {A : Type 0} (m : Machine D E) (P : A → Type 0) (N : Type 0) (result : Option A) : Type 0 where
    -- it has not halted, and what it tells is so,
    pub running : IfSome result (λ a. halted_of m ≡ false)
    pub some : IfSome result P
    -- or it tells nothing, because there is none, or it has halted.
    pub none : IfNone result (halted_of m ≡ false → N)
