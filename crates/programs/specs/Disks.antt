-- The files that a program works on, as devices.
use Rattle.std.specs.Prelude.{ℕ, List, Result, IfOk, IfErr}
use Rattle.disk_model.specs.declared.sector_disk.SectorDisk.{Ghosts}
use Rattle.programs.specs.declared.faults.ProgramFault.{ProgramFault}
use Rattle.programs.specs.Faults.{IsUnopened}

module _ {D : Type 0} (g : Ghosts D) where
  -- A device that was just opened keeps its model, and nothing of it is unsynced.
  pub record IsJustOpened (disk : D) : Type 0 where
    pub kept : g.keeps_model disk
    pub synced : (k : ℕ) → g.unsynced disk k → ⊥

  -- The file of that path is opened as a device,
  pub record OpensDisk (path : List ℕ) (result : Result D ProgramFault) : Type 0 where
    pub fresh : IfOk result IsJustOpened
    -- or it is told which one can't be.
    pub told : IfErr result (IsUnopened path)
