-- What comes of a run, by its end.
use Rattle.std.proofs.Common.{◌≡◌, ℕ, Bool, Result, Ok, Err, IfOk, IfErr, sym, subst}
use Rattle.disk_model.specs.declared.sector_disk.SectorDisk.{Ghosts}
use Rattle.{machine.specs.{declared.{boot.BootFault.{BootFault}, config.Config.{Config}, machine.Machine.{Machine}}, Machine.{halted_of}, Boot.{BootRefuses}}, runner.specs.{declared.engine.RunEnd.{RunEnd, TheVariants.{Done, ReadFault, WriteFault}}, Starting.{RunsOn}, Trace.{Streams}}}
use Rattle.programs.specs.{declared.faults.ProgramFault.{ProgramFault, TheVariants.{ReadFailed, WriteFailed}}, Faults.{IsEndFault, end_status}, Running.{ComesTo}}

module _ {D E : Type 0} (g : Ghosts D) (h : Ghosts E) (settled : D → Bool) where
  -- the outcome tells the end of a run
  pub comes_to : (config : Config) (store : D) (swap : E) (before after : Streams) (end : RunEnd) (machine : Machine D E) (outcome : Result ℕ ProgramFault)
      → RunsOn g h config store swap end machine before after → IfOk outcome (λ status. (end ≡ Done) × (status ≡ end_status (halted_of machine))) → IfErr outcome (IsEndFault end)
      → ComesTo g h settled config store swap before after outcome
  comes_to config store swap before after end machine (Ok status) runs told fault =
      record { machine = machine; runs = subst (λ (e : RunEnd). RunsOn g h config store swap e machine before after) told.0 runs; told = told.1 }
  comes_to config store swap before after Done machine (Err fault) runs told never = absurd never
  comes_to config store swap before after ReadFault machine (Err fault) runs told is =
      subst (λ (f : ProgramFault). ComesTo g h settled config store swap before after (Err f)) (sym is) (record { machine = machine; runs = runs })
  comes_to config store swap before after WriteFault machine (Err fault) runs told is =
      subst (λ (f : ProgramFault). ComesTo g h settled config store swap before after (Err f)) (sym is) (record { machine = machine; runs = runs })

  -- the same of a size that is equal
  pub comes_at : (config asked : Config) (store : D) (swap : E) (before after : Streams) (outcome : Result ℕ ProgramFault) → config ≡ asked
      → ComesTo g h settled config store swap before after outcome → ComesTo g h settled asked store swap before after outcome
  comes_at config asked store swap before after outcome same comes = subst (λ (k : Config). ComesTo g h settled k store swap before after outcome) same comes

  pub refuses_at : (config asked : Config) (sectors : ℕ) (store left : D) (fault : BootFault) → config ≡ asked → BootRefuses g config sectors store fault left
      → BootRefuses g asked sectors store fault left
  refuses_at config asked sectors store left fault same refuses = subst (λ (k : Config). BootRefuses g k sectors store fault left) same refuses
