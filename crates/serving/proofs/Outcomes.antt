-- What comes of a kernel's requests, by their end.
use Rattle.std.proofs.Common.{◌≡◌, ℕ, Bool, Result, Ok, Err, IfOk, IfErr, sym, subst}
use Rattle.disk_model.specs.declared.sector_disk.SectorDisk.{Ghosts}
use Rattle.{command_words.specs.declared.running.RunWords.{RunWords}, machine.specs.{declared.machine.Machine.{Machine}, Machine.{halted_of}}, runner.specs.{declared.engine.RunEnd.{RunEnd, TheVariants.{Done, ReadFault, WriteFault}}, Trace.{Streams}}}
use Rattle.programs.specs.{declared.faults.ProgramFault.{ProgramFault}, Faults.{IsEndFault, end_status}}
use Rattle.serving.specs.Program.{ComesOfWords, ServesBooted}

module _ {D E : Type 0} (g : Ghosts D) (h : Ghosts E) (settled : D → Bool) where
  -- the outcome tells the end of the requests
  pub comes_to : (words : RunWords) (before after : Streams) (end : RunEnd) (machine : Machine D E) (outcome : Result ℕ ProgramFault)
      → ServesBooted g h settled words end machine before after → IfOk outcome (λ status. (end ≡ Done) × (status ≡ end_status (halted_of machine))) → IfErr outcome (IsEndFault end)
      → ComesOfWords g h settled words before after outcome
  comes_to words before after end machine (Ok status) serves told fault =
      (machine, subst (λ (e : RunEnd). ServesBooted g h settled words e machine before after) told.0 serves, told.1)
  comes_to words before after Done machine (Err fault) serves told never = absurd never
  comes_to words before after ReadFault machine (Err fault) serves told is =
      subst (λ (f : ProgramFault). ComesOfWords g h settled words before after (Err f)) (sym is) (machine, serves)
  comes_to words before after WriteFault machine (Err fault) serves told is =
      subst (λ (f : ProgramFault). ComesOfWords g h settled words before after (Err f)) (sym is) (machine, serves)
