-- What is told where a question was asked.
use Rattle.std.specs.Prelude.{◌≡◌, ◌⊎◌, ◌≤◌, ℕ, Bool, true, false}
use Rattle.residency.specs.Picture.{is_live}
use Rattle.inspection.specs.Machines.{memory_of}
use Rattle.machine.specs.declared.machine.Machine.{Machine}
use Rattle.telling.specs.declared.answers.Asked.{Asked}
use Rattle.telling.specs.declared.answers.Asked.TheVariants as Told
use Rattle.telling.specs.declared.questions.Question.{Question}
use Rattle.telling.specs.declared.questions.Question.TheVariants as Ask

-- whether a question is of what the machine holds, and not of what was counted
abbrev pub needs_memory : Question → Bool
needs_memory Ask.Counts = false
needs_memory (Ask.Watch is_on) = false
needs_memory other = true

module _ {D E : Type 0} where
  -- of a process that lives that is told, and of one of the 64 that doesn't, or another number, that it is gone
  abbrev pub IsOfProcess : Machine D E → ℕ → Asked → Asked → Type 0
  IsOfProcess m pid told asked =
      ((is_live (memory_of m) pid ≡ true) × (asked ≡ told)) ⊎ ((1 ≤ pid → pid ≤ 64 → is_live (memory_of m) pid ≡ false) × (asked ≡ Told.Gone pid))

  -- what is told of a machine that has not halted
  abbrev pub IsAskedOf : Machine D E → Question → Asked → Type 0
  IsAskedOf m (Ask.Walk pid addr) asked = IsOfProcess m pid (Told.Walk pid addr) asked
  IsAskedOf m (Ask.Tables pid) asked = IsOfProcess m pid (Told.Tables pid) asked
  IsAskedOf m (Ask.Maps pid) asked = IsOfProcess m pid (Told.Maps pid) asked
  IsAskedOf m (Ask.Bytes pid addr) asked = IsOfProcess m pid (Told.Bytes pid addr) asked
  IsAskedOf m (Ask.Frames first last) asked = asked ≡ Told.Frames first last
  IsAskedOf m Ask.Slots asked = asked ≡ Told.Slots
  IsAskedOf m Ask.Files asked = asked ≡ Told.Files
  IsAskedOf m Ask.Buffer asked = asked ≡ Told.Buffer
  IsAskedOf m Ask.Counts asked = asked ≡ Told.Counts
  IsAskedOf m (Ask.Watch is_on) asked = asked ≡ Told.Nothing
