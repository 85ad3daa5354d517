-- What is found in memory is told of the machine that has it.
use Rattle.std.{proofs.{Common.{◌≡◌, Option, Some, None, true, false, sym}, lemmas.Bool.{false_from_ne_true, false≢true}}, specs.Prelude.{IfSome, IfNone}}
use Rattle.{inspection.specs.Machines.{Tells}, machine.specs.{Machine.{halted_of}, declared.machine.Machine.{Machine}}}

-- what is so of the memory of a machine, or nothing where there is none, is told of the machine
pub told : {D E A : Type 0} {m : Machine D E} {P : A → Type 0} {N : Type 0} (o : Option A) → (halted_of m ≡ true → true ≡ false) → IfSome o P → IfNone o N → Tells m P N o
told None going some none = record { running = tt; some = tt; none = λ _. none }
told (Some a) going some none = record { running = false_from_ne_true _ (λ halted. false≢true (sym (going halted))); some = some; none = tt }
