-- What a look into memory tells is told of the machine that has it.
use Rattle.inspection.proofs.Names.{◌≡◌, ℕ, Option, Some, None, true, false, sym, subst, false≢true, IfNone, IfSome, halted_of, Machine, false_from_ne_true}
use Rattle.inspection.specs.{Machines.{memory_of, Tells}, Walks.{IsStepOfSome}, declared.walks.Step.{Step}}

-- a search of the memory of a machine that gives what is so, or nothing where there is none, tells it of the machine
pub told : {D E A : Type 0} {m : Machine D E} {P : A → Type 0} {N : Type 0} (o : Option A) → (halted_of m ≡ true → true ≡ false) → IfSome o P → IfNone o N → Tells m P N o
told None going some none = record { running = tt; some = tt; none = λ _. none }
told (Some a) going some none = record { running = false_from_ne_true _ (λ halted. false≢true (sym (going halted))); some = some; none = tt }

pub step_of : {D E : Type 0} (x y : Machine D E) (page : ℕ) (step : Step) → x ≡ y → IsStepOfSome (memory_of x) page step → IsStepOfSome (memory_of y) page step
step_of {D} {E} x y page step same is = let P : Machine D E → Type 0 = λ m. IsStepOfSome (memory_of m) page step in subst P same is
