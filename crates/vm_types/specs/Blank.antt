-- A place that holds no fault.
use Rattle.std.specs.Prelude.{ℕ, List, ◌++◌, ◌-◌, length, replicate}
use Rattle.vm_types.specs.Limits.{fault_limit}
use Rattle.vm_types.specs.declared.refusal.Code.TheVariants.{BusAdraln}
use Rattle.vm_types.specs.declared.refusal.Fault.{Fault}

abbrev pub blank : ℕ × Fault
blank = (1, record { cause = 0; code = BusAdraln; addr = 0 })

-- sixteen places, of which the first hold these
abbrev pub filled : List (ℕ × Fault) → List (ℕ × Fault)
filled xs = xs ++ replicate (fault_limit - length xs) blank
