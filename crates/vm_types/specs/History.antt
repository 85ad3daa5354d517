-- The faults of accesses that are kept, oldest first, each with its process. Our own; siginfo of sigaction(2).
use Rattle.std.specs.Prelude.{ℕ, ◌-◌, List, [], ◌∷◌, ◌++◌, length, drop}
use Rattle.vm_types.specs.Limits.{fault_limit}
use Rattle.vm_types.specs.declared.refusal.Fault.{Fault}

abbrev pub Past : Type 0
Past = List (ℕ × Fault)

-- one more at the end; of 17 the oldest is dropped
abbrev pub with_fault : Past → ℕ → Fault → Past
with_fault past pid fault = let all = past ++ (pid, fault) ∷ [] in drop (length all - fault_limit) all
