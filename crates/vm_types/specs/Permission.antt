-- Permissions as sets of bits: 1 to read, 2 to write, 4 to run. mmap(2): PROT_READ, PROT_WRITE, PROT_EXEC.
use Rattle.std.specs.Prelude.{ℕ, Bool, ◌==◌, if◌then◌else◌}
use Rattle.std.specs.Int.RustNames.{bit_and, bit_or}
use Rattle.vm_types.specs.declared.permission.Prot.{Prot}

-- the set with these bits
abbrev pub with_bits : ℕ → Prot
with_bits n = record { 0 = n }

abbrev pub can_read : Prot → Bool
can_read p = bit_and p.0 1 == 1

abbrev pub can_write : Prot → Bool
can_write p = bit_and p.0 2 == 2

abbrev pub can_execute : Prot → Bool
can_execute p = bit_and p.0 4 == 4

-- as pages keep it: who may write may read as well (our choice)
abbrev pub kept : Prot → Prot
kept p = if can_write p then with_bits (bit_or p.0 1) else p
