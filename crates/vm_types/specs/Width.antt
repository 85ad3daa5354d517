-- How many bytes an access reads or writes. RISC-V Unprivileged Specification, "Load and Store Instructions".
use Rattle.std.specs.Prelude.{ℕ}
use Rattle.vm_types.specs.declared.width.Width.{Width}
use Rattle.vm_types.specs.declared.width.Width.TheVariants.{One, Two, Four, Eight}

-- the bytes of an access of this width
abbrev pub byte_count : Width → ℕ
byte_count One = 1
byte_count Two = 2
byte_count Four = 4
byte_count Eight = 8
