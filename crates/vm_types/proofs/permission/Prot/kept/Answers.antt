use Rattle.{std.{proofs.Common.{ap, ◌∙◌, if◌then◌else◌}, specs.Int.RustNames.{bit_or}}, vm_types.specs.Permission.{with_bits}}
use Rattle.vm_types.proofs.permission.Prot.kept.Goals as goal

pub returns-then-is_writable : goal.returns-then-is_writable
returns-then-is_writable c = ap with_bits (c.insert.ensures tt) ∙ ap (λ b. if b then with_bits (bit_or c.args.self.0 1) else c.args.self) c.if-is_writable.ensures
