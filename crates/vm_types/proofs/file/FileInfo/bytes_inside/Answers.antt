use Rattle.std.proofs.Common.{arith}
use Rattle.vm_types.proofs.file.FileInfo.bytes_inside.Goals as goal

pub returns : goal.returns
returns c = record { inside = omega (arith, c.min.ensures, c.saturating_sub.ensures, c.from.ensures); most = omega (arith, c.min.ensures) }
