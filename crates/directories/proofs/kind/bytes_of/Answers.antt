use Rattle.std.proofs.Common.{refl}
use Rattle.directories.specs.Kinds.{kind_sector}
use Rattle.directories.proofs.kind.bytes_of.Goals as goal

pub returns : goal.returns
unfolding kind_sector
returns c = rw (c.write_u32-2.ensures, c.write_u32.ensures) refl
