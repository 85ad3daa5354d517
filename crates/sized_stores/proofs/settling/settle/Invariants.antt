use Rattle.std.proofs.Common.{take}
use Rattle.sized_stores.specs.Commit.{AreSettled}
use Rattle.sized_stores.proofs.settling.settle.Given as goal

-- the files before this one are settled
abbrev pub invariant-loop-file : goal.invariant-loop-file
invariant-loop-file l = AreSettled (take l.file-index l.files) l.fn.sizes l.sizes
