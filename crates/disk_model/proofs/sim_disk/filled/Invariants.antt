use Rattle.disk_model.proofs.Names.{◌≡◌, replicate}
use Rattle.disk_model.proofs.sim_disk.filled.Given as goal

abbrev pub invariant-loop-i : goal.invariant-loop-i
invariant-loop-i g l = l.items.items ≡ replicate l.i l.value
