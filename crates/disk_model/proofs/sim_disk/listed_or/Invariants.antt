use Rattle.disk_model.{proofs.Names.{◌≡◌, drop}, specs.Plan.{first_listed}}
use Rattle.disk_model.proofs.sim_disk.listed_or.Given as goal

abbrev pub invariant-loop-k : goal.invariant-loop-k
invariant-loop-k l = first_listed l.chosen l.n l.bytes ≡ first_listed (drop l.k-index l.chosen) l.n l.bytes
