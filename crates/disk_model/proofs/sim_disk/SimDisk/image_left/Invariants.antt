use Rattle.disk_model.{proofs.Names.{◌≡◌, ℕ, ◌<◌, length}, specs.SimDisk.{image_of_sectors, left_at}}
use Rattle.disk_model.proofs.sim_disk.SimDisk.image_left.Given as goal

abbrev pub invariant-loop-i : goal.invariant-loop-i
invariant-loop-i l = record { count : length l.image.items ≡ l.i; same : (k : ℕ) → k < l.i → image_of_sectors l.image.items k ≡ left_at l.self l.chosen k }
