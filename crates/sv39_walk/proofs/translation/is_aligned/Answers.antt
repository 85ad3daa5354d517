use Rattle.std.proofs.Common.{ℕ, ◌%◌, ◌==◌, ap}
use Rattle.sv39_walk.proofs.translation.is_aligned.Goals as goal

pub returns : goal.returns
returns c = ap (λ (n : ℕ). n % c.args.pages == 0) c.frame.ensures.frame
