use Rattle.std.proofs.Common.{ℕ, sym, subst}
use Rattle.vm_types.specs.Limits.{user_start, user_end}
use Rattle.truncation.specs.Steps.{ClearsIn}
use Rattle.truncation.proofs.Cleared.{process_dead}
use Rattle.truncation.proofs.clearing.clear_number.Goals as goal

pub returns-in-Some : goal.returns-in-Some
returns-in-Some g c =
    subst (λ (q : ℕ). ClearsIn c.args.core.now c.clear_process.new.core c.args.file c.args.length q user_start (user_end g.M.Levels.mode)) c.in-Some.ensures.found.0 c.clear_process.ensures

pub returns-in_default : goal.returns-in_default
returns-in_default g c = process_dead c.args.file c.args.length c.args.core.now c.args.number user_start (user_end g.M.Levels.mode) c.requires (sym c.in_default.ensures.known)
