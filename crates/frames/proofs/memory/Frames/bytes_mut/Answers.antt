use Rattle.frames.{specs.Inside.{table_of}, proofs.Calls.{written}}
use Rattle.frames.proofs.memory.Frames.bytes_mut.Goals as goal

pub invariant_of-self-lent : goal.invariant_of-self-lent
invariant_of-self-lent c =
    let held = rw (← c.self.view_is) at c.requires in
    λ w. written (table_of c.self.inside) c.args.n.0 c.self.inside.first_free w held c.self.invariant
