use Rattle.memory.proofs.{Names.{with_bytes-others}, Noting.{changed}}
use Rattle.memory.proofs.memory.Memory.bytes_mut.Goals as goal

pub invariant_of-self-lent : goal.invariant_of-self-lent
invariant_of-self-lent g c = λ w.
    let forgets = c.forget_table.ensures in
    changed (with_bytes-others c.self.inside.frames c.args.n.0 w) (λ other. other) forgets.lines forgets.each forgets.whole forgets.unfound c.self.invariant
