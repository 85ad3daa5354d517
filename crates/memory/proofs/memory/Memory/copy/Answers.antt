use Rattle.memory.proofs.{Names.{◌≢◌, sym, subst, FrameTable, SameButFor, Table, bytes_of, role_of, with_bytes-others}, Noting.{changed}}
use Rattle.memory.proofs.memory.Memory.copy.Goals as goal

pub invariant_of-self : goal.invariant_of-self
invariant_of-self g c =
    let t = c.self.inside.frames in
    let n = c.args.to.0 in
    let forgets = c.forget_table.ensures in
    changed (subst (λ (x : FrameTable). SameButFor n t x) (sym c.copy.ensures.copied) (with_bytes-others t n (bytes_of t c.args.from.0)))
    (λ other. subst (λ (x : FrameTable). role_of x n ≢ Table) (sym c.copy.ensures.copied) other) forgets.lines forgets.each forgets.whole forgets.unfound c.self.invariant
