use Rattle.memory.proofs.{Keeping.{released_role}, Noting.{changed}}
use Rattle.memory.proofs.memory.Memory.release.Goals as goal

pub invariant_of-self : goal.invariant_of-self
invariant_of-self g c =
    let change = c.release.ensures.change in
    let forgets = c.forget_table.ensures in
    changed change.others (released_role c.self.inside.frames c.release.new.self c.args.n.0 change) forgets.lines forgets.each forgets.whole forgets.unfound c.self.invariant
