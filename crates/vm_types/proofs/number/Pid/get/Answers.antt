use Rattle.vm_types.proofs.number.Pid.get.Goals as goal

pub returns : goal.returns
returns c = record { number = c.self.view_is; range = c.self.invariant }
