use Rattle.vm_types.proofs.permission.Prot.is_writable.Goals as goal

pub returns : goal.returns
returns c = c.contains.ensures tt
