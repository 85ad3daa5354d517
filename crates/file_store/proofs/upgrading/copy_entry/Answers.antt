use Rattle.file_store.{proofs.Names.{Option, sym, subst, ◌∙◌, One}, specs.{Upgrade.{IsEntrySector, IsOldEntry}, Upgraded.{CopiesPages}, declared.directory.Entry.{Entry}}}
use Rattle.file_store.proofs.upgrading.copy_entry.Goals as goal

pub returns-in-Some-clause-copies : goal.returns-in-Some-clause-copies
returns-in-Some-clause-copies g c =
    subst (λ (o : Option Entry). CopiesPages g.D.SectorDisk g.E.SectorDisk (IsOldEntry One (g.D.SectorDisk.content c.args.old.now) o) (IsEntrySector o)
    c.args.old.now c.copy_file.new.old c.args.new.now c.copy_file.new.new c.copy_file.result) (sym c.in-Some.is ∙ c.entry.ensures.entry) c.copy_file.ensures.copies
