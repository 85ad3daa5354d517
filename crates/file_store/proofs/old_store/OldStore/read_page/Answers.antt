use Rattle.file_store.proofs.Names.{◌+◌, sym, subst, Names, IsPageSector}
use Rattle.file_store.proofs.old_store.OldStore.read_page.Goals as goal

pub returns-in_err-read-clause-asks : goal.returns-in_err-read-clause-asks
returns-in_err-read-clause-asks g c = λ keeps.
    let found = c.requires.found (c.read.ensures.kept keeps) in
    subst (λ first. Names (IsPageSector first) (g.D.SectorDisk.asked c.args.disk.now) (g.D.SectorDisk.asked c.read.new.disk)) (sym (found.stands.at (c.args.entry.first + c.args.k))) c.read.ensures.asks

pub returns-clause-asks : goal.returns-clause-asks
returns-clause-asks g c = λ keeps.
    let found = c.requires.found (c.read.ensures.kept keeps) in
    subst (λ first. Names (IsPageSector first) (g.D.SectorDisk.asked c.args.disk.now) (g.D.SectorDisk.asked c.read.new.disk)) (sym (found.stands.at (c.args.entry.first + c.args.k))) c.read.ensures.asks
