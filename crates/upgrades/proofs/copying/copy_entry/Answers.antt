use Rattle.upgrades.proofs.Names.{◌≡◌, ◌≤◌, ◌+◌, ◌*◌, ◌∙◌, Option, Some, sym, ap, subst, arith, on_ok_weaker, part_of}
use Rattle.file_store.specs.{Store.{entry_of}, Upgrade.{IsOldEntry}, declared.directory.Entry.{Entry}}
use Rattle.upgrades.{proofs.Old.{page_is}, specs.{Copying.{CopiesOld, IsBetween}, NewPool.{HoldsPages}, Old.{entry_pages, standing_page}}}
use Rattle.upgrades.proofs.copying.copy_entry.Goals as goal

pub copy_file-requires-clause-within : goal.copy_file-requires-clause-within
copy_file-requires-clause-within g c = c.requires.ready.sound.within c.args.f c.in-Some.entry (sym c.entry.ensures ∙ c.in-Some.is)

pub copy_file-requires-clause-room : goal.copy_file-requires-clause-room
copy_file-requires-clause-room g c =
    subst (λ (o : Option Entry). c.args.start + 8 * entry_pages o ≤ g.E.SectorDisk.sector_count c.args.new.now) (sym c.entry.ensures ∙ c.in-Some.is) c.requires.room

pub returns-in-Some-clause-copies : goal.returns-in-Some-clause-copies
returns-in-Some-clause-copies g c =
    let d = g.D.SectorDisk in let n = g.E.SectorDisk in let old = c.args.old.now in let start = c.args.start in
    subst (λ (o : Option Entry). CopiesOld d n (IsOldEntry c.args.store.now.journal.version (d.content old) o) (IsBetween start (start + 8 * entry_pages o))
    old c.copy_file.new.old c.args.new.now c.copy_file.new.new c.copy_file.result) (sym c.in-Some.is ∙ c.entry.ensures) c.copy_file.ensures.copies

pub returns-in-Some-clause-held : goal.returns-in-Some-clause-held
returns-in-Some-clause-held g c = λ keeps_old keeps.
    let d = g.D.SectorDisk in let old = c.args.old.now in let store = c.args.store.now in let f = c.args.f in let start = c.args.start in let image = d.content old in
    let known : entry_of store.directory f ≡ Some c.in-Some.entry = sym c.entry.ensures ∙ c.in-Some.is in
    on_ok_weaker c.copy_file.result (λ held. subst (λ (o : Option Entry). HoldsPages start (standing_page image f) (entry_pages o) (g.E.SectorDisk.content c.copy_file.new.new)) (sym known)
    (λ k i below lt. held k i below lt ∙ ap (λ page. part_of page i) (page_is d store old c.requires.ready (c.copy_file.ensures.copies.old_run.kept keeps_old) f k (Some c.in-Some.entry) known)))
    (c.copy_file.ensures.held keeps_old keeps)

pub returns-in-None-clause-held : goal.returns-in-None-clause-held
returns-in-None-clause-held g c = λ keeps_old keeps k i below lt.
    let none : entry_pages (entry_of c.args.store.now.directory c.args.f) ≡ 0 = ap entry_pages (sym c.entry.ensures ∙ c.in-None.is) in absurd (omega (arith, below, none))
