use Rattle.file_store.proofs.Names.{◌≡◌, ◌+◌, ◌*◌, ◌<◌, Some, refl, sym, ap, subst, ◌∙◌, ⊎_elim, arith, cases_eq, Image, Nothing, part_of, old_home_count, old_standing, first_home_sector, home_sector, one_more, One}
use Rattle.file_store.specs.{Layout.{pages_of_length}, Format.{HoldsPage}, Standing.{page_standing_in}, Upgrade.{IsOldStore, IsFileSector, IsOldPage}, Faults.{old_fault}}
use Rattle.file_store.proofs.{Causes.{same_Err}, Copied.{page_once, copies_unread, copies_unwritten}, Making.{makes_more, makes_page}, Openings.{content_is}}
use Rattle.file_store.proofs.upgrading.copy_file.Goals as goal

pub read_page-requires-clause-home : goal.read_page-requires-clause-home
read_page-requires-clause-home g c =
    let size = c.loop-k.invariant.old_run.size in
    let below : c.loop-k.k < pages_of_length c.args.entry.info.length = omega (arith, c.loop-k-test.true, c.pages-k-end.ensures) in
    subst (λ v. c.args.entry.first + c.loop-k.k < old_home_count v (g.D.SectorDisk.sector_count c.loop-k.old)) (sym c.requires.version)
    (subst (λ n. c.args.entry.first + c.loop-k.k < old_home_count One n) (sym size) (omega (arith, below, c.requires.within)))

pub read_page-requires-clause-found : goal.read_page-requires-clause-found
read_page-requires-clause-found g c = λ keeps.
    let inv = c.loop-k.invariant in let was = inv.old_run.kept keeps in
    subst (λ v. IsOldStore v (g.D.SectorDisk.content c.loop-k.old) c.args.store.now) (sym c.requires.version)
    (subst (λ (image : Image). IsOldStore One image c.args.store.now) (sym (content_is g.D.SectorDisk c.args.old.now c.loop-k.old (inv.old_run.touches keeps))) (c.requires.found was))

pub loop-k-preserved : goal.loop-k-preserved
loop-k-preserved g c =
    let inv = c.loop-k.invariant in let d = g.D.SectorDisk in let n = g.E.SectorDisk in let w = c.write_page.ensures in let entry = c.args.entry in
    let below : c.loop-k.k < pages_of_length entry.info.length = omega (arith, c.loop-k-test.true, c.pages-k-end.ensures) in
    let old = d.content c.args.old.now in let new = n.content c.write_page.new.disk in
    record {
      old_run = one_more d Nothing c.args.old.now c.loop-k.old c.read_page.new.disk inv.old_run c.read_page.ensures.reads.run;
      once_old = λ keeps.
          let was = c.read_page.ensures.reads.run.kept keeps in let same = content_is d c.args.old.now c.loop-k.old (inv.old_run.touches was) in
          page_once d c.args.store.now.journal entry c.loop-k.k (c.loop-k.k + 1) c.args.old.now c.loop-k.old c.read_page.new.disk (omega arith) c.requires.version same (c.requires.found (inv.old_run.kept was)).stands c.requires.few (inv.once_old was) (c.read_page.ensures.asks keeps);
      run = makes_more n (IsFileSector entry) c.args.new.now c.loop-k.new c.write_page.new.disk inv.run
          (makes_page g.E.SectorDisk (IsFileSector entry) (first_home_sector + 8 * c.from.result) c.loop-k.new c.write_page.new.disk
          (λ s inside. (entry.first + c.loop-k.k, (omega arith, omega (arith, below)), (omega (arith, inside.0, c.from.ensures), omega (arith, inside.1, c.from.ensures)))) c.write_page.ensures.run c.write_page.ensures.asks);
      old_calm = c.in_ok-read_page.ensures.reads.calm ∙ inv.old_calm;
      calm = c.in_ok-write_page.ensures.calm ∙ inv.calm;
      pages = λ keeps_old keeps j below_j.
          let was = c.read_page.ensures.reads.run.kept keeps_old in
          let same = content_is d c.args.old.now c.loop-k.old (inv.old_run.touches was) in ⊎_elim
          (λ here. subst (λ m. HoldsPage (entry.first + m) (page_standing_in (old_standing One old) m (Some entry)) new) (sym here)
          (λ i lt. ap (λ m. new (home_sector m + i)) (sym c.from.ensures)
          ∙ c.in_ok-write_page.ensures.written keeps i lt
          ∙ ap (λ page. part_of page i) (c.in_ok-read_page.ensures.page keeps_old
          ∙ ap (λ v. page_standing_in (old_standing v (d.content c.loop-k.old)) c.loop-k.k (Some entry)) c.requires.version ∙ ap (λ (image : Image). page_standing_in (old_standing One image) c.loop-k.k (Some entry)) same)))
          (λ other. λ i lt. ⊎_elim {C = new (home_sector (entry.first + j) + i) ≡ n.content c.loop-k.new (home_sector (entry.first + j) + i)}
          (λ at. absurd (omega (arith, at.0, at.1, c.from.ensures, other, lt))) (λ e. e) ((w.run.touches keeps).content (home_sector (entry.first + j) + i))
          ∙ inv.pages was (w.run.kept keeps) j (omega (arith, below_j, other)) i lt)
          (cases_eq j c.loop-k.k);
    }

pub returns-in_err-read_page-clause-copies : goal.returns-in_err-read_page-clause-copies
returns-in_err-read_page-clause-copies g c =
    let inv = c.loop-k.invariant in let d = g.D.SectorDisk in let n = g.E.SectorDisk in let entry = c.args.entry in let old = d.content c.args.old.now in
    let below : c.loop-k.k < pages_of_length entry.info.length = omega (arith, c.loop-k-test.true, c.pages-k-end.ensures) in
    let W = IsOldPage One old entry (pages_of_length entry.info.length) in let fault = c.in_err-read_page.field-0.0 in
    let failed = c.in_err-read_page.ensures.reads.failed refl in let calm = inv.old_calm in
    copies_unread d n W _ c.args.old.now c.read_page.new.disk c.args.new.now c.loop-k.new (one_more d Nothing c.args.old.now c.loop-k.old c.read_page.new.disk inv.old_run c.read_page.ensures.reads.run)
    (λ keeps.
    let was = c.read_page.ensures.reads.run.kept keeps in let same = content_is d c.args.old.now c.loop-k.old (inv.old_run.touches was) in
    page_once d c.args.store.now.journal entry c.loop-k.k _ c.args.old.now c.loop-k.old c.read_page.new.disk below c.requires.version same (c.requires.found (inv.old_run.kept was)).stands c.requires.few (inv.once_old was) (c.read_page.ensures.asks keeps))
    inv.run (old_fault fault) c.from_residual.result c.from_residual.ensures.1 (ap old_fault (same_Err _ _ c.in_err-read_page.ensures.device)) (omega (arith, failed, calm)) inv.calm

pub returns-in_err-write_page-clause-copies : goal.returns-in_err-write_page-clause-copies
returns-in_err-write_page-clause-copies g c =
    let inv = c.loop-k.invariant in let d = g.D.SectorDisk in let n = g.E.SectorDisk in let entry = c.args.entry in let old = d.content c.args.old.now in
    let below : c.loop-k.k < pages_of_length entry.info.length = omega (arith, c.loop-k-test.true, c.pages-k-end.ensures) in
    let W = IsOldPage One old entry (pages_of_length entry.info.length) in let failed = c.in_err-write_page.ensures.failed refl in
    let calm = inv.calm in
    copies_unwritten d n W _ c.args.old.now c.read_page.new.disk c.args.new.now c.write_page.new.disk (one_more d Nothing c.args.old.now c.loop-k.old c.read_page.new.disk inv.old_run c.read_page.ensures.reads.run)
    (λ keeps.
    let was = c.read_page.ensures.reads.run.kept keeps in let same = content_is d c.args.old.now c.loop-k.old (inv.old_run.touches was) in
    page_once d c.args.store.now.journal entry c.loop-k.k _ c.args.old.now c.loop-k.old c.read_page.new.disk below c.requires.version same (c.requires.found (inv.old_run.kept was)).stands c.requires.few (inv.once_old was) (c.read_page.ensures.asks keeps))
    (makes_more g.E.SectorDisk (IsFileSector entry) c.args.new.now c.loop-k.new c.write_page.new.disk c.loop-k.invariant.run
    (makes_page g.E.SectorDisk (IsFileSector entry) (first_home_sector + 8 * c.from.result) c.loop-k.new c.write_page.new.disk
    (λ s inside. (entry.first + c.loop-k.k, (omega arith, omega (arith, below)), (omega (arith, inside.0, c.from.ensures), omega (arith, inside.1, c.from.ensures)))) c.write_page.ensures.run c.write_page.ensures.asks))
    c.from_residual-in_err-write_page.result c.from_residual-in_err-write_page.ensures.1 (c.in_ok-read_page.ensures.reads.calm ∙ inv.old_calm) (omega (arith, failed, calm))
