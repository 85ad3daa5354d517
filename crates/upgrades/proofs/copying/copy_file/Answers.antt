use Rattle.upgrades.proofs.Names.{◌≡◌, ◌<◌, ◌+◌, ◌*◌, ◌∙◌, Some, ⊎_elim, refl, sym, ap, subst, arith, cases_eq, Image, Nothing, once_apart, once_named, once_wider, one_more, part_of, IsPageSector}
use Rattle.sync_journal.specs.OldLayouts.{old_home_count, old_standing}
use Rattle.file_store.proofs.{Causes.{same_Err}, Copied.{copies_unread, copies_unwritten}, Making.{makes_more, makes_page}, Openings.{content_is}}
use Rattle.file_store.specs.{Faults.{old_fault}, Layout.{pages_of_length}, Standing.{page_standing_in}, Upgrade.{IsOldPage as IsPageOfEntry, IsOldStore}}
use Rattle.upgrades.{proofs.Old.{read_once}, specs.Copying.{IsBetween}}
use Rattle.upgrades.proofs.copying.copy_file.Goals as goal

pub read_page-requires-clause-home : goal.read_page-requires-clause-home
read_page-requires-clause-home g c =
    let below : c.loop-k.k < pages_of_length c.args.entry.info.length = omega (arith, c.loop-k-test.true, c.pages-k-end.ensures) in
    subst (λ n. c.args.entry.first + c.loop-k.k < old_home_count c.args.store.now.journal.version n) (sym c.loop-k.invariant.old_run.size) (omega (arith, below, c.requires.within))

pub read_page-requires-clause-found : goal.read_page-requires-clause-found
read_page-requires-clause-found g c = λ keeps.
    let run = c.loop-k.invariant.old_run in let store = c.args.store.now in
    subst (λ (image : Image). IsOldStore store.journal.version image store) (sym (content_is g.D.SectorDisk c.args.old.now c.loop-k.old (run.touches keeps))) (c.requires.ready.found (run.kept keeps))

pub loop-k-preserved : goal.loop-k-preserved
loop-k-preserved g c =
    let d = g.D.SectorDisk in let n = g.E.SectorDisk in let inv = c.loop-k.invariant in let store = c.args.store.now in let old = c.args.old.now in let mid = c.loop-k.old in
    let read = c.read_page.new.disk in let k = c.loop-k.k in let entry = c.args.entry in let start = c.args.start in let reads = c.read_page.ensures.reads in
    let below : k < pages_of_length entry.info.length = omega (arith, c.loop-k-test.true, c.pages-k-end.ensures) in
    let first = start + 8 * c.from.result in let at = c.from.ensures in let w = c.write_page.ensures in let made = n.content c.write_page.new.disk in
    let All = IsBetween start (start + 8 * pages_of_length entry.info.length) in
    record {
      old_run = one_more d Nothing old mid read inv.old_run reads.run;
      once_old = read_once d store old mid read c.requires.ready inv.old_run reads.run.kept entry k (k + 1) (omega arith) inv.once_old c.read_page.ensures.asks;
      run = makes_more n All c.args.new.now c.loop-k.new c.write_page.new.disk inv.run
          (makes_page n All first c.loop-k.new c.write_page.new.disk (λ s inside. (omega (arith, inside.0), omega (arith, inside.1, at, below))) w.run w.asks);
      once = once_apart (IsBetween start (start + 8 * k)) (IsPageSector first) (IsBetween start (start + 8 * (k + 1))) _ _ _
          (λ s here. (here.0, omega (arith, here.1))) (λ s inside. (omega (arith, inside.0), omega (arith, inside.1, at)))
          (λ s before now. omega (arith, before.1, now.0, at)) inv.once (once_named (IsPageSector first) (IsPageSector first) _ _ (λ s here. here) w.asks);
      old_calm = c.in_ok-read_page.ensures.reads.calm ∙ inv.old_calm;
      calm = c.in_ok-write_page.ensures.calm ∙ inv.calm;
      held = λ keeps_old keeps j i below_j lt.
          let was = reads.run.kept keeps_old in ⊎_elim
          (λ here.
          ap (λ m. made (start + 8 * m + i)) (here ∙ sym at)
          ∙ c.in_ok-write_page.ensures.written keeps i lt
          ∙ ap (λ page. part_of page i) (c.in_ok-read_page.ensures.page keeps_old
          ∙ ap (λ (image : Image). page_standing_in (old_standing store.journal.version image) k (Some entry)) (content_is d old mid (inv.old_run.touches was))
          ∙ ap (λ m. page_standing_in (old_standing store.journal.version (d.content old)) m (Some entry)) (sym here)))
          (λ other. ⊎_elim {C = made (start + 8 * j + i) ≡ n.content c.loop-k.new (start + 8 * j + i)}
          (λ inside. absurd (omega (arith, inside.0, inside.1, at, other, lt))) (λ e. e) ((w.run.touches keeps).content (start + 8 * j + i))
          ∙ inv.held was (w.run.kept keeps) j i (omega (arith, below_j, other)) lt)
          (cases_eq j k);
    }

pub returns-in_err-read_page-clause-copies : goal.returns-in_err-read_page-clause-copies
returns-in_err-read_page-clause-copies g c =
    let d = g.D.SectorDisk in let n = g.E.SectorDisk in let inv = c.loop-k.invariant in let store = c.args.store.now in let old = c.args.old.now in let mid = c.loop-k.old in
    let read = c.read_page.new.disk in let k = c.loop-k.k in let entry = c.args.entry in let start = c.args.start in let reads = c.read_page.ensures.reads in
    let count = pages_of_length entry.info.length in let below : k < pages_of_length entry.info.length = omega (arith, c.loop-k-test.true, c.pages-k-end.ensures) in
    let failed = c.in_err-read_page.ensures.reads.failed refl in let calm = inv.old_calm in
    record {
      copies = copies_unread d n (IsPageOfEntry store.journal.version (d.content old) entry count) _ old read c.args.new.now c.loop-k.new (one_more d Nothing old mid read inv.old_run reads.run)
          (read_once d store old mid read c.requires.ready inv.old_run reads.run.kept entry k count below inv.once_old c.read_page.ensures.asks)
          inv.run (old_fault c.in_err-read_page.field-0.0) c.from_residual.result c.from_residual.ensures.1 (ap old_fault (same_Err _ _ c.in_err-read_page.ensures.device)) (omega (arith, failed, calm)) inv.calm;
      once = once_wider (IsBetween start (start + 8 * k)) (IsBetween start (start + 8 * count)) _ _ (λ s here. (here.0, omega (arith, here.1, below))) inv.once;
    }

pub returns-in_err-write_page-clause-copies : goal.returns-in_err-write_page-clause-copies
returns-in_err-write_page-clause-copies g c =
    let d = g.D.SectorDisk in let n = g.E.SectorDisk in let inv = c.loop-k.invariant in let store = c.args.store.now in let old = c.args.old.now in let mid = c.loop-k.old in
    let read = c.read_page.new.disk in let k = c.loop-k.k in let entry = c.args.entry in let start = c.args.start in let reads = c.read_page.ensures.reads in
    let count = pages_of_length entry.info.length in let below : k < pages_of_length entry.info.length = omega (arith, c.loop-k-test.true, c.pages-k-end.ensures) in
    let first = start + 8 * c.from.result in let at = c.from.ensures in let w = c.write_page.ensures in let All = IsBetween start (start + 8 * pages_of_length entry.info.length) in
    let failed = c.in_err-write_page.ensures.failed refl in let calm = inv.calm in
    record {
      copies = copies_unwritten d n (IsPageOfEntry store.journal.version (d.content old) entry count) All old read c.args.new.now c.write_page.new.disk (one_more d Nothing old mid read inv.old_run reads.run)
          (read_once d store old mid read c.requires.ready inv.old_run reads.run.kept entry k count below inv.once_old c.read_page.ensures.asks)
          (makes_more n All c.args.new.now c.loop-k.new c.write_page.new.disk inv.run
          (makes_page n All first c.loop-k.new c.write_page.new.disk (λ s inside. (omega (arith, inside.0), omega (arith, inside.1, at, below))) w.run w.asks))
          c.from_residual-in_err-write_page.result c.from_residual-in_err-write_page.ensures.1 (c.in_ok-read_page.ensures.reads.calm ∙ inv.old_calm) (omega (arith, failed, calm));
      once = once_apart (IsBetween start (start + 8 * k)) (IsPageSector first) All _ _ _
          (λ s here. (here.0, omega (arith, here.1, below))) (λ s inside. (omega (arith, inside.0), omega (arith, inside.1, at, below)))
          (λ s before now. omega (arith, before.1, now.0, at)) inv.once (once_named (IsPageSector first) (IsPageSector first) _ _ (λ s here. here) w.asks);
    }
