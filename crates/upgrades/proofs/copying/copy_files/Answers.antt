use Rattle.upgrades.proofs.Names.{◌≡◌, ◌+◌, ◌*◌, ◌∙◌, ⊎_elim, refl, sym, ap, arith, cases_eq, asks_none, once_apart, once_none, once_wider, one_more, stays, part_of, Image, Nothing}
use Rattle.file_store.proofs.{Copied.{copies_done, copies_error}, Looking.{ok_is_no_err}, Making.{makes_more, makes_of}, Openings.{content_is}}
use Rattle.file_store.specs.{Store.{entry_of}}
use Rattle.pool_journal.specs.Pools.{pool_home}
use Rattle.pool_store.{specs.Format.{IsHomeSector, new_pages}}
use Rattle.upgrades.proofs.{Counting.{files_before, no_file_before, one_file_more, pages_listed}, Old.{IsOldFirst, copied_once, first_once, not_run, still_readable}}
use Rattle.upgrades.specs.{Copying.{IsBetween}, NewPool.{files_in, first_of, pages_before, pages_of}, Old.{IsOldPage, entry_pages, standing_page}}
use Rattle.upgrades.proofs.copying.copy_files.Goals as goal

pub loop-f-init : goal.loop-f-init
loop-f-init g c =
    let d = g.D.SectorDisk in let n = g.E.SectorDisk in let old = c.args.old.now in let none = no_file_before (files_in c.args.files.now) in
    let All = IsHomeSector c.args.sizes.blocks new_pages (first_of (files_in c.args.files.now) 64) in
    record {
      at = omega (arith, none);
      old_run = not_run d old;
      once_old = λ k. once_none (IsOldFirst c.args.store.now.journal.version (d.content old) 0) _ _ (λ s. refl);
      run = record { size = refl; kept = λ k. k; later = omega arith; asks = asks_none n All c.args.new.now c.args.new.now (λ k. refl); touches = λ k. stays n All c.args.new.now };
      once = once_none (IsHomeSector c.args.sizes.blocks new_pages 4) _ _ (λ s. refl);
      old_calm = refl;
      calm = refl;
      held = λ keeps_old keeps f less. absurd (omega (arith, less));
    }

pub copy_entry-requires-clause-ready : goal.copy_entry-requires-clause-ready
copy_entry-requires-clause-ready g c = still_readable g.D.SectorDisk c.args.store.now c.args.old.now c.loop-f.old c.loop-f.invariant.old_run c.requires.ready

pub copy_entry-requires-clause-room : goal.copy_entry-requires-clause-room
copy_entry-requires-clause-room g c =
    let f = c.loop-f.f in let files = files_in c.args.files.now in let fits = files_before files f 64 c.loop-f-test.true in let inv = c.loop-f.invariant in let entry = entry_of c.args.store.now.directory f in
    let listed : pages_of (files f) ≡ entry_pages entry = ap pages_of (c.requires.files f) ∙ pages_listed entry in
    omega (arith, c.home.ensures, inv.run.size, inv.at, c.requires.pool.homes, c.requires.homes, fits, listed)

pub overflow_add-first : goal.overflow_add-first
overflow_add-first g c =
    let fits = files_before (files_in c.args.files.now) c.loop-f.f 64 c.loop-f-test.true in let counts = c.pages_of-first.ensures.count in
    omega (arith, c.loop-f.invariant.at, c.requires.pool.homes, c.requires.homes, fits, counts)

pub loop-f-preserved : goal.loop-f-preserved
loop-f-preserved g c =
    let d = g.D.SectorDisk in let n = g.E.SectorDisk in let inv = c.loop-f.invariant in let store = c.args.store.now in let old = c.args.old.now in let mid = c.loop-f.old in
    let read = c.copy_entry.new.old in let f = c.loop-f.f in let m = c.args.sizes.blocks in let files = files_in c.args.files.now in
    let first = c.loop-f.first in let start = c.home.result in let entry = entry_of store.directory f in let counts = c.pages_of-first.ensures.count in
    let more = one_file_more files f in let fits = files_before files f 64 c.loop-f-test.true in let w = c.copy_entry.ensures in let done = c.in_ok-copy_entry.ensures in
    let made = n.content c.copy_entry.new.new in let All = IsHomeSector m new_pages (first_of files 64) in let Own = IsBetween start (start + 8 * entry_pages entry) in
    let at : start ≡ pool_home m first = c.home.ensures in let own = inv.at in
    let listed : pages_of (files f) ≡ entry_pages entry = ap pages_of (c.requires.files f) ∙ pages_listed entry in
    record {
      at = omega (arith, more, own, counts);
      old_run = one_more d Nothing old mid read inv.old_run w.copies.old_run;
      once_old = copied_once d store old mid read c.requires.ready inv.old_run w.copies.old_run.kept f inv.once_old w.copies.once_old;
      run = makes_more n All c.args.new.now c.loop-f.new c.copy_entry.new.new inv.run
          (makes_of n Own All c.loop-f.new c.copy_entry.new.new (λ s inside. (omega (arith, inside.0, at, own), omega (arith, inside.1, at, own, fits, listed))) w.copies.run);
      once = once_apart (IsHomeSector m new_pages first) Own (IsHomeSector m new_pages (first + c.pages_of-first.result)) _ _ _
          (λ s here. (here.0, omega (arith, here.1))) (λ s inside. (omega (arith, inside.0, at, own), omega (arith, inside.1, at, listed, counts))) (λ s before now. omega (arith, before.1, now.0, at)) inv.once w.copies.once;
      old_calm = done.copies.causes.old_still (ok_is_no_err _ _) ∙ inv.old_calm;
      calm = done.copies.causes.new_still (ok_is_no_err _ _) ∙ inv.calm;
      held = λ keeps_old keeps h less j i below lt. ⊎_elim
          (λ here.
          let home : pool_home m (first_of files h) ≡ start = ap (λ x. pool_home m (first_of files x)) here ∙ ap (pool_home m) (sym own) ∙ sym at in
          let same = ap (λ x. pages_of (files x)) here in
          ap (λ s. made (s + 8 * j + i)) home
          ∙ done.held keeps_old keeps j i (omega (arith, below, same, listed)) lt
          ∙ ap (λ page. part_of page i) (ap (λ (image : Image). standing_page image f j) (content_is d old mid (inv.old_run.touches (w.copies.old_run.kept keeps_old))) ∙ ap (λ x. standing_page (d.content old) x j) (sym here)))
          (λ other. let before = files_before files h f (omega (arith, less, other)) in let s = pool_home m (first_of files h) + 8 * j + i in
          ⊎_elim {C = made s ≡ n.content c.loop-f.new s} (λ inside. absurd (omega (arith, inside.0, at, own, before, below, lt))) (λ e. e) ((w.copies.run.touches keeps).content s)
          ∙ inv.held (w.copies.old_run.kept keeps_old) (w.copies.run.kept keeps) h (omega (arith, less, other)) j i below lt)
          (cases_eq h f);
    }

pub returns-in_err-copy_entry-clause-copies : goal.returns-in_err-copy_entry-clause-copies
returns-in_err-copy_entry-clause-copies g c =
    let d = g.D.SectorDisk in let n = g.E.SectorDisk in let inv = c.loop-f.invariant in let store = c.args.store.now in let old = c.args.old.now in let mid = c.loop-f.old in
    let read = c.copy_entry.new.old in let f = c.loop-f.f in let m = c.args.sizes.blocks in let files = files_in c.args.files.now in
    let first = c.loop-f.first in let start = c.home.result in let entry = entry_of store.directory f in
    let fits = files_before files f 64 c.loop-f-test.true in let w = c.copy_entry.ensures in let All = IsHomeSector m new_pages (first_of files 64) in let Own = IsBetween start (start + 8 * entry_pages entry) in
    let at : start ≡ pool_home m first = c.home.ensures in let own = inv.at in
    let listed : pages_of (files f) ≡ entry_pages entry = ap pages_of (c.requires.files f) ∙ pages_listed entry in
    let run = one_more d Nothing old mid read inv.old_run w.copies.old_run in
    record {
      copies = copies_error d n (IsOldPage (d.content old)) All old read c.args.new.now c.copy_entry.new.new run
          (first_once d store old read c.requires.ready run (f + 1) (copied_once d store old mid read c.requires.ready inv.old_run w.copies.old_run.kept f inv.once_old w.copies.once_old))
          (makes_more n All c.args.new.now c.loop-f.new c.copy_entry.new.new inv.run
          (makes_of n Own All c.loop-f.new c.copy_entry.new.new (λ s inside. (omega (arith, inside.0, at, own), omega (arith, inside.1, at, own, fits, listed))) w.copies.run))
          _ _ c.in_err-copy_entry.field-0.0 c.from_residual.result mid c.loop-f.new c.from_residual.ensures.1 inv.old_calm inv.calm c.in_err-copy_entry.ensures.copies.copies;
      once = once_apart (IsHomeSector m new_pages first) Own All _ _ _
          (λ s here. (here.0, omega (arith, here.1, own, fits))) (λ s inside. (omega (arith, inside.0, at, own), omega (arith, inside.1, at, own, fits, listed))) (λ s before now. omega (arith, before.1, now.0, at)) inv.once w.copies.once;
    }

pub returns-clause-copies : goal.returns-clause-copies
returns-clause-copies g c =
    let d = g.D.SectorDisk in let n = g.E.SectorDisk in let inv = c.loop-f.invariant in let store = c.args.store.now in let old = c.args.old.now in let m = c.args.sizes.blocks in let files = files_in c.args.files.now in
    let own = inv.at in let end : c.loop-f.f ≡ 64 = omega (arith, c.loop-f-test.false, c.loop-f.auto.f-end) in let all = ap (pages_before files) end in
    record {
      copies = copies_done d n (IsOldPage (d.content old)) (IsHomeSector m new_pages (first_of files 64)) old c.loop-f.old c.args.new.now c.loop-f.new inv.old_run
          (first_once d store old c.loop-f.old c.requires.ready inv.old_run c.loop-f.f inv.once_old) inv.run _ inv.old_calm inv.calm;
      once = once_wider (IsHomeSector m new_pages c.loop-f.first) (IsHomeSector m new_pages (first_of files 64)) _ _ (λ s here. (here.0, omega (arith, here.1, own, all))) inv.once;
    }
