use Rattle.file_store.proofs.Names.{◌≡◌, ◌+◌, Some, sym, ap, subst, ◌∙◌, ⊎_elim, arith, cases_eq, Image, Nothing, once_wider, old_home_count, home_sector, one_more, One}
use Rattle.file_store.specs.{Layout.{pages_of_length}, Store.{entry_of}, Upgrade.{IsEntrySector, IsFilesSector, IsOldFile, HoldsOldPages}}
use Rattle.file_store.proofs.{Copied.{IsOldFirst, copiable_still, copies_done, copies_error, file_once}, Making.{makes_more, makes_of}, Openings.{content_is}, Upgrades.{not_in_entry}}
use Rattle.file_store.proofs.upgrading.copy_files.Goals as goal

pub copy_entry-requires : goal.copy_entry-requires
copy_entry-requires g c = copiable_still g.D.SectorDisk g.E.SectorDisk c.args.store.now c.args.old.now c.loop-f.old (g.E.SectorDisk.sector_count c.args.new.now) (g.E.SectorDisk.sector_count c.loop-f.new)
    c.loop-f.invariant.run.size c.loop-f.invariant.old_run c.requires

pub loop-f-preserved : goal.loop-f-preserved
loop-f-preserved g c =
    let inv = c.loop-f.invariant in
    let d = g.D.SectorDisk in
    let n = g.E.SectorDisk in
    let w = c.copy_entry.ensures in
    let directory = c.args.store.now.directory in
    let entry = entry_of directory c.loop-f.f in
    let new = n.content c.copy_entry.new.new in
    let old = d.content c.args.old.now in
    record {
      old_run = one_more d Nothing c.args.old.now c.loop-f.old c.copy_entry.new.old inv.old_run w.copies.old_run;
      once_old = λ keeps.
          let was = c.copy_entry.ensures.copies.old_run.kept keeps in
          let same = content_is d c.args.old.now c.loop-f.old (inv.old_run.touches was) in
          file_once d c.args.store.now (old_home_count One (d.sector_count c.args.old.now)) c.loop-f.f c.args.old.now c.loop-f.old c.copy_entry.new.old c.requires.version same
          (c.requires.found (inv.old_run.kept was)) c.requires.few c.requires.sound (inv.once_old was) (c.copy_entry.ensures.copies.once_old keeps);
      run = makes_more n (IsFilesSector (entry_of c.args.store.now.directory)) c.args.new.now c.loop-f.new c.copy_entry.new.new inv.run
          (makes_of n (IsEntrySector entry) (IsFilesSector (entry_of c.args.store.now.directory)) c.loop-f.new c.copy_entry.new.new (λ k at. (c.loop-f.f, at)) c.copy_entry.ensures.copies.run);
      old_calm = c.in_ok-copy_entry.ensures.copies.causes.old_still (λ e. cc) ∙ inv.old_calm;
      calm = c.in_ok-copy_entry.ensures.copies.causes.new_still (λ e. cc) ∙ inv.calm;
      files = λ keeps_old keeps h e less is.
          let was = w.copies.old_run.kept keeps_old in
          let first = inv.old_run.kept was in
          let same = content_is d c.args.old.now c.loop-f.old (inv.old_run.touches was) in
          let known : entry_of directory h ≡ Some e = (c.requires.found first).entries h ∙ is in ⊎_elim
          (λ here. subst (λ (image : Image). HoldsOldPages image e (pages_of_length e.info.length) new) same
          (c.in_ok-copy_entry.ensures.pages keeps_old keeps e (ap (entry_of directory) (sym here) ∙ known)))
          (λ other. λ k inside i lt. ⊎_elim {C = new (home_sector (e.first + k) + i) ≡ n.content c.loop-f.new (home_sector (e.first + k) + i)}
          (λ at. absurd (not_in_entry (old_home_count One (d.sector_count c.args.old.now)) (entry_of directory) c.requires.sound h c.loop-f.f k i e other known inside lt at))
          (λ e. e) ((w.copies.run.touches keeps).content (home_sector (e.first + k) + i))
          ∙ inv.files was (w.copies.run.kept keeps) h e (omega (arith, less, other)) is k inside i lt)
          (cases_eq h c.loop-f.f);
    }

pub returns-in_err-copy_entry-clause-copies : goal.returns-in_err-copy_entry-clause-copies
returns-in_err-copy_entry-clause-copies g c =
    let inv = c.loop-f.invariant in
    let d = g.D.SectorDisk in
    let entry = entry_of c.args.store.now.directory c.loop-f.f in
    let old = d.content c.args.old.now in
    copies_error d g.E.SectorDisk _ _ c.args.old.now c.copy_entry.new.old c.args.new.now c.copy_entry.new.new (one_more d Nothing c.args.old.now c.loop-f.old c.copy_entry.new.old inv.old_run c.copy_entry.ensures.copies.old_run)
    (λ keeps.
    let was = c.copy_entry.ensures.copies.old_run.kept keeps in
    let same = content_is d c.args.old.now c.loop-f.old (inv.old_run.touches was) in
    once_wider (IsOldFirst old (c.loop-f.f + 1)) (IsOldFile One old) (d.asked c.args.old.now) (d.asked c.copy_entry.new.old) (λ k at. (at.0, at.2))
    (file_once d c.args.store.now (old_home_count One (d.sector_count c.args.old.now)) c.loop-f.f c.args.old.now c.loop-f.old c.copy_entry.new.old c.requires.version same
    (c.requires.found (inv.old_run.kept was)) c.requires.few c.requires.sound (inv.once_old was) (c.copy_entry.ensures.copies.once_old keeps)))
    (makes_more g.E.SectorDisk (IsFilesSector (entry_of c.args.store.now.directory)) c.args.new.now c.loop-f.new c.copy_entry.new.new c.loop-f.invariant.run
    (makes_of g.E.SectorDisk (IsEntrySector entry) (IsFilesSector (entry_of c.args.store.now.directory)) c.loop-f.new c.copy_entry.new.new (λ k at. (c.loop-f.f, at)) c.copy_entry.ensures.copies.run))
    _ _ c.in_err-copy_entry.field-0.0 c.from_residual.result c.loop-f.old c.loop-f.new c.from_residual.ensures.1 inv.old_calm inv.calm c.in_err-copy_entry.ensures.copies

pub returns-clause-copies : goal.returns-clause-copies
returns-clause-copies g c =
    let inv = c.loop-f.invariant in
    let d = g.D.SectorDisk in
    let old = d.content c.args.old.now in
    copies_done d g.E.SectorDisk _ _ c.args.old.now c.loop-f.old c.args.new.now c.loop-f.new inv.old_run
    (λ keeps. once_wider (IsOldFirst old c.loop-f.f) (IsOldFile One old) (d.asked c.args.old.now) (d.asked c.loop-f.old) (λ k at. (at.0, at.2)) (inv.once_old keeps))
    inv.run _ inv.old_calm inv.calm
