use Rattle.file_store.proofs.{Images.{layout_low}, Copied.{copies_done, copies_error, copies_unwritten}, Looking.{ok_is_no_err}, Making.{makes_more, makes_of}, Names.{ℕ, List, inl, inr, refl, subst, ◌+◌, ⊎_elim, ◌∙◌, arith, home_sector}}
use Rattle.file_store.specs.{Format.{IsLayoutSector, HasHead}, Store.{entry_of}, Upgrade.{IsFilesSector, IsCopiedSector}}
use Rattle.file_store.proofs.upgrading.copy_unmarked.Goals as goal

pub returns-in_err-copy_files-clause-copies : goal.returns-in_err-copy_files-clause-copies
returns-in_err-copy_files-clause-copies g c =
    let n = g.E.SectorDisk in
    let entries = entry_of c.args.store.now.directory in
    let W : ℕ → Type 0 = IsCopiedSector entries in
    let copied = c.copy_files.ensures.copies in
    copies_error g.D.SectorDisk n _ W c.args.old.now c.copy_files.new.old c.args.new.now c.copy_files.new.new copied.old_run copied.once_old
    (makes_of n (IsFilesSector entries) W c.args.new.now c.copy_files.new.new (λ k at. inr at) copied.run)
    _ _ c.in_err-copy_files.field-0.0 c.from_residual.result c.args.old.now c.args.new.now c.from_residual.ensures.1 refl refl c.in_err-copy_files.ensures.copies

pub returns-in_err-write_layout-clause-copies : goal.returns-in_err-write_layout-clause-copies
returns-in_err-write_layout-clause-copies g c =
    let n = g.E.SectorDisk in
    let entries = entry_of c.args.store.now.directory in
    let W : ℕ → Type 0 = IsCopiedSector entries in
    let copied = c.copy_files.ensures.copies in
    let failed = c.in_err-write_layout.ensures.writes.failed refl in
    let calm = c.in_ok-copy_files.ensures.copies.causes.new_still (ok_is_no_err _ _) in
    copies_unwritten g.D.SectorDisk n _ W c.args.old.now c.copy_files.new.old c.args.new.now c.write_layout.new.disk copied.old_run copied.once_old
    (makes_more n W c.args.new.now c.copy_files.new.new c.write_layout.new.disk
    (makes_of n (IsFilesSector entries) W c.args.new.now c.copy_files.new.new (λ k at. inr at) copied.run)
    (makes_of n (IsLayoutSector) W c.copy_files.new.new c.write_layout.new.disk (λ k at. inl at) c.write_layout.ensures.writes.run))
    c.from_residual-in_err-write_layout.result c.from_residual-in_err-write_layout.ensures.1 (c.in_ok-copy_files.ensures.copies.causes.old_still (ok_is_no_err _ _)) (omega (arith, failed, calm))

pub returns-clause-copies : goal.returns-clause-copies
returns-clause-copies g c =
    let n = g.E.SectorDisk in
    let entries = entry_of c.args.store.now.directory in
    let W : ℕ → Type 0 = IsCopiedSector entries in
    let copied = c.copy_files.ensures.copies in
    copies_done g.D.SectorDisk n _ W c.args.old.now c.copy_files.new.old c.args.new.now c.write_layout.new.disk copied.old_run copied.once_old
    (makes_more n W c.args.new.now c.copy_files.new.new c.write_layout.new.disk
    (makes_of n (IsFilesSector entries) W c.args.new.now c.copy_files.new.new (λ k at. inr at) copied.run)
    (makes_of n (IsLayoutSector) W c.copy_files.new.new c.write_layout.new.disk (λ k at. inl at) c.write_layout.ensures.writes.run))
    _ (c.in_ok-copy_files.ensures.copies.causes.old_still (ok_is_no_err _ _)) (c.in_ok-write_layout.ensures.writes.calm ∙ c.in_ok-copy_files.ensures.copies.causes.new_still (ok_is_no_err _ _))

pub returns-clause-written : goal.returns-clause-written
returns-clause-written g c = λ keeps_old keeps.
    let w = c.write_layout.ensures in
    let here = c.in_ok-write_layout.ensures in
    record {
      head = subst (λ (s : List ℕ). HasHead s (g.E.SectorDisk.content c.write_layout.new.disk)) (c.requires.copied.found (c.copy_files.ensures.copies.old_run.kept keeps_old)).sector (here.head keeps);
      files = λ f e less is k inside i lt. ⊎_elim
          (λ layout. absurd (let at = layout_low _ layout in omega (arith, at.1)))
          (λ same. same ∙ c.in_ok-copy_files.ensures.files keeps_old (w.writes.run.kept keeps) f e less is k inside i lt)
          ((w.writes.run.touches keeps).content (home_sector (e.first + k) + i));
    }
