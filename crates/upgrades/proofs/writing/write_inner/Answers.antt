use Rattle.upgrades.proofs.Names.{◌≡◌, ℕ, ⊎_elim, inl, inr, refl, arith, on_ok_weaker, once_none, once_wider}
use Rattle.file_store.proofs.{Copied.{copies_unwritten}, Making.{makes_of}}
use Rattle.pool_store.{proofs.{Formats.{head_low}, Making.{has_pool, made_once}}, specs.Format.{IsHomeSector, IsInnerSector, new_pages}}
use Rattle.upgrades.proofs.{Copies.{copies_later}, Old.{not_run, short_listed}, Tables.{tables_move}}
use Rattle.upgrades.specs.{NewPool.{IsTableSector, files_in, first_of, pages_before}, Old.{IsOldPage}}
use Rattle.upgrades.proofs.writing.write_inner.Goals as goal

pub write_tables-requires-clause-short : goal.write_tables-requires-clause-short
write_tables-requires-clause-short g c = short_listed c.args.store.now c.args.files.now c.requires.files

pub copy_files-requires : goal.copy_files-requires
copy_files-requires g c = record {
  ready = c.requires.ready;
  pool = has_pool g.E.SectorDisk c.args.sizes c.args.new.now c.write_tables.new.new c.write_tables.ensures.size c.requires.pool;
  files = c.requires.files;
  homes = c.requires.homes;
}

pub returns-in_err-write_tables-clause-copies : goal.returns-in_err-write_tables-clause-copies
returns-in_err-write_tables-clause-copies g c =
    let d = g.D.SectorDisk in let n = g.E.SectorDisk in let m = c.args.sizes.blocks in let w = c.write_tables.ensures in let old = c.args.old.now in
    let All = IsInnerSector m (pages_before (files_in c.args.files.now) 64) in let Read = IsOldPage (g.D.SectorDisk.content old) in
    let more : (k : ℕ) → IsTableSector m k → All k = λ k. ⊎_elim (λ head. inl head) (λ home. inr (home.0, omega (arith, home.1))) in
    record {
      copies = copies_unwritten d n Read All old old c.args.new.now c.write_tables.new.new (not_run d old) (λ k. once_none Read _ _ (λ s. refl))
          (makes_of n (IsTableSector m) All c.args.new.now c.write_tables.new.new more (made_once n (IsTableSector m) c.args.new.now c.write_tables.new.new w.run w.once))
          c.from_residual.result c.from_residual.ensures.1 refl (c.in_err-write_tables.ensures.failed refl);
      once = once_wider (IsTableSector m) All _ _ more w.once;
    }

pub returns-clause-copies : goal.returns-clause-copies
returns-clause-copies g c =
    let d = g.D.SectorDisk in let n = g.E.SectorDisk in let m = c.args.sizes.blocks in let w = c.write_tables.ensures in let old = c.args.old.now in
    let files = files_in c.args.files.now in let All = IsInnerSector m (pages_before files 64) in
    copies_later d n (IsOldPage (g.D.SectorDisk.content old)) (IsTableSector m) (IsHomeSector m new_pages (first_of files 64)) All old c.copy_files.new.old c.args.new.now c.write_tables.new.new c.copy_files.new.new
    c.copy_files.result (λ k. ⊎_elim (λ head. inl head) (λ home. inr (home.0, omega (arith, home.1)))) (λ k home. inr (omega (arith, home.0), home.1))
    (λ k front home. ⊎_elim (λ head. let low = head_low m k c.requires.pool.sized.0 head in omega (arith, low.1, home.0)) (λ first. omega (arith, first.1, home.0)) front)
    (made_once n (IsTableSector m) c.args.new.now c.write_tables.new.new w.run w.once) w.once c.in_ok-write_tables.ensures.calm c.copy_files.ensures.copies

pub returns-clause-inner : goal.returns-clause-inner
returns-clause-inner g c = λ keeps_old keeps.
    let n = g.E.SectorDisk in let m = c.args.sizes.blocks in let files = files_in c.args.files.now in let last = c.copy_files.ensures.copies.run in
    let mid = n.content c.write_tables.new.new in let new = n.content c.copy_files.new.new in
    let same : (k : ℕ) → IsTableSector m k → new k ≡ mid k = λ k table. ⊎_elim
    (λ home. absurd (⊎_elim (λ head. let low = head_low m k c.requires.pool.sized.0 head in omega (arith, low.1, home.0)) (λ first. omega (arith, first.1, home.0)) table)) (λ e. e) ((last.touches keeps).content k) in
    on_ok_weaker c.copy_files.result (λ held. record { tables = tables_move m files mid new same (c.in_ok-write_tables.ensures.done (last.kept keeps)); held = held }) (c.copy_files.ensures.held keeps_old keeps)
