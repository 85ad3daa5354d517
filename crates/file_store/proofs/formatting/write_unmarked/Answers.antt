use Rattle.file_store.proofs.{Filling.{fills_done, fills_error, fills_failed}, Images.{layout_low}, Making.{makes_more, makes_of}, Names.{ℕ, ◌+◌, once_wider, once_apart, ⊎_elim, inl, inr, List, refl, sym, subst, ◌∙◌, arith, home_sector}, NewStores.{cut_moves}}
use Rattle.file_store.specs.{Format.{first_home, total_pages, page_given, IsLayoutSector, IsHomesBetween, IsUnmarkedSector, IsDirectoryOf}, Layout.{bytes_inside}}
use Rattle.file_store.proofs.formatting.write_unmarked.Goals as goal

pub returns-in_err-write_homes-clause-fills : goal.returns-in_err-write_homes-clause-fills
returns-in_err-write_homes-clause-fills g c =
    let d = g.D.SectorDisk in
    let pages = total_pages c.args.sources.now in
    let W : ℕ → Type 0 = IsUnmarkedSector pages in
    fills_error d W _ _ c.args.disk.now c.write_homes.new.disk
    (makes_of d (IsHomesBetween 0 pages) W c.args.disk.now c.write_homes.new.disk (λ k at. inr at) c.write_homes.ensures.fills.run)
    (once_wider (IsHomesBetween 0 pages) W _ _ (λ k at. inr at) c.write_homes.ensures.fills.once)
    _ _ _ c.in_err-write_homes.field-0.0 c.from_residual.result c.args.disk.now c.from_residual.ensures.1 refl c.in_err-write_homes.ensures.fills (λ bytes. bytes)

pub returns-in_err-write_layout-clause-fills : goal.returns-in_err-write_layout-clause-fills
returns-in_err-write_layout-clause-fills g c =
    let d = g.D.SectorDisk in
    let pages = total_pages c.args.sources.now in
    let W : ℕ → Type 0 = IsUnmarkedSector pages in
    let failed = c.in_err-write_layout.ensures.writes.failed refl in
    let calm = c.in_ok-write_homes.ensures.fills.calm in
    fills_failed d W _ _ c.args.disk.now c.write_layout.new.disk
    (makes_more d W c.args.disk.now c.write_homes.new.disk c.write_layout.new.disk
    (makes_of d (IsHomesBetween 0 pages) W c.args.disk.now c.write_homes.new.disk (λ k at. inr at) c.write_homes.ensures.fills.run)
    (makes_of d (IsLayoutSector) W c.write_homes.new.disk c.write_layout.new.disk (λ k at. inl at) c.write_layout.ensures.writes.run))
    (once_apart (IsHomesBetween 0 pages) (IsLayoutSector) W _ _ _ (λ k at. inr at) (λ k at. inl at)
    (λ k home layout. let at = layout_low k layout in omega (arith, home.0, at.1))
    c.write_homes.ensures.fills.once c.write_layout.ensures.writes.once)
    c.from_residual-in_err-write_layout.result c.from_residual-in_err-write_layout.ensures.1 (omega (arith, failed, calm))

pub returns-clause-fills : goal.returns-clause-fills
returns-clause-fills g c =
    let d = g.D.SectorDisk in
    let pages = total_pages c.args.sources.now in
    let W : ℕ → Type 0 = IsUnmarkedSector pages in
    fills_done d W _ _ c.args.disk.now c.write_layout.new.disk
    (makes_more d W c.args.disk.now c.write_homes.new.disk c.write_layout.new.disk
    (makes_of d (IsHomesBetween 0 pages) W c.args.disk.now c.write_homes.new.disk (λ k at. inr at) c.write_homes.ensures.fills.run)
    (makes_of d (IsLayoutSector) W c.write_homes.new.disk c.write_layout.new.disk (λ k at. inl at) c.write_layout.ensures.writes.run))
    (once_apart (IsHomesBetween 0 pages) (IsLayoutSector) W _ _ _ (λ k at. inr at) (λ k at. inl at)
    (λ k home layout. let at = layout_low k layout in omega (arith, home.0, at.1))
    c.write_homes.ensures.fills.once c.write_layout.ensures.writes.once)
    _ (c.in_ok-write_layout.ensures.writes.calm ∙ c.in_ok-write_homes.ensures.fills.calm) c.in_ok-write_homes.ensures.fills.whole

pub returns-clause-written : goal.returns-clause-written
returns-clause-written g c = λ keeps.
    let w = c.write_layout.ensures in
    let here = c.in_ok-write_layout.ensures in
    let sources = c.args.sources.now in
    record {
      directory = subst (λ (s : List ℕ). IsDirectoryOf sources s) (sym (here.head keeps).directory) c.directory_of-directory.ensures;
      gate = (here.head keeps).gate;
      files = λ f source less at k inside. cut_moves (first_home sources f + k) (bytes_inside source.length k) (page_given g.R.Read.remaining source k)
          (g.D.SectorDisk.content c.write_homes.new.disk) (g.D.SectorDisk.content c.write_layout.new.disk)
          (λ i lt. ⊎_elim
          (λ layout. absurd (let at = layout_low _ layout in omega (arith, at.1)))
          (λ e. e)
          ((w.writes.run.touches keeps).content (home_sector (first_home sources f + k) + i)))
          (c.in_ok-write_homes.ensures.files (w.writes.run.kept keeps) f source less at k inside);
    }
