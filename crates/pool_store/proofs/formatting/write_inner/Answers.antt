use Rattle.pool_store.proofs.Names.{◌≡◌, ◌⊎◌, ◌+◌, ◌*◌, ◌-◌, ◌/◌, ◌∙◌, ℕ, false, ⊎_elim, inl, inr, refl, arith, once_apart, once_wider, on_ok_weaker}
use Rattle.file_store.proofs.{Filling.{fills_failed}, Making.{makes_more, makes_of}}
use Rattle.file_store.specs.Format.{total_pages}
use Rattle.pool_journal.specs.{Clearing.{IsHeadOfPool}, Pools.{pool_gate, pool_home, pool_start}}
use Rattle.pool_store.{proofs.{Formats.{head_low}, Held.{directory_moves, empty_moves}, Making.{fills_later, has_pool, made_once}}, specs.Format.{IsHomeSector, IsInnerSector, new_pages}}
use Rattle.pool_store.proofs.formatting.write_inner.Goals as goal

pub write_directory-requires-clause-pool : goal.write_directory-requires-clause-pool
write_directory-requires-clause-pool g c = has_pool g.D.SectorDisk c.args.sizes c.args.disk.now c.clear.new.disk c.clear.ensures.writes.size c.requires.pool

pub write_homes-requires-clause-pool : goal.write_homes-requires-clause-pool
write_homes-requires-clause-pool g c = has_pool g.D.SectorDisk c.args.sizes c.args.disk.now c.write_directory.new.disk (c.write_directory.ensures.size ∙ c.clear.ensures.writes.size) c.requires.pool

pub returns-in_err-clear-clause-fills : goal.returns-in_err-clear-clause-fills
returns-in_err-clear-clause-fills g c =
    let d = g.D.SectorDisk in
    let m = c.args.sizes.blocks in
    let All = IsInnerSector m (total_pages c.args.sources.now) in
    let w = c.clear.ensures.writes in
    fills_failed d All _ _ c.args.disk.now c.clear.new.disk
    (makes_of d (IsHeadOfPool m) All c.args.disk.now c.clear.new.disk (λ k at. inl at) (made_once d (IsHeadOfPool m) c.args.disk.now c.clear.new.disk w.run w.once))
    (once_wider (IsHeadOfPool m) All _ _ (λ k at. inl at) w.once) c.from_residual.result c.from_residual.ensures.1 (c.in_err-clear.ensures.writes.failed refl)

pub returns-in_err-write_directory-clause-fills : goal.returns-in_err-write_directory-clause-fills
returns-in_err-write_directory-clause-fills g c =
    let d = g.D.SectorDisk in
    let m = c.args.sizes.blocks in
    let Homes = IsHomeSector m 0 new_pages in
    let All = IsInnerSector m (total_pages c.args.sources.now) in
    let old = c.args.disk.now in
    let mid = c.clear.new.disk in
    let new = c.write_directory.new.disk in
    let w = c.clear.ensures.writes in
    let v = c.write_directory.ensures in
    let failed = c.in_err-write_directory.ensures.failed refl in
    let calm = c.in_ok-clear.ensures.writes.calm in
    fills_failed d All _ _ old new
    (makes_more d All old mid new (makes_of d (IsHeadOfPool m) All old mid (λ k at. inl at) (made_once d (IsHeadOfPool m) old mid w.run w.once))
    (makes_of d Homes All mid new (λ k at. inr (at.0, omega (arith, at.1))) (made_once d Homes mid new v.run v.once)))
    (once_apart (IsHeadOfPool m) Homes All _ _ _ (λ k at. inl at) (λ k at. inr (at.0, omega (arith, at.1))) (λ k head home. let low = head_low m k c.requires.pool.sized.0 head in omega (arith, low.1, home.0)) w.once v.once)
    c.from_residual-in_err-write_directory.result c.from_residual-in_err-write_directory.ensures.1 (omega (arith, failed, calm))

pub returns-clause-fills : goal.returns-clause-fills
returns-clause-fills g c =
    let d = g.D.SectorDisk in
    let m = c.args.sizes.blocks in
    let pages = total_pages c.args.sources.now in
    let Homes = IsHomeSector m 0 new_pages in
    let Front : ℕ → Type 0 = λ k. IsHeadOfPool m k ⊎ IsHomeSector m 0 new_pages k in
    let old = c.args.disk.now in
    let mid = c.clear.new.disk in
    let new = c.write_directory.new.disk in
    let w = c.clear.ensures.writes in
    let v = c.write_directory.ensures in
    fills_later d Front (IsHomeSector m new_pages (new_pages + pages)) (IsInnerSector m pages) _ _ old new c.write_homes.new.disk c.write_homes.result
    (λ k. ⊎_elim (λ head. inl head) (λ home. inr (home.0, omega (arith, home.1)))) (λ k home. inr (omega (arith, home.0), home.1))
    (λ k front home. ⊎_elim (λ head. let low = head_low m k c.requires.pool.sized.0 head in omega (arith, low.1, home.0)) (λ first. omega (arith, first.1, home.0)) front)
    (makes_more d Front old mid new (makes_of d (IsHeadOfPool m) Front old mid (λ k at. inl at) (made_once d (IsHeadOfPool m) old mid w.run w.once))
    (makes_of d Homes Front mid new (λ k at. inr at) (made_once d Homes mid new v.run v.once)))
    (once_apart (IsHeadOfPool m) Homes Front _ _ _ (λ k at. inl at) (λ k at. inr at) (λ k head home. let low = head_low m k c.requires.pool.sized.0 head in omega (arith, low.1, home.0)) w.once v.once)
    (c.in_ok-write_directory.ensures.calm ∙ c.in_ok-clear.ensures.writes.calm) c.write_homes.ensures.fills

pub returns-clause-inner : goal.returns-clause-inner
returns-clause-inner g c = λ keeps.
    let d = g.D.SectorDisk in
    let m = c.args.sizes.blocks in
    let sources = c.args.sources.now in
    let mid = d.content c.clear.new.disk in
    let listed = d.content c.write_directory.new.disk in
    let new = d.content c.write_homes.new.disk in
    let some = c.requires.pool.sized.0 in
    let last = c.write_homes.ensures.fills.run in
    let k2 = last.kept keeps in
    let k1 = c.write_directory.ensures.kept k2 in
    let homes = (last.touches keeps).content in
    let pages = (c.write_directory.ensures.touches k2).content in
    let front : (k : ℕ) → IsHeadOfPool m k → new k ≡ mid k = λ k head. let low = head_low m k some head in
    ⊎_elim (λ at. absurd (omega (arith, low.1, at.0))) (λ e. e) (homes k) ∙ ⊎_elim (λ at. absurd (omega (arith, low.1, at.0))) (λ e. e) (pages k) in
    on_ok_weaker c.write_homes.result (λ files. record {
      empty = empty_moves m mid new (front pool_gate (inl refl)) (λ i below. front (pool_start m false + 8 * (m - 1 - 0) + i) (inr (omega arith, omega (arith, below)))) (c.in_ok-clear.ensures.writes.done k1);
      directory = directory_moves m sources new_pages listed new
          (λ f i below inside. ⊎_elim (λ at. absurd (omega (arith, at.0, below, inside))) (λ e. e) (homes (pool_home m (f / 16) + i))) (c.in_ok-write_directory.ensures.done k2);
      files = files;
    }) (c.write_homes.ensures.files keeps)
