use Rattle.pool_store.proofs.Names.{◌≡◌, ◌+◌, ◌*◌, ◌<◌, min, Some, refl, drop, drop-drop, length-drop, sym, ap, subst, ◌∙◌, ⊎_elim, arith, cases_eq, rules, once_apart, once_named, once_wider, IsPageSector}
use Rattle.file_store.{specs.{Layout.{pages_of_length, bytes_inside, padded_page}, Format.{told_by, page_given}}, proofs.{Filling.{fills_failed}, Making.{makes_more, makes_page}, NewStores.{is_told}}}
use Rattle.pool_store.{proofs.Held.{cut_moves}, specs.Format.{HomeHoldsCut, IsHomeSector}}
use Rattle.pool_journal.specs.Pools.{pool_home}
use Rattle.pool_store.proofs.new_files.write_file.Goals as goal

pub write_page-requires-clause-room : goal.write_page-requires-clause-room
write_page-requires-clause-room g c =
    let length : c.loop-k.source.length ≡ c.args.source.now.length = ap (λ i. i.length) c.loop-k.invariant.info in
    omega (arith, c.home-homes.ensures, c.loop-k.invariant.run.size, c.requires.pool.homes, c.requires.homes, c.loop-k-test.true, c.pages-k-end.ensures.count, length)

pub loop-k-preserved : goal.loop-k-preserved
loop-k-preserved g c =
    let inv = c.loop-k.invariant in
    let r = c.in_ok-read_page.ensures in
    let w = c.write_page.ensures in
    let remaining = g.R.Read.remaining in
    let content = g.D.SectorDisk.content in
    let m = c.args.sizes.blocks in
    let first = c.args.first in
    let source = c.args.source.now in
    let k = c.loop-k.k in
    let at = c.home-homes.ensures in
    let length : c.loop-k.source.length ≡ source.length = ap (λ i. i.length) inv.info in
    let below : k < pages_of_length source.length = omega (arith, c.loop-k-test.true, c.pages-k-end.ensures.count, length) in
    let more : 4096 * k < source.length = omega (arith, c.loop-k-test.true, c.pages-k-end.ensures.count) in
    let All = IsHomeSector m first (first + pages_of_length source.length) in
    let sector = c.home-homes.result + 8 * (first + k) in
    record {
      run = makes_more g.D.SectorDisk All c.args.disk.now c.loop-k.disk c.write_page.new.disk inv.run
          (makes_page g.D.SectorDisk All sector c.loop-k.disk c.write_page.new.disk
          (λ s inside. (omega (arith, inside.0, at), omega (arith, inside.1, at, below))) w.run w.asks);
      once = once_apart (IsHomeSector m first (first + k)) (IsPageSector sector) (IsHomeSector m first (first + (k + 1))) _ _ _
          (λ s here. (here.0, omega (arith, here.1))) (λ s inside. (omega (arith, inside.0, at), omega (arith, inside.1, at)))
          (λ s before now. omega (arith, before.1, now.0, at)) inv.once (once_named (IsPageSector sector) (IsPageSector sector) _ _ (λ s here. here) w.asks);
      few = omega (arith, below);
      calm = c.in_ok-write_page.ensures.calm ∙ inv.calm;
      info = c.read_page.ensures.info ∙ inv.info;
      left = λ told is.
          let e : min source.length (4096 * k) + bytes_inside c.loop-k.source.length k ≡ min source.length (4096 * (k + 1)) = omega (arith, more, length) in
          r.told.rest _ (inv.left told is)
          ∙ ap Some (drop-drop (bytes_inside c.loop-k.source.length k) (min source.length (4096 * k)) told ∙ ap (λ n. drop n told) e);
      tells = λ told is.
          let before = inv.tells told is in
          let now = r.told.tells _ before.1 in
          let e : min source.length (4096 * k) + bytes_inside c.loop-k.source.length k ≡ min source.length (4096 * (k + 1)) = omega (arith, more, length) in (
            omega (arith, e, before.0, now.0, length-drop (min source.length (4096 * k)) told),
            now.1 ∙ ap Some (drop-drop (bytes_inside c.loop-k.source.length k) (min source.length (4096 * k)) told ∙ ap (λ n. drop n told) e),
          );
      reader = λ some. inv.reader (c.read_page.ensures.reader some);
      pages = λ keeps j less. ⊎_elim
          (λ same. subst (λ n. HomeHoldsCut m (first + n) (bytes_inside source.length n) (page_given remaining source n) (content c.write_page.new.disk))
          (sym same) (record {
            page = c.read_page.new.page;
            zeros = ap (λ n. padded_page (bytes_inside n k) c.read_page.new.page) (sym length) ∙ r.told.zeros;
            holds = λ i lt. let here : pool_home m (first + k) + i ≡ sector + i = omega (arith, at) in ap (content c.write_page.new.disk) here ∙ c.in_ok-write_page.ensures.written keeps i lt;
            is = λ page given.
                let told = is_told source.length k (told_by remaining source.bytes) page given in
                let reached : min source.length (4096 * k) ≡ 4096 * k = omega (arith, more) in
                r.told.page _ (inv.left told.bytes told.are)
                ∙ ap (λ n. padded_page (bytes_inside n k) (drop (min source.length (4096 * k)) told.bytes)) length
                ∙ ap (λ n. padded_page (bytes_inside source.length k) (drop n told.bytes)) reached
                ∙ sym told.page_is;
          }))
          (λ other. cut_moves m (first + j) (bytes_inside source.length j) (page_given remaining source j)
          (content c.loop-k.disk) (content c.write_page.new.disk)
          (λ i inside. ⊎_elim (λ here. absurd (omega (arith, here.0, less, other, inside, at))) (λ e. e) ((w.run.touches keeps).content (pool_home m (first + j) + i)))
          (inv.pages (w.run.kept keeps) j (omega (arith, less, other))))
          (cases_eq j k);
    }

pub returns-in_err-write_page-clause-fills : goal.returns-in_err-write_page-clause-fills
returns-in_err-write_page-clause-fills g c =
    let inv = c.loop-k.invariant in
    let source = c.args.source.now in
    let k = c.loop-k.k in
    let at = c.home-homes.ensures in
    let length : c.loop-k.source.length ≡ source.length = ap (λ i. i.length) inv.info in
    let below : k < pages_of_length source.length = omega (arith, c.loop-k-test.true, c.pages-k-end.ensures.count, length) in
    let failed = c.in_err-write_page.ensures.failed refl in
    let calm = inv.calm in
    let All = IsHomeSector c.args.sizes.blocks c.args.first (c.args.first + pages_of_length source.length) in
    let sector = c.home-homes.result + 8 * (c.args.first + k) in
    fills_failed g.D.SectorDisk _ _ _ c.args.disk.now c.write_page.new.disk
    (makes_more g.D.SectorDisk All c.args.disk.now c.loop-k.disk c.write_page.new.disk inv.run
    (makes_page g.D.SectorDisk All sector c.loop-k.disk c.write_page.new.disk (λ s inside. (omega (arith, inside.0, at), omega (arith, inside.1, at, below))) c.write_page.ensures.run c.write_page.ensures.asks))
    (once_apart (IsHomeSector c.args.sizes.blocks c.args.first (c.args.first + k)) (IsPageSector sector) All _ _ _
    (λ s here. (here.0, omega (arith, here.1, below))) (λ s inside. (omega (arith, inside.0, at), omega (arith, inside.1, at, below)))
    (λ s before now. omega (arith, before.1, now.0, at)) inv.once (once_named (IsPageSector sector) (IsPageSector sector) _ _ (λ s here. here) c.write_page.ensures.asks))
    c.from_residual-in_err-write_page.result c.from_residual-in_err-write_page.ensures.1 (omega (arith, failed, calm))

pub returns-in_err-read_page-clause-fills : goal.returns-in_err-read_page-clause-fills
returns-in_err-read_page-clause-fills g c =
    let inv = c.loop-k.invariant in
    let few = inv.few in
    record {
      run = inv.run;
      once = once_wider (IsHomeSector c.args.sizes.blocks c.args.first (c.args.first + c.loop-k.k)) (IsHomeSector c.args.sizes.blocks c.args.first (c.args.first + pages_of_length c.args.source.now.length)) _ _
          (λ s here. (here.0, omega (arith, here.1, few))) inv.once;
      causes = search rules;
      source = search rules;
      others = search rules;
      whole = search rules;
    }

pub returns-clause-fills : goal.returns-clause-fills
returns-clause-fills g c =
    let inv = c.loop-k.invariant in
    let few = inv.few in
    record {
      run = inv.run;
      once = once_wider (IsHomeSector c.args.sizes.blocks c.args.first (c.args.first + c.loop-k.k)) (IsHomeSector c.args.sizes.blocks c.args.first (c.args.first + pages_of_length c.args.source.now.length)) _ _
          (λ s here. (here.0, omega (arith, here.1, few))) inv.once;
      causes = search rules;
      source = search rules;
      others = search rules;
      whole = search rules;
    }
