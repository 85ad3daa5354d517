use Rattle.file_store.proofs.Names.{◌≡◌, ◌+◌, ◌*◌, ◌<◌, min, Some, refl, drop, drop-drop, length-drop, sym, ap, subst, ◌∙◌, ⊎_elim, arith, cases_eq, rules, once_apart, once_named, once_wider, IsPageSector, first_home_sector, home_sector}
use Rattle.file_store.{specs.{Layout.{pages_of_length, bytes_inside, padded_page}, Format.{told_by, page_given, IsHomesBetween, HoldsCut}}, proofs.{Filling.{fills_failed}, Making.{makes_more, makes_page}, NewStores.{cut_moves, is_told}}}
use Rattle.file_store.proofs.formatting.write_file.Goals as goal

pub loop-k-preserved : goal.loop-k-preserved
loop-k-preserved g c =
    let inv = c.loop-k.invariant in
    let r = c.in_ok-read_page.ensures in
    let w = c.write_page.ensures in
    let remaining = g.R.Read.remaining in
    let content = g.D.SectorDisk.content in
    let length : c.loop-k.source.length ≡ c.args.source.now.length = ap (λ i. i.length) inv.info in
    let below : c.loop-k.k < pages_of_length c.args.source.now.length = omega (arith, c.loop-k-test.true, c.pages-k-end.ensures.count, length) in
    let more : 4096 * c.loop-k.k < c.args.source.now.length = omega (arith, c.loop-k-test.true, c.pages-k-end.ensures.count) in
    record {
      run = makes_more g.D.SectorDisk (IsHomesBetween c.args.first (c.args.first + pages_of_length c.args.source.now.length)) c.args.disk.now c.loop-k.disk c.write_page.new.disk inv.run
          (makes_page g.D.SectorDisk (IsHomesBetween c.args.first (c.args.first + pages_of_length c.args.source.now.length)) (first_home_sector + 8 * (c.args.first + c.loop-k.k)) c.loop-k.disk c.write_page.new.disk
          (λ k inside. (omega (arith, inside.0), omega (arith, inside.1, below))) c.write_page.ensures.run c.write_page.ensures.asks);
      once = once_apart (IsHomesBetween c.args.first (c.args.first + c.loop-k.k)) (IsPageSector (first_home_sector + 8 * (c.args.first + c.loop-k.k)))
          (IsHomesBetween c.args.first (c.args.first + (c.loop-k.k + 1))) _ _ _ (λ s at. (at.0, omega (arith, at.1))) (λ s inside. (omega (arith, inside.0), omega (arith, inside.1)))
          (λ s before now. omega (arith, before.1, now.0)) c.loop-k.invariant.once
          (once_named (IsPageSector (first_home_sector + 8 * (c.args.first + c.loop-k.k))) (IsPageSector (first_home_sector + 8 * (c.args.first + c.loop-k.k))) _ _ (λ s at. at) c.write_page.ensures.asks);
      few = omega (arith, below);
      calm = c.in_ok-write_page.ensures.calm ∙ inv.calm;
      info = c.read_page.ensures.info ∙ inv.info;
      left = λ told is.
          let e : min c.args.source.now.length (4096 * c.loop-k.k) + bytes_inside c.loop-k.source.length c.loop-k.k ≡ min c.args.source.now.length (4096 * (c.loop-k.k + 1)) = omega (arith, more, length) in
          r.told.rest _ (inv.left told is)
          ∙ ap Some (drop-drop (bytes_inside c.loop-k.source.length c.loop-k.k) (min c.args.source.now.length (4096 * c.loop-k.k)) told ∙ ap (λ n. drop n told) e);
      tells = λ told is.
          let before = inv.tells told is in
          let now = r.told.tells _ before.1 in
          let e : min c.args.source.now.length (4096 * c.loop-k.k) + bytes_inside c.loop-k.source.length c.loop-k.k ≡ min c.args.source.now.length (4096 * (c.loop-k.k + 1)) = omega (arith, more, length) in (
            omega (arith, e, before.0, now.0, length-drop (min c.args.source.now.length (4096 * c.loop-k.k)) told),
            now.1 ∙ ap Some (drop-drop (bytes_inside c.loop-k.source.length c.loop-k.k) (min c.args.source.now.length (4096 * c.loop-k.k)) told ∙ ap (λ n. drop n told) e),
          );
      reader = λ some. inv.reader (c.read_page.ensures.reader some);
      pages = λ keeps j below. ⊎_elim
          (λ same. subst (λ n. HoldsCut (c.args.first + n) (bytes_inside c.args.source.now.length n) (page_given remaining c.args.source.now n) (content c.write_page.new.disk))
          (sym same) (record {
            page = c.read_page.new.page;
            zeros = ap (λ n. padded_page (bytes_inside n c.loop-k.k) c.read_page.new.page) (sym length) ∙ r.told.zeros;
            holds = λ i lt. c.in_ok-write_page.ensures.written keeps i lt;
            is = λ page given.
                let told = is_told c.args.source.now.length c.loop-k.k (told_by remaining c.args.source.now.bytes) page given in
                let reached : min c.args.source.now.length (4096 * c.loop-k.k) ≡ 4096 * c.loop-k.k = omega (arith, more) in
                r.told.page _ (inv.left told.bytes told.are)
                ∙ ap (λ n. padded_page (bytes_inside n c.loop-k.k) (drop (min c.args.source.now.length (4096 * c.loop-k.k)) told.bytes)) length
                ∙ ap (λ n. padded_page (bytes_inside c.args.source.now.length c.loop-k.k) (drop n told.bytes)) reached
                ∙ sym told.page_is;
          }))
          (λ other. cut_moves (c.args.first + j) (bytes_inside c.args.source.now.length j) (page_given remaining c.args.source.now j)
          (content c.loop-k.disk) (content c.write_page.new.disk)
          (λ i inside. ⊎_elim (λ at. absurd (omega (arith, at.0, below, other, inside))) (λ e. e) ((w.run.touches keeps).content (home_sector (c.args.first + j) + i)))
          (inv.pages (w.run.kept keeps) j (omega (arith, below, other))))
          (cases_eq j c.loop-k.k);
    }

pub returns-in_err-write_page-clause-fills : goal.returns-in_err-write_page-clause-fills
returns-in_err-write_page-clause-fills g c =
    let length : c.loop-k.source.length ≡ c.args.source.now.length = ap (λ i. i.length) c.loop-k.invariant.info in
    let below : c.loop-k.k < pages_of_length c.args.source.now.length = omega (arith, c.loop-k-test.true, c.pages-k-end.ensures.count, length) in
    let failed = c.in_err-write_page.ensures.failed refl in
    let calm = c.loop-k.invariant.calm in
    fills_failed g.D.SectorDisk _ _ _ c.args.disk.now c.write_page.new.disk
    (makes_more g.D.SectorDisk (IsHomesBetween c.args.first (c.args.first + pages_of_length c.args.source.now.length)) c.args.disk.now c.loop-k.disk c.write_page.new.disk c.loop-k.invariant.run
    (makes_page g.D.SectorDisk (IsHomesBetween c.args.first (c.args.first + pages_of_length c.args.source.now.length)) (first_home_sector + 8 * (c.args.first + c.loop-k.k)) c.loop-k.disk c.write_page.new.disk
    (λ k inside. (omega (arith, inside.0), omega (arith, inside.1, below))) c.write_page.ensures.run c.write_page.ensures.asks))
    (once_apart (IsHomesBetween c.args.first (c.args.first + c.loop-k.k)) (IsPageSector (first_home_sector + 8 * (c.args.first + c.loop-k.k)))
    (IsHomesBetween c.args.first (c.args.first + pages_of_length c.args.source.now.length)) _ _ _ (λ s at. (at.0, omega (arith, at.1, below))) (λ s inside. (omega (arith, inside.0), omega (arith, inside.1, below)))
    (λ s before now. omega (arith, before.1, now.0)) c.loop-k.invariant.once
    (once_named (IsPageSector (first_home_sector + 8 * (c.args.first + c.loop-k.k))) (IsPageSector (first_home_sector + 8 * (c.args.first + c.loop-k.k))) _ _ (λ s at. at) c.write_page.ensures.asks))
    c.from_residual-in_err-write_page.result c.from_residual-in_err-write_page.ensures.1 (omega (arith, failed, calm))

pub returns-in_err-read_page-clause-fills : goal.returns-in_err-read_page-clause-fills
returns-in_err-read_page-clause-fills g c =
    let inv = c.loop-k.invariant in
    let few = inv.few in
    record {
      run = inv.run;
      once = once_wider (IsHomesBetween c.args.first (c.args.first + c.loop-k.k)) (IsHomesBetween c.args.first (c.args.first + pages_of_length c.args.source.now.length)) _ _
          (λ s at. (at.0, omega (arith, at.1, few))) inv.once;
      causes = search rules;
      source = search rules;
      others = search rules;
      whole = search rules;
    }

pub returns-clause-fills : goal.returns-clause-fills
returns-clause-fills g c =
    let inv = c.loop-k.invariant in
    let few = inv.few in
    record {
      run = inv.run;
      once = once_wider (IsHomesBetween c.args.first (c.args.first + c.loop-k.k)) (IsHomesBetween c.args.first (c.args.first + pages_of_length c.args.source.now.length)) _ _
          (λ s at. (at.0, omega (arith, at.1, few))) inv.once;
      causes = search rules;
      source = search rules;
      others = search rules;
      whole = search rules;
    }
