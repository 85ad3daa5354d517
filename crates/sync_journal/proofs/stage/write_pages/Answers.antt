use Rattle.sync_journal.proofs.Names.{rules, ◌≡◌, ◌+◌, ⊎_elim, refl, sym, ap, subst, ◌∙◌, arith, cases_eq, part_of, once_wider}
use Rattle.sync_journal.{specs.{Layout.{body_sector, IsBodySector, IsJournalSector, IsPageSector}, Runs.{RunsOnDevice}, Source.{Asks}}, proofs.{Asking.{filled_more}, Causes.{source_failed, device_failed, none_failed}, Runs.{one_more, of_more}}}
use Rattle.sync_journal.proofs.stage.write_pages.Goals as goal

pub returns-in_err-page : goal.returns-in_err-page
returns-in_err-page g c =
    let inv = c.loop-j.invariant in
    record {
      body = search rules;
      once = once_wider (IsBodySector c.loop-j.j) (IsBodySector c.args.count) _ _ (λ k inside. (inside.0, omega (arith, inside.1, c.loop-j-test.true))) inv.6;
      takes = record { run = inv.1; asks = search rules; causes = source_failed _ _ _ _ _ c.from_residual.ensures.1 (let failed = c.in_err-page.ensures.cause.failed refl in let before = inv.5 in omega (arith, failed, before)) inv.4 };
    }

pub returns-in_err-write_page : goal.returns-in_err-write_page
returns-in_err-write_page g c =
    let d = g.D.SectorDisk in
    let inv = c.loop-j.invariant in
    let w = c.write_page.ensures in
    record {
      body = search rules;
      once = once_wider (IsBodySector (c.loop-j.j + 1)) (IsBodySector c.args.count) _ _ (λ k inside. (inside.0, omega (arith, inside.1, c.loop-j-test.true)))
          (filled_more (d.asked c.args.disk.now) (d.asked c.loop-j.disk) (d.asked c.write_page.new.disk) c.loop-j.j inv.6 w.asks);
      takes = record {
        run = one_more d IsJournalSector c.args.disk.now c.loop-j.disk c.write_page.new.disk inv.1
            (of_more d (IsPageSector (body_sector c.loop-j.j)) IsJournalSector c.loop-j.disk c.write_page.new.disk
            (λ k inside. (omega (arith, inside.0), omega (arith, inside.1, c.loop-j-test.true, c.requires.few))) w.run);
        asks = search rules;
        causes = device_failed _ _ _ _ _ c.from_residual-in_err-write_page.ensures.1 (let failed = c.in_err-write_page.ensures.failed refl in let before = inv.4 in omega (arith, failed, before))
            (c.in_ok-page.ensures.cause.calm ∙ inv.5);
      };
    }

pub returns : goal.returns
returns g c =
    let inv = c.loop-j.invariant in
    record {
      body = search rules;
      once = once_wider (IsBodySector c.loop-j.j) (IsBodySector c.args.count) _ _ (λ k inside. (inside.0, omega (arith, inside.1))) inv.6;
      takes = record { run = inv.1; asks = inv.2; causes = none_failed _ _ _ _ inv.4 inv.5 };
    }

pub loop-j-preserved : goal.loop-j-preserved
loop-j-preserved g c =
    let d = g.D.SectorDisk in
    let n = c.loop-j.j in
    let inv = c.loop-j.invariant in
    let w = c.write_page.ensures in
    let runs : RunsOnDevice d IsJournalSector c.args.disk.now c.write_page.new.disk = one_more d IsJournalSector c.args.disk.now c.loop-j.disk c.write_page.new.disk inv.1
    (of_more d (IsPageSector (body_sector n)) IsJournalSector c.loop-j.disk c.write_page.new.disk
    (λ k inside. (omega (arith, inside.0), omega (arith, inside.1, c.loop-j-test.true, c.requires.few))) w.run) in
    let asks : Asks g.S.PageSource c.args.source.now c.page.new.self = search rules in (
      search rules,
      runs,
      asks,
      λ keeps gives j i below_j below_i. ⊎_elim
          (λ same. subst (λ m. d.content c.write_page.new.disk (body_sector m + i) ≡ part_of (g.S.PageSource.pages c.args.source.now m) i) (sym same)
          (c.in_ok-write_page.ensures.written keeps i below_i ∙ ap (λ page. part_of page i) (c.in_ok-page.ensures.given gives ∙ inv.2.same (c.page.ensures.kept gives) n)))
          (λ other. ⊎_elim {C = d.content c.write_page.new.disk (body_sector j + i) ≡ d.content c.loop-j.disk (body_sector j + i)}
          (λ inside. absurd (other (omega (arith, inside.0, inside.1, below_i)))) (λ e. e) ((w.run.touches keeps).content (body_sector j + i))
          ∙ inv.3 (w.run.kept keeps) (c.page.ensures.kept gives) j i (omega (arith, below_j, other)) below_i)
          (cases_eq j n),
      c.in_ok-write_page.ensures.calm ∙ inv.4,
      c.in_ok-page.ensures.cause.calm ∙ inv.5,
      filled_more (d.asked c.args.disk.now) (d.asked c.loop-j.disk) (d.asked c.write_page.new.disk) n inv.6 w.asks,
    )
