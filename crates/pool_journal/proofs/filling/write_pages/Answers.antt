use Rattle.std.proofs.Common.{◌≡◌, ◌+◌, length, refl, sym, ap, subst, ◌∙◌, ⊎_elim, inl, inr, arith, rules}
use Rattle.disk_model.proofs.Naming.{once_wider}
use Rattle.disk_model.specs.Stop.{Names}
use Rattle.pool_journal.proofs.{Filled.{once_more, run_more, held_more}}
use Rattle.pool_journal.specs.{Filling.{IsFilled, filled_at}}
use Rattle.sync_journal.{proofs.Causes.{source_failed, device_failed, none_failed}, specs.{Layout.{IsPageSector}, Runs.{RunsOnDevice}, Source.{Asks, IsTold}}}
use Rattle.pool_journal.proofs.filling.write_pages.Goals as goal

pub returns-in_err-page : goal.returns-in_err-page
returns-in_err-page g c =
    let m = c.args.sizes.blocks in
    let slots = c.args.slots.now in
    let inv = c.loop-j.invariant in
    record {
      body = search rules;
      once = once_wider (IsFilled m slots c.loop-j.j) (IsFilled m slots (length slots)) _ _ (λ k was. (was.0, omega (arith, was.1, c.loop-j-test.true), was.2)) inv.6;
      takes = record { run = inv.1; asks = search rules; causes = source_failed _ _ _ _ _ c.from_residual.ensures.1 (let failed = c.in_err-page.ensures.cause.failed refl in let before = inv.5 in omega (arith, failed, before)) inv.4 };
    }

pub returns-in_err-write_page : goal.returns-in_err-write_page
returns-in_err-write_page g c =
    let d = g.D.SectorDisk in
    let m = c.args.sizes.blocks in
    let slots = c.args.slots.now in
    let j = c.loop-j.j in
    let below = c.loop-j-test.true in
    let inv = c.loop-j.invariant in
    let w = c.write_page.ensures in
    let old = c.args.disk.now in
    let mid = c.loop-j.disk in
    let new = c.write_page.new.disk in
    let at : c.slot.result ≡ filled_at m slots j = c.slot.ensures in
    record {
      body = search rules;
      once = once_wider (IsFilled m slots (j + 1)) (IsFilled m slots (length slots)) _ _ (λ k was. (was.0, omega (arith, was.1, below), was.2))
          (once_more m slots c.requires.slots j (d.asked old) (d.asked mid) (d.asked new) below inv.6 (subst (λ k. Names (IsPageSector k) (d.asked mid) (d.asked new)) at w.asks));
      takes = record {
        run = run_more m slots c.requires.slots d j old mid new below (subst (λ k. RunsOnDevice d (IsPageSector k) mid new) at w.run) inv.1;
        asks = search rules;
        causes = device_failed _ _ _ _ _ c.from_residual-in_err-write_page.ensures.1 (let failed = c.in_err-write_page.ensures.failed refl in let before = inv.4 in omega (arith, failed, before))
            (c.in_ok-page.ensures.cause.calm ∙ inv.5);
      };
    }

pub returns : goal.returns
returns g c =
    let m = c.args.sizes.blocks in
    let slots = c.args.slots.now in
    let inv = c.loop-j.invariant in
    record {
      body = search rules;
      once = once_wider (IsFilled m slots c.loop-j.j) (IsFilled m slots (length slots)) _ _ (λ k was. (was.0, omega (arith, was.1), was.2)) inv.6;
      takes = record { run = inv.1; asks = inv.2; causes = none_failed _ _ _ _ inv.4 inv.5 };
    }

pub loop-j-preserved : goal.loop-j-preserved
loop-j-preserved g c =
    let d = g.D.SectorDisk in
    let m = c.args.sizes.blocks in
    let slots = c.args.slots.now in
    let j = c.loop-j.j in
    let below = c.loop-j-test.true in
    let inv = c.loop-j.invariant in
    let w = c.write_page.ensures in
    let old = c.args.disk.now in
    let mid = c.loop-j.disk in
    let new = c.write_page.new.disk in
    let at : c.slot.result ≡ filled_at m slots j = c.slot.ensures in
    let run : RunsOnDevice d (IsPageSector (filled_at m slots j)) mid new = subst (λ k. RunsOnDevice d (IsPageSector k) mid new) at w.run in
    let asks : Asks g.S.PageSource c.args.source.now c.page.new.self = search rules in
    let gives = c.in_ok-page.ensures in (
      search rules,
      run_more m slots c.requires.slots d j old mid new below run inv.1,
      asks,
      λ keeps. held_more m slots c.requires.slots d j old mid new below run (IsTold g.S.PageSource c.args.source.now c.loop-j.source) (IsTold g.S.PageSource c.args.source.now c.page.new.self)
          (λ k. ⊎_elim (λ kept. inl (c.page.ensures.kept kept)) (λ sure. inr sure)) (g.S.PageSource.pages c.args.source.now) c.page.new.to
          (⊎_elim (λ kept. gives.given kept ∙ inv.2.same (c.page.ensures.kept kept) j) (λ sure. (let still = inv.2.sure j sure in gives.sure.0 still.0 ∙ still.1)))
          keeps (inv.3 (w.run.kept keeps))
          (λ i small. ap (λ k. d.content new (k + i)) (sym at) ∙ c.in_ok-write_page.ensures.written keeps i small),
      c.in_ok-write_page.ensures.calm ∙ inv.4,
      c.in_ok-page.ensures.cause.calm ∙ inv.5,
      once_more m slots c.requires.slots j (d.asked old) (d.asked mid) (d.asked new) below inv.6 (subst (λ k. Names (IsPageSector k) (d.asked mid) (d.asked new)) at w.asks),
    )
