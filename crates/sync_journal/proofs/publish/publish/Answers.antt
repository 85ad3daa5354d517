use Rattle.sync_journal.proofs.{Asking.{publish_asks}, Causes.{not_source, told_on, puts_failed, none_failed}, Names.{length, refl, ⊎_elim, ◌∙◌, arith, rules, once_wider}, Phases.{while_staging, while_staging_either, staged_settled}}
use Rattle.sync_journal.{proofs.{Phases.{while_opening, opened_settled, opened_live, opened_outside, gate_leaves_map}, Runs.{staged_run, published_run}}, specs.Layout.{gate_sector, IsStaged, IsOpened}}
use Rattle.sync_journal.{proofs.Rests.{live_at_rest}, specs.Commit.{IsLive}}
use Rattle.sync_journal.proofs.publish.publish.Goals as goal

pub returns-in_err-stage : goal.returns-in_err-stage
returns-in_err-stage g c =
    record {
      puts = record {
        ok = search rules;
        rest = search rules;
        outside = search rules;
        any_moment = λ keeps gives. (let before = c.stage.ensures.run.kept keeps in while_staging_either g.D.SectorDisk c.args.homes.now (g.S.PageSource.pages c.args.source.now) c.args.disk.now c.stage.new.disk
            (λ image left. g.met.D.SectorDisk.only_now c.args.disk.now image before left)
            c.requires.given.homes_are (c.requires.quiet before) (c.stage.ensures.run.touches keeps));
        once = once_wider (IsStaged (length c.args.homes.now)) (IsOpened (length c.args.homes.now)) (g.D.SectorDisk.asked c.args.disk.now) (g.D.SectorDisk.asked c.stage.new.disk)
            (λ k inside. (omega (arith, inside.0), inside.1)) c.stage.ensures.once;
        takes = record {
          run = staged_run g.D.SectorDisk c.args.disk.now c.stage.new.disk c.stage.ensures.run;
          asks = c.stage.ensures.asks;
          causes = told_on (g.D.SectorDisk.failures c.args.disk.now) (g.D.SectorDisk.failures c.stage.new.disk) (g.S.PageSource.failures c.args.source.now) (g.S.PageSource.failures c.stage.new.source) _ _ c.from_residual.ensures.1 c.in_err-stage.ensures.causes;
        };
        source = λ keeps is_source. (let before = c.stage.ensures.run.kept keeps in staged_settled g.D.SectorDisk c.args.homes.now (g.S.PageSource.pages c.args.source.now) c.args.disk.now c.stage.new.disk
            (λ image left. g.met.D.SectorDisk.only_now c.args.disk.now image before left)
            c.requires.given.homes_are (c.requires.quiet before) (c.stage.ensures.run.touches keeps));
        source_moments = λ keeps is_source. (let before = c.stage.ensures.run.kept keeps in while_staging g.D.SectorDisk c.args.homes.now (g.S.PageSource.pages c.args.source.now) c.args.disk.now c.stage.new.disk
            (λ image left. g.met.D.SectorDisk.only_now c.args.disk.now image before left)
            c.requires.given.homes_are (c.requires.quiet before) (c.stage.ensures.run.touches keeps));
      };
      lives = search rules;
      map = search rules;
      source_gate = λ keeps is. ⊎_elim (λ inside. absurd (omega (arith, inside.0))) (λ e. e) ((c.stage.ensures.run.touches keeps).content gate_sector);
    }

pub returns-in_err-open_gate : goal.returns-in_err-open_gate
returns-in_err-open_gate g c =
    let staged = c.in_ok-stage.ensures in
    let before = staged.causes.device_calm in
    let failed = c.in_err-open_gate.ensures.failed refl in
    record {
      puts = puts_failed _ c.from_residual-in_err-open_gate.ensures.1
          (λ keeps gives. (let mid = c.open_gate.ensures.run.kept keeps in let before = c.stage.ensures.run.kept mid in while_opening g.D.SectorDisk c.args.homes.now (g.S.PageSource.pages c.args.source.now) c.args.disk.now c.stage.new.disk
          (λ image left. g.met.D.SectorDisk.only_now c.args.disk.now image before left)
          c.requires.given.homes_are (c.requires.quiet before) (c.stage.ensures.run.touches mid)
          c.open_gate.new.disk (staged.body mid gives) (staged.map mid) (staged.synced mid) (c.open_gate.ensures.run.touches keeps)))
          (publish_asks (g.D.SectorDisk.asked c.args.disk.now) (g.D.SectorDisk.asked c.stage.new.disk) (g.D.SectorDisk.asked c.open_gate.new.disk) (length c.args.homes.now) c.stage.ensures.once c.open_gate.ensures.once)
          (published_run g.D.SectorDisk c.args.disk.now c.stage.new.disk c.open_gate.new.disk c.stage.ensures.run c.open_gate.ensures.run)
          c.stage.ensures.asks (omega (arith, failed, before)) staged.causes.source_calm;
      lives = search rules;
      map = search rules;
      source_gate = λ keeps is. absurd (not_source _ c.from_residual-in_err-open_gate.ensures.1 is);
    }

pub returns : goal.returns
returns g c =
    let staged = c.in_ok-stage.ensures in
    let opened = c.in_ok-open_gate.ensures in
    let lives : g.D.SectorDisk.keeps_model c.open_gate.new.disk → IsLive g.D.SectorDisk c.args.homes.now c.open_gate.new.disk = λ keeps. (let mid = c.open_gate.ensures.run.kept keeps in opened_live g.D.SectorDisk c.args.homes.now c.args.disk.now c.stage.new.disk c.open_gate.new.disk c.requires.given.homes_are (c.in_ok-stage.ensures.map mid) (c.open_gate.ensures.run.touches keeps)
    (opened.done keeps) (opened.synced keeps)) in
    record {
      puts = record {
        ok = λ keeps gives. (let mid = c.open_gate.ensures.run.kept keeps in let before = c.stage.ensures.run.kept mid in opened_settled g.D.SectorDisk c.args.homes.now (g.S.PageSource.pages c.args.source.now) c.args.disk.now c.stage.new.disk
            (λ image left. g.met.D.SectorDisk.only_now c.args.disk.now image before left)
            c.requires.given.homes_are (c.requires.quiet before) (c.stage.ensures.run.touches mid)
            c.open_gate.new.disk (staged.body mid gives) (staged.map mid) (staged.synced mid) (c.open_gate.ensures.run.touches keeps)
            (opened.done keeps) (opened.synced keeps) c.requires.some
            (opened_live g.D.SectorDisk c.args.homes.now c.args.disk.now c.stage.new.disk c.open_gate.new.disk c.requires.given.homes_are (staged.map mid) (c.open_gate.ensures.run.touches keeps)
            (opened.done keeps) (opened.synced keeps)));
        rest = λ keeps. live_at_rest g.D.SectorDisk c.args.homes.now c.open_gate.new.disk c.requires.some (lives keeps);
        outside = λ keeps k at.
            opened_outside g.D.SectorDisk (g.D.SectorDisk.sector_count c.args.disk.now) c.args.disk.now c.stage.new.disk c.open_gate.new.disk
            (c.stage.ensures.run.touches (c.open_gate.ensures.run.kept keeps)) (c.open_gate.ensures.run.touches keeps) k at;
        any_moment = λ keeps gives. (let mid = c.open_gate.ensures.run.kept keeps in let before = c.stage.ensures.run.kept mid in while_opening g.D.SectorDisk c.args.homes.now (g.S.PageSource.pages c.args.source.now) c.args.disk.now c.stage.new.disk
            (λ image left. g.met.D.SectorDisk.only_now c.args.disk.now image before left)
            c.requires.given.homes_are (c.requires.quiet before) (c.stage.ensures.run.touches mid)
            c.open_gate.new.disk (staged.body mid gives) (staged.map mid) (staged.synced mid) (c.open_gate.ensures.run.touches keeps));
        once = publish_asks (g.D.SectorDisk.asked c.args.disk.now) (g.D.SectorDisk.asked c.stage.new.disk) (g.D.SectorDisk.asked c.open_gate.new.disk) (length c.args.homes.now) c.stage.ensures.once c.open_gate.ensures.once;
        takes = record {
          run = published_run g.D.SectorDisk c.args.disk.now c.stage.new.disk c.open_gate.new.disk c.stage.ensures.run c.open_gate.ensures.run;
          asks = c.stage.ensures.asks;
          causes = none_failed (g.D.SectorDisk.failures c.args.disk.now) (g.D.SectorDisk.failures c.open_gate.new.disk) (g.S.PageSource.failures c.args.source.now) (g.S.PageSource.failures c.stage.new.source) (c.in_ok-open_gate.ensures.calm ∙ c.in_ok-stage.ensures.causes.device_calm) c.in_ok-stage.ensures.causes.source_calm;
        };
        source = λ keeps is. cc;
        source_moments = λ keeps is. cc;
      };
      lives = lives;
      map = λ keeps.
          gate_leaves_map g.D.SectorDisk c.stage.new.disk c.open_gate.new.disk (c.open_gate.ensures.run.touches keeps) ∙ c.in_ok-stage.ensures.map (c.open_gate.ensures.run.kept keeps);
      source_gate = λ keeps is. cc;
    }
