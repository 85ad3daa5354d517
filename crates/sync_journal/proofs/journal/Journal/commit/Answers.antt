use Rattle.sync_journal.proofs.{Asking.{finish_only, commit_only, in_one, in_two}, Causes.{calm_first, told_on, told_was, not_source, puts_failed, asks_nothing}, Names.{[], weaker, length, refl, sym, subst, ◌∙◌, rules}}
use Rattle.sync_journal.{proofs.{Layouts.{or_before}, OneRecoveries.{ones_fix}, Runs.{finished_run, committed_run}, Since.{both_either, both_before, settled_before, settled_after}}, specs.{Journal.{live_homes}, Commit.{one_journal}, Layout.{IsOutside}}}
use Rattle.sync_journal.proofs.journal.Journal.commit.Goals as goal

pub returns-in_err-finish : goal.returns-in_err-finish
returns-in_err-finish g c =
    record {
      puts = puts_failed _ c.from_residual.ensures.1
          (λ keeps gives.
          weaker g.D.SectorDisk c.args.disk.now c.finish.new.disk _ _ (or_before one_journal (g.D.SectorDisk.sector_count c.args.disk.now) c.args.homes.now
          (g.S.PageSource.pages c.args.source.now) (g.D.SectorDisk.content c.args.disk.now)) (c.finish.ensures.home.any_moment keeps))
          (in_one g.D.SectorDisk (live_homes c.args.self.now) (length c.args.homes.now) c.args.disk.now c.finish.new.disk c.finish.ensures.home.once)
          (finished_run g.D.SectorDisk (live_homes c.args.self.now) c.args.disk.now c.finish.new.disk c.finish.ensures.home.run)
          (asks_nothing g.S.PageSource c.args.source.now (g.met.S.PageSource.stays c.args.source.now)) (c.in_err-finish.ensures.home.failed refl) refl;
      live = search rules;
      map = search rules;
      synced = search rules;
      asks_device = finish_only g.D.SectorDisk (live_homes c.args.self.now) c.args.disk.now c.finish.new.disk c.requires.live.few c.finish.ensures.home.once;
      not_live = λ is. absurd (not_source _ c.from_residual.ensures.1 is);
      source_gate = λ keeps is. absurd (not_source _ c.from_residual.ensures.1 is);
    }

pub returns-in_err-publish : goal.returns-in_err-publish
returns-in_err-publish g c =
    let e = c.in_err-publish.ensures in
    record {
      puts = record {
        ok = search rules;
        rest = search rules;
        outside = search rules;
        any_moment = λ keeps gives. (let mid = c.publish.ensures.kept keeps in both_either one_journal ones_fix g.D.SectorDisk c.args.disk.now c.finish.new.disk c.publish.new.disk c.finish.ensures.home.run.size (c.in_ok-finish.ensures.home.done mid)
            c.args.homes.now (g.S.PageSource.pages c.args.source.now) (c.finish.ensures.home.any_moment mid) (c.publish.ensures.any_moment keeps gives));
        once = in_two g.D.SectorDisk (live_homes c.args.self.now) (length c.args.homes.now) c.args.disk.now c.finish.new.disk c.publish.new.disk c.finish.ensures.home.once c.publish.ensures.once;
        takes = record {
          run = committed_run g.D.SectorDisk (live_homes c.args.self.now) c.args.disk.now c.finish.new.disk c.publish.new.disk c.finish.ensures.home.run c.publish.ensures.run;
          asks = c.publish.ensures.asks;
          causes = told_on (g.D.SectorDisk.failures c.args.disk.now) (g.D.SectorDisk.failures c.publish.new.disk) (g.S.PageSource.failures c.args.source.now) (g.S.PageSource.failures c.publish.new.source) _ _ c.from_residual-in_err-publish.ensures.1
              (calm_first c.in_ok-finish.ensures.home.calm c.in_err-publish.ensures.causes);
        };
        source = λ keeps is. settled_before one_journal ones_fix g.D.SectorDisk c.args.disk.now c.finish.new.disk c.publish.new.disk c.finish.ensures.home.run.size (c.in_ok-finish.ensures.home.done (e.kept keeps)) []
            (e.source keeps (told_was _ _ _ c.from_residual-in_err-publish.ensures.1 is));
        source_moments = λ keeps is_source. (let mid = c.publish.ensures.kept keeps in both_before one_journal ones_fix g.D.SectorDisk c.args.disk.now c.finish.new.disk c.publish.new.disk c.finish.ensures.home.run.size (c.in_ok-finish.ensures.home.done mid)
            (c.finish.ensures.home.any_moment mid) (e.source_moments keeps (told_was _ _ _ c.from_residual-in_err-publish.ensures.1 is_source)));
      };
      live = search rules;
      map = search rules;
      synced = search rules;
      asks_device = commit_only g.D.SectorDisk (live_homes c.args.self.now) (length c.args.homes.now) c.args.disk.now c.finish.new.disk c.publish.new.disk
          c.requires.live.few c.requires.given.homes_are.few c.finish.ensures.home.once c.publish.ensures.once;
      not_live = λ is. c.in_ok-finish.ensures.not_live;
      source_gate = λ keeps is. e.source_gate keeps (told_was _ _ _ c.from_residual-in_err-publish.ensures.1 is) ∙ c.in_ok-finish.ensures.gate (e.kept keeps);
    }

pub returns : goal.returns
returns g c =
    record {
      puts = record {
        ok = λ keeps gives. (let mid = c.publish.ensures.kept keeps in settled_after one_journal ones_fix g.D.SectorDisk c.args.disk.now c.finish.new.disk c.publish.new.disk c.finish.ensures.home.run.size (c.in_ok-finish.ensures.home.done mid)
            c.args.homes.now (g.S.PageSource.pages c.args.source.now) c.args.homes.now (c.in_ok-publish.ensures.ok keeps gives));
        rest = c.in_ok-publish.ensures.rest;
        outside = λ keeps k out. c.in_ok-publish.ensures.outside keeps k (subst (λ n. IsOutside n k) (sym c.finish.ensures.home.run.size) out) ∙ (c.in_ok-finish.ensures.home.done (c.publish.ensures.kept keeps)).outside k out;
        any_moment = λ keeps gives. (let mid = c.publish.ensures.kept keeps in both_either one_journal ones_fix g.D.SectorDisk c.args.disk.now c.finish.new.disk c.publish.new.disk c.finish.ensures.home.run.size (c.in_ok-finish.ensures.home.done mid)
            c.args.homes.now (g.S.PageSource.pages c.args.source.now) (c.finish.ensures.home.any_moment mid) (c.publish.ensures.any_moment keeps gives));
        once = in_two g.D.SectorDisk (live_homes c.args.self.now) (length c.args.homes.now) c.args.disk.now c.finish.new.disk c.publish.new.disk c.finish.ensures.home.once c.publish.ensures.once;
        takes = record {
          run = committed_run g.D.SectorDisk (live_homes c.args.self.now) c.args.disk.now c.finish.new.disk c.publish.new.disk c.finish.ensures.home.run c.publish.ensures.run;
          asks = c.publish.ensures.asks;
          causes = calm_first c.in_ok-finish.ensures.home.calm c.in_ok-publish.ensures.causes;
        };
        source = λ keeps is. cc;
        source_moments = λ keeps is. cc;
      };
      live = search rules;
      map = c.in_ok-publish.ensures.map;
      synced = λ keeps. (c.in_ok-publish.ensures.lives keeps).synced;
      asks_device = commit_only g.D.SectorDisk (live_homes c.args.self.now) (length c.args.homes.now) c.args.disk.now c.finish.new.disk c.publish.new.disk
          c.requires.live.few c.requires.given.homes_are.few c.finish.ensures.home.once c.publish.ensures.once;
      not_live = λ is. cc;
      source_gate = λ keeps is. cc;
    }
