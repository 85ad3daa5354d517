use Rattle.sync_journal.proofs.{Asking.{finish_asks}, Gates.{closed}, Names.{length, inl, inr, rules, once_wider}, Replays.{while_copying, while_closing, settled, on_ok_both}, Runs.{one_more, of_more}}
use Rattle.sync_journal.specs.{Layout.{IsGate, IsHomeSector, IsCopied, IsReplayed, IsFinished}}
use Rattle.sync_journal.proofs.homes.replay.Goals as goal

pub returns-in_err-copy_homes-clause-home : goal.returns-in_err-copy_homes-clause-home
returns-in_err-copy_homes-clause-home g c =
    record {
      writes = record {
        done = search rules;
        run = of_more g.D.SectorDisk (IsHomeSector c.args.homes.now) (IsReplayed c.args.homes.now) c.args.disk.now c.copy_homes.new.disk (λ k at_home. inr at_home) c.copy_homes.ensures.run;
        once = once_wider (IsCopied c.args.homes.now (length c.args.homes.now)) (IsFinished c.args.homes.now) (g.D.SectorDisk.asked c.args.disk.now) (g.D.SectorDisk.asked c.copy_homes.new.disk)
            (λ k copied. inr copied) c.copy_homes.ensures.once;
        failed = search rules;
        calm = search rules;
      };
      any_moment = λ keeps. (let before = c.copy_homes.ensures.run.kept keeps in while_copying g.D.SectorDisk c.args.homes.now c.args.disk.now c.copy_homes.new.disk c.copy_homes.new.disk
          (λ image left. g.met.D.SectorDisk.only_now c.args.disk.now image before left)
          c.requires.homes (c.requires.opened before) (c.requires.on.synced before) (c.copy_homes.ensures.run.touches keeps));
    }

pub returns-clause-home : goal.returns-clause-home
returns-clause-home g c =
    record {
      writes = record {
        done = λ keeps. (let mid = c.close_gate.ensures.run.kept keeps in let before = c.copy_homes.ensures.run.kept mid in on_ok_both c.close_gate.result (c.close_gate.ensures.done keeps) (c.close_gate.ensures.synced keeps)
            (λ zeros. settled g.D.SectorDisk c.args.homes.now c.args.disk.now c.copy_homes.new.disk c.close_gate.new.disk
            (λ image left. g.met.D.SectorDisk.only_now c.args.disk.now image before left)
            c.requires.homes (c.requires.opened before) (c.requires.on.synced before) (c.copy_homes.ensures.run.touches mid)
            (c.in_ok-copy_homes.ensures.done mid) (c.in_ok-copy_homes.ensures.synced mid) (c.close_gate.ensures.run.touches keeps) (closed _ zeros)));
        run = one_more g.D.SectorDisk (IsReplayed c.args.homes.now) c.args.disk.now c.copy_homes.new.disk c.close_gate.new.disk
            (of_more g.D.SectorDisk (IsHomeSector c.args.homes.now) (IsReplayed c.args.homes.now) c.args.disk.now c.copy_homes.new.disk (λ k at_home. inr at_home) c.copy_homes.ensures.run)
            (of_more g.D.SectorDisk IsGate (IsReplayed c.args.homes.now) c.copy_homes.new.disk c.close_gate.new.disk (λ k gate. inl gate) c.close_gate.ensures.run);
        once = finish_asks (g.D.SectorDisk.asked c.args.disk.now) (g.D.SectorDisk.asked c.copy_homes.new.disk) (g.D.SectorDisk.asked c.close_gate.new.disk)
            c.args.homes.now c.copy_homes.ensures.once c.close_gate.ensures.once;
        failed = search rules;
        calm = search rules;
      };
      any_moment = λ keeps. (let mid = c.close_gate.ensures.run.kept keeps in let before = c.copy_homes.ensures.run.kept mid in while_closing g.D.SectorDisk c.args.homes.now c.args.disk.now c.copy_homes.new.disk c.close_gate.new.disk
          (λ image left. g.met.D.SectorDisk.only_now c.args.disk.now image before left)
          c.requires.homes (c.requires.opened before) (c.requires.on.synced before) (c.copy_homes.ensures.run.touches mid)
          (c.in_ok-copy_homes.ensures.done mid) (c.in_ok-copy_homes.ensures.synced mid) (c.close_gate.ensures.run.touches keeps));
    }

pub returns-clause-zeros : goal.returns-clause-zeros
returns-clause-zeros g c = c.close_gate.ensures.done

pub returns-clause-all_synced : goal.returns-clause-all_synced
returns-clause-all_synced g c = c.close_gate.ensures.synced
