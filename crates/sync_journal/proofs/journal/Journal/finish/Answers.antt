use Rattle.sync_journal.{proofs.{Names.{[], refl, arith, rules, stays, once_none}, Phases.{while_staging, staged_settled}, Rests.{rest_quiet, none_live}}, specs.{Journal.{live_homes}, Layout.{IsJournalSector, IsMovedHome}}}
use Rattle.sync_journal.proofs.journal.Journal.finish.Goals as goal

pub returns-else-self-gt0-clause-home : goal.returns-else-self-gt0-clause-home
returns-else-self-gt0-clause-home g c =
    record {
      writes = record {
        done = λ keeps.
            staged_settled g.D.SectorDisk (live_homes c.args.self.now) (λ _. []) c.args.disk.now c.args.disk.now
            (λ image left. g.met.D.SectorDisk.only_now c.args.disk.now image keeps left) c.requires.live
            (rest_quiet g.D.SectorDisk (live_homes c.args.self.now) c.args.disk.now (none_live c.args.self.now (omega (arith, c.if-self-gt0.false))) (c.requires.rest keeps))
            (stays g.D.SectorDisk IsJournalSector c.args.disk.now);
        run = search rules;
        once = once_none (IsMovedHome (live_homes c.args.self.now)) (g.D.SectorDisk.asked c.args.disk.now) (g.D.SectorDisk.asked c.args.disk.now) (λ k. refl);
        failed = search rules;
        calm = search rules;
      };
      any_moment = λ keeps.
          while_staging g.D.SectorDisk (live_homes c.args.self.now) (λ _. []) c.args.disk.now c.args.disk.now
          (λ image left. g.met.D.SectorDisk.only_now c.args.disk.now image keeps left) c.requires.live
          (rest_quiet g.D.SectorDisk (live_homes c.args.self.now) c.args.disk.now (none_live c.args.self.now (omega (arith, c.if-self-gt0.false))) (c.requires.rest keeps))
          (stays g.D.SectorDisk IsJournalSector c.args.disk.now);
    }
