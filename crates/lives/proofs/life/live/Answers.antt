use Rattle.lives.proofs.Lives.{early_life, ran, still_stands}
use Rattle.lives.proofs.life.live.Goals as goal

pub returns-in-Err-clause-fails : goal.returns-in-Err-clause-fails
returns-in-Err-clause-fails g c =
    let stands = still_stands g.D.SectorDisk g.E.SectorDisk in
    let refuses = c.in-Err.ensures.refuses in
    record {
      failed = λ keeps synced. early_life g.D.SectorDisk g.E.SectorDisk c.args.devices.store c.in-Err.fault.1 keeps synced (c.in-Err.ensures.err_moments.any_moment keeps synced)
          (c.in-Err.ensures.err_moments.most_moment keeps synced);
      good_layout = λ keeps before lives holds bad. (stands before lives c.args.devices.store holds).2.layout (refuses.bad_layout keeps bad);
      good_journal = λ keeps before lives holds bad. (stands before lives c.args.devices.store holds).2.journal (refuses.bad_journal keeps bad);
    }

pub returns-clause-lived : goal.returns-clause-lived
returns-clause-lived g c = λ keeps swap_keeps.
    let kept = c.run.ensures.does.keeps.kept keeps in
    let boots = c.in-Ok.ensures.boots in
    ran g.D.SectorDisk g.E.SectorDisk (λ d t image keep le may. g.met.D.SectorDisk.counts_now d t image keep le may) c.args.devices.store c.in-Ok.machine c.run.new.self c.args.commands.now c.run.new.replies kept keeps
    c.in-Ok.ensures.accepts.size (c.in-Ok.ensures.moments.any_moment kept) (c.in-Ok.ensures.moments.most_moment kept) boots (c.run.ensures.run boots.state boots.shows keeps swap_keeps)
