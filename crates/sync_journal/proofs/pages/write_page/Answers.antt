use Rattle.sync_journal.{specs.Layout.{IsPageSector}, proofs.Runs.{one_page}}
use Rattle.sync_journal.proofs.pages.write_page.Goals as goal

pub returns : goal.returns
returns g c =
    let w = c.write_page.ensures in
    record {
      run = one_page g.D.SectorDisk (IsPageSector c.args.first) c.args.first c.args.disk.now c.write_page.new.self (λ k inside. inside) w.size w.kept w.cause.later w.others w.unsynced w.time;
      asks = w.asks;
      failed = w.cause.failed;
      calm = w.cause.calm;
      written = w.written;
    }
