use Rattle.std.proofs.Common.{◌⊎◌, ◌∙◌, inl, arith, rules}
use Rattle.std.proofs.lemmas.Result.{on_ok_weaker}
use Rattle.disk_model.proofs.Naming.{once_named}
use Rattle.sync_journal.{proofs.{Asking.{page_copied}, Runs.{one_more, no_write, one_page}}, specs.Layout.{IsPageSector}}
use Rattle.pool_journal.proofs.copying.copy_page.Goals as goal

pub returns-in_err-read_page : goal.returns-in_err-read_page
returns-in_err-read_page g c =
    let once = once_named (λ k. IsPageSector c.args.from k ⊎ IsPageSector c.args.to k) (IsPageSector c.args.from) (g.D.SectorDisk.asked c.args.disk.now) (g.D.SectorDisk.asked c.read_page.new.self)
    (λ k source. inl source) c.read_page.ensures.asks in
    search rules

pub returns : goal.returns
returns g c =
    let d = g.D.SectorDisk in
    let old = c.args.disk.now in
    let read = c.read_page.new.self in
    let r = c.in_ok-read_page.ensures in
    let w = c.write_page.ensures in
    record {
      done = λ keeps. on_ok_weaker c.write_page.result (λ written i below. written i below ∙ r.gives (w.kept keeps) i below) (w.written keeps);
      run = one_more d (IsPageSector c.args.to) old read c.write_page.new.self (no_write d _ old read r.size r.kept r.cause.later r.same r.unsynced r.time)
          (one_page d _ c.args.to read c.write_page.new.self (λ k inside. inside) w.size w.kept w.cause.later w.others w.unsynced w.time);
      once = page_copied (d.asked old) (d.asked read) (d.asked c.write_page.new.self) c.args.from c.args.to c.requires.after r.asks w.asks;
      failed = λ is. (let failed = w.cause.failed is in let calm = r.cause.calm in omega (arith, failed, calm));
      calm = on_ok_weaker c.write_page.result (λ calm. calm ∙ r.cause.calm) w.cause.calm;
    }
