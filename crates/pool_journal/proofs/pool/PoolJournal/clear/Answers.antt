use Rattle.std.proofs.Common.{◌≡◌, refl, inl, inr, arith, rules}
use Rattle.std.proofs.lemmas.Result.{on_ok_weaker}
use Rattle.disk_model.proofs.Naming.{once_named}
use Rattle.pool_journal.proofs.Cleared.{empty_closed, emptied, head_once}
use Rattle.pool_journal.specs.{Clearing.{IsHeadOfPool}, Pools.{pool_gate}}
use Rattle.sync_journal.{proofs.{Gates.{sector_run}, Runs.{one_more, of_more}}, specs.{Layout.{IsPageSector}}}
use Rattle.pool_journal.proofs.pool.PoolJournal.clear.Goals as goal

pub returns-in_err-write_page-clause-writes : goal.returns-in_err-write_page-clause-writes
returns-in_err-write_page-clause-writes g c =
    let d = g.D.SectorDisk in
    let m = c.args.sizes.blocks in
    let old = c.args.disk.now in
    let new = c.write_page.new.disk in
    let w = c.write_page.ensures in
    let at = c.block_start.ensures in
    record {
      done = search rules;
      run = of_more d (IsPageSector c.block_start.result) (IsHeadOfPool m) old new (λ k here. inr (omega (arith, here.0, at), omega (arith, here.1, at))) w.run;
      once = once_named (IsHeadOfPool m) (IsPageSector c.block_start.result) (d.asked old) (d.asked new) (λ k here. inr (omega (arith, here.0, at), omega (arith, here.1, at))) w.asks;
      failed = λ is. c.in_err-write_page.ensures.failed refl;
      calm = search rules;
    }

pub returns-clause-writes : goal.returns-clause-writes
returns-clause-writes g c =
    let d = g.D.SectorDisk in
    let m = c.args.sizes.blocks in
    let old = c.args.disk.now in
    let mid = c.write_page.new.disk in
    let new = c.write.new.self in
    let w = c.in_ok-write_page.ensures in
    let s = c.write.ensures in
    let at = c.block_start.ensures in
    record {
      done = λ keeps. on_ok_weaker c.write.result (λ zeros. emptied m c.block_start.result (d.content mid) (d.content new) at c.requires.sized.0 (s.others keeps) zeros (w.written (s.kept keeps))) (s.written keeps);
      run = one_more d (IsHeadOfPool m) old mid new (of_more d (IsPageSector c.block_start.result) (IsHeadOfPool m) old mid (λ k here. inr (omega (arith, here.0, at), omega (arith, here.1, at))) w.run)
          (of_more d (λ k. k ≡ pool_gate) (IsHeadOfPool m) mid new (λ k is. inl is) (sector_run d pool_gate mid new s.size s.kept s.cause.later s.others s.unsynced s.time));
      once = head_once m c.block_start.result (d.asked old) (d.asked mid) (d.asked new) at w.asks s.asks;
      failed = search rules;
      calm = search rules;
    }

pub returns-clause-closed : goal.returns-clause-closed
returns-clause-closed g c =
    let d = g.D.SectorDisk in
    let s = c.write.ensures in
    let m = c.args.sizes.blocks in
    let new = c.write.new.self in
    λ keeps. on_ok_weaker c.write.result (λ zeros. empty_closed m c.args.sizes.homes (d.content new) (emptied m c.block_start.result (d.content c.write_page.new.disk) (d.content new) c.block_start.ensures c.requires.sized.0 (s.others keeps) zeros
    (c.in_ok-write_page.ensures.written (s.kept keeps)))) (s.written keeps)
