use Rattle.std.proofs.Common.{◌≡◌, ◌<◌, ◌≤◌, ◌+◌, ◌-◌, ◌*◌, ◌∙◌, arith, rules, length}
use Rattle.pool_journal.proofs.BlockWrites.{entries_read, run_more, notes_more, once_more, are_noted}
use Rattle.disk_model.proofs.Naming.{once_wider}
use Rattle.pool_journal.specs.{Blocks.{IsNotedMap}, Maps.{entries_of}, Pools.{pool_start}}
use Rattle.pool_journal.proofs.map_blocks.write_map.Goals as goal

pub overflow_mul-q : goal.overflow_mul-q
overflow_mul-q g c =
    let has = c.counted-counted.ensures c.args.sizes.blocks c.requires.pool.sized.0 c.requires.size in
    omega (arith, has.most, c.requires.pool.sized.1, c.loop-q.auto.q, c.loop-q-test.true)

pub overflow_sub-start : goal.overflow_sub-start
overflow_sub-start g c =
    let has = c.counted-counted.ensures c.args.sizes.blocks c.requires.pool.sized.0 c.requires.size in
    omega (arith, has.most, c.requires.pool.sized.0, c.loop-q.auto.q, c.loop-q-test.true, c.from.ensures)

pub block-requires-clause-room : goal.block-requires-clause-room
block-requires-clause-room g c =
    let has = c.counted-counted.ensures c.args.sizes.blocks c.requires.pool.sized.0 c.requires.size in
    (omega (arith, has.most, c.loop-q.auto.q, c.loop-q-test.true, c.requires.size.0), omega (arith, has.most, c.loop-q.auto.q, c.loop-q-test.true, c.requires.size.1))

pub block-requires-clause-few : goal.block-requires-clause-few
block-requires-clause-few g c =
    let has = c.counted-counted.ensures c.args.sizes.blocks c.requires.pool.sized.0 c.requires.size in
    omega (arith, has.most, c.requires.pool.sized.1)

pub loop-q-preserved : goal.loop-q-preserved
loop-q-preserved g c =
    let d = g.D.SectorDisk in
    let m = c.args.sizes.blocks in
    let has = c.counted-counted.ensures m c.requires.pool.sized.0 c.requires.size in
    let inv = c.loop-q.invariant in
    let q = c.loop-q.q in
    let long : length c.block.result ≡ 4096 = search rules in
    let w = c.write_page.ensures in
    let first = c.start.result + 8 * c.from.result - 8 * (q - 1) in
    let at : first ≡ pool_start m c.args.second + 8 * (m - 1 - (q - 1)) = omega (arith, c.start.ensures, c.from.ensures, has.most, c.loop-q.auto.q, c.loop-q-test.true) in (
      run_more d m c.args.second c.args.disk.now c.loop-q.disk c.write_page.new.disk q c.counted-counted.result first c.loop-q-test.true c.loop-q.auto.q has.most at w.run inv.0,
      λ keeps. notes_more d m c.args.second c.args.disk.now c.loop-q.disk c.write_page.new.disk q c.counted-counted.result first c.loop-q-test.true c.loop-q.auto.q has.most at w.run
          (entries_of c.args.map.now) c.block.result long c.block.ensures (c.in_ok-write_page.ensures.written keeps) keeps (inv.1 (w.run.kept keeps)),
      c.in_ok-write_page.ensures.calm ∙ inv.2,
      once_more d m c.args.second c.args.disk.now c.loop-q.disk c.write_page.new.disk q c.counted-counted.result first c.loop-q-test.true c.loop-q.auto.q has.most at w.run inv.3 w.asks,
    )

pub returns-in_err-write_page : goal.returns-in_err-write_page
returns-in_err-write_page g c =
    let d = g.D.SectorDisk in
    let m = c.args.sizes.blocks in
    let has = c.counted-counted.ensures m c.requires.pool.sized.0 c.requires.size in
    let inv = c.loop-q.invariant in
    let q = c.loop-q.q in
    let w = c.write_page.ensures in
    let first = c.start.result + 8 * c.from.result - 8 * (q - 1) in
    let at : first ≡ pool_start m c.args.second + 8 * (m - 1 - (q - 1)) = omega (arith, c.start.ensures, c.from.ensures, has.most, c.loop-q.auto.q, c.loop-q-test.true) in
    let run = run_more d m c.args.second c.args.disk.now c.loop-q.disk c.write_page.new.disk q c.counted-counted.result first c.loop-q-test.true c.loop-q.auto.q has.most at w.run inv.0 in
    let once = once_wider (λ k. (pool_start m c.args.second + 8 * (m - c.counted-counted.result) ≤ k) × (k + 8 * (q - 1) < pool_start m c.args.second + 8 * m)) (IsNotedMap m c.args.second (entries_of c.args.map.now))
    (d.asked c.args.disk.now) (d.asked c.write_page.new.disk) (λ k inside. are_noted m c.args.second (entries_of c.args.map.now) c.counted-counted.result has k inside.0 (omega (arith, inside.1)))
    (once_more d m c.args.second c.args.disk.now c.loop-q.disk c.write_page.new.disk q c.counted-counted.result first c.loop-q-test.true c.loop-q.auto.q has.most at w.run inv.3 w.asks) in
    search rules

pub returns : goal.returns
returns g c =
    let d = g.D.SectorDisk in
    let m = c.args.sizes.blocks in
    let has = c.counted-counted.ensures m c.requires.pool.sized.0 c.requires.size in
    let inv = c.loop-q.invariant in
    record {
      done = λ keeps. entries_read m c.args.sizes.homes c.args.second (d.content c.loop-q.disk) (entries_of c.args.map.now) c.counted-counted.result has c.requires.homes (λ j below. inv.1 keeps j (omega (arith, c.loop-q-test.false)) below);
      run = inv.0;
      once = once_wider (λ k. (pool_start m c.args.second + 8 * (m - c.counted-counted.result) ≤ k) × (k + 8 * c.loop-q.q < pool_start m c.args.second + 8 * m)) (IsNotedMap m c.args.second (entries_of c.args.map.now))
          (d.asked c.args.disk.now) (d.asked c.loop-q.disk) (λ k inside. are_noted m c.args.second (entries_of c.args.map.now) c.counted-counted.result has k inside.0 (omega (arith, inside.1))) inv.3;
      failed = search rules;
      calm = inv.2;
    }
