use Rattle.std.proofs.Common.{refl, ◌∙◌, arith, rules}
use Rattle.std.proofs.lemmas.Result.{on_ok_weaker}
use Rattle.pool_journal.{proofs.Blanked.{pages_run, homes_run, homes_once, first_run, first_once, both_run, both_once, all_blank}, specs.Maps.{entries_of}}
use Rattle.pool_journal.proofs.pool.PoolJournal.blank.Goals as goal

pub returns-in_err-write_zeros : goal.returns-in_err-write_zeros
returns-in_err-write_zeros g c =
    let d = g.D.SectorDisk in
    let m = c.args.self.now.sizes.blocks in
    let entries = entries_of c.args.self.now.map in
    let at = c.home.result in
    let pages = c.from.result in
    let old = c.args.disk.now in
    let new = c.write_zeros.new.self in
    let z = c.write_zeros.ensures in
    let zeroed = pages_run d at pages old new z.size z.kept z.cause.later z.others z.unsynced z.time in
    record {
      done = search rules;
      run = homes_run d m entries c.args.first c.args.count at pages c.home.ensures c.from.ensures old new zeroed z.asks;
      once = homes_once d m entries c.args.first c.args.count at pages c.home.ensures c.from.ensures old new zeroed z.asks;
      failed = search rules;
      calm = search rules;
    }

pub returns-in_err-blank_slots : goal.returns-in_err-blank_slots
returns-in_err-blank_slots g c =
    let d = g.D.SectorDisk in
    let m = c.args.self.now.sizes.blocks in
    let entries = entries_of c.args.self.now.map in
    let at = c.home.result in
    let pages = c.from.result in
    let old = c.args.disk.now in
    let homes = c.write_zeros.new.self in
    let new = c.blank_slots.new.disk in
    let z = c.in_ok-write_zeros.ensures in
    let w = c.blank_slots.ensures in
    let zeroed = pages_run d at pages old homes z.size z.kept z.cause.later z.others z.unsynced z.time in
    record {
      done = search rules;
      run = first_run d m entries c.args.first c.args.count at pages c.home.ensures c.from.ensures old homes zeroed z.asks new w.run w.once;
      once = first_once d m entries c.args.first c.args.count at pages c.home.ensures c.from.ensures old homes zeroed z.asks new w.run w.once;
      failed = λ is. (let failed = c.in_err-blank_slots.ensures.failed refl in let calm = z.cause.calm in omega (arith, failed, calm));
      calm = search rules;
    }

pub returns : goal.returns
returns g c =
    let d = g.D.SectorDisk in
    let m = c.args.self.now.sizes.blocks in
    let entries = entries_of c.args.self.now.map in
    let at = c.home.result in
    let pages = c.from.result in
    let old = c.args.disk.now in
    let homes = c.write_zeros.new.self in
    let mid = c.blank_slots.new.disk in
    let new = c.blank_slots-2.new.disk in
    let z = c.in_ok-write_zeros.ensures in
    let one = c.in_ok-blank_slots.ensures in
    let two = c.blank_slots-2.ensures in
    let zeroed = pages_run d at pages old homes z.size z.kept z.cause.later z.others z.unsynced z.time in
    record {
      done = λ keeps. (let before = two.run.kept keeps in let first = one.run.kept before in
          on_ok_weaker c.blank_slots-2.result (λ done. all_blank d m entries c.args.first c.args.count at pages c.home.ensures c.from.ensures homes mid new
          (z.written first) (one.run.touches before) (one.done before) (two.run.touches keeps) done) (two.done keeps));
      run = both_run d m entries c.args.first c.args.count at pages c.home.ensures c.from.ensures old homes zeroed z.asks mid one.run one.once new two.run two.once;
      once = both_once d m entries c.args.first c.args.count at pages c.home.ensures c.from.ensures old homes zeroed z.asks mid one.run one.once new two.run two.once;
      failed = λ is. (let failed = two.failed is in let calm = one.calm in let before = z.cause.calm in omega (arith, failed, calm, before));
      calm = on_ok_weaker c.blank_slots-2.result (λ calm. calm ∙ one.calm ∙ z.cause.calm) two.calm;
    }
