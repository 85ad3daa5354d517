use Rattle.std.proofs.Common.{◌≡◌, ◌<◌, ◌+◌, ◌-◌, ◌∙◌, length, get_or, subst, arith, rules}
use Rattle.disk_model.proofs.{Moments.{asks_then, asks_once}, Naming.{once_wider}}
use Rattle.pool_journal.proofs.Copied.{held_more, homes_more, copies_more, all_held, still_pool, HoldsFrom}
use Rattle.disk_model.specs.Stop.{NamesOnce}
use Rattle.pool_journal.specs.Copying.{IsBodyCopy, IsCopyOf, IsSingleBody}
use Rattle.pool_journal.proofs.copying.copy_body.Goals as goal

pub copy_slot-requires-clause-pool : goal.copy_slot-requires-clause-pool
copy_slot-requires-clause-pool g c = still_pool g.D.SectorDisk c.args.sizes c.args.disk.now c.loop-place.disk c.loop-place.invariant.0.size c.requires.pool

pub loop-place-preserved : goal.loop-place-preserved
loop-place-preserved g c =
    let d = g.D.SectorDisk in
    let m = c.args.sizes.blocks in
    let numbers = c.args.numbers.now in
    let old = c.args.disk.now in
    let mid = c.loop-place.disk in
    let new = c.copy_slot.new.disk in
    let q = c.loop-place.place in
    let inv = c.loop-place.invariant in
    let w = c.copy_slot.ensures in
    let at : q ≡ q - 1 + 1 = omega (arith, c.loop-place-test.true) in
    let below : q - 1 < length numbers = omega (arith, c.loop-place-test.true, c.loop-place.auto.place) in (
      homes_more d m c.args.second numbers c.requires.size (q - 1) q at below old mid new inv.0 w.run,
      λ keeps. (let before = w.run.kept keeps in held_more d m c.args.second numbers c.requires.size (q - 1) q at below old mid new (inv.0.touches before) (inv.1 before) (w.run.touches keeps) (c.in_ok-copy_slot.ensures.done keeps)),
      c.in_ok-copy_slot.ensures.calm ∙ inv.2,
      λ single. copies_more d m c.args.second numbers c.requires.size (q - 1) q at below old mid new single (inv.3 single) w.once,
      asks_then d (IsBodyCopy m c.args.second numbers 0) old mid new inv.4 (asks_once d (IsBodyCopy m c.args.second numbers 0) (IsCopyOf m c.args.second (q - 1) (get_or numbers (q - 1) 0)) mid new (λ k copy. (q - 1, omega arith, below, copy)) w.once),
    )

pub returns-in_err-copy_slot : goal.returns-in_err-copy_slot
returns-in_err-copy_slot g c =
    let d = g.D.SectorDisk in
    let m = c.args.sizes.blocks in
    let numbers = c.args.numbers.now in
    let old = c.args.disk.now in
    let mid = c.loop-place.disk in
    let new = c.copy_slot.new.disk in
    let q = c.loop-place.place in
    let inv = c.loop-place.invariant in
    let w = c.copy_slot.ensures in
    let at : q ≡ q - 1 + 1 = omega (arith, c.loop-place-test.true) in
    let below : q - 1 < length numbers = omega (arith, c.loop-place-test.true, c.loop-place.auto.place) in
    let run = homes_more d m c.args.second numbers c.requires.size (q - 1) q at below old mid new inv.0 w.run in
    let once : IsSingleBody numbers → NamesOnce (IsBodyCopy m c.args.second numbers 0) (d.asked old) (d.asked new) = λ single. once_wider (IsBodyCopy m c.args.second numbers (q - 1)) (IsBodyCopy m c.args.second numbers 0) (d.asked old) (d.asked new) (λ k was. (was.0, omega arith, was.2, was.3))
    (copies_more d m c.args.second numbers c.requires.size (q - 1) q at below old mid new single (inv.3 single) w.once) in
    let asks = asks_then d (IsBodyCopy m c.args.second numbers 0) old mid new inv.4 (asks_once d (IsBodyCopy m c.args.second numbers 0) (IsCopyOf m c.args.second (q - 1) (get_or numbers (q - 1) 0)) mid new (λ k copy. (q - 1, omega arith, below, copy)) w.once) in
    search rules

pub returns : goal.returns
returns g c =
    let d = g.D.SectorDisk in
    let m = c.args.sizes.blocks in
    let numbers = c.args.numbers.now in
    let old = c.args.disk.now in
    let new = c.loop-place.disk in
    let inv = c.loop-place.invariant in
    let none : c.loop-place.place ≡ 0 = omega (arith, c.loop-place-test.false) in
    record {
      done = λ keeps. all_held m c.args.second numbers (d.content old) (d.content new) (subst (λ p. HoldsFrom m c.args.second numbers p (d.content old) (d.content new)) none (inv.1 keeps));
      run = inv.0;
      once = λ single. once_wider (IsBodyCopy m c.args.second numbers c.loop-place.place) (IsBodyCopy m c.args.second numbers 0) (d.asked old) (d.asked new) (λ k was. (was.0, omega arith, was.2, was.3)) (inv.3 single);
      asks = inv.4;
      failed = λ is. cc;
      calm = inv.2;
    }
