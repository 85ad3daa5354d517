use Rattle.std.proofs.Common.{◌≡◌, ◌+◌, refl, sym, subst, arith, rules}
use Rattle.pool_journal.{proofs.{Blanked.{BlanksBefore, body_numbers, body_inside, blanks_passed, blanks_slot, slot_run, slot_failed}, Copied.{slot_below}}, specs.{Blanking.{IsGivenAmong}, Maps.{entries_of}}}
use Rattle.pool_journal.proofs.pool.PoolJournal.blank_slots.Goals.{then-number-first+then-number-first-2+in_ok-write_page, else-number-first, else-number-first-via-then-number-first+else-number-first-2, else-number-first-via-else-number-first}
use Rattle.pool_journal.proofs.pool.PoolJournal.blank_slots.Goals as goal

pub write_page-requires-clause-room : goal.write_page-requires-clause-room
write_page-requires-clause-room g c =
    let m = c.args.self.now.sizes.blocks in
    let below = body_inside m c.args.self.now.map c.args.second c.body-number-items.result.now c.loop-place.place c.requires.is.map c.body-number-items.ensures.first c.body-number-items.ensures.second c.loop-place-test.true in
    let low = slot_below m c.args.second c.loop-place.place below in
    omega (arith, low, c.slot.ensures, c.requires.pool.room, c.loop-place.invariant.run.size)

pub write_page-requires-clause-fits : goal.write_page-requires-clause-fits
write_page-requires-clause-fits g c =
    let m = c.args.self.now.sizes.blocks in
    let below = body_inside m c.args.self.now.map c.args.second c.body-number-items.result.now c.loop-place.place c.requires.is.map c.body-number-items.ensures.first c.body-number-items.ensures.second c.loop-place-test.true in
    let low = slot_below m c.args.second c.loop-place.place below in
    omega (arith, low, c.slot.ensures, c.requires.pool.sized.1)

pub returns-in_err-write_page : goal.returns-in_err-write_page
returns-in_err-write_page g c =
    let d = g.D.SectorDisk in
    let m = c.args.self.now.sizes.blocks in
    let numbers = entries_of c.args.self.now.map c.args.second in
    let place = c.loop-place.place in
    let below = body_inside m c.args.self.now.map c.args.second c.body-number-items.result.now place c.requires.is.map c.body-number-items.ensures.first c.body-number-items.ensures.second c.loop-place-test.true in
    let same = body_numbers c.args.self.now.map c.args.second c.body-number-items.result.now c.body-number-items.ensures.first c.body-number-items.ensures.second place in
    let given : IsGivenAmong c.args.first c.args.count (numbers place) = (omega (arith, c.if-number-first.true, same), omega (arith, c.if-number-first-2.true, same)) in
    let w = c.write_page.ensures in
    let so_far = c.loop-place.invariant in
    record {
      done = search rules;
      run = slot_run d m c.args.second numbers c.args.first c.args.count place c.slot.result below given c.slot.ensures c.args.disk.now c.loop-place.disk c.write_page.new.disk so_far w.run w.asks;
      once = slot_failed d m c.args.second numbers c.args.first c.args.count place c.slot.result below given c.slot.ensures c.args.disk.now c.loop-place.disk c.write_page.new.disk so_far w.run w.asks;
      failed = λ is. (let failed = c.in_err-write_page.ensures.failed refl in let calm = so_far.calm in omega (arith, failed, calm));
      calm = search rules;
    }

pub loop-place-preserved : goal.loop-place-preserved
loop-place-preserved g c =
    let d = g.D.SectorDisk in
    let m = c.args.self.now.sizes.blocks in
    let numbers = entries_of c.args.self.now.map c.args.second in
    let place = c.loop-place.place in
    let below = body_inside m c.args.self.now.map c.args.second c.body-number-items.result.now place c.requires.is.map c.body-number-items.ensures.first c.body-number-items.ensures.second c.loop-place-test.true in
    let same = body_numbers c.args.self.now.map c.args.second c.body-number-items.result.now c.body-number-items.ensures.first c.body-number-items.ensures.second place in
    let old = c.args.disk.now in
    let mid = c.loop-place.disk in
    let new = c.if-number-first.disk in
    let so_far = c.loop-place.invariant in
    let passed = λ (is : new ≡ mid) (other : IsGivenAmong c.args.first c.args.count (numbers place) → ⊥).
    subst (λ e. BlanksBefore d m c.args.second numbers c.args.first c.args.count (place + 1) old e) (sym is) (blanks_passed d m c.args.second numbers c.args.first c.args.count place old mid other so_far) in
    elim c.if-number-first.branch [
      | then-number-first+then-number-first-2+in_ok-write_page w ↦ (
          let given : IsGivenAmong c.args.first c.args.count (numbers place) = (omega (arith, w.if-number-first.true, same), omega (arith, w.if-number-first-2.true, same)) in
          let ok = w.in_ok-write_page.ensures in
          subst (λ e. BlanksBefore d m c.args.second numbers c.args.first c.args.count (place + 1) old e) (sym w.disk-is)
          (blanks_slot d m c.args.second numbers c.args.first c.args.count place w.slot.result below given w.slot.ensures old mid w.write_page.new.disk so_far ok.run ok.asks ok.written ok.calm))
      | else-number-first w ↦ elim w.else-number-first.branch [
        | else-number-first-via-then-number-first+else-number-first-2 v ↦ passed w.disk-is (λ given. (let high = given.1 in omega (arith, v.if-number-first-2.false, same, high)))
        | else-number-first-via-else-number-first v ↦ passed w.disk-is (λ given. (let low = given.0 in omega (arith, v.if-number-first.false, same, low)))
      ]
    ]
