use Rattle.std.proofs.Common.{◌∙◌, arith, refl, None, replicate}
use Rattle.pool_store.proofs.Entries.{appends_none, appends_one, blank_entry}
use Rattle.pool_store.proofs.reading.take_blank.Goals as goal

pub loop-place-init : goal.loop-place-init
loop-place-init c = (appends_none (replicate 4096 0) c.args.entries.now.items, omega arith, refl)

pub loop-place-preserved : goal.loop-place-preserved
loop-place-preserved c =
    let inv = c.loop-place.invariant in (
      appends_one (replicate 4096 0) c.loop-place.place c.args.entries.now.items c.loop-place.entries.items c.push_reserved.new.self.items None inv.0
          (blank_entry c.loop-place.place (omega (arith, c.loop-place-test.true))) c.push_reserved.ensures.items,
      omega (arith, inv.1, c.push_reserved.ensures.len),
      c.push_reserved.ensures.capacity ∙ inv.2,
    )
