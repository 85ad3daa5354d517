use Rattle.msync.proofs.{Names.{sym, arith, File}, Spotting.{cache_inside, slot_whole}}
use Rattle.msync.proofs.msyncs.spot_of.Goals as goal

pub bytes-requires : goal.bytes-requires
bytes-requires g c =
    cache_inside c.args.core.now.frames c.in-Frame.frame.0 c.args.core.now.sound (c.requires.fit.places.cached (File c.args.page) c.in-Frame.frame.0 (sym c.in-Frame.ensures))

pub returns-in-Frame-clause-spot : goal.returns-in-Frame-clause-spot
returns-in-Frame-clause-spot g c = record {
  placed = sym c.in-Frame.ensures;
  there = cache_inside c.args.core.now.frames c.in-Frame.frame.0 c.args.core.now.sound (c.requires.fit.places.cached (File c.args.page) c.in-Frame.frame.0 (sym c.in-Frame.ensures));
}

pub returns-in-Slot-clause-spot : goal.returns-in-Slot-clause-spot
returns-in-Slot-clause-spot g c = record {
  placed = sym c.in-Slot.ensures;
  there = (let one = c.requires.fit.places.slotted (File c.args.page) c.in-Slot.slot.0 (sym c.in-Slot.ensures) in omega (arith, one));
}

pub returns-in-Slot-clause-whole : goal.returns-in-Slot-clause-whole
returns-in-Slot-clause-whole g c =
    slot_whole c.args.core.now.swap c.in-Slot.slot.0 (let one = c.requires.fit.places.slotted (File c.args.page) c.in-Slot.slot.0 (sym c.in-Slot.ensures) in omega (arith, one))

pub unreachable-requires : goal.unreachable-requires
unreachable-requires g c = c.requires.fit.dirty.held (File c.args.page) c.requires.touched (sym c.in-Home.ensures)
