use Rattle.spaces.proofs.{Living.{spawn_refused, spawns, spawn_stalls, came, stayed}, Names.{None, refl, Nothing, asks_slots_same, picture_of}, Taking.{spawned_takes, spawn_stalled_takes}}
use Rattle.spaces.proofs.processes.spawn.Goals as goal

pub returns-in_default-clause-comes : goal.returns-in_default-clause-comes
returns-in_default-clause-comes g c = λ s shows reads swaps.
    spawn_refused g.D.SectorDisk g.E.SectorDisk c.args.core.now s shows.pages c.free_pid.result c.free_pid.ensures.least c.in_default.is

pub returns-in-Ok-clause-comes : goal.returns-in-Ok-clause-comes
returns-in-Ok-clause-comes g c = λ s shows reads swaps.
    spawns g.D.SectorDisk g.E.SectorDisk c.args.core.now s shows.pages c.free_pid.result c.free_pid.ensures.least c.in-Some.pid c.in-Some.is
    c.spawn.new.core c.spawn.ensures.files c.in-Ok.ensures.ok

pub returns-in-Err-clause-comes : goal.returns-in-Err-clause-comes
returns-in-Err-clause-comes g c = λ s shows reads swaps.
    spawn_stalls g.D.SectorDisk g.E.SectorDisk c.args.core.now s shows.pages c.free_pid.result c.free_pid.ensures.least c.in-Some.pid c.in-Some.is
    c.spawn.new.core c.in-Err.stall c.spawn.ensures.fit c.in-Err.ensures.cause c.in-Err.ensures.short c.spawn.ensures.files c.in-Err.ensures.err

pub returns-in-Err-clause-keeps : goal.returns-in-Err-clause-keeps
returns-in-Err-clause-keeps g c =
    stayed g.D.SectorDisk g.E.SectorDisk c.args.core.now c.spawn.new.core _ c.requires.sound c.spawn.ensures.keeps c.in-Err.stall c.in-Err.ensures.cause

pub returns-in-Ok-clause-takes : goal.returns-in-Ok-clause-takes
returns-in-Ok-clause-takes g c = spawned_takes (picture_of c.args.core.now) (picture_of c.spawn.new.core) c.in-Some.pid c.in-Ok.ensures.taken c.in-Ok.ensures.gives

pub returns-in-Err-clause-takes : goal.returns-in-Err-clause-takes
returns-in-Err-clause-takes g c =
    let said = c.in-Err.ensures in
    spawn_stalled_takes (picture_of c.args.core.now) (picture_of c.spawn.new.core) c.in-Err.stall said.tried said.still said.full said.refuses

pub returns-in_default-clause-asks : goal.returns-in_default-clause-asks
returns-in_default-clause-asks g c = asks_slots_same g.E.SectorDisk c.args.core.now c.args.core.now None Nothing refl

pub returns-in-Ok-clause-keeps : goal.returns-in-Ok-clause-keeps
returns-in-Ok-clause-keeps g c = came g.D.SectorDisk g.E.SectorDisk c.args.core.now c.spawn.new.core _ c.requires.sound c.spawn.ensures.keeps c.in-Some.pid c.in-Ok.ensures.cause

pub returns-in-Ok-clause-asks : goal.returns-in-Ok-clause-asks
returns-in-Ok-clause-asks g c = c.spawn.ensures.asks
