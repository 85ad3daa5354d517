use Rattle.spaces.proofs.Names.{None, refl, Nothing, asks_slots_same, picture_of}
use Rattle.spaces.{proofs.{Taking.{forked_takes, fork_stalled_takes}, Calls.{found_lives}, Living.{fork_refused, forks_to, fork_stalls, came, stayed}}}
use Rattle.spaces.proofs.processes.fork.Goals as goal

pub returns-in_default-free_pid-clause-comes : goal.returns-in_default-free_pid-clause-comes
returns-in_default-free_pid-clause-comes g c = λ s shows reads swaps.
    fork_refused g.D.SectorDisk g.E.SectorDisk c.args.core.now s shows.pages c.free_pid.result c.free_pid.ensures.least c.args.pid
    (found_lives (picture_of c.args.core.now) c.in-Some.parent c.args.pid c.in-Some.ensures.found) c.in_default-free_pid.is

pub returns-in-Ok-clause-comes : goal.returns-in-Ok-clause-comes
returns-in-Ok-clause-comes g c = λ s shows reads swaps.
    let old = c.args.core.now in
    let found = c.in-Some.ensures.found in
    rw (← found.0) (forks_to g.D.SectorDisk g.E.SectorDisk old s shows.pages c.free_pid.result c.free_pid.ensures.least c.in-Some.parent found.1
    c.in-Some-free_pid.child c.in-Some-free_pid.is c.fork.new.core c.fork.ensures.files c.in-Ok.ensures.ok)

pub returns-in-Err-clause-comes : goal.returns-in-Err-clause-comes
returns-in-Err-clause-comes g c = λ s shows reads swaps.
    let old = c.args.core.now in
    let found = c.in-Some.ensures.found in
    let said = c.in-Err.ensures in
    rw (← found.0) (fork_stalls g.D.SectorDisk g.E.SectorDisk old s shows.pages c.free_pid.result c.free_pid.ensures.least c.in-Some.parent found.1
    c.in-Some-free_pid.child c.in-Some-free_pid.is c.fork.new.core c.in-Err.stall c.requires.sound.fit said.cause said.short c.fork.ensures.room c.fork.ensures.files said.err)

pub returns-in-Err-clause-keeps : goal.returns-in-Err-clause-keeps
returns-in-Err-clause-keeps g c =
    stayed g.D.SectorDisk g.E.SectorDisk c.args.core.now c.fork.new.core _ c.requires.sound c.fork.ensures.keeps c.in-Err.stall c.in-Err.ensures.cause

pub returns-in-Ok-clause-takes : goal.returns-in-Ok-clause-takes
returns-in-Ok-clause-takes g c =
    forked_takes (picture_of c.args.core.now) (picture_of c.fork.new.core) c.in-Some.parent c.args.pid c.in-Some.ensures.found.0
    c.in-Some-free_pid.child c.in-Ok.ensures.entries c.in-Ok.ensures.takes

pub returns-in-Err-clause-takes : goal.returns-in-Err-clause-takes
returns-in-Err-clause-takes g c =
    fork_stalled_takes (picture_of c.args.core.now) (picture_of c.fork.new.core) c.in-Some.parent c.args.pid c.in-Some.ensures.found.0
    c.in-Some-free_pid.child c.in-Err.stall c.in-Err.ensures.stalls

pub returns-in_default-clause-asks : goal.returns-in_default-clause-asks
returns-in_default-clause-asks g c = asks_slots_same g.E.SectorDisk c.args.core.now c.args.core.now None Nothing refl

pub returns-in_default-free_pid-clause-asks : goal.returns-in_default-free_pid-clause-asks
returns-in_default-free_pid-clause-asks g c = asks_slots_same g.E.SectorDisk c.args.core.now c.args.core.now None Nothing refl

pub returns-in-Ok-clause-keeps : goal.returns-in-Ok-clause-keeps
returns-in-Ok-clause-keeps g c = came g.D.SectorDisk g.E.SectorDisk c.args.core.now c.fork.new.core _ c.requires.sound c.fork.ensures.keeps c.in-Some-free_pid.child c.in-Ok.ensures.cause

pub returns-in-Ok-clause-asks : goal.returns-in-Ok-clause-asks
returns-in-Ok-clause-asks g c = c.fork.ensures.asks
