use Rattle.spaces.{proofs.{Living.{exits}, Names.{user_end, File, ◌∙◌, rules, picture_of}, Returning.{takes_named}, Room.{sound_kept}}}
use Rattle.spaces.proofs.processes.exit.Goals as goal

pub returns-clause-comes : goal.returns-clause-comes
returns-clause-comes g c = λ s shows reads swaps.
    rw (← c.in-Some.ensures.found.0) (exits g.D.SectorDisk g.E.SectorDisk c.args.core.now c.exit.new.core s c.in-Some.pid shows.pages c.in-Some.ensures.found.1
    c.requires.sound.fit c.exit.ensures.fit c.exit.ensures.files c.exit.ensures.removed)

pub returns-clause-keeps : goal.returns-clause-keeps
returns-clause-keeps g c =
    let old = c.args.core.now in
    let new = c.exit.new.core in
    let ends = c.exit.ensures in
    let end = user_end g.M.Levels.mode in
    let sound = sound_kept old new g.D.SectorDisk g.E.SectorDisk ends.room ends.devices.store ends.devices.pages ends.fit (λ p touched. ends.files.touched (File p) tt ∙ touched) c.requires.sound in
    let takes = takes_named (picture_of old) (picture_of new) c.in-Some.pid 0 end ends.frames ends.files ends.others in
    rw (← c.in-Some.ensures.found.0) (search rules)
