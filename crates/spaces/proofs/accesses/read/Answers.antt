use Rattle.spaces.proofs.Names.{ℕ, ◌/◌, ◌%◌, List, File, refl, ap, ◌∙◌, rules, bytes_of, picture_of, Value, loaded, byte_count}
use Rattle.spaces.{proofs.{Asking.{asks_unstalled, keeps_dead, keeps_refused, writes_none}, Reading.{open_read, reads, read_refused}, Room.{sound_read}}}
use Rattle.spaces.proofs.accesses.read.Goals as goal

pub frame_of-frame-requires : goal.frame_of-frame-requires
frame_of-frame-requires g c =
    let placed = c.in-Ok.ensures.placed in
    open_read c.args.kind (picture_of c.access.new.core) c.in-Some.pid (c.args.addr / 4096) placed.seen.attr.backing (c.in-Ok.place.0 / 4096) c.requires.kind placed.usable

pub returns-in-Ok-clause-keeps : goal.returns-in-Ok-clause-keeps
returns-in-Ok-clause-keeps g c =
    let a = c.args in
    let new = c.access.new.core in
    let tends = c.access.ensures.tends in
    let placed = c.in-Ok.ensures.placed in
    let asks = asks_unstalled g.D.SectorDisk g.E.SectorDisk a.core.now new c.in-Some.pid a.addr a.kind tends new refl refl tends.slotted (writes_none a.kind new) (Value a.width c.read_number-value.result)
    (λ stall e. cc) (λ e. cc) (λ done. (placed.root, c.in-Ok.place, placed.lives, placed.place)) (λ done. c.in-Ok.ensures.chance) in
    let goes = tends.proceeds in
    let counts = c.in-Ok.ensures.counts in
    rw (← c.in-Some.ensures.found.0) (record {
      accounts = record { sound = sound_read a.core.now new g.D.SectorDisk g.E.SectorDisk goes.reads goes.ready goes.swap goes.fit (λ p. tends.touches (File p)) c.requires.sound; room = goes.room; denied = λ e. cc; caused = search (rules, counts) };
      others = tends.others;
      reads = goes.reads;
      device = goes.device;
      asks = asks;
    })

pub returns-in-Ok-clause-walked : goal.returns-in-Ok-clause-walked
returns-in-Ok-clause-walked g c place walked =
    (c.access.ensures.walked place (rw c.in-Some.ensures.found.0 walked)).0

pub returns-in-Ok-clause-comes : goal.returns-in-Ok-clause-comes
returns-in-Ok-clause-comes g c =
    let a = c.args in
    let new = c.access.new.core in
    let value = c.read_number-value.result in
    rw (← c.in-Some.ensures.found.0) (reads g.D.SectorDisk g.E.SectorDisk a.core.now new c.in-Some.pid a.addr a.width a.kind c.access.result c.access.ensures c.in-Some.ensures.found.1 c.requires.kind c.in-Ok.place c.in-Ok.is value
    (c.read_number-value.ensures
    ∙ ap (λ (b : List ℕ). loaded b (a.addr % 4096) (byte_count a.width)) (c.bytes-page.ensures ∙ ap (λ (n : ℕ). bytes_of new.frames n) c.frame_of-frame.ensures)))

pub returns-in-Err-clause-keeps : goal.returns-in-Err-clause-keeps
returns-in-Err-clause-keeps g c =
    let a = c.args in
    rw (← c.in-Some.ensures.found.0) (rw c.refused.ensures (keeps_refused g.D.SectorDisk g.E.SectorDisk a.core.now c.access.new.core c.in-Some.pid a.addr a.width a.kind c.access.result c.in-Err.refusal c.access.ensures c.in-Err.ensures.refusal c.requires.sound))

pub returns-in-Err-clause-walked : goal.returns-in-Err-clause-walked
returns-in-Err-clause-walked g c place walked =
    (c.access.ensures.walked place (rw c.in-Some.ensures.found.0 walked)).0

pub returns-in-Err-clause-comes : goal.returns-in-Err-clause-comes
returns-in-Err-clause-comes g c =
    let a = c.args in
    rw (← c.in-Some.ensures.found.0) (rw c.refused.ensures (read_refused g.D.SectorDisk g.E.SectorDisk a.core.now c.access.new.core c.in-Some.pid a.addr a.width a.kind c.access.result c.access.ensures c.in-Some.ensures.found.1
    c.in-Err.refusal c.in-Err.ensures.refusal))

pub returns-in_default-clause-walked : goal.returns-in_default-clause-walked
returns-in_default-clause-walked g c place walked = refl

pub returns-in_default-clause-keeps : goal.returns-in_default-clause-keeps
returns-in_default-clause-keeps g c = keeps_dead g.D.SectorDisk g.E.SectorDisk c.args.core.now c.args.pid c.args.addr c.args.kind c.requires.sound
