use Rattle.spaces.proofs.Names.{sizes, ◌*◌, ◌/◌, ◌≡◌, File, refl, sym, ◌∙◌, arith, rules, attr_at, KeepsRoom, picture_of, page_count}
use Rattle.spaces.specs.{Mappings.{mmap_asked_checks}}
use Rattle.spaces.proofs.{Mapped.{refused_as_asked, refused_place, maps, reads_mapped}, Calls.{found_lives}, Numbers.{nobody_has, lives_below}, NewObject.{new_unused, objects_mapped}, Room.{sound_kept}, Checks.{first_of-other}, Returning.{returns_refused, takes_remapped}}
use Rattle.spaces.proofs.mappings.mmap.Goals as goal

pub returns-in-Some-refusal-clause-comes : goal.returns-in-Some-refusal-clause-comes
returns-in-Some-refusal-clause-comes g c = λ s shows reads swaps.
    let a = c.args in
    refused_as_asked g.D.SectorDisk g.E.SectorDisk a.core.now s a.pid a.request.addr a.request.len a.request.prot a.request.source a.request.placing shows.pages (found_lives (picture_of a.core.now) c.in-Some.pid a.pid c.in-Some.ensures.found)
    c.in-Some-refusal.errno c.in-Some-refusal.ensures.asked

pub returns-in-Some-refusal-clause-keeps : goal.returns-in-Some-refusal-clause-keeps
returns-in-Some-refusal-clause-keeps g c =
    let a = c.args in
    let r = a.request in
    let errno = c.in-Some-refusal.errno in
    let other = first_of-other (mmap_asked_checks (picture_of a.core.now).files r.addr r.len r.prot r.source r.placing) errno refl (sym c.in-Some-refusal.ensures.asked) in
    returns_refused g.D.SectorDisk g.E.SectorDisk a.core.now errno other c.requires.sound a.pid 0 (page_count r.len)

pub remap-requires-clause-readable : goal.remap-requires-clause-readable
remap-requires-clause-readable g c =
    reads_mapped ((picture_of c.args.core.now).at c.in-Some.pid) c.regions-regions.result.now c.planned.new.next c.in-Ok.first c.div_ceil-pages.result _
    c.args.request.source c.args.request.prot (c.requires.sound.fit.granting.readable c.in-Some.pid) c.regions-regions.ensures c.in-Ok.ensures.ok.map

pub remap-requires-clause-objects : goal.remap-requires-clause-objects
remap-requires-clause-objects g c =
    let at = (picture_of c.args.core.now).at in
    let fit = c.requires.sound.fit in
    let pid = c.in-Some.pid in
    let first = c.in-Ok.first in
    let pages = c.div_ceil-pages.result in
    let here : attr_at c.regions-regions.result.now ≡ at pid = λ t page. c.regions-regions.ensures page t in
    objects_mapped g.M.Levels.mode at pid first pages (attr_at c.planned.new.next) c.args.request.source c.args.request.prot fit.granting.objects fit.granting.user (lives_below c.args.core.now fit)
    (λ is. new_unused g.M.Levels.mode at pid first pages (nobody_has c.args.core.now fit) fit.granting.user (c.in-Ok.ensures.few is))
    (rw (← here) c.in-Ok.ensures.ok.map)

pub overflow_mul-result : goal.overflow_mul-result
overflow_mul-result g c = omega (arith, c.in-Ok.ensures.ok.high, (sizes g.M.Levels.mode).most)

pub returns-in-Ok-clause-comes : goal.returns-in-Ok-clause-comes
returns-in-Ok-clause-comes g c = λ s shows reads swaps.
    let a = c.args in
    let r = a.request in
    let found = c.in-Some.ensures.found in
    rw (← found.0) (maps g.D.SectorDisk g.E.SectorDisk a.core.now s c.in-Some.pid r.addr r.len r.prot r.source r.placing shows.pages found.1
    c.in_default-refusal.ensures.asked c.regions-regions.result.now c.regions-regions.ensures c.div_ceil-pages.result (omega (arith, c.div_ceil-pages.ensures))
    c.in-Ok.first c.planned.new.next c.in-Ok.ensures.ok c.remap.new.core c.remap.ensures.fit c.remap.ensures.row c.remap.ensures.files)

pub returns-in-Err-clause-comes : goal.returns-in-Err-clause-comes
returns-in-Err-clause-comes g c = λ s shows reads swaps.
    let a = c.args in
    let r = a.request in
    let found = c.in-Some.ensures.found in
    rw (← found.0) (refused_place g.D.SectorDisk g.E.SectorDisk a.core.now s c.in-Some.pid r.addr r.len r.prot r.source r.placing shows.pages found.1
    c.in_default-refusal.ensures.asked c.regions-regions.result.now c.regions-regions.ensures c.div_ceil-pages.result (omega (arith, c.div_ceil-pages.ensures))
    c.in-Err.errno c.in-Err.ensures.err)

pub returns-in-Ok-clause-keeps : goal.returns-in-Ok-clause-keeps
returns-in-Ok-clause-keeps g c =
    let old = c.args.core.now in
    let new = c.remap.new.core in
    let pid = c.in-Some.pid in
    let first = c.in-Ok.first in
    let pages = page_count c.args.request.len in
    let count : c.div_ceil-pages.result ≡ pages = omega (arith, c.div_ceil-pages.ensures) in
    let place : first ≡ first * 4096 / 4096 = omega arith in
    let done = c.remap.ensures in
    let room : KeepsRoom (picture_of old) (picture_of new) = record { frames = done.frames; slots = done.slots.total } in
    let sound = sound_kept old new g.D.SectorDisk g.E.SectorDisk room done.devices.store done.devices.pages done.fit (λ p touched. done.files.touched (File p) tt ∙ touched) c.requires.sound in
    let takes = takes_remapped old new pid first c.div_ceil-pages.result c.requires.sound.fit done.fit done.roots done.tables done.files done.others in
    rw (← c.in-Some.ensures.found.0) (rw (← place) (rw (← count) (search rules)))

pub returns-in-Ok-clause-entries : goal.returns-in-Ok-clause-entries
returns-in-Ok-clause-entries g c =
    let a = c.args in
    let old = picture_of a.core.now in
    let new = picture_of c.remap.new.core in
    let first = c.in-Ok.first in
    let row = c.remap.ensures.row in
    let count : c.div_ceil-pages.result ≡ page_count a.request.len = omega (arith, c.div_ceil-pages.ensures) in
    let place : first ≡ first * 4096 / 4096 = omega arith in
    rw (← c.in-Some.ensures.found.0) (rw (← place) (rw (← count) (record { beside = row.kept; bare = λ done. row.entries })))
