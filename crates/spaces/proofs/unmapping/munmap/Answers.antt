use Rattle.spaces.proofs.Names.{ℕ, ◌+◌, ◌-◌, ◌/◌, ◌≡◌, min, File, ap, ◌∙◌, arith, rules, attr_at, reads_removed, reads_same, KeepsRoom, without_maps, picture_of, page_count, removed}
use Rattle.spaces.{proofs.{Unmapped.{beside_part, clipped, objects_unmapped, others_stay, refused_many, unmaps}, Room.{sound_kept}, Returning.{takes_remapped}}}
use Rattle.spaces.proofs.unmapping.munmap.Goals as goal

pub remap-requires-clause-others : goal.remap-requires-clause-others
remap-requires-clause-others g c =
    let runs = c.regions-regions.result.now in
    let until = c.user_end-stop.ensures.end in
    others_stay g.M.Levels.mode (c.args.addr / 4096) c.div_ceil-pages.result c.min-start.result (c.min-end.result - c.min-start.result)
    (c.min-start.ensures ∙ ap (λ (n : ℕ). min (c.args.addr / 4096) n) until)
    (ap (λ (n : ℕ). n - c.min-start.result) (c.min-end.ensures ∙ ap (λ (n : ℕ). min (c.args.addr / 4096 + c.div_ceil-pages.result) n) until))
    (picture_of c.args.core.now) c.in-Some.pid runs c.remove_into.new.next (c.requires.sound.fit.granting.user c.in-Some.pid) c.regions-regions.ensures c.in-Ok.ensures.ok

pub remap-requires-clause-readable : goal.remap-requires-clause-readable
remap-requires-clause-readable g c =
    let runs = c.regions-regions.result.now in
    reads_same (removed (attr_at runs) (c.args.addr / 4096) c.div_ceil-pages.result) (attr_at c.remove_into.new.next) c.in-Ok.ensures.ok
    (reads_removed (attr_at runs) (c.args.addr / 4096) c.div_ceil-pages.result
    (reads_same ((picture_of c.args.core.now).at c.in-Some.pid) (attr_at runs) c.regions-regions.ensures
    (c.requires.sound.fit.granting.readable c.in-Some.pid)))

pub remap-requires-clause-objects : goal.remap-requires-clause-objects
remap-requires-clause-objects g c =
    objects_unmapped (picture_of c.args.core.now) c.in-Some.pid (c.args.addr / 4096) c.div_ceil-pages.result c.regions-regions.result.now c.remove_into.new.next
    c.regions-regions.ensures c.in-Ok.ensures.ok c.requires.sound.fit.granting.objects

pub returns-in-Ok-clause-comes : goal.returns-in-Ok-clause-comes
returns-in-Ok-clause-comes g c = λ s shows reads swaps.
    let a = c.args in
    let found = c.in-Some.ensures.found in
    let pages = c.div_ceil-pages.result in
    let start = c.min-start.result in
    rw (← found.0) (unmaps g.D.SectorDisk g.E.SectorDisk a.core.now s c.in-Some.pid a.addr a.len shows.pages found.1 (omega arith) (omega arith)
    c.regions-regions.result.now c.regions-regions.ensures pages (omega (arith, c.div_ceil-pages.ensures))
    c.in-Ok.ensures.few c.remove_into.new.next c.in-Ok.ensures.ok (c.requires.sound.fit.granting.user c.in-Some.pid) start (c.min-end.result - start)
    (c.min-start.ensures ∙ ap (λ (n : ℕ). min (a.addr / 4096) n) c.user_end-stop.ensures.end)
    (ap (λ (n : ℕ). n - start) (c.min-end.ensures ∙ ap (λ (n : ℕ). min (a.addr / 4096 + pages) n) c.user_end-stop.ensures.end))
    c.remap.new.core c.remap.ensures.fit c.remap.ensures.row c.remap.ensures.files)

pub returns-in-Err-clause-comes : goal.returns-in-Err-clause-comes
returns-in-Err-clause-comes g c = λ s shows reads swaps.
    let a = c.args in
    let found = c.in-Some.ensures.found in
    rw (← found.0) (refused_many g.D.SectorDisk g.E.SectorDisk a.core.now s c.in-Some.pid a.addr a.len shows.pages found.1 (omega arith) (omega arith)
    c.regions-regions.result.now c.regions-regions.ensures c.div_ceil-pages.result (omega (arith, c.div_ceil-pages.ensures)) c.in-Err.ensures.too_many)

pub returns-in-Ok-clause-keeps : goal.returns-in-Ok-clause-keeps
returns-in-Ok-clause-keeps g c =
    let a = c.args in
    let old = a.core.now in
    let new = c.remap.new.core in
    let pid = c.in-Some.pid in
    let first = a.addr / 4096 in
    let pages = c.div_ceil-pages.result in
    let start = c.min-start.result in
    let count : pages ≡ page_count a.len = omega (arith, c.div_ceil-pages.ensures) in
    let row : without_maps (picture_of old).at pid first pages ≡ without_maps (picture_of old).at pid start (c.min-end.result - start) =
    clipped g.M.Levels.mode first pages start (c.min-end.result - start)
    (c.min-start.ensures ∙ ap (λ (n : ℕ). min first n) c.user_end-stop.ensures.end)
    (ap (λ (n : ℕ). n - start) (c.min-end.ensures ∙ ap (λ (n : ℕ). min (first + pages) n) c.user_end-stop.ensures.end))
    (picture_of old) pid (c.requires.sound.fit.granting.user pid) in
    let done = c.remap.ensures in
    let room : KeepsRoom (picture_of old) (picture_of new) = record { frames = done.frames; slots = done.slots.total } in
    let sound = sound_kept old new g.D.SectorDisk g.E.SectorDisk room done.devices.store done.devices.pages done.fit (λ p touched. done.files.touched (File p) tt ∙ touched) c.requires.sound in
    let takes = takes_remapped old new pid first pages c.requires.sound.fit done.fit done.roots done.tables
    (rw row done.files) done.others in
    rw (← c.in-Some.ensures.found.0) (rw (← count) (search rules))

pub returns-in-Ok-clause-beside : goal.returns-in-Ok-clause-beside
returns-in-Ok-clause-beside g c =
    let a = c.args in
    let first = a.addr / 4096 in
    let pages = c.div_ceil-pages.result in
    let start = c.min-start.result in
    let count : pages ≡ page_count a.len = omega (arith, c.div_ceil-pages.ensures) in
    let outside = beside_part g.M.Levels.mode first pages start (c.min-end.result - start)
    (c.min-start.ensures ∙ ap (λ (n : ℕ). min first n) c.user_end-stop.ensures.end)
    (ap (λ (n : ℕ). n - start) (c.min-end.ensures ∙ ap (λ (n : ℕ). min (first + pages) n) c.user_end-stop.ensures.end)) in
    rw (← c.in-Some.ensures.found.0) (rw (← count) (λ page user out. c.remap.ensures.row.kept page user (outside page out)))
