use Rattle.spaces.proofs.Names.{◌/◌, ◌≡◌, refl, ap, arith, rules, Swap, reads_kept, picture_of, page_count}
use Rattle.spaces.{proofs.{Protects.{refuses, protects, protected_map}, Room.{marks_cached, room_same, sound_kept}, Returning.{no_page, takes_rewritten}}}
use Rattle.spaces.proofs.protections.mprotect.Goals as goal

pub reprotect-requires-clause-reads : goal.reprotect-requires-clause-reads
reprotect-requires-clause-reads g c = rw c.kept.ensures (reads_kept c.args.request.prot)

pub reprotect-requires-clause-map : goal.reprotect-requires-clause-map
reprotect-requires-clause-map g c =
    rw c.kept.ensures (protected_map c.regions.result.now c.permitted.new.next ((picture_of c.args.core.now).at c.in-Some.pid) (c.args.request.addr / 4096) c.div_ceil-pages.result _
    c.regions.ensures c.in-Ok.ensures.ok.map)

pub returns-in-Ok-clause-comes : goal.returns-in-Ok-clause-comes
returns-in-Ok-clause-comes g c = λ s shows reads swaps.
    let a = c.args in
    let found = c.in-Some.ensures.found in
    let pages = c.div_ceil-pages.result in
    rw (← found.0) (protects g.D.SectorDisk g.E.SectorDisk a.core.now s c.in-Some.pid a.request.addr a.request.len a.request.prot shows.pages found.1 (omega arith) c.if-len-eq0.false
    c.regions.result.now c.regions.ensures pages (omega (arith, c.div_ceil-pages.ensures)) c.permitted.new.next c.in-Ok.ensures.ok c.reprotect.new.core
    (rw (← c.kept.ensures) c.reprotect.ensures.row))

pub returns-in-Err-clause-comes : goal.returns-in-Err-clause-comes
returns-in-Err-clause-comes g c = λ s shows reads swaps.
    let a = c.args in
    let found = c.in-Some.ensures.found in
    rw (← found.0) (refuses g.D.SectorDisk g.E.SectorDisk a.core.now s c.in-Some.pid a.request.addr a.request.len a.request.prot shows.pages found.1 (omega arith) c.if-len-eq0.false
    c.regions.result.now c.regions.ensures c.div_ceil-pages.result (omega (arith, c.div_ceil-pages.ensures)) c.in-Err.errno c.in-Err.ensures.err)

pub returns-in-Ok-clause-keeps : goal.returns-in-Ok-clause-keeps
returns-in-Ok-clause-keeps g c =
    let old = c.args.core.now in
    let new = c.reprotect.new.core in
    let done = c.reprotect.ensures in
    let pages = ap (λ (s : Swap _). s.pages) done.swap in
    let sound = sound_kept old new g.D.SectorDisk g.E.SectorDisk (room_same old new done.cache) done.store pages done.fit (marks_cached old new done.cache) c.requires.sound in
    let takes = takes_rewritten old new c.in-Some.pid 0 0 done.frames done.cache done.others in
    rw (← c.in-Some.ensures.found.0) (search rules)

pub returns-then-len-eq0-clause-entries : goal.returns-then-len-eq0-clause-entries
returns-then-len-eq0-clause-entries g c = record {
  beside = λ page h out. refl;
  permits = λ done page inside. absurd (no_page (c.args.request.addr / 4096) c.args.request.len page c.if-len-eq0.true inside);
}

pub returns-in-Ok-clause-entries : goal.returns-in-Ok-clause-entries
returns-in-Ok-clause-entries g c =
    let a = c.args in
    let old = picture_of a.core.now in
    let new = picture_of c.reprotect.new.core in
    let first = a.request.addr / 4096 in
    let count : c.div_ceil-pages.result ≡ page_count a.request.len = omega (arith, c.div_ceil-pages.ensures) in
    let row = rw c.kept.ensures at c.reprotect.ensures.row in
    rw (← c.in-Some.ensures.found.0) (rw (← count) (record { beside = row.kept; permits = λ done. row.entries }))

pub returns-in-Ok-clause-swap : goal.returns-in-Ok-clause-swap
returns-in-Ok-clause-swap g c = c.reprotect.ensures.swap
