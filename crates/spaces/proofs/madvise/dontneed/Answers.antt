use Rattle.spaces.proofs.Names.{refl, ◌/◌, ◌≡◌, sym, ◌∙◌, arith, rules, attr_at, picture_of, page_count}
use Rattle.spaces.{proofs.{Uncopied.{covered_within, refused_hole, gives_up}, Room.{marks_cached, room_same, sound_kept}, Returning.{no_page, takes_cleared}}}
use Rattle.spaces.proofs.madvise.dontneed.Goals as goal

pub clear_row-requires-clause-row : goal.clear_row-requires-clause-row
clear_row-requires-clause-row g c =
    let here : attr_at c.regions.result.now ≡ (picture_of c.args.core.now).at c.in-Some.pid = λ t page. c.regions.ensures page t in
    covered_within g.M.Levels.mode ((picture_of c.args.core.now).at c.in-Some.pid) (c.args.addr / 4096) c.div_ceil-pages.result (c.requires.sound.fit.granting.user c.in-Some.pid)
    (omega (arith, c.div_ceil-pages.ensures, c.if-len-eq0.false))
    (rw (← here) (sym c.covers.ensures ∙ c.if-not-covers.false))

pub returns-then-not-covers-clause-comes : goal.returns-then-not-covers-clause-comes
returns-then-not-covers-clause-comes g c = λ s shows reads swaps.
    let a = c.args in
    let found = c.in-Some.ensures.found in
    rw (← found.0) (refused_hole g.D.SectorDisk g.E.SectorDisk a.core.now s c.in-Some.pid a.addr a.len shows.pages found.1 (omega arith) c.if-len-eq0.false
    c.regions.result.now c.regions.ensures c.div_ceil-pages.result (omega (arith, c.div_ceil-pages.ensures)) (sym c.covers.ensures ∙ c.if-not-covers.true))

pub returns-clause-comes : goal.returns-clause-comes
returns-clause-comes g c = λ s shows reads swaps.
    let a = c.args in
    let found = c.in-Some.ensures.found in
    rw (← found.0) (gives_up g.D.SectorDisk g.E.SectorDisk a.core.now s c.in-Some.pid a.addr a.len shows.pages found.1 (omega arith) c.if-len-eq0.false
    c.regions.result.now c.regions.ensures c.div_ceil-pages.result (omega (arith, c.div_ceil-pages.ensures)) (sym c.covers.ensures ∙ c.if-not-covers.false)
    c.clear_row.new.core c.clear_row.ensures.row c.clear_row.ensures.files)

pub returns-clause-keeps : goal.returns-clause-keeps
returns-clause-keeps g c =
    let old = c.args.core.now in
    let new = c.clear_row.new.core in
    let cleared = c.clear_row.ensures in
    let room = room_same old new cleared.rest.cache in
    let sound = sound_kept old new g.D.SectorDisk g.E.SectorDisk room cleared.rest.store cleared.rest.pages cleared.fit (marks_cached old new cleared.rest.cache) c.requires.sound in
    let takes = takes_cleared old new c.in-Some.pid 0 0 c.requires.sound.fit cleared.fit cleared.rest.roots cleared.tables cleared.rest.cache cleared.others in
    rw (← c.in-Some.ensures.found.0) (search rules)

pub returns-then-len-eq0-clause-entries : goal.returns-then-len-eq0-clause-entries
returns-then-len-eq0-clause-entries g c = record {
  beside = λ page h out. refl;
  bare = λ done page inside. absurd (no_page (c.args.addr / 4096) c.args.len page c.if-len-eq0.true inside);
}

pub returns-clause-entries : goal.returns-clause-entries
returns-clause-entries g c =
    let a = c.args in
    let old = picture_of a.core.now in
    let new = picture_of c.clear_row.new.core in
    let row = c.clear_row.ensures.row in
    let count : c.div_ceil-pages.result ≡ page_count a.len = omega (arith, c.div_ceil-pages.ensures) in
    rw (← c.in-Some.ensures.found.0) (rw (← count) (record { beside = row.kept; bare = λ done. row.entries }))
