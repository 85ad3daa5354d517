use Rattle.std.proofs.Common.{refl, sym, subst, ◌∙◌}
use Rattle.pool_journal.specs.{Sizes.{HasPool}, declared.sizes.PoolSizes.{PoolSizes}}
use Rattle.pool_store.proofs.Taking.{has_journal, not_taken, refuses_directory, refuses_head, refuses_journal, refuses_memory, still_pool, takes}
use Rattle.pool_store.specs.Store.{HasCommitRoom}
use Rattle.pool_store.proofs.resuming.take_up.Goals as goal

pub returns-in_err-sizes : goal.returns-in_err-sizes
returns-in_err-sizes g c =
    let d = g.D.SectorDisk in
    let old = c.args.disk.now in
    let fault = c.in_err-sizes.field-0.0 in
    not_taken d old (λ keeps image left. g.met.D.SectorDisk.only_now old image keeps left) fault c.read_head.new.disk c.from_residual.result c.from_residual.ensures.1
    (refuses_head d old (λ keeps image left. g.met.D.SectorDisk.only_now old image keeps left) fault c.read_head.new.disk c.in_err-sizes.ensures)

pub returns-in_err-journal : goal.returns-in_err-journal
returns-in_err-journal g c =
    let d = g.D.SectorDisk in
    let old = c.args.disk.now in
    not_taken d old (λ keeps image left. g.met.D.SectorDisk.only_now old image keeps left) _ c.read_head.new.disk c.from_residual-in_err-journal.result c.from_residual-in_err-journal.ensures.1
    (refuses_memory d old (λ keeps image left. g.met.D.SectorDisk.only_now old image keeps left) c.in_ok-sizes.sizes c.in_ok-sizes.pages c.read_head.new.disk c.in_ok-sizes.ensures)

pub returns-in_err-room : goal.returns-in_err-room
returns-in_err-room g c =
    let d = g.D.SectorDisk in
    let old = c.args.disk.now in
    not_taken d old (λ keeps image left. g.met.D.SectorDisk.only_now old image keeps left) _ c.read_head.new.disk c.from_residual-in_err-room.result c.from_residual-in_err-room.ensures.1
    (refuses_memory d old (λ keeps image left. g.met.D.SectorDisk.only_now old image keeps left) c.in_ok-sizes.sizes c.in_ok-sizes.pages c.read_head.new.disk c.in_ok-sizes.ensures)

pub resume-requires-clause-pool : goal.resume-requires-clause-pool
resume-requires-clause-pool g c =
    let d = g.D.SectorDisk in
    let head = c.read_head.new.disk in
    let h = c.in_ok-sizes.ensures in
    subst (λ s. HasPool d s head) (sym c.in_ok-journal.ensures.size) (still_pool d c.in_ok-sizes.sizes c.args.disk.now head h.looks.looks.run.size h.found.pool)

pub returns-in_err-resume : goal.returns-in_err-resume
returns-in_err-resume g c =
    let d = g.D.SectorDisk in
    let old = c.args.disk.now in
    let read = c.resume.new.disk in
    not_taken d old (λ keeps image left. g.met.D.SectorDisk.only_now old image keeps left) _ read c.from_residual-in_err-resume.result c.from_residual-in_err-resume.ensures.1
    (refuses_journal d old (λ keeps image left. g.met.D.SectorDisk.only_now old image keeps left) c.in_ok-sizes.sizes c.in_ok-sizes.pages c.read_head.new.disk c.in_ok-sizes.ensures
    c.in_ok-journal.journal c.resume.new.self read c.in_ok-journal.ensures c.resume.ensures (c.in_err-resume.ensures.reads.cause.failed refl))

pub read_directory-requires-clause-is : goal.read_directory-requires-clause-is
read_directory-requires-clause-is g c =
    let d = g.D.SectorDisk in
    let old = c.args.disk.now in
    let j = has_journal d old (λ keeps image left. g.met.D.SectorDisk.only_now old image keeps left) c.in_ok-sizes.sizes c.in_ok-sizes.pages c.read_head.new.disk c.in_ok-sizes.ensures
    c.in_ok-journal.journal c.resume.new.self c.resume.new.disk c.in_ok-journal.ensures c.in_ok-resume.ensures in
    j.is

pub read_directory-requires-clause-pool : goal.read_directory-requires-clause-pool
read_directory-requires-clause-pool g c =
    let d = g.D.SectorDisk in
    let old = c.args.disk.now in
    let j = has_journal d old (λ keeps image left. g.met.D.SectorDisk.only_now old image keeps left) c.in_ok-sizes.sizes c.in_ok-sizes.pages c.read_head.new.disk c.in_ok-sizes.ensures
    c.in_ok-journal.journal c.resume.new.self c.resume.new.disk c.in_ok-journal.ensures c.in_ok-resume.ensures in
    still_pool d c.resume.new.self.sizes old c.resume.new.disk j.looks.size j.pool

pub read_directory-requires-clause-sized : goal.read_directory-requires-clause-sized
read_directory-requires-clause-sized g c =
    let d = g.D.SectorDisk in
    let old = c.args.disk.now in
    let j = has_journal d old (λ keeps image left. g.met.D.SectorDisk.only_now old image keeps left) c.in_ok-sizes.sizes c.in_ok-sizes.pages c.read_head.new.disk c.in_ok-sizes.ensures
    c.in_ok-journal.journal c.resume.new.self c.resume.new.disk c.in_ok-journal.ensures c.in_ok-resume.ensures in
    j.sized

pub read_directory-requires-clause-inside : goal.read_directory-requires-clause-inside
read_directory-requires-clause-inside g c =
    let d = g.D.SectorDisk in
    let old = c.args.disk.now in
    let j = has_journal d old (λ keeps image left. g.met.D.SectorDisk.only_now old image keeps left) c.in_ok-sizes.sizes c.in_ok-sizes.pages c.read_head.new.disk c.in_ok-sizes.ensures
    c.in_ok-journal.journal c.resume.new.self c.resume.new.disk c.in_ok-journal.ensures c.in_ok-resume.ensures in
    j.inside

pub read_directory-requires-clause-rest : goal.read_directory-requires-clause-rest
read_directory-requires-clause-rest g c =
    let d = g.D.SectorDisk in
    let old = c.args.disk.now in
    let j = has_journal d old (λ keeps image left. g.met.D.SectorDisk.only_now old image keeps left) c.in_ok-sizes.sizes c.in_ok-sizes.pages c.read_head.new.disk c.in_ok-sizes.ensures
    c.in_ok-journal.journal c.resume.new.self c.resume.new.disk c.in_ok-journal.ensures c.in_ok-resume.ensures in
    j.rest

pub returns-in_err-directory : goal.returns-in_err-directory
returns-in_err-directory g c =
    let d = g.D.SectorDisk in
    let old = c.args.disk.now in
    let read = c.resume.new.disk in
    let new = c.read_directory.new.disk in
    let fault = c.in_err-directory.field-0.0 in
    let pages = c.in_ok-sizes.pages in
    let journal = c.resume.new.self in
    let j = has_journal d old (λ keeps image left. g.met.D.SectorDisk.only_now old image keeps left) c.in_ok-sizes.sizes pages c.read_head.new.disk c.in_ok-sizes.ensures c.in_ok-journal.journal journal read c.in_ok-journal.ensures c.in_ok-resume.ensures in
    not_taken d old (λ keeps image left. g.met.D.SectorDisk.only_now old image keeps left) fault new c.from_residual-in_err-directory.result c.from_residual-in_err-directory.ensures.1
    (refuses_directory d old (λ keeps image left. g.met.D.SectorDisk.only_now old image keeps left) pages read new journal j c.read_directory.ensures fault c.in_err-directory.ensures)

pub returns : goal.returns
returns g c =
    let d = g.D.SectorDisk in
    let old = c.args.disk.now in
    let read = c.resume.new.disk in
    let pages = c.in_ok-sizes.pages in
    let journal = c.resume.new.self in
    let j = has_journal d old (λ keeps image left. g.met.D.SectorDisk.only_now old image keeps left) c.in_ok-sizes.sizes pages c.read_head.new.disk c.in_ok-sizes.ensures c.in_ok-journal.journal journal read c.in_ok-journal.ensures c.in_ok-resume.ensures in
    takes d old (λ keeps image left. g.met.D.SectorDisk.only_now old image keeps left) pages read c.read_directory.new.disk journal c.in_ok-directory.directory c.in_ok-room.room j
    (subst (λ (s : PoolSizes). HasCommitRoom s.blocks c.in_ok-room.room) (sym (c.in_ok-resume.ensures.sizes ∙ c.in_ok-journal.ensures.size)) c.in_ok-room.ensures)
    c.in_ok-directory.ensures
