use Rattle.std.proofs.Common.{ℕ, Err, Result, refl, sym, subst}
use Rattle.vm_types.specs.declared.refusal.Stall.{Stall}
use Rattle.sized_stores.specs.Store.{files_of}
use Rattle.residency.specs.declared.kernel.Core.{Core}
use Rattle.fault.proofs.Wanted.{err_is}
use Rattle.truncation.proofs.{EndReady.{end_stalls}, Lengthened.{DropsIf, Shorter, NoShorter, drops_now, is_idle, is_ready, lengthened, some_info, still_there, store_ready}, StoreLength.{still_bounded}}
use Rattle.truncation.specs.Resizing.{Resizes, SettlesEnd}
use Rattle.truncation.proofs.resizing.resize.Goals as goal
use Rattle.truncation.proofs.resizing.resize.Goals.{then-length-was, else-length-was}

pub returns-in_err-settle_end : goal.returns-in_err-settle_end
returns-in_err-settle_end g c =
    let old = c.args.core.now in
    let new = c.settle_end.new.core in
    let stall = c.in_err-settle_end.field-0.0 in
    let settles = subst (λ (n : ℕ). SettlesEnd g.D.SectorDisk g.E.SectorDisk old new c.args.file n c.args.length (Err stall)) c.length_now-was.ensures.length c.in_err-settle_end.ensures in
    subst (λ (r : Result (Unit {0}) Stall). Resizes g.D.SectorDisk g.E.SectorDisk old new c.args.file c.args.length r) (err_is c.from_residual.result stall c.from_residual.ensures.1)
    (end_stalls g.D.SectorDisk g.E.SectorDisk old new c.args.file c.args.length stall c.requires settles)

pub resize-requires-clause-ready : goal.resize-requires-clause-ready
resize-requires-clause-ready g c =
    let mid = c.settle_end.new.core in
    let left = c.if-length-was.core in
    let was = c.length_now-was.result in
    let drops : DropsIf mid left c.args.file was c.args.length = elim c.if-length-was.branch [
      | then-length-was w ↦ subst (λ (x : Core g.row.D.Denot g.row.E.Denot g.row.M.Denot g.M.Levels). DropsIf mid x c.args.file was c.args.length) (sym w.core-is) (Shorter w.if-length-was.true w.drop_past.ensures)
      | else-length-was w ↦ NoShorter w.if-length-was.false w.core-is
    ] in
    store_ready g.D.SectorDisk g.E.SectorDisk c.args.core.now mid c.args.file was c.args.length c.length_now-was.ensures.length c.requires c.in_ok-settle_end.ensures left drops

pub invariant_of-core-clause-bounded : goal.invariant_of-core-clause-bounded
invariant_of-core-clause-bounded g c =
    let old = c.args.core.now in
    let mid = c.settle_end.new.core in
    let left = c.if-length-was.core in
    let was = c.length_now-was.result in
    let drops : DropsIf mid left c.args.file was c.args.length = elim c.if-length-was.branch [
      | then-length-was w ↦ subst (λ (x : Core g.row.D.Denot g.row.E.Denot g.row.M.Denot g.M.Levels). DropsIf mid x c.args.file was c.args.length) (sym w.core-is) (Shorter w.if-length-was.true w.drop_past.ensures)
      | else-length-was w ↦ NoShorter w.if-length-was.false w.core-is
    ] in
    let there = some_info (files_of old.store c.args.file) c.requires.there in
    still_bounded g.D.SectorDisk left.store c.resize.new.self c.args.file c.args.length c.resize.ensures there.0
    (still_there g.D.SectorDisk g.E.SectorDisk old mid c.args.file was c.args.length c.length_now-was.ensures.length c.requires c.in_ok-settle_end.ensures left drops there.0 there.1)
    (c.length_now-was.ensures.number c.requires.there) c.requires.most left.bounded

pub returns : goal.returns
returns g c =
    let old = c.args.core.now in
    let mid = c.settle_end.new.core in
    let left = c.if-length-was.core in
    let was = c.length_now-was.result in
    let drops : DropsIf mid left c.args.file was c.args.length = elim c.if-length-was.branch [
      | then-length-was w ↦ subst (λ (x : Core g.row.D.Denot g.row.E.Denot g.row.M.Denot g.M.Levels). DropsIf mid x c.args.file was c.args.length) (sym w.core-is) (Shorter w.if-length-was.true w.drop_past.ensures)
      | else-length-was w ↦ NoShorter w.if-length-was.false w.core-is
    ] in
    let there = some_info (files_of old.store c.args.file) c.requires.there in
    let is = c.length_now-was.ensures.length in
    let settles = c.in_ok-settle_end.ensures in
    lengthened g.D.SectorDisk g.E.SectorDisk old mid left _ c.args.file c.args.length there.0 c.requires there.1
    (is_ready g.D.SectorDisk g.E.SectorDisk old mid c.args.file was c.args.length is c.requires settles)
    (drops_now g.D.SectorDisk g.E.SectorDisk old mid c.args.file was c.args.length is c.requires settles left drops) c.resize.ensures
    (is_idle g.D.SectorDisk g.E.SectorDisk old mid c.args.file was c.args.length is c.requires settles) refl refl refl
