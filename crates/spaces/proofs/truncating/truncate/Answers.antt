use Rattle.spaces.proofs.Names.{◌∙◌, refl, sym, ap, subst, rules, IsSome, Option, Done}
use Rattle.spaces.{proofs.{Checks.{first_of-other}, Returning.{accounts_refused}, Truncates.{keeps_same, keeps_resized, keeps_stalled, resized, stalled}}, specs.{Calls.{AccountsFor}, Truncating.{resize_checks}}}
use Rattle.sized_stores.specs.Store.{can_resize, files_of, length_of}
use Rattle.vm_types.specs.declared.file.FileInfo.{FileInfo}
use Rattle.spaces.proofs.truncating.truncate.Goals as goal

pub returns-in-Err-clause-keeps : goal.returns-in-Err-clause-keeps
returns-in-Err-clause-keeps g c =
    let a = c.args in
    let store = a.core.now.store in
    let other = first_of-other (resize_checks (files_of store) (can_resize store) a.file a.length) c.in-Err.errno refl c.in-Err.ensures.err in
    keeps_same g.D.SectorDisk g.E.SectorDisk a.core.now c.requires.sound a.file a.length _ (accounts_refused g.D.SectorDisk g.E.SectorDisk a.core.now c.in-Err.errno other c.requires.sound) (λ stall e. cc) (λ e. cc)

pub returns-then-info-length-clause-keeps : goal.returns-then-info-length-clause-keeps
returns-then-info-length-clause-keeps g c =
    let a = c.args in
    let accounts : AccountsFor g.D.SectorDisk g.E.SectorDisk a.core.now a.core.now Done = search rules in
    keeps_same g.D.SectorDisk g.E.SectorDisk a.core.now c.requires.sound a.file a.length Done accounts (λ stall e. cc)
    (λ e. ap length_of c.in-Ok.ensures.ok.there ∙ c.if-info-length.true)

pub returns-in-Ok-resize-clause-comes : goal.returns-in-Ok-resize-clause-comes
returns-in-Ok-resize-clause-comes g c = λ s shows keeps swaps.
    let a = c.args in
    resized g.D.SectorDisk g.E.SectorDisk a.core.now c.requires.sound s shows a.file a.length c.len.ensures.whole c.in-Ok.info c.in-Ok.ensures.ok c.if-info-length.false c.resize.new.core (swaps refl) (keeps refl)
    _ c.in-Ok-resize.ensures

pub returns-in-Ok-resize-clause-keeps : goal.returns-in-Ok-resize-clause-keeps
returns-in-Ok-resize-clause-keeps g c =
    let a = c.args in
    keeps_resized g.D.SectorDisk g.E.SectorDisk a.core.now c.requires.sound a.file a.length c.resize.new.core (λ e. c.if-info-length.false (sym (ap length_of c.in-Ok.ensures.ok.there) ∙ e))
    _ c.in-Ok-resize.ensures (subst (λ (o : Option FileInfo). IsSome o) (sym c.in-Ok.ensures.ok.there) refl)

pub returns-in-Err-resize-clause-comes : goal.returns-in-Err-resize-clause-comes
returns-in-Err-resize-clause-comes g c = λ s shows keeps swaps.
    let a = c.args in
    stalled g.D.SectorDisk g.E.SectorDisk a.core.now c.requires.sound s shows a.file a.length c.len.ensures.whole c.in-Ok.info c.in-Ok.ensures.ok c.if-info-length.false c.resize.new.core (swaps refl) (keeps refl)
    c.in-Err-resize.stall c.in-Err-resize.ensures

pub returns-in-Err-resize-clause-keeps : goal.returns-in-Err-resize-clause-keeps
returns-in-Err-resize-clause-keeps g c =
    let a = c.args in
    keeps_stalled g.D.SectorDisk g.E.SectorDisk a.core.now c.requires.sound a.file a.length c.resize.new.core (λ e. c.if-info-length.false (sym (ap length_of c.in-Ok.ensures.ok.there) ∙ e))
    c.in-Err-resize.stall c.in-Err-resize.ensures
