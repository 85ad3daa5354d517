use Rattle.fault.{specs.Changes.{copied_frame}, proofs.{Names.{◌∙◌, Nothing, Store, picture_of}, Entered.{owned_ready, owned_entered, owned_calm, owned_stalled}, Serving.{tends_moved}, AccessSteps.{counts_done}}}
use Rattle.fault.proofs.Kept.{own_others}
use Rattle.fault.proofs.granting.grant_own.Goals as goal

pub returns : goal.returns
returns g c =
    let pid = c.args.spot.now.pid in
    let page = c.args.spot.now.page in
    let attr = c.args.attr.now in
    let before = c.args.core.now in
    let after = c.own_frame.new.core in
    let old = picture_of before in
    let new = picture_of after in
    let asked = c.requires in
    let done = c.own_frame.ensures in
    let r = c.own_frame.result in
    let at = done.moves.spaces.at pid page ∙ asked.may.allowed.mapped in
    record {
      tends = tends_moved g.D.SectorDisk g.E.SectorDisk before after pid page Store (copied_frame old pid page attr) Nothing asked.may.store done.moves done.files done.others done.slotted
          (owned_calm before after pid page attr asked.may.allowed.mapped asked.not_shared done.calm) (λ k none. absurd none) done.asks done.no_table;
      entered = owned_entered old new pid page attr before.sound done.moves.fit after.sound at asked.not_shared asked.may.allowed.lets asked.here asked.in_memory done.behind done.others done.files r done.bytes done.entered done.sole;
      ready = λ trusted. owned_ready old new pid page attr before.sound done.moves.fit after.sound at asked.not_shared asked.may.allowed.lets asked.here asked.in_memory done.behind done.others done.files r done.bytes done.entered;
      chance = λ one. own_others old pid page new attr r asked.may.spot.linked asked.may.allowed.mapped asked.not_shared asked.here asked.in_memory done.chance;
      counts = counts_done g.D.SectorDisk g.E.SectorDisk before after r done.moves.store done.cause;
      stalled = owned_stalled before after pid page attr asked.may.allowed.mapped asked.not_shared g.D.SectorDisk g.E.SectorDisk r asked.may.spot.linked asked.here asked.in_memory done.behind done.moves done.files done.same
          done.frees done.wanted done.cause done.short done.refuses;
    }
