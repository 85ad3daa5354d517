use Rattle.{residency.specs.Picture.{is_swapped}, fault.proofs.{AccessSteps.{counts_done}, Entered.{swapped_entered, swapped_ready, swapped_stalled}, Forms.{mapped_page}, Names.{inl, None, sym, ap, ◌∙◌, subst, Access, picture_of}}}
use Rattle.fault.{proofs.{Serving.{tends_moved}, SwapSteps.{swapped_page}}, specs.{Asking.{IsSectorOfCopy}, Serving.{Serves}, SpotServing.{MayServeAt}, Wants.{ForSlot}}}
use Rattle.fault.proofs.{AccessSteps.{on_ok_then}, Chances.{others_for}, Kept.{all_marked_for}, Names.{frees_none}, Wanted.{away_keeps}}
use Rattle.fault.proofs.granting.grant_linked.Goals as goal

pub swap_in-requires : goal.swap_in-requires
swap_in-requires g c =
    record {
      spot = c.requires.may.spot;
      attr = c.requires.may.allowed.mapped;
      away = sym (ap is_swapped c.number_at-was.ensures) ∙ sym c.is_swapped.ensures ∙ c.if-is_swapped.true;
      swap = c.requires.may.swap;
    }

pub returns-then-is_swapped : goal.returns-then-is_swapped
returns-then-is_swapped g c =
    let pid = c.args.spot.now.pid in
    let page = c.args.spot.now.page in
    let attr = c.args.attr.now in
    let access = c.args.access in
    let before = c.args.core.now in
    let after = c.swap_in.new.core in
    let old = picture_of before in
    let new = picture_of after in
    let asked = c.requires in
    let done = c.swap_in.ensures in
    let r = c.swap_in.result in
    let away = sym (ap is_swapped c.number_at-was.ensures) ∙ sym c.is_swapped.ensures ∙ c.if-is_swapped.true in
    let at = asked.may.allowed.mapped in
    let now = done.moves.spaces.at pid page ∙ at in
    let inside = mapped_page old pid page attr asked.may.spot.linked.fit.granting at in
    let its = swapped_page old pid page attr asked.may.spot.linked.fit inside at away in
    record {
      tends = tends_moved g.D.SectorDisk g.E.SectorDisk before after pid page access None (IsSectorOfCopy old pid page) asked.may.store done.moves done.files done.others done.slotted
          (λ none. absurd (none (ForSlot away))) (λ k is. inl is) done.asks done.no_table;
      entered = swapped_entered old new pid page attr access done.moves.fit after.sound now its.not_shared asked.may.allowed.lets r done.entered done.sole;
      ready = λ trusted. swapped_ready old new pid page attr access done.moves.fit after.sound now its.not_shared asked.may.allowed.lets r at (record { views = done.seen (trusted away); touched = done.files.touched })
          done.entered done.sole;
      chance = λ one. on_ok_then _ _ r (others_for old new pid page _ _ (all_marked_for old pid page (away_keeps old old pid page access inside its.common away (frees_none old None)))) done.chance;
      counts = counts_done g.D.SectorDisk g.E.SectorDisk before after r done.moves.store done.cause;
      stalled = swapped_stalled g.D.SectorDisk g.E.SectorDisk before after pid page access r done.moves.store done.files done.same inside its.common away done.frees done.cause done.short done.refuses;
    }

pub grant_store-requires-clause-may : goal.grant_store-requires-clause-may
grant_store-requires-clause-may g c =
    subst (λ (a : Access). MayServeAt g.D.SectorDisk g.E.SectorDisk c.args.core.now c.args.spot.now c.args.attr.now a) c.in-Store.is c.requires.may

pub returns-in-Store : goal.returns-in-Store
returns-in-Store g c =
    let P : Access → Type 0 = λ a. Serves g.D.SectorDisk g.E.SectorDisk c.args.core.now c.grant_store.new.core c.args.spot.now.pid c.args.spot.now.page c.args.attr.now a c.grant_store.result in
    subst P (sym c.in-Store.is) c.grant_store.ensures
