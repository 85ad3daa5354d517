use Rattle.fault.proofs.Names.{ℕ, inl, None, sym, ◌∙◌, IsSectorOfSlot, picture_of}
use Rattle.fault.{specs.Asking.{IsSectorOfPage}, proofs.{Asking.{asks_slots_wider, asks_swap_also}, AccessSteps.{pages_in_beside, brings_slot_of}}}
use Rattle.fault.proofs.page_in.bring.Goals as goal
use Rattle.sized_stores.specs.Store.{disk_of}

pub returns-in-Slot : goal.returns-in-Slot
returns-in-Slot g c =
    let page = c.args.page in
    let before = c.args.core.now in
    let after = c.bring_back.new.self in
    let old = picture_of before in
    let slot = c.in-Slot.slot in
    let done = c.bring_back.ensures in
    let here : ℕ → Type 0 = IsSectorOfSlot slot.0 in
    let at = c.requires.place ∙ c.in-Slot.is in
    pages_in_beside g.D.SectorDisk g.E.SectorDisk c.requires.may.fit c.requires.may.store (λ k there. let bad = sym at ∙ there in (cc)) done.comes done.rest done.aged done.uses done.refused
    (asks_slots_wider g.E.SectorDisk before after None here (IsSectorOfPage old page) (λ k is. inl (slot, at, is)) (asks_swap_also g.E.SectorDisk before after None here done.asked))
    (λ kept. brings_slot_of g.D.SectorDisk before.store after.store old (picture_of after) page slot.0 c.bring_back.result done.brought done.frees at (done.same kept))
