use Rattle.fault.{specs.Asking.{IsSectorOfPage, IsSectorOfStoredPage}, proofs.{Asking.{no_new_same, asks_slots_same}, AccessSteps.{once_same, store_same, reads_none, brings_none}}}
use Rattle.fault.specs.Files.{IsInStore}
use Rattle.fault.proofs.{Names.{◌≡◌, ◌⊎◌, IsFull, KeepsRolesBut, Some, None, inl, inr, refl, rules, picture_of}, Steps.{no_table_none, slotted_same, device_none, files_same, seen_none}}
use Rattle.fault.proofs.Chances.{chance_none}
use Rattle.fault.proofs.page_in.cached.Goals as goal
use Rattle.sized_stores.specs.Store.{disk_of}

pub returns-in-Frame-clause-pages_in : goal.returns-in-Frame-clause-pages_in
returns-in-Frame-clause-pages_in g c =
    let core = c.args.core.now in
    let page = c.args.page in
    let only : IsFull core.frames ⊎ KeepsRolesBut (picture_of core) (picture_of core) c.in-Frame.frame.0 = inr (λ n ne. refl) in
    let reads = reads_none g.D.SectorDisk core.store core.store refl in
    let device = device_none g.E.SectorDisk core.swap.pages.disk in
    let brings = brings_none g.D.SectorDisk core.store core.store (λ p. p ≡ page) (picture_of core) (picture_of core) (files_same (picture_of core)) in
    let keeps = seen_none (picture_of core) in
    let chance = chance_none (picture_of core) None in
    let no_table = no_table_none (picture_of core) in
    let slotted = slotted_same (λ p. p ≡ page) (λ q p. ⊥) (picture_of core) (picture_of core) (λ p. refl) (λ q p h. refl) in
    let read : (core.store ≡ core.store) ⊎ IsInStore (picture_of core) page = inl refl in
    let asks = asks_slots_same g.E.SectorDisk {full = IsFull core.frames} core core None (IsSectorOfPage (picture_of core) page) refl in
    let asks_store = store_same g.D.SectorDisk (IsSectorOfStoredPage core.store page) core.store core.store refl in
    let once_store = once_same g.D.SectorDisk (IsSectorOfStoredPage core.store page) core.store core.store refl in
    let asks_later = no_new_same (picture_of core) (Some c.in-Frame.frame) (IsSectorOfPage (picture_of core) page) in
    search rules
