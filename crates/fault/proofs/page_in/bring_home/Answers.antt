use Rattle.fault.proofs.{AccessSteps.{no_new_of, pages_in_beside, keeps_in, only_in, placed_in, brings_home_of, brings_blank_of, err_always, untouched_home}, Asking.{asks_swap}, Names.{◌≡◌, rules, StoreDevice, None, refl, ap, sym, ◌∙◌, subst}}
use Rattle.fault.{proofs.Names.{PageKey, File, Object, asks_wider, once_wider, IsSectorOf, picture_of}, specs.{Asking.{IsSectorOfPage, IsSectorOfStoredPage}, Files.{IsInStore}, PagingIn.{PagesIn}}}
use Rattle.fault.proofs.Chances.{chance_came}
use Rattle.fault.proofs.page_in.bring_home.Goals as goal
use Rattle.sized_stores.specs.Store.{disk_of}

pub returns-in-File : goal.returns-in-File
returns-in-File g c =
    let before = c.args.core.now in
    let after = c.bring_in.new.self in
    let old = picture_of before in
    let new = picture_of after in
    let page = File c.in-File.page in
    let r = c.bring_in.result in
    let done = c.bring_in.ensures in
    let keeps = keeps_in done.comes in
    let home = ap old.place (sym c.in-File.is) ∙ c.requires.home in
    subst (λ (p : PageKey). PagesIn g.D.SectorDisk g.E.SectorDisk before after p r) (sym c.in-File.is)
    (let placed = placed_in done.comes in
    let only = only_in done.comes in
    let chance = chance_came before after page r done.brought done.aged in
    let brings = brings_home_of g.D.SectorDisk before.store after.store old new c.in-File.page r done.brought done.frees (untouched_home old page c.requires.may.fit home) done.read in
    let read : IsInStore old page = (c.in-File.page, refl, home) in
    let asks = asks_swap g.E.SectorDisk before after None (IsSectorOfPage old page) done.asked in
    let asks_store = asks_wider g.D.SectorDisk (IsSectorOf before.store c.in-File.page) (IsSectorOfStoredPage before.store page) (disk_of before.store) (disk_of after.store) (λ k is. (c.in-File.page, refl, is)) done.asks in
    let once_store = once_wider (IsSectorOf before.store c.in-File.page) (IsSectorOfStoredPage before.store page) (g.D.SectorDisk.asked (disk_of before.store)) (g.D.SectorDisk.asked (disk_of after.store)) (λ k is. (c.in-File.page, refl, is)) done.once in
    let asks_later = no_new_of old new page c.requires.may.fit (λ k at. let bad = sym home ∙ at in (cc)) r done.brought in
    let at_home = err_always (λ stall. stall ≡ StoreDevice → IsInStore old page) r (λ s is. read) in
    search rules)

pub returns-in-Object : goal.returns-in-Object
returns-in-Object g c =
    let before = c.args.core.now in
    let after = c.bring_blank.new.self in
    let old = picture_of before in
    let page = Object c.in-Object.page in
    let r = c.bring_blank.result in
    let done = c.bring_blank.ensures in
    let home = ap old.place (sym c.in-Object.is) ∙ c.requires.home in
    subst (λ (p : PageKey). PagesIn g.D.SectorDisk g.E.SectorDisk before after p r) (sym c.in-Object.is)
    (pages_in_beside g.D.SectorDisk g.E.SectorDisk c.requires.may.fit c.requires.may.store (λ k at. let bad = sym home ∙ at in (cc)) done.comes done.rest done.aged done.uses done.refused
    (asks_swap g.E.SectorDisk before after None (IsSectorOfPage old page) done.asked)
    (λ kept. brings_blank_of g.D.SectorDisk before.store after.store old (picture_of after) c.in-Object.page r done.brought done.frees (untouched_home old page c.requires.may.fit home) done.blank))
