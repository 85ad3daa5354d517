use Rattle.sync_plans.{proofs.{Names.{IfErr, OnOk, length, sym, subst}, Taken.{refused_all, resizes_all, stays_refused_pool, stays_resized, told_pool}}, specs.{Resizing.{RefusesSizes, ResizesStore}, Pages.{lent_page}, Requests.{StaysStore}}}
use Rattle.sync_plans.proofs.resizing.resize.Goals as goal

pub returns-clause-stays : goal.returns-clause-stays
returns-clause-stays g c =
    let device = g.D.SectorDisk in
    subst (λ d. StaysStore device c.args.disk d) (sym c.into_disk.ensures)
    (stays_resized device c.args.disk c.requires g.met.D.SectorDisk.only_now c.in-Ok.store c.in-Ok.ensures c.resize_store-resized.new.store.disk c.args.sizes.now c.args.pages.fresh.now c.args.pages.pages.now c.args.source.pages.now
    c.resize_store-resized.result c.resize_store-resized.ensures)

pub returns-in-Err-clause-stays : goal.returns-in-Err-clause-stays
returns-in-Err-clause-stays g c = stays_refused_pool g.D.SectorDisk c.args.disk c.requires g.met.D.SectorDisk.only_now _ _ c.in-Err.ensures

pub returns-clause-resizes : goal.returns-clause-resizes
returns-clause-resizes g c = λ k.
    let device = g.D.SectorDisk in
    let sizes = c.args.sizes.now in
    let fresh = c.args.pages.fresh.now in
    let list = c.args.pages.pages.now in
    let bytes = c.args.source.pages.now in
    subst (λ d. OnOk c.resize_store-resized.result (ResizesStore device c.args.disk d sizes fresh list (length bytes) (lent_page bytes))) (sym c.into_disk.ensures)
    (resizes_all device c.args.disk c.requires g.met.D.SectorDisk.only_now c.in-Ok.store c.in-Ok.ensures c.resize_store-resized.new.store.disk sizes fresh list bytes c.resize_store-resized.result c.resize_store-resized.ensures
    (subst device.keeps_model c.into_disk.ensures k))

pub returns-clause-refused : goal.returns-clause-refused
returns-clause-refused g c =
    let device = g.D.SectorDisk in
    let sizes = c.args.sizes.now in
    let fresh = c.args.pages.fresh.now in
    let list = c.args.pages.pages.now in
    let bytes = c.args.source.pages.now in
    subst (λ d. IfErr c.resize_store-resized.result (RefusesSizes device c.args.disk d sizes fresh list (length bytes))) (sym c.into_disk.ensures)
    (refused_all device c.args.disk c.requires g.met.D.SectorDisk.only_now c.in-Ok.store c.in-Ok.ensures c.resize_store-resized.new.store.disk sizes fresh list bytes
    c.resize_store-resized.result c.resize_store-resized.ensures)

pub returns-in-Err-clause-refused : goal.returns-in-Err-clause-refused
returns-in-Err-clause-refused g c =
    let u = c.unopened.ensures in
    told_pool g.D.SectorDisk c.args.disk c.requires g.met.D.SectorDisk.only_now _ _ c.args.sizes.now c.args.pages.fresh.now c.args.pages.pages.now (length c.args.source.pages.now) c.unopened.result c.in-Err.ensures u.device u.pool u.memory u.pages u.read_only u.homes
