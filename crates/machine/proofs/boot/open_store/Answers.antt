use Rattle.machine.proofs.{StoreBoots.{always_fits, boots_store, refuses_failed, refuses_unopened, sized_or_not}, Names.{◌≤◌, sym, subst}}
use Rattle.machine.specs.{StoreBoot.{RefusesStore}, declared.boot.BootFault.TheVariants.{Device}}
use Rattle.stores.specs.Store.{capacity_in, kept_of}
use Rattle.machine.proofs.boot.open_store.Goals as goal

pub make_room_for-requires-clause-most : goal.make_room_for-requires-clause-most
make_room_for-requires-clause-most g c = subst (λ count. count ≤ capacity_in (kept_of c.in-Ok.store)) (sym c.always_free_pages.ensures) (always_fits (kept_of c.in-Ok.store))

pub returns-in-Err : goal.returns-in-Err
returns-in-Err g c = subst (λ fault. RefusesStore g.D.SectorDisk c.args.disk fault c.in-Err.disk) (sym c.from.ensures)
    (refuses_unopened g.D.SectorDisk c.args.disk c.in-Err.fault c.in-Err.disk c.in-Err.ensures)

pub returns-in-Ok-make_room_for : goal.returns-in-Ok-make_room_for
returns-in-Ok-make_room_for g c = sized_or_not g.D.SectorDisk c.args.disk c.make_room_for.new.self
    (boots_store g.D.SectorDisk c.args.disk c.in-Ok.store c.in-Ok.ensures (λ d t image keep le may. g.met.D.SectorDisk.counts_now d t image keep le may)
    c.always_free_pages.result c.always_free_pages.ensures c.make_room_for.new.self c.in-Ok-make_room_for.ensures) c.with_lengths.result c.with_lengths.ensures

pub returns-in-Err-make_room_for : goal.returns-in-Err-make_room_for
returns-in-Err-make_room_for g c =
    subst (RefusesStore g.D.SectorDisk c.args.disk Device) (sym c.into_disk.ensures)
    (refuses_failed g.D.SectorDisk c.args.disk c.in-Ok.store c.in-Ok.ensures c.always_free_pages.result c.always_free_pages.ensures c.make_room_for.new.self
    c.in-Err-make_room_for.field-0 c.in-Err-make_room_for.ensures)
