use Rattle.stores.{proofs.Names.{subst}, specs.Store.{IsReadyStore}}
use Rattle.stores.proofs.store.Store.capacity_pages.Goals as goal

pub body_pages-requires : goal.body_pages-requires
body_pages-requires g c = subst (IsReadyStore g.D.SectorDisk) c.in-Pool.is c.requires
