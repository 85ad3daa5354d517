use Rattle.stores.{proofs.Names.{subst}, specs.Store.{IsReadyStore}}
use Rattle.stores.proofs.store.Store.free_pages.Goals as goal

pub free_pages-requires : goal.free_pages-requires
free_pages-requires g c = subst (IsReadyStore g.D.SectorDisk) c.in-Pool.is c.requires
