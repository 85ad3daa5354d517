use Rattle.stores.specs.Store.{IsReadyStore}
use Rattle.batches.proofs.serving.serve.Given as goal

abbrev pub invariant-loop : goal.invariant-loop
invariant-loop g l = IsReadyStore g.D.SectorDisk l.store
