-- A store to be made is one that there may be, in one way at most.
use Rattle.std.proofs.Props.{props}
use Rattle.stores.specs.NewStores.{IsSizedNew}
use Rattle.stores.specs.declared.new_stores.NewStore.{NewStore}
use Rattle.stores.specs.declared.new_stores.NewStore.TheVariants.{Journal, Pool}

pub IsSizedNew-prop : (store : NewStore) → IsProp (IsSizedNew store)
IsSizedNew-prop Journal = hlevel props
IsSizedNew-prop (Pool blocks) = hlevel props
