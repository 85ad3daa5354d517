-- Mark and kind, in front of the gate: changes of files write neither.
use Rattle.std.proofs.Common.{ℕ, ◌<◌, List, ⊎_elim, arith}
use Rattle.growth.specs.declared.changes.Change.{Change}
use Rattle.pool_growth.proofs.Owning.{own_not_gate}
use Rattle.pool_growth.specs.Commit.{IsChangedSector}
use Rattle.pool_journal.{proofs.Loose.{loose_high}, specs.{Maps.{entries_of}, Pools.{pool_gate}}}
use Rattle.pool_store.specs.declared.store.PoolStore.{PoolStore}

pub head_unchanged : {D : Type 0} (store : PoolStore D) (changes : List Change) (k : ℕ) → k < pool_gate → IsChangedSector store changes k → ⊥
head_unchanged store changes k low = ⊎_elim
    (λ new. own_not_gate store.journal.sizes.blocks (entries_of store.journal.map) new.0 k new.2 (omega (arith, low)))
    (⊎_elim (λ gate. omega (arith, gate, low)) (λ loose. loose_high store.journal.sizes.blocks store.journal.second (entries_of store.journal.map) k loose (omega (arith, low))))
