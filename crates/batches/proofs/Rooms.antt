-- The room of commits.
use Rattle.std.proofs.Common.{◌≤◌, arith}
use Rattle.stores.specs.Store.{StoreKept, StoreKept.{OfJournal, OfPool}, always_free_in, capacity_in}

-- a store takes as many pages at once as every commit may take
pub always_takes : (kept : StoreKept) → always_free_in kept ≤ capacity_in kept
always_takes (OfJournal directory journal) = omega arith
always_takes (OfPool directory journal) = omega arith
