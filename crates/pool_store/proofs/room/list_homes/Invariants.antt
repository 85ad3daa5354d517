use Rattle.std.proofs.Common.{◌≡◌, ◌<◌, ℕ, length, get_or, map}
use Rattle.pool_store.specs.declared.room.Place.{Place}
use Rattle.pool_store.proofs.room.list_homes.Given as goal

abbrev pub invariant-loop-i : goal.invariant-loop-i
invariant-loop-i l = record { size : length l.homes ≡ length l.initial.homes; each : (k : ℕ) → k < l.i → get_or l.homes k 0 ≡ get_or (map (λ (place : Place). place.home) l.places) k 0 }
