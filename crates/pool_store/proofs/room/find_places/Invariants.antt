use Rattle.std.proofs.Common.{◌≡◌, ◌<◌, ℕ, length, get_or}
use Rattle.pool_store.specs.{Places.{places_from}, declared.room.Place.{Place}}
use Rattle.pool_store.proofs.room.find_places.Given as goal

abbrev pub invariant-loop-i : goal.invariant-loop-i
invariant-loop-i l = record { size : length l.places ≡ length l.initial.places; each : (k : ℕ) (d : Place) → k < l.i → get_or l.places k d ≡ get_or (places_from l.directory 0 l.pages) k d }
