use Rattle.std.proofs.Common.{◌≡◌, ◌-◌, map, vec_capacity}
use Rattle.std.specs.List.{range_with_len}
use Rattle.pool_growth.specs.Late.{given_place}
use Rattle.pool_growth.proofs.slots.place_given.Given as goal

-- the pages before this one are listed
abbrev pub invariant-loop-k : goal.invariant-loop-k
invariant-loop-k l = record {
  listed : l.room.places.items ≡ map (given_place l.directory l.asked.changes.now l.asked.fresh.now l.asked.pages.now l.put) (range_with_len 0 (l.k - l.put));
  places : vec_capacity l.room.places ≡ vec_capacity l.fn.room.places;
  homes : vec_capacity l.room.homes ≡ vec_capacity l.fn.room.homes;
}
