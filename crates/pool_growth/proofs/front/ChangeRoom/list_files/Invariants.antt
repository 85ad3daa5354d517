use Rattle.std.proofs.Common.{◌≡◌, ◌++◌, map, take, vec_capacity}
use Rattle.pool_store.specs.declared.room.Place.{Place}
use Rattle.pool_growth.proofs.front.ChangeRoom.list_files.Given as goal

-- the homes of the places before this one are listed
abbrev pub invariant-loop-place : goal.invariant-loop-place
invariant-loop-place l = record {
  homes : l.self.homes.items ≡ l.fn.self.homes.items ++ map (λ (place : Place). place.home) (take l.place-index l.places);
  pages : l.self.pages ≡ l.fn.self.pages;
  room : vec_capacity l.self.homes ≡ vec_capacity l.fn.self.homes;
}
