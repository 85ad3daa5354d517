use Rattle.std.proofs.Common.{◌≡◌, ◌∙◌, ◌++◌, ℕ, List, length, map, take, sym, ap, subst, arith, rules}
use Rattle.std.proofs.lemmas.{List.{length-append, length-drop, length-take-le, take_at}, List.Sorted.{IsNonDecreasingBy-from_sort_by_key}}
use Rattle.std.specs.List.Sorted.{IsPermutation, IsNonDecreasingBy}
use Rattle.pool_store.specs.declared.room.Place.{Place}
use borrow.Rule.Slice.PartMut.{post_of}
use Rattle.pool_store.proofs.room.order.Goals as goal

pub returns : goal.returns
returns c = record {
  order = record {
    same = subst (λ (xs : List Place). IsPermutation xs (take n places)) c.find_places.ensures.found
        (subst (λ (xs : List Place). IsPermutation (take n found) xs) (sym first) c.sort_unstable_by_key.ensures.permutation);
    rising = subst (λ (xs : List Place). IsNonDecreasingBy (λ (place : Place). place.home) xs) (sym first)
        (IsNonDecreasingBy-from_sort_by_key (λ (place : Place). place.home) sorted c.sort_unstable_by_key.ensures.sorted (λ a r q k. search rules));
    listed = subst (λ k. take k c.list_homes.new.homes ≡ map (λ (place : Place). place.home) (take n places)) (ap length first ∙ long) c.list_homes.ensures.listed;
  };
  room = (
    length-append sorted (post_of 0 n found) ∙ (let rest = length-drop n found in omega (arith, long, rest, c.find_places.ensures.room, c.requires.room.0)),
    c.list_homes.ensures.room,
  );
}
  where
    n : ℕ
    n = length c.args.pages.now

    found : List Place
    found = c.find_places.new.places

    sorted : List Place
    sorted = c.sort_unstable_by_key.new.self

    places : List Place
    places = sorted ++ post_of 0 n found

    long : length sorted ≡ n
    long = c.sort_unstable_by_key.ensures.len ∙ length-take-le n found (omega (arith, c.find_places.ensures.room, c.requires.room.0))

    first : take n places ≡ sorted
    first = take_at sorted (post_of 0 n found) n long
