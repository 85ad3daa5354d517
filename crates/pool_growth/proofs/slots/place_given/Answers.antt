use Rattle.std.proofs.Common.{◌≡◌, ◌≤◌, ◌+◌, ◌-◌, ◌++◌, ◌∷◌, [], ℕ, List, length, map, sym, ap, ◌∙◌, arith, rules}
use Rattle.std.proofs.lemmas.List.{FromFn.{length-map-range_with_len, map-range_with_len_more}, Sorted.{IsNonDecreasingBy-from_sort_by_key}}
use Rattle.std.specs.List.{range_with_len}
use Rattle.pool_growth.proofs.Ordering.{place_is}
use Rattle.pool_growth.specs.Late.{given_place}
use Rattle.pool_store.specs.declared.room.Place.{Place}
use Rattle.pool_growth.proofs.slots.place_given.Goals as goal

pub push_reserved-requires : goal.push_reserved-requires
push_reserved-requires c =
    let put = c.args.put in
    let k = c.loop-k.k in
    let listed = ap (λ (xs : List Place). length xs) c.loop-k.invariant.listed in
    let long = length-map-range_with_len (given_place c.args.directory.now c.args.asked.changes.now c.args.asked.fresh.now c.args.asked.pages.now put) 0 (k - put) in
    let len = c.loop-k.room.places.ok.0 in
    let same = c.loop-k.invariant.places in
    omega (arith, listed, long, len, same, c.requires.room, c.requires.put, c.loop-k-test.true, c.loop-k.auto.k)

pub loop-k-preserved : goal.loop-k-preserved
loop-k-preserved c =
    let directory = c.args.directory.now in
    let changes = c.args.asked.changes.now in
    let fresh = c.args.asked.fresh.now in
    let list = c.args.asked.pages.now in
    let put = c.args.put in
    let k = c.loop-k.k in
    let place = given_place directory changes fresh list put in
    let from : put ≤ k = omega (arith, c.loop-k.auto.k) in
    let more : k + 1 - put ≡ k - put + 1 = omega (arith, from) in
    record {
      listed = c.push_reserved.ensures.items
          ∙ ap (λ (xs : List Place). xs ++ record { home = c.home_then.result; index = k - put } ∷ []) c.loop-k.invariant.listed
          ∙ ap (λ (p : Place). map place (range_with_len 0 (k - put)) ++ p ∷ []) (place_is directory changes fresh list put k c.given_page-page.result c.home_then.result from c.given_page-page.ensures c.home_then.ensures.home)
          ∙ sym (map-range_with_len_more place 0 (k - put) (k - put) (omega arith))
          ∙ ap (λ (n : ℕ). map place (range_with_len 0 n)) (sym more);
      places = c.push_reserved.ensures.capacity ∙ c.loop-k.invariant.places;
      homes = c.loop-k.invariant.homes;
    }

pub returns-clause-rising : goal.returns-clause-rising
returns-clause-rising c =
    IsNonDecreasingBy-from_sort_by_key (λ (place : Place). place.home) c.sort_unstable_by_key.new.self.items c.sort_unstable_by_key.ensures.sorted (λ a r q k. search rules)
