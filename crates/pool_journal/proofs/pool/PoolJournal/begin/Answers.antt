use Rattle.std.proofs.Common.{◌≡◌, ◌+◌, ◌-◌, ◌*◌, ◌∙◌, ℕ, Bool, true, false, length, get_or, ap, refl, arith}
use Rattle.std.specs.Prelude.{nat_lt}
use Rattle.pool_journal.{proofs.{Counted.{free_and_live}, Free.{free_most}}, specs.{Giving.{number_but, live_among}, Journal.{live_count}, Maps.{entries_of, IsMapOf}}}
use Rattle.pool_journal.proofs.pool.PoolJournal.begin.Goals as goal

pub overflow_sub-live : goal.overflow_sub-live
overflow_sub-live c = (let most = free_most c.args.self.now.sizes.blocks (entries_of c.args.self.now.map) in omega (arith, most, c.requires.is.counted, c.places-places.ensures))

pub forget-gone-requires-clause-size : goal.forget-gone-requires-clause-size
forget-gone-requires-clause-size c = (c.args.self.now.sizes.blocks, (ap (λ xs. length xs) c.copy_from.ensures.first ∙ c.requires.is.map.0, ap (λ xs. length xs) c.copy_from.ensures.second ∙ c.requires.is.map.1))

pub overflow_sub-result : goal.overflow_sub-result
overflow_sub-result c =
    let m = c.args.self.now.sizes.blocks in
    let one = ap (λ xs. live_among (λ r. get_or xs r 0) (504 * m)) c.copy_from.ensures.first in
    let two = ap (λ xs. live_among (λ r. get_or xs r 0) (504 * m)) c.copy_from.ensures.second in
    let all = free_and_live m (entries_of c.args.self.now.map) in
    let gone = c.forget-gone.ensures.counted m (ap (λ xs. length xs) c.copy_from.ensures.first ∙ c.requires.is.map.0, ap (λ xs. length xs) c.copy_from.ensures.second ∙ c.requires.is.map.1) in
    omega (arith, one, two, all, gone, c.requires.is.counted, c.places-places.ensures)

pub returns : goal.returns
returns c = record {
  next = next;
  full_is = ap (λ k. nat_lt c.places-places.result (k + length c.args.homes.now)) kept
      ∙ ap (λ places. nat_lt places (live_count m (entries_of c.forget-gone.new.map) + length c.args.homes.now)) c.places-places.ensures;
  is = record {
    sized = c.requires.is.sized;
    map = c.requires.is.map;
    next = c.forget-gone.ensures.size m copied;
    homes = c.requires.is.homes;
    counted = c.requires.is.counted;
    room = c.requires.is.room;
  };
  sizes = refl;
  second = refl;
  map = refl;
  free = refl;
}
  where
    m : ℕ
    m = c.args.self.now.sizes.blocks

    copied : IsMapOf m c.copy_from.new.self
    copied = (ap (λ xs. length xs) c.copy_from.ensures.first ∙ c.requires.is.map.0, ap (λ xs. length xs) c.copy_from.ensures.second ∙ c.requires.is.map.1)

    next : (body : Bool) (r : ℕ) → entries_of c.forget-gone.new.map body r ≡ number_but c.args.homes.now (entries_of c.args.self.now.map body r)
    next false r = c.forget-gone.ensures.forgotten false r ∙ ap (λ xs. number_but c.args.homes.now (get_or xs r 0)) c.copy_from.ensures.first
    next true r = c.forget-gone.ensures.forgotten true r ∙ ap (λ xs. number_but c.args.homes.now (get_or xs r 0)) c.copy_from.ensures.second

    kept : 2 * c.places-places.result - c.args.self.now.free - c.forget-gone.result ≡ live_count m (entries_of c.forget-gone.new.map)
    kept =
        let one = ap (λ xs. live_among (λ r. get_or xs r 0) (504 * m)) c.copy_from.ensures.first in
        let two = ap (λ xs. live_among (λ r. get_or xs r 0) (504 * m)) c.copy_from.ensures.second in
        let all = free_and_live m (entries_of c.args.self.now.map) in
        let gone = c.forget-gone.ensures.counted m copied in
        omega (arith, one, two, all, gone, c.requires.is.counted, c.places-places.ensures)
