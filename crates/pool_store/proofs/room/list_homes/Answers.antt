use Rattle.std.proofs.Common.{◌≡◌, ◌<◌, ℕ, List, length, take, get_or, set, map, sym, subst, ◌∙◌, ⊎_elim, arith}
use Rattle.std.proofs.lemmas.{Bool.{cases_eq}, List.{get_or-map, get_or-set_same, get_or-set_other, get_or-take, length-map, length-set, length-take-le, ext_get_or}}
use Rattle.pool_store.{proofs.Ordered.{no_place}, specs.declared.room.Place.{Place}}
use Rattle.pool_store.proofs.room.list_homes.Goals as goal

pub loop-i-preserved : goal.loop-i-preserved
loop-i-preserved c = record {
  size = length-set c.loop-i.homes c.loop-i.i home ∙ c.loop-i.invariant.size;
  each = λ k below. ⊎_elim
      (λ same. subst (λ n. get_or (set c.loop-i.homes c.loop-i.i home) n 0 ≡ get_or (map (λ (place : Place). place.home) c.args.places.now) n 0) (sym same)
      (get_or-set_same c.loop-i.homes c.loop-i.i home 0 (omega (arith, c.loop-i-test.true, c.loop-i.invariant.size, c.requires))
      ∙ sym (get_or-map (λ (place : Place). place.home) c.args.places.now c.loop-i.i no_place 0 c.loop-i-test.true)))
      (λ other. get_or-set_other c.loop-i.homes c.loop-i.i k home 0 other ∙ c.loop-i.invariant.each k (omega (arith, below, other)))
      (cases_eq k c.loop-i.i);
}
  where
    home : ℕ
    home = (get_or c.args.places.now c.loop-i.i no_place).home

pub returns-clause-listed : goal.returns-clause-listed
returns-clause-listed c =
    let n = length c.args.places.now in
    let homes : List ℕ = map (λ (place : Place). place.home) c.args.places.now in
    let long : length (take n c.loop-i.homes) ≡ n = length-take-le n c.loop-i.homes (omega (arith, c.loop-i.invariant.size, c.requires)) in
    ext_get_or 0 (take n c.loop-i.homes) homes (long ∙ sym (length-map c.args.places.now (λ (place : Place). place.home)))
    (λ k below. let inside : k < n = omega (arith, below, long) in get_or-take n c.loop-i.homes k 0 inside ∙ c.loop-i.invariant.each k (omega (arith, inside, c.loop-i-test.false)))
