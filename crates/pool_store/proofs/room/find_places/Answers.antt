use Rattle.std.proofs.Common.{◌≡◌, ◌<◌, List, length, take, get_or, set, sym, ap, subst, ◌∙◌, ⊎_elim, arith}
use Rattle.std.proofs.lemmas.{Bool.{cases_eq}, List.{get_or-set_same, get_or-set_other, get_or-take, length-set, length-take-le, ext_get_or}, Option.{slice_get-get_or}}
use Rattle.vm_types.specs.declared.file.FilePage.{FilePage}
use Rattle.pool_store.proofs.Ordered.{no_page, no_place, place_listed, places_long}
use Rattle.pool_store.specs.{Places.{number_of, places_from}, declared.room.Place.{Place}}
use Rattle.pool_store.proofs.room.find_places.Goals as goal

pub home_of-requires-clause-inside : goal.home_of-requires-clause-inside
home_of-requires-clause-inside c = c.requires.inside c.loop-i.i (get_or c.args.pages.now c.loop-i.i no_page) (slice_get-get_or c.args.pages.now c.loop-i.i no_page c.loop-i-test.true)

pub loop-i-preserved : goal.loop-i-preserved
loop-i-preserved c = record {
  size = length-set c.loop-i.places c.loop-i.i place ∙ c.loop-i.invariant.size;
  each = λ k d below. ⊎_elim
      (λ same. subst (λ n. get_or (set c.loop-i.places c.loop-i.i place) n d ≡ get_or (places_from c.args.directory.now 0 pages) n d) (sym same)
      (get_or-set_same c.loop-i.places c.loop-i.i place d (omega (arith, c.loop-i-test.true, c.loop-i.invariant.size, c.requires.room))
      ∙ sym (place_listed c.args.directory.now c.loop-i.i pages page d (slice_get-get_or pages c.loop-i.i no_page c.loop-i-test.true) ∙ ap (λ o. record { home = number_of o; index = c.loop-i.i }) c.home_of.ensures.home)))
      (λ other. get_or-set_other c.loop-i.places c.loop-i.i k place d other ∙ c.loop-i.invariant.each k d (omega (arith, below, other)))
      (cases_eq k c.loop-i.i);
}
  where
    pages : List FilePage
    pages = c.args.pages.now

    page : FilePage
    page = get_or pages c.loop-i.i no_page

    place : Place
    place = record { home = c.home_of.result; index = c.loop-i.i }

pub returns-clause-found : goal.returns-clause-found
returns-clause-found c =
    let n = length c.args.pages.now in
    let long : length (take n c.loop-i.places) ≡ n = length-take-le n c.loop-i.places (omega (arith, c.loop-i.invariant.size, c.requires.room)) in
    ext_get_or no_place (take n c.loop-i.places) (places_from c.args.directory.now 0 c.args.pages.now) (long ∙ sym (places_long c.args.directory.now 0 c.args.pages.now))
    (λ k below. let inside : k < n = omega (arith, below, long) in get_or-take n c.loop-i.places k no_place inside ∙ c.loop-i.invariant.each k no_place (omega (arith, inside, c.loop-i-test.false)))
