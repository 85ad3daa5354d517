use Rattle.std.proofs.Common.{◌≡◌, ℕ, false, true, List, Ok, length, refl, ap, arith, rules}
use Rattle.pool_growth.proofs.{Committed.{AreLate, are_late, at_fault, is_committed, late_few, late_gives, late_inside, late_long, late_rise, list_few, not_put, put_fits, put_low, room_stays, told_as}, Listed.{changed_few}}
use Rattle.pool_growth.proofs.{New.{fresh_few}, Ordering.{are_placed_then, given_inside}}
use Rattle.pool_store.specs.Store.{IsDirectoryOn}
use Rattle.pool_growth.proofs.committing.commit_putting.Goals as goal

pub put_new_pages-requires-clause-few : goal.put_new_pages-requires-clause-few
put_new_pages-requires-clause-few g c = put_low c.args.store.now c.args.asked.changes.now c.args.asked.fresh.now c.args.asked.pages.now c.args.put c.requires.asked.may

pub put_new_pages-requires-clause-gives : goal.put_new_pages-requires-clause-gives
put_new_pages-requires-clause-gives g c =
    let low = put_low c.args.store.now c.args.asked.changes.now c.args.asked.fresh.now c.args.asked.pages.now c.args.put c.requires.asked.may in
    λ i below. c.requires.gives i (omega (arith, below, low))

pub returns-in_err-put_new_pages-clause-commits : goal.returns-in_err-put_new_pages-clause-commits
returns-in_err-put_new_pages-clause-commits g c = not_put g.D.SectorDisk g.S.PageSource c.args.store.now c.args.asked.changes.now c.args.asked.fresh.now c.args.asked.pages.now c.args.source.now c.requires.ready c.requires.asked.are c.requires.asked.new_ones
    c.args.put c.requires.asked.may (λ d t image keeps le may. g.met.D.SectorDisk.counts_now d t image keeps le may) c.put_new_pages.new.disk c.put_new_pages.new.source _ c.in_err-put_new_pages.ensures c.from_residual.result c.from_residual.ensures.1

pub place_given-requires-clause-there : goal.place_given-requires-clause-there
place_given-requires-clause-there g c =
    let store = c.args.store.now in
    let kept = c.requires.asked.kept in
    λ k p is. given_inside store.journal.sizes.homes store.directory c.requires.ready.is_directory c.args.asked.changes.now c.requires.asked.are c.args.asked.fresh.now c.requires.asked.new_ones c.args.asked.pages.now kept.before kept.after kept.distinct k p is

pub place_given-requires-clause-put : goal.place_given-requires-clause-put
place_given-requires-clause-put g c = put_low c.args.store.now c.args.asked.changes.now c.args.asked.fresh.now c.args.asked.pages.now c.args.put c.requires.asked.may

pub place_given-requires-clause-few : goal.place_given-requires-clause-few
place_given-requires-clause-few g c =
    let store = c.args.store.now in
    let changes = c.args.asked.changes.now in
    let fresh = c.args.asked.fresh.now in
    let new = fresh_few store.journal.sizes.homes store.directory changes c.requires.asked.are fresh c.requires.asked.new_ones in
    let few = list_few store changes fresh c.args.asked.pages.now c.requires.asked.kept in
    (omega (arith, new, c.requires.ready.pool.homes), omega (arith, few, c.requires.ready.is_journal.sized.1))

pub place_given-requires-clause-room : goal.place_given-requires-clause-room
place_given-requires-clause-room g c =
    let few = late_few c.args.store.now c.args.asked.changes.now c.args.asked.fresh.now c.args.asked.pages.now c.args.put c.requires.asked.may c.requires.asked.kept in
    omega (arith, few, c.requires.ready.room.0)

pub list_directory-requires-clause-few : goal.list_directory-requires-clause-few
list_directory-requires-clause-few g c = λ f e is. (c.requires.asked.are.may.bounded f e is).2

pub list_files-requires : goal.list_files-requires
list_files-requires g c =
    let few = late_few c.args.store.now c.args.asked.changes.now c.args.asked.fresh.now c.args.asked.pages.now c.args.put c.requires.asked.may c.requires.asked.kept in
    let pages = changed_few c.args.asked.changes.now c.args.store.now.directory.pages in
    let homes = ap (λ (xs : List ℕ). length xs) c.list_directory.ensures.homes in
    let store = c.args.store.now in
    let kept = c.requires.asked.kept in
    let placed = are_placed_then store.journal.sizes.homes store.directory c.requires.ready.is_directory c.args.asked.changes.now c.requires.asked.are c.args.asked.fresh.now c.requires.asked.new_ones c.args.asked.pages.now kept.before kept.after kept.distinct
    c.args.put c.place_given.new.room.places.items c.place_given.ensures.same c.place_given.ensures.rising in
    let count = placed.count in
    let places = ap (λ xs. length xs) c.as_slice-places.ensures.value in
    omega (arith, few, pages, homes, count, places, c.list_directory.ensures.room.1, c.requires.room.1)

pub overflow_cast-late : goal.overflow_cast-late
overflow_cast-late g c =
    let few = fresh_few c.args.store.now.journal.sizes.homes c.args.store.now.directory c.args.asked.changes.now c.requires.asked.are c.args.asked.fresh.now c.requires.asked.new_ones in
    let low = put_low c.args.store.now c.args.asked.changes.now c.args.asked.fresh.now c.args.asked.pages.now c.args.put c.requires.asked.may in
    omega (arith, few, low, c.requires.ready.pool.homes)

pub commit-requires-clause-given : goal.commit-requires-clause-given
commit-requires-clause-given g c =
    let store = c.args.store.now in
    let changes = c.args.asked.changes.now in
    let fresh = c.args.asked.fresh.now in
    let list = c.args.asked.pages.now in
    let put = c.args.put in
    let may = c.requires.asked.may in
    let places = c.as_slice-places.result.now in
    let front = c.deref.result.now in
    let homes = c.deref-2.result.now in
    let lists : AreLate store.directory changes fresh list put places front homes =
    are_late store changes fresh list c.requires.ready.is_directory c.requires.asked.are c.requires.asked.new_ones c.requires.asked.kept put c.place_given.new.room.places.items c.place_given.ensures.same c.place_given.ensures.rising places c.as_slice-places.ensures.value
    c.list_directory.new.self c.list_files.new.self c.list_directory.ensures.homes c.list_directory.ensures.pages c.list_files.ensures.homes c.list_files.ensures.pages front homes c.deref.ensures.value c.deref-2.ensures.value in
    let between = c.put_new_pages.new.source in
    let n = store.journal.sizes.homes in
    let on : IsDirectoryOn n store.directory = c.requires.ready.is_directory in
    let are = c.requires.asked.are in
    let long = late_long n store.directory on changes are fresh list put places front homes lists in
    let few = put_fits store changes fresh list put may c.requires.asked.kept in
    record {
      rising = late_rise n store.directory on changes are fresh list put places front homes lists;
      inside = late_inside n store.directory on changes are fresh list put places front homes lists;
      few = omega (arith, long, few);
      gives = late_gives n store.directory on changes are fresh list put places front homes lists (put_low store changes fresh list put may) (λ i. g.S.PageSource.gives between i)
          (λ i less. c.put_new_pages.ensures.asks.still i (c.requires.gives i less));
    }

pub returns-in_err-commit-clause-commits : goal.returns-in_err-commit-clause-commits
returns-in_err-commit-clause-commits g c =
    let store = c.args.store.now in
    let changes = c.args.asked.changes.now in
    let fresh = c.args.asked.fresh.now in
    let list = c.args.asked.pages.now in
    let put = c.args.put in
    let may = c.requires.asked.may in
    let places = c.as_slice-places.result.now in
    let front = c.deref.result.now in
    let homes = c.deref-2.result.now in
    let lists : AreLate store.directory changes fresh list put places front homes =
    are_late store changes fresh list c.requires.ready.is_directory c.requires.asked.are c.requires.asked.new_ones c.requires.asked.kept put c.place_given.new.room.places.items c.place_given.ensures.same c.place_given.ensures.rising places c.as_slice-places.ensures.value
    c.list_directory.new.self c.list_files.new.self c.list_directory.ensures.homes c.list_directory.ensures.pages c.list_files.ensures.homes c.list_files.ensures.pages front homes c.deref.ensures.value c.deref-2.ensures.value in
    let between = c.put_new_pages.new.source in
    let room = room_stays store c.place_given.new.room c.requires.ready.room c.place_given.ensures.room in
    is_committed g.D.SectorDisk g.S.PageSource store changes fresh list c.args.source.now c.requires.ready c.requires.asked.are c.requires.asked.new_ones put may c.requires.asked.kept c.put_new_pages.new.disk between c.in_ok-put_new_pages.ensures
    places front homes lists _ c.commit.new.source.source.now _ c.commit.new.source (record {
      pages_are = refl;
      sure = λ j below past. absurd (omega (arith, below, past));
      keeps = λ keeps. keeps;
      failed = refl;
      fails = refl;
      asks = c.commit.ensures.asks.follows.1;
    })
    (λ d t image keeps le may. g.met.D.SectorDisk.counts_now d t image keeps le may) c.commit.new.disk c.commit.new.self _ c.from_residual-in_err-commit.result
    (told_as _ c.from_residual-in_err-commit.result c.from_residual-in_err-commit.ensures.1) c.in_err-commit.ensures
    (λ first second. g.met.S.PageSource.goes_on _ _ _ first second) c.place_given.new.room room store.directory refl
    (at_fault _ c.from_residual-in_err-commit.result c.from_residual-in_err-commit.ensures.0) (λ told. refl) _ (search rules)

pub returns-clause-commits : goal.returns-clause-commits
returns-clause-commits g c =
    let store = c.args.store.now in
    let changes = c.args.asked.changes.now in
    let fresh = c.args.asked.fresh.now in
    let list = c.args.asked.pages.now in
    let put = c.args.put in
    let may = c.requires.asked.may in
    let places = c.as_slice-places.result.now in
    let front = c.deref.result.now in
    let homes = c.deref-2.result.now in
    let lists : AreLate store.directory changes fresh list put places front homes =
    are_late store changes fresh list c.requires.ready.is_directory c.requires.asked.are c.requires.asked.new_ones c.requires.asked.kept put c.place_given.new.room.places.items c.place_given.ensures.same c.place_given.ensures.rising places c.as_slice-places.ensures.value
    c.list_directory.new.self c.list_files.new.self c.list_directory.ensures.homes c.list_directory.ensures.pages c.list_files.ensures.homes c.list_files.ensures.pages front homes c.deref.ensures.value c.deref-2.ensures.value in
    let between = c.put_new_pages.new.source in
    let room = room_stays store c.place_given.new.room c.requires.ready.room c.place_given.ensures.room in
    is_committed g.D.SectorDisk g.S.PageSource store changes fresh list c.args.source.now c.requires.ready c.requires.asked.are c.requires.asked.new_ones put may c.requires.asked.kept c.put_new_pages.new.disk between c.in_ok-put_new_pages.ensures
    places front homes lists _ c.commit.new.source.source.now _ c.commit.new.source (record {
      pages_are = refl;
      sure = λ j below past. absurd (omega (arith, below, past));
      keeps = λ keeps. keeps;
      failed = refl;
      fails = refl;
      asks = c.commit.ensures.asks.follows.1;
    })
    (λ d t image keeps le may. g.met.D.SectorDisk.counts_now d t image keeps le may) c.commit.new.disk c.commit.new.self _ (Ok (tt {0})) refl c.in_ok-commit.ensures
    (λ first second. g.met.S.PageSource.goes_on _ _ _ first second) c.place_given.new.room room c.apply.new.directory c.apply.ensures.pages
    c.apply.ensures.entries (λ told. (let none : false ≡ true = told in cc)) _ (search rules)
