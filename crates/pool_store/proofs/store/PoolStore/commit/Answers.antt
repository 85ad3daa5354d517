use Rattle.std.proofs.Common.{◌⊎◌, length, take, get_or, sym, ap, subst, ⊎_elim, inl, inr, arith, rules}
use Rattle.std.proofs.lemmas.{List.{length-take-le}, Option.{slice_get_within}, Result.{on_ok_weaker}}
use Rattle.disk_model.{proofs.Moments.{asks_wider, weaker}, specs.Stop.{Image}}
use Rattle.sync_journal.specs.Layouts.{HomesStandAs}
use Rattle.pool_journal.{proofs.{Asking.{is_used}, Free.{free_most}}, specs.{Committing.{IsPoolNoted, IsPoolStaged}, Gates.{IsPoolGate}, Maps.{entries_of}, Pools.{pool, pool_standing, IsPoolRest, IsPoolUsed}, declared.map.SlotMap.{SlotMap}}}
use Rattle.file_store.proofs.Reading.{has_content}
use Rattle.pool_store.proofs.{Asked.{noted_listed, staged_listed}, Ordered.{ArePlaced, are_ordered, home_behind}, Standing.{stands_kept}, Changed.{Either, stands_changed, stands_either, homes_put, homes_either, none_of_directory}, Ready.{in_blocks_weaker, ready_with, ready_again}}
use Rattle.pool_store.specs.{Files.{StandsFor, StandsForEither}, Commit.{PutsHomesOrNone}, Places.{homes_of_pages, index_at}, Pools.{AreSaid, files_in_pool}, Store.{HasCommitRoom, IsDirectoryOn}}
use Rattle.pool_store.proofs.store.PoolStore.commit.Goals as goal

pub place-requires-clause-few : goal.place-requires-clause-few
place-requires-clause-few g c = let most = free_most c.args.self.now.journal.sizes.blocks (entries_of c.args.self.now.journal.map) in omega (arith, most, c.requires.pages.few, c.requires.ready.is_journal.sized.1)

pub place-requires-clause-room : goal.place-requires-clause-room
place-requires-clause-room g c =
    let most = free_most c.args.self.now.journal.sizes.blocks (entries_of c.args.self.now.journal.map) in
    let few = c.requires.pages.few in (omega (arith, most, few, c.requires.ready.room.0), omega (arith, most, few, c.requires.ready.room.1))

pub slice_bounds-source-end : goal.slice_bounds-source-end
slice_bounds-source-end g c =
    let same = ap (λ xs. length xs) c.deref.ensures.value in
    sym (length-take-le (length c.args.pages.now) c.deref.result.now (omega (arith, same, c.place.ensures.long.0)))

pub slice_bounds-commit-end : goal.slice_bounds-commit-end
slice_bounds-commit-end g c =
    let same = ap (λ xs. length xs) c.deref-2.ensures.value in
    sym (length-take-le (length c.args.pages.now) c.deref-2.result.now (omega (arith, same, c.place.ensures.long.1)))

pub commit-requires-clause-given : goal.commit-requires-clause-given
commit-requires-clause-given g c =
    let n = c.args.self.now.journal.sizes.homes in
    let directory = c.args.self.now.directory in
    let list = c.args.pages.now in
    let on : IsDirectoryOn n directory = c.requires.ready.is_directory in
    let placed = are_ordered n directory on list c.requires.pages.inside c.requires.pages.distinct c.place.new.self.places.items c.place.new.self.homes.items c.place.ensures.order c.deref.result.now c.deref-2.result.now c.deref.ensures.value c.deref-2.ensures.value in
    record {
      rising = placed.rising;
      inside = λ j below. (let each = placed.each j below in (home_behind n directory on each.0 (get_or (take (length list) c.deref-2.result.now) j 0) each.2).1);
      few = omega (arith, placed.size, c.requires.pages.few);
      gives = λ i below. (
        omega (arith, below, placed.size, placed.count),
        c.requires.gives (index_at (take (length list) c.deref.result.now) i) (let each = placed.each i below in slice_get_within list (index_at (take (length list) c.deref.result.now) i) each.0 each.1),
      );
    }

pub returns : goal.returns
returns g c =
    let d = g.D.SectorDisk in
    let e = c.commit.ensures in
    let store = c.args.self.now in
    let m = store.journal.sizes.blocks in
    let n = store.journal.sizes.homes in
    let second = store.journal.second in
    let was = entries_of store.journal.map in
    let sectors = d.sector_count store.disk in
    let directory = store.directory in
    let list = c.args.pages.now in
    let given = g.S.PageSource.pages c.args.source.now in
    let old = d.content store.disk in
    let new = c.commit.new.disk in
    let places = take (length list) c.deref.result.now in
    let homes = take (length list) c.deref-2.result.now in
    let on : IsDirectoryOn n directory = c.requires.ready.is_directory in
    let placed : ArePlaced directory list places homes =
    are_ordered n directory on list c.requires.pages.inside c.requires.pages.distinct c.place.new.self.places.items c.place.new.self.homes.items c.place.ensures.order c.deref.result.now c.deref-2.result.now c.deref.ensures.value c.deref-2.ensures.value in
    let said : d.keeps_model new → AreSaid directory.pages (pool_standing m n old) directory.entries.items = λ k. (c.requires.ready.at_rest (e.kept k)).said in
    let Around : Image → Type 0 = Either n directory on list places homes placed m sectors given old in
    let room : HasCommitRoom m c.place.new.self = (omega (arith, c.place.ensures.room.0, c.requires.ready.room.0), omega (arith, c.place.ensures.room.1, c.requires.ready.room.1)) in
    record {
      ok = λ k ks files before after left changes. on_ok_weaker c.commit.result (λ settled image may. stands_changed n directory on list places homes placed m sectors given old (said k) image
          (settled.left image may) files before after (has_content d store.disk (StandsFor (files_in_pool m directory.pages n) sectors files before) left) changes)
          (e.ok k (let ks' : g.S.PageSource.keeps_model c.commit.new.source.source.now = search rules in ks'));
      synced = e.synced;
      ready = ready_again d store new c.commit.new.self c.place.new.self c.commit.result homes c.requires.ready e.is e.sizes e.size e.kept room e.second e.rest e.outside
          (none_of_directory n directory on list places homes placed) e.others;
      room = on_ok_weaker c.commit.result (λ enough few. enough (omega (arith, few, placed.size))) e.room;
      any_moment = λ k ks files before after left changes. weaker d store.disk new Around (StandsForEither (files_in_pool m directory.pages n) sectors files before after)
          (stands_either n directory on list places homes placed m sectors given old (said k) files before after (has_content d store.disk (StandsFor (files_in_pool m directory.pages n) sectors files before) left) changes)
          (e.any_moment k (let ks' : g.S.PageSource.keeps_model c.commit.new.source.source.now = search rules in ks'));
      blocks = λ k ks files before after left changes. in_blocks_weaker d m second was Around (StandsForEither (files_in_pool m directory.pages n) sectors files before after) store.disk new
          (stands_either n directory on list places homes placed m sectors given old (said k) files before after (has_content d store.disk (StandsFor (files_in_pool m directory.pages n) sectors files before) left) changes)
          (e.blocks k (let ks' : g.S.PageSource.keeps_model c.commit.new.source.source.now = search rules in ks'));
      homes = λ k ks. on_ok_weaker c.commit.result (λ settled image may. homes_put n directory on list places homes placed m sectors given old (said k) image (settled.left image may))
          (e.ok k (let ks' : g.S.PageSource.keeps_model c.commit.new.source.source.now = search rules in ks'));
      homes_moment = λ k ks. weaker d store.disk new Around (PutsHomesOrNone (files_in_pool m directory.pages n) sectors directory list given old)
          (homes_either n directory on list places homes placed m sectors given old (said k)) (e.any_moment k (let ks' : g.S.PageSource.keeps_model c.commit.new.source.source.now = search rules in ks'));
      source_homes = λ k is. (e.source k is).left;
      source = λ k is files before left. weaker d store.disk new (HomesStandAs (pool m n) sectors old) (StandsFor (files_in_pool m directory.pages n) sectors files before)
          (λ image kept. stands_kept m directory.pages n sectors old image kept files before (has_content d store.disk (StandsFor (files_in_pool m directory.pages n) sectors files before) left)) (e.source_moments k is);
      source_now = λ k is files before left image may. stands_kept m directory.pages n sectors old image ((e.source k is).left image may) files before
          (has_content d store.disk (StandsFor (files_in_pool m directory.pages n) sectors files before) left);
      ready_after_source = λ is. ready_with d store new c.commit.new.self c.place.new.self c.requires.ready e.is e.sizes e.size e.kept room
          (λ k. subst (λ b. IsPoolRest d m n b (entries_of c.commit.new.self.map) new) (sym (e.second_stays is))
          (subst (λ (map : SlotMap). IsPoolRest d m n second (entries_of map) new) (sym (e.map is)) (e.source k is).rest))
          (λ k. (e.source k is).outside) (λ k h below i small. (e.source k is).stands.each h i small);
      map_after_source = e.map;
      second_after_source = e.second_stays;
      files = search rules;
      sizes = e.sizes;
      size = e.size;
      kept = e.kept;
      single = e.single;
      asks = let a = e.asks.follows.1 in search rules;
      asks_device = asks_wider d (λ k. IsPoolGate k ⊎ IsPoolStaged m second was homes k) (IsPoolUsed m second was) store.disk new (λ k. ⊎_elim (λ gate. inl gate) (is_used m second was homes k)) e.asks_device;
      asks_staged = asks_wider d (λ k. IsPoolGate k ⊎ IsPoolStaged m second was homes k) (λ k. IsPoolGate k ⊎ IsPoolStaged m second was (homes_of_pages directory list) k) store.disk new
          (λ k. ⊎_elim (λ gate. inl gate) (λ staged. inr (staged_listed directory list places homes placed m second was k staged))) e.asks_device;
      asks_noted = on_ok_weaker c.commit.result (asks_wider d (λ k. IsPoolGate k ⊎ IsPoolNoted m second was (entries_of c.commit.new.self.map) homes k)
          (λ k. IsPoolGate k ⊎ IsPoolNoted m second was (entries_of c.commit.new.self.map) (homes_of_pages directory list) k) store.disk new
          (λ k. ⊎_elim (λ gate. inl gate) (λ noted. inr (noted_listed directory list places homes placed m second was (entries_of c.commit.new.self.map) k noted)))) e.noted;
      once = e.once;
      touches = e.touches;
      causes = search rules;
    }
