use Rattle.file_store.proofs.{Names.{◌≡◌, ℕ, List, length, take, subst, arith, rules, on_ok_weaker, Image, weaker, changed, [], live_homes, none_are, one_journal, IsKept, StandsForEitherPages, StandsForPages}, Reading.{has_content}, Homes.{entry_page}, Images.{stands_kept}}
use Rattle.file_store.{proofs.{Rests.{ready_again, ready_with}, Changed.{are_homes, homes_front, homes_mapped, stands_changed, stands_either, homes_put, homes_either}}, specs.{Layout.{padded_page}, Standing.{StandsFor, standing}}}
use Rattle.file_store.specs.{Standing.{directory_entry}, Store.{entry_of, inside_at, files_of, PutsHomesOrNone}, Commit.{StandsForEither}}
use Rattle.file_store.proofs.store.FileStore.commit.Goals as goal

pub fill_homes-requires-clause-inside : goal.fill_homes-requires-clause-inside
fill_homes-requires-clause-inside g c = λ i p at.
    entry_page (g.D.SectorDisk.sector_count c.args.self.now.disk) c.args.self.now.directory c.requires.ready.sound p (c.requires.pages.inside i p at)

pub commit-requires-clause-given : goal.commit-requires-clause-given
commit-requires-clause-given g c =
    let sectors = g.D.SectorDisk.sector_count c.args.self.now.disk in
    let directory = c.args.self.now.directory in
    let long : length c.fill_homes.new.homes ≡ 1023 = c.fill_homes.ensures.long in
    let of_list = homes_front directory c.args.pages.now c.fill_homes.new.homes (let few = c.requires.pages.few in omega (arith, few, long)) c.fill_homes.ensures.homes
    (λ i p at. entry_page sectors directory c.requires.ready.sound p (c.requires.pages.inside i p at)) in
    record {
      homes_are = are_homes sectors directory (files_of c.args.self.now) c.args.pages.now (take (length c.args.pages.now) c.fill_homes.new.homes) c.requires.ready.sound c.requires.pages of_list;
      gives = λ i less. c.requires.gives i (omega (arith, less, of_list.size));
    }

pub returns : goal.returns
returns g c =
    let d = g.D.SectorDisk in
    let e = c.commit.ensures in
    let store = c.args.self.now in
    let sectors = d.sector_count store.disk in
    let directory = store.directory in
    let list = c.args.pages.now in
    let given = g.S.PageSource.pages c.args.source.now in
    let old = d.content store.disk in
    let homes = take (length list) c.fill_homes.new.homes in
    let sound = c.requires.ready.sound in
    let rest : d.keeps_model c.commit.new.disk → (f : ℕ) → entry_of directory f ≡ directory_entry old f = λ k. (c.requires.ready.at_rest (e.kept k)).directory in
    let long : length c.fill_homes.new.homes ≡ 1023 = c.fill_homes.ensures.long in
    let of_list = homes_front directory list c.fill_homes.new.homes (let few = c.requires.pages.few in omega (arith, few, long)) c.fill_homes.ensures.homes
    (λ i p at. entry_page sectors directory sound p (c.requires.pages.inside i p at)) in
    let are = are_homes sectors directory (files_of store) list homes sound c.requires.pages of_list in
    let Either : Image → Type 0 = IsKept one_journal sectors old (StandsForEitherPages one_journal (standing old) (changed (standing old) homes (λ i. padded_page (inside_at directory list i) (given i)))) in
    record {
      ok = λ k ks files before after left changes. on_ok_weaker c.commit.result (λ settled image may. stands_changed sectors directory list homes given old image sound (rest k) of_list
          (settled.left image may) files before after (has_content d store.disk (StandsFor sectors files before) left) changes) (e.ok k (let ks' : g.S.PageSource.keeps_model c.commit.new.source.source.now = search rules in ks'));
      synced = search rules;
      ready = ready_again d c.commit.result store c.commit.new.disk c.commit.new.self homes c.requires.ready e.size e.kept are e.live e.rest e.outside;
      any_moment = λ k ks files before after left changes. weaker d store.disk c.commit.new.disk Either (StandsForEither sectors files before after)
          (λ image kept. stands_either sectors directory list homes given old image sound (rest k) of_list files before after (has_content d store.disk (StandsFor sectors files before) left) changes kept)
          (e.any_moment k (let ks' : g.S.PageSource.keeps_model c.commit.new.source.source.now = search rules in ks'));
      homes = λ k ks. on_ok_weaker c.commit.result (λ settled image may. homes_put sectors directory list homes given old image sound (rest k) of_list (settled.left image may) are) (e.ok k (let ks' : g.S.PageSource.keeps_model c.commit.new.source.source.now = search rules in ks'));
      homes_moment = λ k ks. weaker d store.disk c.commit.new.disk Either (PutsHomesOrNone sectors directory list given old)
          (λ image kept. homes_either sectors directory list homes given old image sound (rest k) of_list are kept) (e.any_moment k (let ks' : g.S.PageSource.keeps_model c.commit.new.source.source.now = search rules in ks'));
      source_homes = λ k is. (e.source k is).left;
      source = λ k is files before left. weaker d store.disk c.commit.new.disk (IsKept one_journal sectors old (StandsForPages one_journal (standing old))) (StandsFor sectors files before)
          (λ image kept. stands_kept sectors old image kept files before (has_content d store.disk (StandsFor sectors files before) left)) (e.source_moments k is);
      source_now = λ k is files before left image may. stands_kept sectors old image ((e.source k is).left image may) files before (has_content d store.disk (StandsFor sectors files before) left);
      ready_after_source = λ is. ready_with d store c.commit.new.disk c.commit.new.self [] c.requires.ready e.size e.kept (none_are _) (e.not_live is) (λ k. (e.source k is).rest) (λ k. (e.source k is).outside);
      files = search rules;
      size = search rules;
      kept = search rules;
      asks = let a = e.asks.follows.1 in search rules;
      asks_device = search rules;
      once = subst (λ (homes : List ℕ). one_journal.AsksOnce d (live_homes store.journal) homes store.disk c.commit.new.disk) (homes_mapped directory list homes of_list) e.once;
      touches = search rules;
      causes = search rules;
    }
