use Rattle.std.proofs.Common.{◌∙◌, refl, sym, ap, rules}
use Rattle.disk_model.{proofs.Moments.{asks_named, stays}, specs.Moments.{Nothing}}
use Rattle.pool_journal.specs.Maps.{entries_of}
use Rattle.pool_store.{proofs.{PageReads.{page_stood}, StoreReads.{homes_few, still_ready, page_named, page_given}}, specs.Store.{info_by, IsSectorOf}}
use Rattle.pool_store.proofs.store.PoolStore.read_page.Goals as goal

pub home_of-requires-clause-on : goal.home_of-requires-clause-on
home_of-requires-clause-on g c =
    (c.args.self.now.journal.sizes.homes, homes_few g.D.SectorDisk c.args.self.now.journal.sizes c.args.self.now.disk c.requires.ready.pool, c.requires.ready.is_directory)

pub read-requires-clause-home : goal.read-requires-clause-home
read-requires-clause-home g c = c.home_of.ensures.inside c.args.self.now.journal.sizes.homes c.requires.ready.is_directory

pub returns-in_err-read : goal.returns-in_err-read
returns-in_err-read g c =
    let d = g.D.SectorDisk in
    let store = c.args.self.now in
    let named = page_named d store c.args.page c.home_of.result c.read.new.disk c.home_of.ensures.home c.read.ensures.asks in
    record {
      page = search rules;
      ready = still_ready d store c.read.new.disk c.read.ensures.reads.run c.requires.ready;
      same = (refl, refl);
      size = search rules;
      kept = search rules;
      touches = search rules;
      asks = asks_named d (IsSectorOf store c.args.page) _ store.disk c.read.new.disk (λ k at. at) named;
      once = named;
      cause = search rules;
    }

pub returns : goal.returns
returns g c =
    let d = g.D.SectorDisk in
    let store = c.args.self.now in
    let r = c.in_ok-read.ensures in
    let named = page_named d store c.args.page c.home_of.result c.read.new.disk c.home_of.ensures.home r.asks in
    record {
      page = λ keeps.
          let before = r.reads.run.kept keeps in
          page_given d store c.args.page c.in-Some.info c.home_of.result c.bytes_inside.result c.read.new.to c.trim.new.page c.requires.ready before
          (ap (info_by store.directory) (sym c.from.ensures) ∙ sym c.info.ensures.info ∙ c.in-Some.is) c.home_of.ensures.home c.bytes_inside.ensures.inside
          (page_stood d store.disk store.disk (stays d Nothing store.disk) store.journal.sizes.blocks store.journal.sizes.homes store.journal.second (entries_of store.journal.map)
          c.home_of.result c.read.new.to (c.requires.ready.at_rest before).rest (r.read keeps))
          c.trim.ensures;
      ready = still_ready d store c.read.new.disk r.reads.run c.requires.ready;
      same = (refl, refl);
      size = search rules;
      kept = search rules;
      touches = search rules;
      asks = asks_named d (IsSectorOf store c.args.page) _ store.disk c.read.new.disk (λ k at. at) named;
      once = named;
      cause = search rules;
    }
