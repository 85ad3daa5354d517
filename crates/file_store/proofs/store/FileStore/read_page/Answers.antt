use Rattle.file_store.proofs.Names.{◌<◌, sym, ap, subst, ◌∙◌, rules, home_count, joined, asks_named}
use Rattle.file_store.{specs.{Standing.{standing}, Store.{entry_of, IsSectorOf}}, proofs.{Asking.{page_once}, Homes.{entry_page, home_inside, home_of-entry}, Images.{page_read}}}
use Rattle.file_store.proofs.store.FileStore.read_page.Goals as goal

pub home_of-requires : goal.home_of-requires
home_of-requires g c = entry_page (g.D.SectorDisk.sector_count c.args.self.now.disk) c.args.self.now.directory c.requires.ready.sound c.args.page c.requires.inside

pub read-requires-clause-home : goal.read-requires-clause-home
read-requires-clause-home g c =
    let sectors = g.D.SectorDisk.sector_count c.args.self.now.disk in
    let directory = c.args.self.now.directory in
    let at = entry_page sectors directory c.requires.ready.sound c.args.page c.requires.inside in
    subst (λ h. h < home_count sectors) (sym (c.home_of.ensures ∙ home_of-entry directory c.args.page at.entry at.is))
    (home_inside sectors directory c.requires.ready.sound c.args.page at)

pub returns-in_err-read : goal.returns-in_err-read
returns-in_err-read g c = record {
  page = search rules;
  ready = search rules;
  files = search rules;
  journal = search rules;
  size = search rules;
  kept = search rules;
  touches = search rules;
  asks = asks_named g.D.SectorDisk (IsSectorOf c.args.self.now c.args.page) _ c.args.self.now.disk c.read.new.disk (λ k at. at)
      (page_once g.D.SectorDisk c.args.self.now c.args.page c.home_of.result c.read.new.disk c.home_of.ensures c.read.ensures.asks);
  once = page_once g.D.SectorDisk c.args.self.now c.args.page c.home_of.result c.read.new.disk c.home_of.ensures c.read.ensures.asks;
  cause = search rules;
}

pub returns : goal.returns
returns g c = record {
  page = λ k.
      let image = g.D.SectorDisk.content c.args.self.now.disk in
      let directory = c.args.self.now.directory in
      let rest = c.requires.ready.at_rest (c.in_ok-read.ensures.kept k) in
      let in_directory = ap (entry_of directory) (sym c.from.ensures) ∙ sym c.entry.ensures.entry ∙ c.in-Some.is in
      let home = c.home_of.ensures ∙ home_of-entry directory c.args.page c.in-Some.entry in_directory in
      page_read image c.args.page.file c.args.page.page c.in-Some.entry c.bytes_inside.result c.read.new.to c.trim.new.page
      (sym (rest.directory c.args.page.file) ∙ in_directory) c.bytes_inside.ensures.inside
      (c.in_ok-read.ensures.page k ∙ ap (λ h. joined (standing image h) 8) home) c.trim.ensures;
  ready = search rules;
  files = search rules;
  journal = search rules;
  size = search rules;
  kept = search rules;
  touches = search rules;
  asks = asks_named g.D.SectorDisk (IsSectorOf c.args.self.now c.args.page) _ c.args.self.now.disk c.read.new.disk (λ k at. at)
      (page_once g.D.SectorDisk c.args.self.now c.args.page c.home_of.result c.read.new.disk c.home_of.ensures c.read.ensures.asks);
  once = page_once g.D.SectorDisk c.args.self.now c.args.page c.home_of.result c.read.new.disk c.home_of.ensures c.read.ensures.asks;
  cause = search rules;
}
