use Rattle.sync_journal.{proofs.{Names.{ap, sym, joined, arith, rules, ◌+◌, ◌∙◌, once_named}, OldJournals.{count_under, reads_few, reads_map}}, specs.{Layout.{home_count_in, IsMapIn, IsPageSector}, OldLayouts.{sizes_under}}}
use Rattle.sync_journal.proofs.old_journal.read_page_map.Goals as goal

pub returns : goal.returns
returns g c =
    let sizes = sizes_under c.args.version c.args.is_open in
    let content = g.D.SectorDisk.content c.args.disk.now in
    let limit = c.home_count.ensures ∙ sym (count_under c.args.version c.args.is_open _) ∙ ap (λ n. home_count_in sizes n) (c.sectors.ensures ∙ c.read_page.ensures.size) in
    let room = c.told-homes ∙ sym c.requires.most in
    record {
      few = reads_few sizes.most _ c.home_count.result c.read_page.new.to c.read_homes-found.new.homes c.read_homes-found.result room c.read_homes-found.ensures;
      names = λ keeps. (let page = c.in_ok-read_page.ensures.read keeps ∙ ap (λ n. joined (λ i. content (n + i)) 8) c.map_of.ensures.is ∙ ap (λ n. joined (λ i. content (sizes.map + i)) n) (sym c.requires.paged) in
          reads_map sizes.most _ c.home_count.result (home_count_in sizes (g.D.SectorDisk.sector_count c.args.disk.now)) _ c.read_page.new.to c.read_homes-found.new.homes c.read_homes-found.result room limit page c.read_homes-found.ensures);
      reads = search rules;
      once = once_named (IsMapIn sizes) (IsPageSector c.map_of.result) _ _ (λ k at. (omega (arith, at, c.map_of.ensures.is), omega (arith, at, c.map_of.ensures.is, c.requires.paged))) c.read_page.ensures.asks;
    }
