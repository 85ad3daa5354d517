use Rattle.sync_journal.{proofs.{Maps.{one_sector}, Names.{ap, sym, length, ◌≡◌, ◌∙◌, arith, rules, length-take-le, once_named, post_of}, OldJournals.{reads_few, reads_map, reads_front}}, specs.{Layout.{sizes_1, home_count_in, IsMapIn}, Standing.{map_in}}}
use Rattle.sync_journal.proofs.old_journal.read_sector_map.Goals as goal

pub returns : goal.returns
returns g c =
    let content = g.D.SectorDisk.content c.args.disk.now in
    let e = c.in_ok-read.ensures in
    let count = c.home_count.ensures ∙ ap (λ n. home_count_in sizes_1 n) (c.sectors.ensures ∙ e.size) in
    let room = length-take-le 127 c.args.homes.now (omega (arith, c.told-homes)) in
    let long : length c.read_homes-found.new.homes ≡ 127 = c.read_homes-found.auto.homes ∙ room in
    let few = reads_few 127 _ c.home_count.result c.read.new.to c.read_homes-found.new.homes c.read_homes-found.result room c.read_homes-found.ensures in
    record {
      few = few;
      names = λ keeps. reads_front 127 (home_count_in sizes_1 (g.D.SectorDisk.sector_count c.args.disk.now)) (map_in sizes_1 content) c.read_homes-found.new.homes (post_of 0 127 c.args.homes.now) c.read_homes-found.result long few
          (reads_map 127 _ c.home_count.result (home_count_in sizes_1 (g.D.SectorDisk.sector_count c.args.disk.now)) (map_in sizes_1 content) c.read.new.to c.read_homes-found.new.homes c.read_homes-found.result
          room count (e.gives keeps ∙ sym (one_sector content)) c.read_homes-found.ensures);
      reads = search rules;
      once = once_named (IsMapIn sizes_1) (λ k. k ≡ 3) _ _ (λ k at. (omega (arith, at), omega (arith, at))) e.asks;
    }
