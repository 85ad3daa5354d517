use Rattle.sync_journal.{proofs.{Asking.{staged_asks}, Maps.{map_page}, Names.{◌≡◌, ◌+◌, length, ⊎_elim, ◌∙◌, arith, rules, once_wider}, Runs.{one_more, of_more}}, specs.Layout.{map_sector, body_sector, IsPageSector, IsBodySector, IsJournalSector, IsStaged}}
use Rattle.sync_journal.proofs.stage.fill_journal.Goals as goal

pub returns-in_err-write_pages : goal.returns-in_err-write_pages
returns-in_err-write_pages g c =
    let once = once_wider (IsBodySector (length c.args.homes.now)) (IsStaged (length c.args.homes.now)) _ _ (λ k inside. (omega (arith, inside.0), inside.1)) c.write_pages.ensures.once in
    search rules

pub returns-in_err-write_page : goal.returns-in_err-write_page
returns-in_err-write_page g c =
    let d = g.D.SectorDisk in
    let once = staged_asks (d.asked c.args.disk.now) (d.asked c.write_pages.new.disk) (d.asked c.write_page.new.disk) (length c.args.homes.now) c.write_pages.ensures.once c.write_page.ensures.asks in
    let run = one_more d IsJournalSector c.args.disk.now c.write_pages.new.disk c.write_page.new.disk c.write_pages.ensures.run
    (of_more d (IsPageSector map_sector) IsJournalSector c.write_pages.new.disk c.write_page.new.disk (λ k inside. (inside.0, omega (arith, inside.1))) c.write_page.ensures.run) in
    search rules

pub returns : goal.returns
returns g c =
    let d = g.D.SectorDisk in
    let long : length c.write_map.new.map ≡ 4096 = search rules in
    record {
      fills = record {
        body = λ keeps gives j i below_j below_i.
            ⊎_elim (λ inside. absurd (omega (arith, inside.1))) (λ e. e) ((c.write_page.ensures.run.touches keeps).content (body_sector j + i))
            ∙ c.in_ok-write_pages.ensures.body (c.write_page.ensures.run.kept keeps) gives j i below_j below_i;
        once = staged_asks (d.asked c.args.disk.now) (d.asked c.write_pages.new.disk) (d.asked c.write_page.new.disk) (length c.args.homes.now) c.write_pages.ensures.once c.write_page.ensures.asks;
        takes = record {
          run = one_more d IsJournalSector c.args.disk.now c.write_pages.new.disk c.write_page.new.disk c.write_pages.ensures.run
              (of_more d (IsPageSector map_sector) IsJournalSector c.write_pages.new.disk c.write_page.new.disk (λ k inside. (inside.0, omega (arith, inside.1))) c.write_page.ensures.run);
          asks = search rules;
          causes = search rules;
        };
      };
      map = λ keeps. map_page (d.content c.write_page.new.disk) c.write_map.new.map long (c.in_ok-write_page.ensures.written keeps) ∙ c.write_map.ensures;
    }
