use Rattle.sync_journal.proofs.Names.{OnOk, ap, sym, subst, ◌≡◌, ◌+◌, ◌∙◌, rules, joined, Names, joined-same}
use Rattle.sync_journal.{specs.{Layout.{IsPageSector}, OldJournal.{StandsAsFound}, OldLayouts.{old_standing}}, proofs.{OldJournals.{stands_there}, Sectors.{same_image}}}
use Rattle.sync_journal.proofs.old_journal.OldJournal.read.Goals as goal

pub returns : goal.returns
returns g c =
    let journal = c.args.self.now in
    let content = g.D.SectorDisk.content c.args.disk.now in
    record {
      page = λ keeps. (let found = c.requires.found (c.read_page.ensures.kept keeps) in let same : joined (λ i. content (c.stands_at.result + i)) 8 ≡ joined (old_standing journal.version content c.args.home) 8 = joined-same 8 (λ i. content (c.stands_at.result + i)) (old_standing journal.version content c.args.home) (λ i lt. ap (λ first. content (first + i)) c.stands_at.ensures.at ∙ stands_there journal content c.args.home i found) in subst (λ bytes. OnOk c.read_page.result (c.read_page.new.to ≡ bytes)) same (c.read_page.ensures.read keeps));
      rest = λ keeps. subst (StandsAsFound journal) (sym (same_image g.D.SectorDisk c.args.disk.now c.read_page.new.disk (c.read_page.ensures.touches keeps))) (c.requires.found (c.read_page.ensures.kept keeps));
      reads = search rules;
      asks = subst (λ first. Names (IsPageSector first) (g.D.SectorDisk.asked c.args.disk.now) (g.D.SectorDisk.asked c.read_page.new.disk)) c.stands_at.ensures.at c.read_page.ensures.asks;
    }
