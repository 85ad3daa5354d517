use Rattle.sync_journal.proofs.Names.{◌≡◌, ◌+◌, length, sym, ◌∙◌, rules, on_ok_weaker, part_of, joined-same, joined_parts}
use Rattle.sync_journal.proofs.pages.read_page.Goals as goal

pub returns : goal.returns
returns g c =
    let page = c.read_page.new.to in
    let long : length page ≡ 4096 = search rules in
    record {
      read = λ keeps. on_ok_weaker c.read_page.result
          (λ gives. sym (joined_parts page long) ∙ joined-same 8 (part_of page) (λ i. g.D.SectorDisk.content c.args.disk.now (c.args.first + i)) gives)
          (c.read_page.ensures.gives keeps);
      reads = search rules;
      asks = search rules;
    }
