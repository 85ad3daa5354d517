use Rattle.{std.proofs.Common.{◌≡◌, ◌<◌, ◌+◌, ◌*◌, ℕ, List, [], ◌∷◌, refl, sym, subst, ◌∙◌, Some, rules}, disk_model.{proofs.{Moments.{asks_named}, Naming.{once_named}}, specs.{Note.{Note}, Sectors.{part_of}, Stop.{ChangesPage, IsOfPage}}}}
use Rattle.swap.{proofs.Written.{rows_make, written_lost, written_new, noted-here}, specs.Written.{written_in, IsAsWritten}}
use Rattle.swap.proofs.pages.Pages.put.Goals as goal

abbrev lost : ℕ → Note
lost n = (n ∷ [], [], [])

abbrev wrote : ℕ → List (List ℕ) → Note
wrote n rows = (n ∷ [], rows, [])

pub returns-in_err-write_page : goal.returns-in_err-write_page
returns-in_err-write_page g c =
    let w = rw c.from-2.ensures at c.write_page.ensures in
    record {
      written = search rules;
      others = search rules;
      sectors = w.others;
      keeps = record {
        asks = asks_named g.D.SectorDisk _ _ c.args.self.now.disk c.write_page.new.self (λ k inside. inside) w.asks;
        once = once_named _ _ _ _ (λ k inside. inside) w.asks;
        as_written = rw c.note.ensures (written_lost g.D.SectorDisk c.args.n c.args.self.now.disk c.write_page.new.self (lost c.from.result) c.args.self.now.written.notes
            c.from.ensures refl c.requires.as_written w.kept w.others);
        kept = search rules;
        size = search rules;
        cause = search rules;
      };
    }

pub returns : goal.returns
returns g c =
    let rows = c.parts.result.now in
    let made = rows_make rows c.args.page.now c.parts.ensures.len c.told-page c.parts.ensures.each in
    let w = rw c.from-2.ensures at c.write_page.ensures in
    let done = rw c.from-2.ensures at c.in_ok-write_page.ensures in
    record {
      written = rw c.note-2.ensures (noted-here (wrote c.from-3.result rows) c.note.new.self.notes c.args.n c.from-3.ensures ∙ made);
      others = search rules;
      sectors = w.others;
      keeps = record {
        asks = asks_named g.D.SectorDisk _ _ c.args.self.now.disk c.write_page.new.self (λ k inside. inside) w.asks;
        once = once_named _ _ _ _ (λ k inside. inside) w.asks;
        as_written = rw (c.note-2.ensures, c.note.ensures) (written_new g.D.SectorDisk c.args.n c.write_page.new.self (lost c.from.result) (wrote c.from-3.result rows) c.args.self.now.written.notes
            c.args.page.now c.from-3.ensures made c.told-page
            (written_lost g.D.SectorDisk c.args.n c.args.self.now.disk c.write_page.new.self (lost c.from.result) c.args.self.now.written.notes c.from.ensures refl c.requires.as_written w.kept w.others)
            done.written);
        kept = search rules;
        size = search rules;
        cause = search rules;
      };
    }
