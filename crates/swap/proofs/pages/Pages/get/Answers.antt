use Rattle.{std.proofs.{Common.{◌≡◌, ◌+◌, ◌*◌, ◌<◌, ℕ, subst, rules}, lemmas.Result.{on_ok_weaker}}, disk_model.{proofs.{Moments.{asks_named}, Naming.{once_named}}, specs.{Sectors.{part_of}, Stop.{IsOfPage}}}}
use Rattle.swap.proofs.Written.{gives_written}
use Rattle.swap.proofs.pages.Pages.get.Goals as goal

pub returns : goal.returns
returns g c =
    let r = rw c.from.ensures at c.read_page.ensures in
    record {
      gives = λ k. on_ok_weaker c.read_page.result
          (gives_written g.D.SectorDisk c.args.n c.args.self.now.disk c.args.self.now.written.notes c.read_page.new.to c.read_page.array_long c.requires.as_written (r.kept k)) (r.gives k);
      same = search rules;
      unchanged = search rules;
      keeps = record {
        asks = asks_named g.D.SectorDisk _ _ c.args.self.now.disk c.read_page.new.self (λ k inside. inside) r.asks;
        once = once_named _ _ _ _ (λ k inside. inside) r.asks;
        as_written = search rules;
        kept = search rules;
        size = search rules;
        cause = search rules;
      };
    }
