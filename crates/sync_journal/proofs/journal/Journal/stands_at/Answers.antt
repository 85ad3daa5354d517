use Rattle.sync_journal.{proofs.Names.{ap, inl, ◌∙◌, arith, length, length-take, Option, ℕ}, specs.{Map.{home_rank}, Standing.{place_or_home}}}
use Rattle.sync_journal.proofs.journal.Journal.stands_at.Goals as goal

pub returns-in-Some : goal.returns-in-Some
returns-in-Some c =
    let e = c.in-Some.ensures in
    record {
      at = ap (λ (place : Option ℕ). place_or_home c.args.home place) (e.at ∙ ap (λ homes. home_rank homes c.args.home) c.live.ensures);
      inside = inl (let below = e.below in omega (arith, below, ap length c.live.ensures, length-take c.args.self.now.count c.args.self.now.homes));
    }
