use Rattle.residency.proofs.{Asking.{asks_same}, Names.{inl, refl, ap, arith, slots_of}, Sparing.{past_unused}}
use Rattle.residency.proofs.evicting.evict.Goals as goal

pub send_home-requires-clause-fit : goal.send_home-requires-clause-fit
send_home-requires-clause-fit g c = c.requires.fit

pub returns-else-is_touched : goal.returns-else-is_touched
returns-else-is_touched g c =
    let swap = c.args.core.now.swap in
    let same = c.send_home.ensures.swap in
    record {
      free = c.send_home.ensures.free;
      fit = c.send_home.ensures.fit;
      gives = ((slots_of swap).total, past_unused swap, c.send_home.ensures.spares (slots_of swap).total);
      plain = c.send_home.ensures.plain;
      asked = inl same;
      swap = rw same c.requires.swap;
      asks = asks_same g.E.SectorDisk _ c.args.core.now.swap c.send_home.new.core.swap c.send_home.ensures.swap;
      one = (0, asks_same g.E.SectorDisk _ c.args.core.now.swap c.send_home.new.core.swap c.send_home.ensures.swap);
      device = rw same (record { size = refl; kept = λ kept. kept; later = omega arith });
      still = tt;
      fault = tt;
      cause = (ap (λ n. n.number) c.send_home.ensures.plain.refused, ap (λ s. g.E.SectorDisk.failures s.pages.disk) same);
    }
