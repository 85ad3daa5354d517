use Rattle.residency.{proofs.{Asking.{asks_same}, Names.{inl, inr, refl, arith, rules}, Sparing.{frees_none}}, specs.{Calls.{IsFreeFrame}, Picture.{picture_of}}}
use Rattle.residency.proofs.obtaining.obtain.Goals as goal

pub returns-in-Some : goal.returns-in-Some
returns-in-Some g c =
    let free : IsFreeFrame c.args.core.now.frames c.in-Some.n.0 = search rules in
    record {
      free = free;
      gives = search rules;
      fit = c.requires.fit;
      frees = frees_none (picture_of c.args.core.now) c.args.keep;
      shows = λ s shows. shows;
      rest = record { store = refl; roots = refl; regions = refl };
      idle = λ some. refl;
      needed = inr refl;
      clock = record { stands = λ some. refl; turns = λ full. absurd (full c.in-Some.n.0 free.inside free.free); looks = omega arith };
      aged = λ full. absurd (full c.in-Some.n.0 free.inside free.free);
      asked = inl refl;
      uses = record { swap = c.requires.swap; device = record { size = refl; kept = λ kept. kept; later = omega arith }; one = (0, asks_same g.E.SectorDisk _ c.args.core.now.swap c.args.core.now.swap refl) };
      full = tt;
      still = tt;
      tried = tt;
      refused = record { refuses = tt; short = tt; cause = (refl, refl) };
    }
