use Rattle.std.proofs.{Common.{suc, [], refl, arith}, KnownBytes.{Consumes-nil}}
use Rattle.serving.proofs.serving.serve.Goals as goal

pub loop-i-preserved : goal.loop-i-preserved
loop-i-preserved g c = let turns = c.loop-i.invariant.turns in record { sound = c.serve_one.ensures.sound; turns = (suc turns.0, (_, _, turns.1, c.in-None.ensures.serves)) }

pub returns-in-Some-clause-serves : goal.returns-in-Some-clause-serves
returns-in-Some-clause-serves g c = let turns = c.loop-i.invariant.turns in record { count = turns.0; mid = c.loop-i.machine; between = _; served = turns.1; stops = c.in-Some.ensures.stops }

pub returns-clause-serves : goal.returns-clause-serves
returns-clause-serves g c =
    let turns = c.loop-i.invariant.turns in
    record {
      count = turns.0;
      mid = c.loop-i.machine;
      between = _;
      served = turns.1;
      stops = record { same = refl; unwritten = refl {a = g.W.Write.contents c.loop-i.writer}; read = ([], omega arith, Consumes-nil _) };
    }
