use Rattle.std.proofs.{Common.{[], ◌++◌, None}, KnownBytes.{Consumes-trans, Consumes-nil}}
use Rattle.runner.{specs.declared.engine.RunEnd.TheVariants.{ReadFault}, proofs.{Progress.{HoldsOpenLine-none, GoesOn-trans}, Ends.{ends_after, ends_alike, stops_here}}}
use Rattle.runner.proofs.engine.run_turns.Goals as goal

pub returns-in-Some : goal.returns-in-Some
returns-in-Some g c =
    let before = c.loop-i.invariant.reads in
    let now = c.in-Some.ensures.reads in
    record {
      sound = c.in-Some.ensures.sound;
      reads = (
        before.0 ++ now.0,
        Consumes-trans _ _ _ before.0 now.0 before.1 now.1,
        ends_alike g.D.SectorDisk g.E.SectorDisk c.in-Some.end _ _ _ _ _ _ _ _ _ (ends_after g.D.SectorDisk g.E.SectorDisk c.in-Some.end _ _ _ _ before.0 now.0 before.2 now.2) [] HoldsOpenLine-none,
      );
    }

pub loop-i-preserved : goal.loop-i-preserved
loop-i-preserved g c =
    let before = c.loop-i.invariant.reads in
    let now = c.in-None.ensures.reads in
    record {
      empty = c.in-None.ensures.empty;
      sound = c.in-None.ensures.sound;
      reads = (before.0 ++ now.0, Consumes-trans _ _ _ before.0 now.0 before.1 now.1, GoesOn-trans g.D.SectorDisk g.E.SectorDisk _ _ _ before.0 now.0 before.2 now.2);
    }

pub returns : goal.returns
returns g c =
    let before = c.loop-i.invariant.reads in
    record {
      sound = c.loop-i.invariant.sound;
      reads = (
        before.0 ++ [],
        Consumes-trans _ _ _ before.0 [] before.1 (Consumes-nil _),
        ends_alike g.D.SectorDisk g.E.SectorDisk ReadFault None _ _ _ _ _ _ _ _
            (ends_after g.D.SectorDisk g.E.SectorDisk ReadFault None _ _ _ before.0 [] before.2 (stops_here g.D.SectorDisk g.E.SectorDisk None _ _ _ c.loop-i.output _ c.loop-i.invariant.empty)) [] HoldsOpenLine-none,
      );
    }
