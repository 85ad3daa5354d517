use Rattle.{std.proofs.Common.{[], ◌∷◌, ◌++◌, take, refl, sym, subst}, runner.{proofs.{Bytes.{read_line}, Progress.{goes_nowhere, goes_on_by_bytes, GoesOn-trans, breaks_after, breaks_before}}, specs.Progress.{GoesOn, BreaksOff}}}
use Rattle.runner.proofs.engine.run_piece.Goals as goal

pub loop-at-init : goal.loop-at-init
loop-at-init g c = record { going = c.requires; reads = ([], refl, goes_nowhere g.D.SectorDisk g.E.SectorDisk _) }

pub loop-at-preserved : goal.loop-at-preserved
loop-at-preserved g c =
    let read = c.loop-at.invariant.reads in
    let rest = c.loop-at.rest.now in
    let line = take c.in-Some.at rest ++ 10 ∷ [] in
    let newline = c.in-Some.ensures.newline in
    record {
      going = record { sound = c.run_line.ensures.sound; room = c.in-Ok.ensures.room };
      reads = (
        read.0 ++ line,
        read_line c.args.piece.now read.0 rest c.in-Some.at read.1 newline.0 newline.1,
        GoesOn-trans g.D.SectorDisk g.E.SectorDisk _ _ _ read.0 line read.2 c.in-Ok.ensures.reads,
      );
    }

pub returns-in-Err : goal.returns-in-Err
returns-in-Err g c =
    let read = c.loop-at.invariant.reads in
    let rest = c.loop-at.rest.now in
    let line = take c.in-Some.at rest ++ 10 ∷ [] in
    let newline = c.in-Some.ensures.newline in
    record {
      sound = c.run_line.ensures.sound;
      reads = subst (BreaksOff g.D.SectorDisk g.E.SectorDisk _ _) (sym (read_line c.args.piece.now read.0 rest c.in-Some.at read.1 newline.0 newline.1))
          (breaks_before g.D.SectorDisk g.E.SectorDisk _ _ _ _ (breaks_after g.D.SectorDisk g.E.SectorDisk _ _ _ read.0 line read.2 c.in-Err.ensures.reads));
      room = tt;
    }

pub returns : goal.returns
returns g c =
    let read = c.loop-at.invariant.reads in
    let rest = c.loop-at.rest.now in
    record {
      sound = c.loop-at.invariant.going.sound;
      reads = subst (GoesOn g.D.SectorDisk g.E.SectorDisk _ _) (sym read.1)
          (GoesOn-trans g.D.SectorDisk g.E.SectorDisk _ _ _ read.0 rest read.2 (goes_on_by_bytes g.D.SectorDisk g.E.SectorDisk _ _ _ _ rest _ c.in_default.ensures.none c.extend.ensures));
      room = c.loop-at.invariant.going.room;
    }
