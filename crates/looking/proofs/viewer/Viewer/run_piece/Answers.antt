use Rattle.{std.proofs.Common.{[], ◌∷◌, ◌++◌, take, refl}, runner.proofs.Bytes.{read_line}, looking.proofs.Session.{takes_none, takes_bytes, takes_on, takes_some, takes_whole}}
use Rattle.looking.proofs.viewer.Viewer.run_piece.Goals as goal

pub loop-at-init : goal.loop-at-init
loop-at-init g c = record { sound = c.requires; takes = ([], refl, takes_none g.D.SectorDisk g.E.SectorDisk _ _) }

pub loop-at-preserved : goal.loop-at-preserved
loop-at-preserved g c =
    let read = c.loop-at.invariant.takes in
    let rest = c.loop-at.rest.now in
    let line = take c.in-Some.at rest ++ 10 ∷ [] in
    let newline = c.in-Some.ensures.newline in
    record {
      sound = c.end_line.ensures.sound;
      takes = (
        read.0 ++ line,
        read_line c.args.piece.now read.0 rest c.in-Some.at read.1 newline.0 newline.1,
        takes_on g.D.SectorDisk g.E.SectorDisk _ _ _ _ read.0 _ line _ read.2 c.end_line.ensures.takes,
      );
    }

pub returns-in-Err-clause-takes : goal.returns-in-Err-clause-takes
returns-in-Err-clause-takes g c =
    let read = c.loop-at.invariant.takes in
    let rest = c.loop-at.rest.now in
    let line = take c.in-Some.at rest ++ 10 ∷ [] in
    let newline = c.in-Some.ensures.newline in
    takes_some g.D.SectorDisk g.E.SectorDisk _ _ _ (read.0 ++ line) _ _ c.args.piece.now (read_line c.args.piece.now read.0 rest c.in-Some.at read.1 newline.0 newline.1)
    (takes_on g.D.SectorDisk g.E.SectorDisk _ _ _ _ read.0 _ line _ read.2 c.end_line.ensures.takes)

pub returns-clause-takes : goal.returns-clause-takes
returns-clause-takes g c =
    let read = c.loop-at.invariant.takes in
    let rest = c.loop-at.rest.now in
    takes_whole g.D.SectorDisk g.E.SectorDisk _ _ _ read.0 rest _ c.args.piece.now read.1
    (takes_on g.D.SectorDisk g.E.SectorDisk _ _ _ _ read.0 _ rest _ read.2 (takes_bytes g.D.SectorDisk g.E.SectorDisk _ _ rest _ c.in_default.ensures.none c.extend.ensures))
