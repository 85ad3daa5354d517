use Rattle.{std.proofs.Common.{inl}, disk_model.specs.contracts.file_disk.FileDiskSectorDisk.TheImpl.{ghosts}, runner.specs.Trace.{streams}, serving.proofs.Outcomes.{comes_to}}
use Rattle.serving.proofs.program.serve_image.Goals as goal

pub returns-clause-ends : goal.returns-clause-ends
returns-clause-ends g c =
    let store = ghosts g.row.C g.C.FileContents g.C.FileContents-dict g.C.Destruct-dict in
    let swap = ghosts g.row.K g.K.FileContents g.K.FileContents-dict g.K.Destruct-dict in
    let words = c.in_ok-words.words in
    let before = streams (g.I.Read.remaining c.args.reader.now) (g.O.Write.contents c.args.writer.now) in
    let after = streams (g.I.Read.remaining c.serve-end.new.reader) (g.O.Write.contents c.serve-end.new.writer) in
    inl (
      words,
      comes_to store swap (λ d. d.settled) words before after c.serve-end.result c.serve-end.new.machine c.status_of-outcome.result
          (record { old = c.in_ok-machine.machine; boots = c.in_ok-machine.ensures.boots; room = c.in_ok-machine.ensures.room; serves = c.serve-end.ensures.serves })
          c.status_of-outcome.ensures.status c.status_of-outcome.ensures.told,
    )
