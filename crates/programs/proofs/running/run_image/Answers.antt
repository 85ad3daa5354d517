use Rattle.{std.proofs.Common.{inl}, disk_model.specs.contracts.file_disk.FileDiskSectorDisk.TheImpl.{ghosts}, runner.specs.Trace.{streams}, programs.{proofs.Outcomes.{comes_at}, specs.Running.{config_of}}}
use Rattle.programs.proofs.running.run_image.Goals as goal

pub returns-clause-ends : goal.returns-clause-ends
returns-clause-ends g c =
    let devices = c.in_ok-devices.devices in
    let store = ghosts g.row.C g.C.FileContents g.C.FileContents-dict g.C.Destruct-dict in
    let swap = ghosts g.row.K g.K.FileContents g.K.FileContents-dict g.K.Destruct-dict in
    let before = streams (g.I.Read.remaining c.args.reader.now) (g.O.Write.contents c.args.writer.now) in
    let after = streams (g.I.Read.remaining c.run_over.new.reader) (g.O.Write.contents c.run_over.new.writer) in
    inl (record {
      words = c.in_ok-words.words;
      store = devices.store;
      swap = devices.swap;
      fresh = c.in_ok-devices.ensures.store;
      swap_fresh = c.in_ok-devices.ensures.swap;
      comes = comes_at store swap (λ d. d.settled) c.config_of.result (config_of c.in_ok-words.words) devices.store devices.swap before after c.run_over.result c.config_of.ensures c.run_over.ensures;
    })
