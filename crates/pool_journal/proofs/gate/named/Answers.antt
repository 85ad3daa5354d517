use Rattle.std.proofs.Common.{◌∙◌, ap, rules}
use Rattle.disk_model.specs.Moments.{Nothing}
use Rattle.sync_journal.{proofs.Runs.{no_write}, specs.Gate.{is_open_sector}}
use Rattle.pool_journal.proofs.gate.named.Goals as goal

pub returns-in_err-read-clause-reads : goal.returns-in_err-read-clause-reads
returns-in_err-read-clause-reads g c =
    let r = c.read.ensures in
    let run = no_write g.D.SectorDisk Nothing c.args.disk.now c.read.new.self r.size r.kept r.cause.later r.same r.unsynced r.time in
    search rules

pub returns-clause-reads : goal.returns-clause-reads
returns-clause-reads g c =
    let r = c.in_ok-read.ensures in
    record { run = no_write g.D.SectorDisk Nothing c.args.disk.now c.read.new.self r.size r.kept r.cause.later r.same r.unsynced r.time; cause = record { later = r.cause.later; failed = λ is. cc; calm = r.cause.calm } }

pub returns-clause-named : goal.returns-clause-named
returns-clause-named g c = λ keeps. c.is_open.ensures ∙ ap is_open_sector (c.in_ok-read.ensures.gives keeps)
