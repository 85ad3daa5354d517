use Rattle.upgrades.proofs.Found.{finds, finds_none}
use Rattle.upgrades.proofs.finding.find.Goals as goal

pub returns-in_err-version : goal.returns-in_err-version
returns-in_err-version g c =
    finds_none g.D.SectorDisk c.in_err-version.field-0.0 c.from_residual.result c.args.disk.now c.read_version.new.disk c.from_residual.ensures.1 c.in_err-version.ensures.looks c.read_version.ensures.once

pub returns : goal.returns
returns g c =
    let f = c.find.ensures in
    finds g.D.SectorDisk c.args.disk.now c.read_version.new.disk c.find.new.disk c.in_ok-version.version c.read_version.ensures.looks.run c.in_ok-version.ensures.looks.calm c.read_version.ensures.once
    c.in_ok-version.ensures.version c.find.result f.looks f.once f.found f.bad_layout f.bad_journal
