use Rattle.{std.proofs.Common.{subst}, looking.specs.Session.{TakesLine}}
use Rattle.looking.proofs.viewer.Viewer.take_open_line.Goals as goal

pub returns-clause-takes : goal.returns-clause-takes
returns-clause-takes g c =
    subst (λ line. TakesLine g.D.SectorDisk g.E.SectorDisk c.args.machine.now line c.take_line-taken.new.machine) c.as_slice.ensures (record { aside = c.take_line-taken.ensures.aside; answers = c.take_line-taken.ensures.answers })
