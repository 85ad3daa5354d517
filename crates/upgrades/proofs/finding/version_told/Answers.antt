use Rattle.upgrades.proofs.Names.{false≢true, sym, ◌∙◌}
use Rattle.upgrades.proofs.Versions.{is_three, is_two}
use Rattle.upgrades.proofs.finding.version_told.Goals as goal

pub returns-then-marks : goal.returns-then-marks
returns-then-marks c = sym (is_three c.args.sector.now (c.marks.ensures.0 c.if-marks.true))

pub returns-else-marks : goal.returns-else-marks
returns-else-marks c = sym (is_two c.args.sector.now (λ is. false≢true (sym c.if-marks.false ∙ c.marks.ensures.1 is)))
