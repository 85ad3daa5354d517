use Rattle.regions.proofs.table.Regions.copied.Goals as goal

pub returns : goal.returns
returns g c = c.self.view_is
