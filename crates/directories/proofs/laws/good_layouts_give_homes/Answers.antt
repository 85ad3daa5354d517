use Rattle.directories.proofs.Owned.{gives_homes}
use Rattle.directories.proofs.laws.good_layouts_give_homes.Goals as goal

pub returns : goal.returns
returns c = gives_homes
