use Rattle.growth.proofs.Lasting.{keep_homes}
use Rattle.growth.proofs.laws.pages_keep_their_homes.Goals as goal

pub returns : goal.returns
returns c = keep_homes
