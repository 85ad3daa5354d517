use Rattle.sync_plans.proofs.Longer.{stands_longer}
use Rattle.sync_plans.proofs.laws.longer_images_stand_as_before.Goals as goal

pub returns : goal.returns
returns c = stands_longer
