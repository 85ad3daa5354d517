use Rattle.truncation.proofs.Dropped.{dropped}
use Rattle.truncation.proofs.dropping.drop_past.Goals as goal

pub returns : goal.returns
returns g c = dropped c.args.file c.args.length c.args.core.now c.clear_past.new.core c.forget_past.new.core c.requires c.clear_past.ensures c.forget_past.ensures
