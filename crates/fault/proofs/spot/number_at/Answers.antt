use Rattle.fault.proofs.Names.{◌%◌, sym, ap, ◌∙◌, picture_of, entry-of}
use Rattle.fault.proofs.spot.number_at.Goals as goal

pub returns : goal.returns
returns g c =
    c.number_in.ensures c.args.spot.now.root.0 c.args.spot.now.page c.requires.table (sym (ap (λ n. n % 512) c.get.ensures.number))
    ∙ sym (entry-of (picture_of c.args.core.now) c.args.spot.now.pid c.args.spot.now.root.0 c.args.spot.now.page c.requires.root)
