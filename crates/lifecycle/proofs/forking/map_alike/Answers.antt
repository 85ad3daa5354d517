use Rattle.lifecycle.proofs.{Alike.{alike}, Names.{ap, ◌∙◌, rules, attr_at, picture_of}}
use Rattle.lifecycle.proofs.forking.map_alike.Goals as goal

pub returns : goal.returns
returns g c =
    let copied = alike (picture_of c.args.core.now) (picture_of c.remap.new.self) c.copied-regions.result c.args.parent c.args.child c.requires.fit c.requires.apart c.requires.empty
    (λ page. ap (λ runs. attr_at runs page) c.copied-regions.ensures ∙ c.regions.ensures page) c.remap.ensures.remaps c.remap.ensures.at in
    record { fit = copied.fit; mapped = copied.maps; rest = search rules }
