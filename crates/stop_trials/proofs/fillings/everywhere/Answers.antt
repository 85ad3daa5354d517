use Rattle.{std.proofs.Common.{◌≡◌, ◌+◌, [], ◌∷◌, ◌++◌, subst, sym, rules}, stop_trials.proofs.Choices.{AreListed, none_listed, one_more_listed}}
use Rattle.stop_trials.proofs.fillings.everywhere.Goals as goal

pub loop-sector-init : goal.loop-sector-init
loop-sector-init c = none_listed _ c.args.bytes c.new-chosen.ensures.items

pub loop-sector-preserved : goal.loop-sector-preserved
loop-sector-preserved c =
    let items : c.push.new.self.items ≡ c.loop-sector.chosen.items ++ (c.loop-sector.sector, c.args.bytes) ∷ [] = search rules in
    subst (λ list. AreListed list (c.loop-sector.sector + 1) c.args.bytes) (sym items)
    (one_more_listed c.loop-sector.chosen.items c.loop-sector.sector c.args.bytes c.loop-sector.invariant)
