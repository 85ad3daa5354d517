use Rattle.sync_plans.proofs.{Names.{◌∙◌, same_text, rules}, Lent.{lent_here}}
use Rattle.sync_plans.proofs.plan_disk.PlanDisk.find_lent.Goals as goal

pub returns-in-Some : goal.returns-in-Some
returns-in-Some c = let lent = c.args.self.now.lent.pages.now in (search rules, lent_here lent _ _ (search rules) ∙ same_text _ c.args.page.now c.if-eq.ensures)
