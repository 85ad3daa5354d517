use Rattle.lives.proofs.NewStores.{lived_before, old_stands, stopped_upgrade, upgrade_stands}
use Rattle.lives.proofs.laws.upgraded_store.Goals as goal

pub returns-clause-stood : goal.returns-clause-stood
returns-clause-stood g = old_stands

pub returns-clause-lived : goal.returns-clause-lived
returns-clause-lived g = lived_before

pub returns-clause-made : goal.returns-clause-made
returns-clause-made g = upgrade_stands

pub returns-clause-stopped : goal.returns-clause-stopped
returns-clause-stopped g = stopped_upgrade
