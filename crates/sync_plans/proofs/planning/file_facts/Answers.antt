use Rattle.sync_plans.{proofs.{Made.{as_given}, Names.{◌≡◌, OnOk, IfOk, IfErr, file_info}, Runs.{refuses_image}}, specs.Requests.{IsStore, RefusesImage}}
use Rattle.sync_plans.proofs.planning.file_facts.Goals as goal

pub returns-clause-store : goal.returns-clause-store
returns-clause-store c = as_given c.new-disk.ensures (λ sectors image. OnOk c.facts-disk.result.1 (IsStore sectors image)) (c.facts-disk.ensures.store tt)

pub returns-clause-refused : goal.returns-clause-refused
returns-clause-refused c = as_given c.new-disk.ensures (λ sectors image. IfErr c.facts-disk.result.1 (RefusesImage sectors image ⊥ ⊥))
    (refuses_image _ c.new-disk.result c.facts-disk.result.0 c.facts-disk.result.1 tt (λ bad. bad) (λ denied. denied) c.facts-disk.ensures.refused)

pub returns-clause-facts : goal.returns-clause-facts
returns-clause-facts c = as_given c.new-disk.ensures (λ sectors image. IfOk c.facts-disk.result.1 (λ info. info ≡ file_info sectors image c.args.file)) (c.facts-disk.ensures.facts tt)
