use Rattle.sync_plans.{proofs.{Made.{as_given, stands_now}, Names.{OnOk, IfErr, IsPageOf, file_info}, Runs.{refuses_image}}, specs.Requests.{IsStore, RefusesImage}}
use Rattle.sync_plans.proofs.planning.read_page.Goals as goal

pub returns-clause-page : goal.returns-clause-page
returns-clause-page c = λ files pages stands inside. c.read-disk.ensures.page tt files pages (stands_now c.new-disk.ensures files pages stands) inside

pub returns-clause-store : goal.returns-clause-store
returns-clause-store c = as_given c.new-disk.ensures (λ sectors image. OnOk c.read-disk.result.1 (IsStore sectors image)) (c.read-disk.ensures.store tt)

pub returns-clause-inside : goal.returns-clause-inside
returns-clause-inside c = as_given c.new-disk.ensures (λ sectors image. OnOk c.read-disk.result.1 (IsPageOf (file_info sectors image) c.args.page.file c.args.page.page)) (c.read-disk.ensures.inside tt)

pub returns-clause-refused : goal.returns-clause-refused
returns-clause-refused c =
    as_given c.new-disk.ensures (λ sectors image. IfErr c.read-disk.result.1 (RefusesImage sectors image (IsPageOf (file_info sectors image) c.args.page.file c.args.page.page → ⊥) ⊥))
    (refuses_image _ c.new-disk.result c.read-disk.result.0 c.read-disk.result.1 tt (λ bad. bad tt) (λ denied. denied) c.read-disk.ensures.refused)
