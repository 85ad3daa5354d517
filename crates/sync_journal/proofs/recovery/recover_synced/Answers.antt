use Rattle.sync_journal.proofs.{Names.{ℕ, [], Option, Result, Ok, take, if◌then◌else◌, refl, ap, sym, subst, ◌∙◌, arith, rules, length-take-le}, Sectors.{so_before}, Causes.{told_was, is_error, not_bad_device, blames_device, blames_on}}
use Rattle.sync_journal.{proofs.{Causes.{blames_none}, OneRecoveries.{looked, closed_there, replays}}, specs.{Layout.{gate_sector, home_count}, Gate.{closed_sector}, Map.{AreHomes}, Standing.{standing_single}, Recovery.{GivesHomes, Finds}}}
use Rattle.sync_journal.specs.{declared.faults.RecoverFault.{RecoverFault}, Layouts.{IsSettled}, Commit.{one_journal}}
use Rattle.sync_journal.proofs.recovery.recover_synced.Goals as goal

pub slice_bounds-homes-end : goal.slice_bounds-homes-end
slice_bounds-homes-end g c =
    let found = subst (λ (o : Option ℕ). GivesHomes (g.D.SectorDisk.sector_count c.args.disk.now) c.find_open.new.homes (Ok o)) c.in-Some.is c.in_ok-count.ensures.gives in
    omega (arith, found.0, c.type_inv.homes)

pub slice_bounds-replay-end : goal.slice_bounds-replay-end
slice_bounds-replay-end g c =
    let found = subst (λ (o : Option ℕ). GivesHomes (g.D.SectorDisk.sector_count c.args.disk.now) c.find_open.new.homes (Ok o)) c.in-Some.is c.in_ok-count.ensures.gives in
    sym (length-take-le c.in-Some.count c.find_open.new.homes (omega (arith, found.0, c.find_open.array_long)))

pub replay-requires-clause-homes : goal.replay-requires-clause-homes
replay-requires-clause-homes g c =
    let found = subst (λ (o : Option ℕ). GivesHomes (g.D.SectorDisk.sector_count c.args.disk.now) c.find_open.new.homes (Ok o)) c.in-Some.is c.in_ok-count.ensures.gives in
    subst (λ n. AreHomes (home_count n) (take c.in-Some.count c.find_open.new.homes)) (sym c.find_open.ensures.looks.run.size) found.1

pub returns-in_err-count : goal.returns-in_err-count
returns-in_err-count g c =
    let d = g.D.SectorDisk in
    let old = c.args.disk.now in
    let new = c.find_open.new.disk in
    let found = c.in_err-count.ensures in
    looked d old new (λ k image left. g.met.D.SectorDisk.only_now old image k left) c.find_open.ensures.looks.run
    _ (is_error _ _ c.from_residual.ensures.1) c.find_open.ensures.asks (blames_on d old old new _ _ c.from_residual.ensures.1 refl found.looks.blames)
    (λ keeps is. subst (λ (r : Result (Option ℕ) RecoverFault). Finds (d.sector_count old) (d.content old) c.find_open.new.homes r) (told_was _ _ _ c.from_residual.ensures.1 is) (found.finds keeps))

pub returns-in_err-replay : goal.returns-in_err-replay
returns-in_err-replay g c =
    let d = g.D.SectorDisk in
    let old = c.args.disk.now in
    let new = c.replay.new.disk in
    let sectors = d.sector_count old in
    let found = subst (λ (o : Option ℕ). GivesHomes sectors c.find_open.new.homes (Ok o)) c.in-Some.is c.in_ok-count.ensures.gives in
    let calm = c.in_ok-count.ensures.looks.calm in
    let failed = c.in_err-replay.ensures.home.failed refl in
    replays d old c.find_open.new.disk (λ k image left. g.met.D.SectorDisk.only_now old image k left) c.find_open.ensures.looks.run new (take c.in-Some.count c.find_open.new.homes) found.1
    (λ keeps. subst (λ (o : Option ℕ). Finds sectors (d.content old) c.find_open.new.homes (Ok o)) c.in-Some.is (c.in_ok-count.ensures.finds keeps)) c.replay.ensures.home
    _ c.find_open.ensures.asks (search rules) (search rules)
    (blames_device d old new _ c.from_residual-in_err-replay.ensures.1 (omega (arith, failed, calm))) (λ keeps is. absurd (not_bad_device _ c.from_residual-in_err-replay.ensures.1 is))
    (search rules)

pub returns : goal.returns
returns g c =
    let d = g.D.SectorDisk in
    let old = c.args.disk.now in
    let read = c.find_open.new.disk in
    let new = c.replay.new.disk in
    let looks = c.find_open.ensures.looks.run in
    let sectors = d.sector_count old in
    let done = c.in_ok-replay.ensures in
    let found = subst (λ (o : Option ℕ). GivesHomes sectors c.find_open.new.homes (Ok o)) c.in-Some.is c.in_ok-count.ensures.gives in
    replays d old read (λ k image left. g.met.D.SectorDisk.only_now old image k left) looks new (take c.in-Some.count c.find_open.new.homes) found.1
    (λ keeps. subst (λ (o : Option ℕ). Finds sectors (d.content old) c.find_open.new.homes (Ok o)) c.in-Some.is (c.in_ok-count.ensures.finds keeps)) c.replay.ensures.home
    _ c.find_open.ensures.asks (λ keeps. so_before d old read (looks.touches (c.replay.ensures.home.kept keeps)) (λ n image. IsSettled one_journal d n image [] new (standing_single image)) looks.size (done.home.done keeps)) done.all_synced
    (blames_none d old new _ (done.home.calm ∙ c.in_ok-count.ensures.looks.calm)) (λ keeps is. cc)
    (λ keeps. (let opened = subst (λ (o : Option ℕ). Finds sectors (d.content old) c.find_open.new.homes (Ok o)) c.in-Some.is (c.in_ok-count.ensures.finds (c.replay.ensures.home.kept keeps)) in
    done.zeros keeps ∙ ap (λ b. if b then closed_sector else (d.content old gate_sector)) (sym opened.gate)))

pub returns-in_default : goal.returns-in_default
returns-in_default g c =
    let d = g.D.SectorDisk in
    let old = c.args.disk.now in
    closed_there d old c.find_open.new.disk (λ k image left. g.met.D.SectorDisk.only_now old image k left) c.find_open.ensures.looks.run
    (λ keeps. subst (λ (o : Option ℕ). Finds (d.sector_count old) (d.content old) c.find_open.new.homes (Ok o)) c.in_default.is (c.in_ok-count.ensures.finds keeps))
    c.requires.synced c.find_open.ensures.asks c.in_ok-count.ensures.looks.calm
