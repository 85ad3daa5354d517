use Rattle.sync_plans.proofs.{Grown.{changed_open, failed_open}, Names.{IsTrue, inr, inl, refl, sym, subst, arith, rules, Pool, length, none_freed}, Taken.{blamed, refuses_open}}
use Rattle.sync_plans.specs.{Resizing.{ChangesOpenStore}}
use Rattle.file_store.proofs.Causes.{is_this}
use Rattle.sync_plans.proofs.resizing.change_store.Goals as goal

pub returns-then-not-is_sum : goal.returns-then-not-is_sum
returns-then-not-is_sum g c = refuses_open g.D.SectorDisk c.args.store.now c.args.store.now _ c.args.asked.changes.now c.args.asked.fresh.now c.args.asked.pages.now c.args.source.pages.now _ c.requires.ready c.requires.synced
    (none_freed g.D.SectorDisk g.met.D.SectorDisk.counts_now g.met.D.SectorDisk.only_now (Pool c.args.store.now) c.requires.ready)
    (record {
      cause = λ is. cc;
      pages = λ is brought. c.if-not-is_sum.ensures.one (search rules) brought.all;
      else = inr (inl refl);
    })

pub returns-in_default : goal.returns-in_default
returns-in_default g c = refuses_open g.D.SectorDisk c.args.store.now c.args.store.now _ c.args.asked.changes.now c.args.asked.fresh.now c.args.asked.pages.now c.args.source.pages.now _ c.requires.ready c.requires.synced
    (none_freed g.D.SectorDisk g.met.D.SectorDisk.counts_now g.met.D.SectorDisk.only_now (Pool c.args.store.now) c.requires.ready)
    (record { cause = λ is. cc; pages = λ is. cc; else = inr (inr refl) })

pub returns-in_err-make_slots_free : goal.returns-in_err-make_slots_free
returns-in_err-make_slots_free g c =
    let old = c.args.store.now in
    let changes = c.args.asked.changes.now in
    let fresh = c.args.asked.fresh.now in
    let list = c.args.asked.pages.now in
    let bytes = c.args.source.pages.now in
    subst (λ r. ChangesOpenStore g.D.SectorDisk old c.make_slots_free.new.store.disk changes fresh list bytes r)
    (sym (is_this c.from_residual.result c.in_err-make_slots_free.field-0.0 c.from_residual.ensures.1))
    (refuses_open g.D.SectorDisk old c.make_slots_free.new.store _ changes fresh list bytes _ c.requires.ready c.requires.synced c.make_slots_free.ensures.frees (c.in_err-make_slots_free.ensures.refused (length bytes)))

pub commit_changes-requires-clause-gives : goal.commit_changes-requires-clause-gives
commit_changes-requires-clause-gives g c = λ i below.
    let is : IsTrue c.is_sum.result = search rules in
    let sum = c.is_sum.ensures.all is in
    omega (arith, below, sum)

pub returns-in-Ok-commit_changes : goal.returns-in-Ok-commit_changes
returns-in-Ok-commit_changes g c =
    let f = c.make_slots_free.ensures in
    let then = c.in_ok-make_slots_free.ensures in
    let is : IsTrue c.is_sum.result = search rules in
    let sum = c.is_sum.ensures.all is in
    changed_open g.D.SectorDisk c.args.store.now c.make_slots_free.new.store _ c.requires.ready c.requires.synced f.frees _ c.commit_changes.new.store c.args.asked.changes.now c.args.asked.fresh.now c.args.asked.pages.now _ _ _
    then.ready f.directory f.sizes c.requires.changes then.are_new then.good c.commit_changes.ensures tt c.args.source.pages.now then.rising sum refl c.in-Ok-commit_changes.is

pub returns : goal.returns
returns g c =
    let f = c.make_slots_free.ensures in
    let then = c.in_ok-make_slots_free.ensures in
    failed_open g.D.SectorDisk c.args.store.now c.make_slots_free.new.store _ c.requires.ready c.requires.synced f.frees _ c.commit_changes.new.store c.args.asked.changes.now c.args.asked.fresh.now c.args.asked.pages.now _ _ _
    then.ready f.directory f.sizes c.requires.changes then.are_new then.good c.commit_changes.ensures tt c.args.source.pages.now
    (blamed _ _ c.in-Err.field-0 c.in-Err.ensures.causes)
