use Rattle.sync_plans.proofs.{Grown.{has_head}, Names.{◌⊎◌, ⊎_elim, inl, inr, rules, Pool, none_freed, info_by}, Resized.{are_sizes, homes_lacked, read_only_said, resized_open, unsized}}
use Rattle.sync_plans.specs.Resizing.{HasReadOnlyPage, HasReadOnlySize}
use Rattle.sync_plans.proofs.resizing.resize_store.Goals as goal
use Rattle.sync_plans.proofs.resizing.resize_store.Goals.{then-has_read_only_size-via-then-has_read_only_size, then-has_read_only_size-via-else-has_read_only_size+then-has_read_only_page}

pub returns-then-has_read_only_size : goal.returns-then-has_read_only_size
returns-then-has_read_only_size g c =
    let old = c.args.store.now in
    let sizes = c.args.sizes.now in
    let list = c.args.pages.pages.now in
    let has : HasReadOnlySize (info_by old.directory) sizes ⊎ HasReadOnlyPage (info_by old.directory) list = elim c.then-has_read_only_size.branch [
      | then-has_read_only_size-via-then-has_read_only_size w ↦ inl (w.if-has_read_only_size.ensures.all (search rules))
      | then-has_read_only_size-via-else-has_read_only_size+then-has_read_only_page w ↦ inr (w.if-has_read_only_page.ensures.all (search rules))
    ] in
    unsized g.D.SectorDisk old c.requires.ready _ sizes c.args.pages.fresh.now list c.args.source.pages.now _ c.requires.synced
    (none_freed g.D.SectorDisk g.met.D.SectorDisk.counts_now g.met.D.SectorDisk.only_now (Pool old) c.requires.ready) (λ is. cc)
    (λ keeps. record { none = λ is. cc; memory = λ is. cc; pages = λ is. cc; read_only = λ is. read_only_said g.D.SectorDisk old c.requires.ready keeps sizes list has; homes = λ is. cc })

pub returns-in-Ok : goal.returns-in-Ok
returns-in-Ok g c = resized_open g.D.SectorDisk c.args.store.now c.requires.ready c.change_store.new.store.disk c.args.sizes.now c.in-Ok.changes.items c.args.pages.fresh.now c.args.pages.pages.now c.args.source.pages.now c.change_store.result
    c.in-Ok.ensures.proposes.asked c.in-Ok.ensures.proposes.says (⊎_elim (c.if-has_read_only_size.ensures.one (search rules)) (c.if-has_read_only_page.ensures.one (search rules))) (search rules)

pub returns-in-Err-Form : goal.returns-in-Err-Form
returns-in-Err-Form g c = unsized g.D.SectorDisk c.args.store.now c.requires.ready _ c.args.sizes.now c.args.pages.fresh.now c.args.pages.pages.now c.args.source.pages.now _ c.requires.synced
    (none_freed g.D.SectorDisk g.met.D.SectorDisk.counts_now g.met.D.SectorDisk.only_now (Pool c.args.store.now) c.requires.ready) (λ is. cc)
    (λ keeps. record {
      none = λ is. cc;
      memory = λ is. cc;
      pages = λ is may. (rw c.in-Err-Form.field-0-is at c.in-Err-Form.ensures.refused) (are_sizes g.D.SectorDisk c.args.store.now c.requires.ready keeps c.args.sizes.now may.may);
      read_only = λ is. cc;
      homes = λ is. cc;
    })

pub returns-in-Err-NoHomes : goal.returns-in-Err-NoHomes
returns-in-Err-NoHomes g c = unsized g.D.SectorDisk c.args.store.now c.requires.ready _ c.args.sizes.now c.args.pages.fresh.now c.args.pages.pages.now c.args.source.pages.now _ c.requires.synced
    (none_freed g.D.SectorDisk g.met.D.SectorDisk.counts_now g.met.D.SectorDisk.only_now (Pool c.args.store.now) c.requires.ready) (λ is. cc)
    (λ keeps. record {
      none = λ is. cc;
      memory = λ is. cc;
      pages = λ is. cc;
      read_only = λ is. cc;
      homes = λ is. homes_lacked g.D.SectorDisk c.args.store.now c.requires.ready keeps c.args.sizes.now c.in-Err-NoHomes.field-0-0 (rw c.in-Err-NoHomes.field-0-is at c.in-Err-NoHomes.ensures.refused);
    })

pub returns-in-Err-Memory : goal.returns-in-Err-Memory
returns-in-Err-Memory g c = unsized g.D.SectorDisk c.args.store.now c.requires.ready _ c.args.sizes.now c.args.pages.fresh.now c.args.pages.pages.now c.args.source.pages.now _ c.requires.synced
    (none_freed g.D.SectorDisk g.met.D.SectorDisk.counts_now g.met.D.SectorDisk.only_now (Pool c.args.store.now) c.requires.ready) (λ is. cc)
    (λ keeps. record { none = λ is. cc; memory = λ is. has_head g.D.SectorDisk c.args.store.now c.requires.ready keeps; pages = λ is. cc; read_only = λ is. cc; homes = λ is. cc })
