use Rattle.{std.proofs.Common.{inr, refl, ap, ◌∙◌}, disk_model.specs.SimDisk.{sectors_in, sector_of}, stores.specs.Store.{disk_of}, stop_trials.{proofs.{Contents.{same_contents}, Tried.{refused_open}}, specs.Standing.{standing_contents}}}
use Rattle.stop_trials.proofs.recovery.recovered.Goals as goal

pub returns-clause-layout : goal.returns-clause-layout
returns-clause-layout c = c.in-Ok.ensures.good_layout tt

pub returns-clause-journal : goal.returns-clause-journal
returns-clause-journal c = c.in-Ok.ensures.good_journal tt

pub returns-clause-bytes : goal.returns-clause-bytes
returns-clause-bytes c =
    let image = sector_of (disk_of c.in-Ok.store) in
    c.in_ok-bytes.ensures.bytes tt
    ∙ ap (λ sectors. standing_contents sectors image) c.in-Ok.ensures.size
    ∙ same_contents (sectors_in c.args.disk) (sector_of c.args.disk) image (c.in-Ok.ensures.good_layout tt) (c.in-Ok.ensures.good_journal tt)
    (c.in-Ok.ensures.now tt image (record { kept = λ k. inr refl }))

pub returns-in-Err-clause-refused : goal.returns-in-Err-clause-refused
returns-in-Err-clause-refused c = refused_open (sectors_in c.args.disk) (sector_of c.args.disk) c.in-Err.fault (c.in-Err.ensures.bad_layout tt) (c.in-Err.ensures.bad_journal tt)
