use Rattle.{std.proofs.Common.{[], length, sym, subst}, disk_model.specs.Stop.{Image}, stores.specs.Images.{StandsFor}, sync_plans.{proofs.Theorem.{nothing_listed}, specs.{Pages.{lent_page}, Plans.{row}}}}
use Rattle.famsync.proofs.exports.famsync_tidy.Goals as goal

pub returns-then-handle-ne-READY-clause-any_moment : goal.returns-then-handle-ne-READY-clause-any_moment
returns-then-handle-ne-READY-clause-any_moment c = λ files pages stands left stop.
    subst (λ (i : Image). StandsFor (length c.args.image.now) files pages i)
    (sym (nothing_listed c.args.calls.now c.args.rows.now (lent_page []) (row c.args.image.now) left stop)) stands

pub returns-in-Err-clause-any_moment : goal.returns-in-Err-clause-any_moment
returns-in-Err-clause-any_moment c = λ files pages stands left stop.
    subst (λ (i : Image). StandsFor (length c.args.image.now) files pages i)
    (sym (nothing_listed c.plan_tidy.new.calls c.plan_tidy.new.rows (lent_page []) (row c.args.image.now) left stop)) stands

pub returns-in-Err-clause-layout : goal.returns-in-Err-clause-layout
returns-in-Err-clause-layout c = λ is. c.in-Err.ensures.refused.layout (c.number.ensures.layout is)

pub returns-in-Err-clause-room : goal.returns-in-Err-clause-room
returns-in-Err-clause-room c = λ is. c.in-Err.ensures.no_room (c.number.ensures.room is)
