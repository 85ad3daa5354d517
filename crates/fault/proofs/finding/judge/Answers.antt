use Rattle.fault.proofs.{Names.{sym, ◌∙◌, picture_of}, Ready.{verdict-none, verdict-denied, verdict-past}}
use Rattle.fault.proofs.finding.judge.Goals as goal

pub returns-in_default-clause-faults : goal.returns-in_default-clause-faults
returns-in_default-clause-faults g c = verdict-none (picture_of c.args.core.now) c.args.pid c.args.page c.args.access (sym c.attr_at.ensures ∙ c.in_default.is)

pub returns-then-not-lets-clause-faults : goal.returns-then-not-lets-clause-faults
returns-then-not-lets-clause-faults g c =
    verdict-denied (picture_of c.args.core.now) c.args.pid c.args.page c.args.access c.in-Some.attr (sym c.attr_at.ensures ∙ c.in-Some.is)
    (sym c.lets.ensures ∙ c.if-not-lets.true)

pub returns-then-is_past_end-clause-faults : goal.returns-then-is_past_end-clause-faults
returns-then-is_past_end-clause-faults g c =
    verdict-past (picture_of c.args.core.now) c.args.pid c.args.page c.args.access c.in-Some.attr (sym c.attr_at.ensures ∙ c.in-Some.is)
    (sym c.lets.ensures ∙ c.if-not-lets.false) (sym c.is_past_end.ensures ∙ c.if-is_past_end.true)
