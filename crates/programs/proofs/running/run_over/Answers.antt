use Rattle.{std.proofs.Common.{ap, ◌∙◌}, programs.{proofs.Outcomes.{comes_to}, specs.Running.{boot_told}}}
use Rattle.programs.proofs.running.run_over.Goals as goal

pub returns-in-Ok : goal.returns-in-Ok
returns-in-Ok g c =
    comes_to _ _ _ c.args.config c.args.devices.store c.args.devices.swap _ _ c.in-Ok.end c.in-Ok.machine c.status_of-outcome.result c.in-Ok.ensures.booted
    c.status_of-outcome.ensures.status c.status_of-outcome.ensures.told

pub returns-in-Err : goal.returns-in-Err
returns-in-Err g c = (
  record {
    why = c.in-Err.fault;
    left = c.in-Err.store;
    refuses = c.in-Err.ensures.refuses;
    leaves = c.in-Err.ensures.err_moments;
    told = c.told.ensures ∙ ap (λ settled. boot_told settled c.in-Err.fault) c.is_settled.ensures.is;
  },
  (c.in-Err.ensures.unread, c.in-Err.ensures.no_reply),
)
