use Rattle.{trace_lang.proofs.Reading.{missed, reads}, vm_types.specs.declared.command.Command.TheVariants.{Exit}, std.proofs.Common.{[], refl}}
use Rattle.trace_lang.specs.declared.names.Name.TheVariants as name
use Rattle.trace_lang.proofs.forms.exit_in.Goals as goal

pub returns-in_err-pid : goal.returns-in_err-pid
returns-in_err-pid c = missed name.Exit [] _ _ _ c.from_residual.ensures refl (λ pid x. c.in_err-pid.ensures.none pid x)

pub returns : goal.returns
returns c = reads (Exit _) _ _ refl c.in_ok-pid.ensures.found (λ pid x. let last = c.in_ok-pid.ensures.only pid x in cc)
