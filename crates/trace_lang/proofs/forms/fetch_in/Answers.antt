use Rattle.{trace_lang.proofs.Reading.{missed, reads}, vm_types.specs.declared.command.Command.TheVariants.{Fetch}, std.proofs.Common.{[], ◌∷◌, refl}}
use Rattle.trace_lang.specs.declared.names.Name.TheVariants as name
use Rattle.trace_lang.proofs.forms.fetch_in.Goals as goal

pub returns-in_err-pid : goal.returns-in_err-pid
returns-in_err-pid c = missed name.Fetch [] _ _ _ c.from_residual.ensures refl (λ pid addr. c.in_err-pid.ensures.none pid)

pub returns-in_err-addr : goal.returns-in_err-addr
returns-in_err-addr c =
    missed name.Fetch (_ ∷ []) _ _ _ c.from_residual-in_err-addr.ensures (_, c.in_ok-pid.ensures.found, refl) (λ pid addr e x. c.in_err-addr.ensures.none addr x)

pub returns : goal.returns
returns c = reads (Fetch _ _) _ _ (_, c.in_ok-pid.ensures.found, refl) c.in_ok-addr.ensures.found (λ pid addr e x. let last = c.in_ok-addr.ensures.only addr x in cc)
