use Rattle.{trace_lang.proofs.Reading.{missed, reads}, vm_types.specs.declared.command.Command.TheVariants.{Munmap}, std.proofs.Common.{[], ◌∷◌, refl}}
use Rattle.trace_lang.specs.declared.names.Name.TheVariants as name
use Rattle.trace_lang.proofs.forms.munmap_in.Goals as goal

pub returns-in_err-pid : goal.returns-in_err-pid
returns-in_err-pid c = missed name.Munmap [] _ _ _ c.from_residual.ensures refl (λ pid addr len. c.in_err-pid.ensures.none pid)

pub returns-in_err-addr : goal.returns-in_err-addr
returns-in_err-addr c =
    missed name.Munmap (_ ∷ []) _ _ _ c.from_residual-in_err-addr.ensures (_, c.in_ok-pid.ensures.found, refl) (λ pid addr len e. c.in_err-addr.ensures.none addr)

pub returns-in_err-len : goal.returns-in_err-len
returns-in_err-len c = missed name.Munmap (_ ∷ _ ∷ []) _ _ _ c.from_residual-in_err-len.ensures (_, c.in_ok-pid.ensures.found, (_, c.in_ok-addr.ensures.found, refl))
    (λ pid addr len e f x. c.in_err-len.ensures.none len x)

pub returns : goal.returns
returns c = reads (Munmap _ _ _) _ _ (_, c.in_ok-pid.ensures.found, (_, c.in_ok-addr.ensures.found, refl)) c.in_ok-len.ensures.found
    (λ pid addr len e f x. let last = c.in_ok-len.ensures.only len x in cc)
