use Rattle.{trace_lang.proofs.{Reading.{missed, reads}, Nothing.{none≢some}}, vm_types.specs.declared.command.Command.TheVariants.{Msync}, std.proofs.Common.{[], ◌∷◌, refl}}
use Rattle.trace_lang.specs.declared.names.Name.TheVariants as name
use Rattle.trace_lang.proofs.forms.msync_in.Goals as goal

pub returns-in_err-pid : goal.returns-in_err-pid
returns-in_err-pid c = missed name.Msync [] _ _ _ c.from_residual.ensures refl (λ pid addr len mode. c.in_err-pid.ensures.none pid)

pub returns-in_err-addr : goal.returns-in_err-addr
returns-in_err-addr c =
    missed name.Msync (_ ∷ []) _ _ _ c.from_residual-in_err-addr.ensures (_, c.in_ok-pid.ensures.found, refl) (λ pid addr len mode e. c.in_err-addr.ensures.none addr)

pub returns-in_err-len : goal.returns-in_err-len
returns-in_err-len c = missed name.Msync (_ ∷ _ ∷ []) _ _ _ c.from_residual-in_err-len.ensures (_, c.in_ok-pid.ensures.found, (_, c.in_ok-addr.ensures.found, refl))
    (λ pid addr len mode e f. c.in_err-len.ensures.none len)

pub returns-in_err-mode : goal.returns-in_err-mode
returns-in_err-mode c = missed name.Msync (_ ∷ _ ∷ _ ∷ []) _ _ _ c.from_residual-in_err-mode.ensures
    (_, c.in_ok-pid.ensures.found, (_, c.in_ok-addr.ensures.found, (_, c.in_ok-len.ensures.found, refl))) (λ pid addr len mode e f g x. none≢some (c.in_err-mode.ensures.only mode x))

pub returns : goal.returns
returns c = reads (Msync _ _ _ _) _ _ (_, c.in_ok-pid.ensures.found, (_, c.in_ok-addr.ensures.found, (_, c.in_ok-len.ensures.found, refl))) c.in_ok-mode.ensures.found
    (λ pid addr len mode e f g x. let last = c.in_ok-mode.ensures.only mode x in cc)
