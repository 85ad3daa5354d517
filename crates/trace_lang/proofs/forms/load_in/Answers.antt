use Rattle.{trace_lang.proofs.{Reading.{missed, reads}, Nothing.{none≢some}}, vm_types.specs.declared.command.Command.TheVariants.{Load}, std.proofs.Common.{[], ◌∷◌, refl}}
use Rattle.trace_lang.specs.declared.names.Name.TheVariants as name
use Rattle.trace_lang.proofs.forms.load_in.Goals as goal

pub returns-in_err-pid : goal.returns-in_err-pid
returns-in_err-pid c = missed name.Load [] _ _ _ c.from_residual.ensures refl (λ pid addr width. c.in_err-pid.ensures.none pid)

pub returns-in_err-addr : goal.returns-in_err-addr
returns-in_err-addr c =
    missed name.Load (_ ∷ []) _ _ _ c.from_residual-in_err-addr.ensures (_, c.in_ok-pid.ensures.found, refl) (λ pid addr width e. c.in_err-addr.ensures.none addr)

pub returns-in_err-width : goal.returns-in_err-width
returns-in_err-width c = missed name.Load (_ ∷ _ ∷ []) _ _ _ c.from_residual-in_err-width.ensures (_, c.in_ok-pid.ensures.found, (_, c.in_ok-addr.ensures.found, refl))
    (λ pid addr width e f x. none≢some (c.in_err-width.ensures.only width x))

pub returns : goal.returns
returns c = reads (Load _ _ _) _ _ (_, c.in_ok-pid.ensures.found, (_, c.in_ok-addr.ensures.found, refl)) c.in_ok-width.ensures.found
    (λ pid addr width e f x. let last = c.in_ok-width.ensures.only width x in cc)
