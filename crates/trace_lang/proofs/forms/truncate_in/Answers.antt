use Rattle.{trace_lang.proofs.Reading.{missed, reads}, vm_types.specs.declared.command.Command.TheVariants.{Truncate}, std.proofs.Common.{[], ◌∷◌, refl}}
use Rattle.trace_lang.specs.declared.names.Name.TheVariants as name
use Rattle.trace_lang.proofs.forms.truncate_in.Goals as goal

pub returns-in_err-file : goal.returns-in_err-file
returns-in_err-file c = missed name.Truncate [] _ _ _ c.from_residual.ensures refl (λ file length. c.in_err-file.ensures.none file)

pub returns-in_err-length : goal.returns-in_err-length
returns-in_err-length c =
    missed name.Truncate (_ ∷ []) _ _ _ c.from_residual-in_err-length.ensures (_, c.in_ok-file.ensures.found, refl) (λ file length e x. c.in_err-length.ensures.none length x)

pub returns : goal.returns
returns c = reads (Truncate _ _) _ _ (_, c.in_ok-file.ensures.found, refl) c.in_ok-length.ensures.found (λ file length e x. let last = c.in_ok-length.ensures.only length x in cc)
