use Rattle.{trace_lang.proofs.{FirstWord.{one_width}, Reading.{missed, reads}, Nothing.{none≢some}}, std.proofs.Common.{◌*◌, ◌<◌, ◌^◌, [], ◌∷◌, refl, sym, ◌∙◌, subst}}
use Rattle.{trace_lang.specs.Grammar.{IsNumber}, vm_types.specs.{Width.{byte_count}, declared.{command.Command.TheVariants.{Store}, width.Width.{Width}}}}
use Rattle.trace_lang.specs.declared.names.Name.TheVariants as name
use Rattle.trace_lang.proofs.forms.store_in.Goals as goal

pub returns-in_err-pid : goal.returns-in_err-pid
returns-in_err-pid c = missed name.Store [] _ _ _ c.from_residual.ensures refl (λ pid addr stored. c.in_err-pid.ensures.none pid)

pub returns-in_err-addr : goal.returns-in_err-addr
returns-in_err-addr c =
    missed name.Store (_ ∷ []) _ _ _ c.from_residual-in_err-addr.ensures (_, c.in_ok-pid.ensures.found, refl) (λ pid addr stored e. c.in_err-addr.ensures.none addr)

pub returns-in_err-width : goal.returns-in_err-width
returns-in_err-width c = missed name.Store (_ ∷ _ ∷ []) _ _ _ c.from_residual-in_err-width.ensures (_, c.in_ok-pid.ensures.found, (_, c.in_ok-addr.ensures.found, refl))
    (λ pid addr stored e f. c.in_err-width.ensures.none stored.width)

pub returns-in_err-stored : goal.returns-in_err-stored
returns-in_err-stored c = missed name.Store (_ ∷ _ ∷ _ ∷ []) _ _ _ c.from_residual-in_err-stored.ensures
    (_, c.in_ok-pid.ensures.found, (_, c.in_ok-addr.ensures.found, (_, c.in_ok-width.ensures.found, refl))) (λ pid addr stored e f w x.
    none≢some (c.in_err-stored.ensures.only stored (one_width _ _ w) x.0 (subst (λ (k : Width). stored.value < 2 ^ (8 * byte_count k)) (one_width _ _ w) x.1)))

pub returns : goal.returns
returns c =
    let v = c.in_ok-stored.ensures.found in
    let width = subst (λ (k : Width). IsNumber c.in_ok-width.ensures.found.0 (byte_count k)) (sym v.0) c.in_ok-width.ensures.found.2 in
    reads (Store _ _ c.in_ok-stored.stored) _ _ (_, c.in_ok-pid.ensures.found, (_, c.in_ok-addr.ensures.found, (_, (_, c.in_ok-width.ensures.found.1, width), refl)))
    (v.1, subst (λ (k : Width). c.in_ok-stored.stored.value < 2 ^ (8 * byte_count k)) (sym v.0) v.2) (λ pid addr stored e f w x.
    let same = one_width _ _ w ∙ v.0 in
    let last = c.in_ok-stored.ensures.only stored same x.0 (subst (λ (k : Width). stored.value < 2 ^ (8 * byte_count k)) same x.1) in
    cc)
