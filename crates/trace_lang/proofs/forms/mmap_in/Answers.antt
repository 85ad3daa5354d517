use Rattle.{trace_lang.{proofs.{FirstWord.{cut_words, one_word_of}, Reading.{cut_ends, missed, reads}, Nothing.{none≢some}, Spaces.{back_some, back_words}}, specs.Grammar.{IsBack}}, std.proofs.Common.{◌≡◌, ℕ, [], ◌∷◌, Some, drop, length, arith, refl, sym, ◌∙◌, ap, subst}}
use Rattle.vm_types.specs.declared.{command.{Command.TheVariants.{Mmap}, MapSource.{MapSource}, Placing.{Placing}}, permission.Prot.{Prot}}
use Rattle.trace_lang.specs.declared.names.Name.TheVariants as name
use Rattle.trace_lang.proofs.forms.mmap_in.Goals as goal

same_mmap : (p q a b l m : ℕ) (t u : Prot) (x y : MapSource × Placing) → p ≡ q → a ≡ b → l ≡ m → Some t ≡ Some u → Some x ≡ Some y
    → Some (Mmap p a l t x.0 x.1) ≡ Some (Mmap q b m u y.0 y.1)
same_mmap p q a b l m t u x y ep ea el et ex = cc

pub returns-in_err-pid : goal.returns-in_err-pid
returns-in_err-pid c = missed name.Mmap [] _ _ _ c.from_residual.ensures refl (λ pid addr len prot source placing. c.in_err-pid.ensures.none pid)

pub returns-in_err-addr : goal.returns-in_err-addr
returns-in_err-addr c =
    missed name.Mmap (_ ∷ []) _ _ _ c.from_residual-in_err-addr.ensures (_, c.in_ok-pid.ensures.found, refl) (λ pid addr len prot source placing e. c.in_err-addr.ensures.none addr)

pub returns-in_err-len : goal.returns-in_err-len
returns-in_err-len c = missed name.Mmap (_ ∷ _ ∷ []) _ _ _ c.from_residual-in_err-len.ensures (_, c.in_ok-pid.ensures.found, (_, c.in_ok-addr.ensures.found, refl))
    (λ pid addr len prot source placing e f. c.in_err-len.ensures.none len)

pub returns-in_err-permission : goal.returns-in_err-permission
returns-in_err-permission c = missed name.Mmap (_ ∷ _ ∷ _ ∷ []) _ _ _ c.from_residual-in_err-permission.ensures
    (_, c.in_ok-pid.ensures.found, (_, c.in_ok-addr.ensures.found, (_, c.in_ok-len.ensures.found, refl))) (λ pid addr len prot source placing e f g x.
    omega (arith, ap (λ ws. length (drop 1 ws)) (sym x.2 ∙ one_word_of _ c.in_err-permission.ensures.alone), back_some x.1 source placing x.4))

pub returns-in_err-prot : goal.returns-in_err-prot
returns-in_err-prot c = missed name.Mmap (_ ∷ _ ∷ _ ∷ []) _ _ _ c.from_residual-in_err-prot.ensures
    (_, c.in_ok-pid.ensures.found, (_, c.in_ok-addr.ensures.found, (_, c.in_ok-len.ensures.found, refl))) (λ pid addr len prot source placing e f g x.
    none≢some (c.in_err-prot.ensures.only prot (cut_ends _ _ _ prot source placing c.in_ok-permission.ensures.parts c.in_ok-permission.ensures.word x).0))

pub returns-in_err-count : goal.returns-in_err-count
returns-in_err-count c = missed name.Mmap (_ ∷ _ ∷ _ ∷ []) _ _ _ c.from_residual-in_err-count.ensures
    (_, c.in_ok-pid.ensures.found, (_, c.in_ok-addr.ensures.found, (_, c.in_ok-len.ensures.found, refl))) (λ pid addr len prot source placing e f g x.
    let ends = cut_ends _ _ _ prot source placing c.in_ok-permission.ensures.parts c.in_ok-permission.ensures.word x in
    omega (arith, back_words _ source placing ends.1, c.in_err-count.ensures.none))

pub returns-in_err-source : goal.returns-in_err-source
returns-in_err-source c = missed name.Mmap (_ ∷ _ ∷ _ ∷ []) _ _ _ c.from_residual-in_err-source.ensures
    (_, c.in_ok-pid.ensures.found, (_, c.in_ok-addr.ensures.found, (_, c.in_ok-len.ensures.found, refl))) (λ pid addr len prot source placing e f g x.
    let ends = cut_ends _ _ _ prot source placing c.in_ok-permission.ensures.parts c.in_ok-permission.ensures.word x in
    none≢some (c.in_err-source.ensures.only source placing (subst (λ b. IsBack b source placing) (sym c.in_ok-count.ensures.found.1) ends.1)))

pub returns : goal.returns
returns c =
    let cuts = cut_words _ _ _ c.in_ok-permission.ensures.parts c.in_ok-permission.ensures.word in
    let found = subst (λ b. IsBack b c.in_ok-source.source c.in_ok-source.placing) c.in_ok-count.ensures.found.1 c.in_ok-source.ensures.found in
    reads (Mmap _ _ _ c.in_ok-prot.prot c.in_ok-source.source c.in_ok-source.placing) _ _ (_, c.in_ok-pid.ensures.found, (_, c.in_ok-addr.ensures.found, (_, c.in_ok-len.ensures.found, refl)))
    (_, _, cuts, c.in_ok-prot.ensures.found, found) (λ pid addr len prot source placing e f g x.
    let ends = cut_ends _ _ _ prot source placing c.in_ok-permission.ensures.parts c.in_ok-permission.ensures.word x in
    let back = c.in_ok-source.ensures.only source placing (subst (λ b. IsBack b source placing) (sym c.in_ok-count.ensures.found.1) ends.1) in
    same_mmap _ _ _ _ _ _ _ _ _ (source, placing) e f g (c.in_ok-prot.ensures.only prot ends.0) back)
