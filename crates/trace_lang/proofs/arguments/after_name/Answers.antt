use Rattle.{std.proofs.Common.{[], ◌∷◌, codes, refl, ◌∙◌, ap, sym, subst}, trace_lang.{proofs.{Nothing.{none≢some}, Places.{texts}}, specs.{Names.{ReadsAfter, source_text}, declared.names.SourceName.{SourceName}}}}
use Rattle.trace_lang.proofs.arguments.after_name.Goals as goal

pub returns-in_err-file-in-Private-clause-only : goal.returns-in_err-file-in-Private-clause-only
returns-in_err-file-in-Private-clause-only c =
    let P : SourceName → Type 0 = λ n. ReadsAfter n (texts c.args.words.now) c.from_residual-in_err-file-in-Private.result in
    subst P (sym c.in-Private.is) (λ file offset placing h. absurd (none≢some (c.in_err-file-in-Private.ensures.only file offset placing h)))

pub returns-in_err-file-in-Shared-clause-only : goal.returns-in_err-file-in-Shared-clause-only
returns-in_err-file-in-Shared-clause-only c =
    let P : SourceName → Type 0 = λ n. ReadsAfter n (texts c.args.words.now) c.from_residual-in_err-file-in-Shared.result in
    subst P (sym c.in-Shared.is) (λ file offset placing h. absurd (none≢some (c.in_err-file-in-Shared.ensures.only file offset placing h)))

pub returns-in_ok-placing_of-in-Anon-clause-found : goal.returns-in_ok-placing_of-in-Anon-clause-found
returns-in_ok-placing_of-in-Anon-clause-found c = (codes "anon" ∷ [], texts c.args.words.now, ap (λ n. source_text n ∷ texts c.args.words.now) c.in-Anon.is, refl, c.in_ok-placing_of-in-Anon.ensures.found)

pub returns-in_ok-placing_of-in-Common-clause-found : goal.returns-in_ok-placing_of-in-Common-clause-found
returns-in_ok-placing_of-in-Common-clause-found c = (codes "common" ∷ [], texts c.args.words.now, ap (λ n. source_text n ∷ texts c.args.words.now) c.in-Common.is, refl, c.in_ok-placing_of-in-Common.ensures.found)

pub returns-in_ok-file-in-Private-clause-found : goal.returns-in_ok-file-in-Private-clause-found
returns-in_ok-file-in-Private-clause-found c =
    let h = c.in_ok-file-in-Private.ensures.found in
    let whole = ap (λ n. source_text n ∷ texts c.args.words.now) c.in-Private.is ∙ ap (λ t. codes "private" ∷ t) h.3 in
    (codes "private" ∷ h.0 ∷ h.1 ∷ [], h.2, whole, (h.0, h.1, refl, h.4, h.5), h.6)

pub returns-in_ok-file-in-Shared-clause-found : goal.returns-in_ok-file-in-Shared-clause-found
returns-in_ok-file-in-Shared-clause-found c =
    let h = c.in_ok-file-in-Shared.ensures.found in
    let whole = ap (λ n. source_text n ∷ texts c.args.words.now) c.in-Shared.is ∙ ap (λ t. codes "shared" ∷ t) h.3 in
    (codes "shared" ∷ h.0 ∷ h.1 ∷ [], h.2, whole, (h.0, h.1, refl, h.4, h.5), h.6)
