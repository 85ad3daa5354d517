use Rattle.{std.proofs.Common.{◌≡◌, Option, Some, None, Result, Ok, Err, IfSome, IfOk, OnErr, ok_or, refl, sym, ◌∙◌, ap, subst, arith}, vm_types.specs.declared.command.Command.{Command}, trace_lang.proofs.Spaces.{form_of_line}}
use Rattle.trace_lang.{proofs.Spaces.{command_of_words}, specs.{Grammar.{IsCommand}, Words.{words_of}}}
use Rattle.trace_lang.proofs.parsing.parse_line.Goals as goal

found_ok : {A E : Type 0} (P Q : A → Type 0) (r : Option A) (e : E) → ((x : A) → P x → Q x) → IfSome r P → IfOk (ok_or r e) Q
found_ok P Q None e f h = tt
found_ok P Q (Some x) e f h = f x h

none_ok : {A E : Type 0} (P : A → Type 0) (r : Result A E) → ((x : A) → P x → r ≡ Ok x) → OnErr r ((x : A) → P x → ⊥)
none_ok P (Ok x) only = tt
none_ok P (Err e) only = λ x h. let same = only x h in cc

pub returns-clause-found : goal.returns-clause-found
returns-clause-found c =
    let line = c.args.line.now in
    subst (λ (r : Result Command _). IfOk r (λ command. IsCommand line command)) (sym c.ok_or.ensures.value)
    (found_ok _ (λ command. IsCommand line command) c.command_in.result _ (λ command form. command_of_words line (words_of line) command (omega arith) refl form) c.command_in.ensures.found)

pub returns-clause-only : goal.returns-clause-only
returns-clause-only c = λ command h.
    c.ok_or.ensures.value ∙ ap (λ r. ok_or r _) (c.command_in.ensures.only command (form_of_line c.args.line.now _ command refl h))

pub returns-clause-none : goal.returns-clause-none
returns-clause-none c = none_ok (λ command. IsCommand c.args.line.now command) c.ok_or.result (λ command h. c.ok_or.ensures.value ∙ ap (λ r. ok_or r _) (c.command_in.ensures.only command (form_of_line c.args.line.now _ command refl h)))
