use Rattle.{std.proofs.Common.{ℕ, List, [], get_or, sym, ◌∙◌, ap, subst, arith}, trace_lang.{proofs.Places.{two_or_more}, specs.Grammar.{IsNumber}}}
use Rattle.trace_lang.proofs.arguments.in_file.Goals as goal

pub returns-in_err-file-clause-only : goal.returns-in_err-file-clause-only
returns-in_err-file-clause-only c = λ file offset placing h.
    let whole = sym h.3 ∙ two_or_more c.args.words.now record { ref_ptr = (0, 0); now = [] } (omega arith) in
    absurd (c.in_err-file.ensures.none _ (subst (λ (t : List ℕ). IsNumber t file) (ap (λ t. get_or t 0 []) whole) h.4))

pub returns-in_err-offset-clause-only : goal.returns-in_err-offset-clause-only
returns-in_err-offset-clause-only c = λ file offset placing h.
    let whole = sym h.3 ∙ two_or_more c.args.words.now record { ref_ptr = (0, 0); now = [] } (omega arith) in
    absurd (c.in_err-offset.ensures.none _ (subst (λ (t : List ℕ). IsNumber t offset) (ap (λ t. get_or t 1 []) whole) h.5))

pub returns-clause-found : goal.returns-clause-found
returns-clause-found c = (_, _, _, two_or_more c.args.words.now record { ref_ptr = (0, 0); now = [] } (omega arith), c.in_ok-file.ensures.found, c.in_ok-offset.ensures.found, c.in_ok-placing.ensures.found)
