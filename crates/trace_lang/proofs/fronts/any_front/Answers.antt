use Rattle.{std.proofs.Common.{ℕ, List, arith}, trace_lang.{proofs.FirstWord.{hexadecimal_front, hexadecimal_text, one_alone, same_front}, specs.Words.{BeginsWith}}}
use Rattle.trace_lang.proofs.fronts.any_front.Goals as goal

pub returns-in-Some-clause-found : goal.returns-in-Some-clause-found
returns-in-Some-clause-found c = hexadecimal_front _ _ _ c.args.text.now (hexadecimal_text c.args.text.now c.in-48.len_at_least (omega arith) (omega arith)) c.in-Some.ensures

pub returns-in_err-word-clause-none : goal.returns-in_err-word-clause-none
returns-in_err-word-clause-none c = let none : (n : ℕ) (rest : List ℕ) → BeginsWith n rest c.args.text.now → ⊥ = λ n rest h. one_alone h.0 rest c.args.text.now h.1 c.in_err-word.ensures.alone in rw c.from_residual.ensures none

pub returns-in_err-value-clause-none : goal.returns-in_err-value-clause-none
returns-in_err-value-clause-none c =
    let word = c.in_ok-word.ensures in
    let none : (n : ℕ) (rest : List ℕ) → BeginsWith n rest c.args.text.now → ⊥ = λ n rest h. c.in_err-value.ensures.none n (same_front n rest c.args.text.now _ _ h word.parts word.word) in
    rw c.from_residual-in_err-value.ensures none
