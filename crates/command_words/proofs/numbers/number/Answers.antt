use Rattle.{std.proofs.Common.{ℕ, List, subst, sym}, trace_lang.specs.Grammar.{IsNumber}}
use Rattle.command_words.proofs.numbers.number.Goals as goal

pub returns-in_default-clause-only : goal.returns-in_default-clause-only
returns-in_default-clause-only c = λ n is less.
    absurd (c.in_default.ensures.none n (subst (λ (text : List ℕ). IsNumber text n) (sym c.as_bytes.ensures.value) is))
