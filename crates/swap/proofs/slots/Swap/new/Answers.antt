use Rattle.{std.proofs.{Common.{ℕ, List, length, ap, ◌∙◌}, lemmas.List.{length-replicate}}, swap.{proofs.Stack.{zero_at}, specs.Counts.{count_at}}}
use Rattle.swap.proofs.slots.Swap.new.Goals as goal

pub returns-clause-fresh : goal.returns-clause-fresh
returns-clause-fresh g c =
    let zeros = c.in_ok-counts.ensures.zeros in
    record { total = ap (λ (l : List ℕ). length l) zeros ∙ length-replicate c.args.slots 0; free = λ n. ap (λ l. count_at l n) zeros ∙ zero_at c.args.slots n }
