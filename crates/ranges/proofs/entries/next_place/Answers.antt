use Rattle.ranges.proofs.Names.{top_level, ◌≡◌, ℕ, ◌%◌, sym, ap, ◌∙◌, arith, entry_at, entry_in_row}
use Rattle.ranges.proofs.entries.next_place.Goals as goal

-- a place is its own
own_place : (n : ℕ) → n % 512 % 512 ≡ n % 512
own_place n = omega arith

pub returns-clause-passed : goal.returns-clause-passed
returns-clause-passed g c root p row least below =
    entry_in_row c.args.memory.now (top_level g.M.Levels.mode) root p c.args.table.0 row
    ∙ ap (entry_at c.args.memory.now c.args.table.0) (sym (own_place p)) ∙ c.next_set.ensures.passed (p % 512) least below

pub returns-clause-found : goal.returns-clause-found
returns-clause-found g c root p row at below none =
    c.next_set.ensures.found below (ap (entry_at c.args.memory.now c.args.table.0) (ap (λ x. x % 512) (sym at) ∙ own_place p)
    ∙ sym (entry_in_row c.args.memory.now (top_level g.M.Levels.mode) root p c.args.table.0 row) ∙ none)
