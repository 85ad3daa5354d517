use Rattle.spaces.proofs.{Names.{user_end, ℕ, ◌+◌, ◌≤◌, sym, subst, attr_at}, Placing.{placed_inside}}
use Rattle.spaces.proofs.mappings.place_of.Goals as goal

pub returns-in-Some-clause-user : goal.returns-in-Some-clause-user
returns-in-Some-clause-user g c =
    subst (λ (n : ℕ). (16 ≤ n) × (n + c.args.pages ≤ user_end g.M.Levels.mode)) (sym c.get.ensures.number)
    (placed_inside g.M.Levels.mode (attr_at c.args.regions.now) c.args.addr c.args.pages c.in-Some.first (sym c.in-Some.ensures))
