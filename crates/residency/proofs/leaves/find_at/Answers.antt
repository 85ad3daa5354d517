use Rattle.residency.proofs.Names.{user_pages_fit, arith, rules}
use Rattle.residency.proofs.leaves.find_at.Goals as goal

pub returns-then-is_over : goal.returns-then-is_over
returns-then-is_over g c =
    record {
      some = record {
        from = omega (arith, c.if-low-get.true, c.get.ensures.number);
        user = c.requires.only.user;
        over = c.is_over.ensures.over c.if-is_over.true;
        before = λ j low less over. (
            let one = c.requires.only.one j (let u = c.requires.only.user in omega (arith, less, u, user_pages_fit g.M.Levels.mode)) over in
            omega (arith, one, less));
      };
      none = search rules;
    }
