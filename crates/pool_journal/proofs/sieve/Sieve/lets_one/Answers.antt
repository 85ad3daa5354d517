use Rattle.std.proofs.Common.{◌≡◌, ◌+◌, ◌%◌, ◌∙◌, sym, ap, arith}
use Rattle.pool_journal.proofs.Marks.{unmarked}
use Rattle.pool_journal.proofs.sieve.Sieve.lets_one.Goals as goal

pub returns : goal.returns
returns c = λ none homes is.
    let fits = c.ranges.number.fits in
    unmarked homes c.args.self.now c.args.number ((c.args.number + 4294967295) % 4294967296 % 4096) is
    (λ h same. (let low : (c.args.number + 4294967295) % 4294967296 ≡ h = omega (arith, fits, same) in ap (λ k. k % 4096) low)) (sym c.has.ensures ∙ none)
