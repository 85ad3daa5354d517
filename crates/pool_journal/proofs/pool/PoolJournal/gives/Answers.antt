use Rattle.std.proofs.Common.{◌*◌, ◌≤◌, arith}
use Rattle.std.proofs.lemmas.Bool.{Decides.{nat_tests}}
use Rattle.pool_journal.{proofs.AllFree.{all_counted, none_left}, specs.Maps.{entries_of}}
use Rattle.pool_journal.proofs.pool.PoolJournal.gives.Goals as goal

pub returns-clause-some : goal.returns-clause-some
returns-clause-some c = λ is none.
    let all = all_counted c.args.self.now.sizes.blocks (entries_of c.args.self.now.map) none in
    let most : 2 * c.places.result ≤ c.free_pages.result = omega (arith, all, c.places.ensures, c.free_pages.ensures) in
    grind (arith, nat_tests)

pub returns-clause-none : goal.returns-clause-none
returns-clause-none c = λ is.
    let most : 2 * c.places.result ≤ c.free_pages.result = grind (arith, nat_tests) in
    none_left c.args.self.now.sizes.blocks (entries_of c.args.self.now.map) (omega (arith, most, c.places.ensures, c.free_pages.ensures))
