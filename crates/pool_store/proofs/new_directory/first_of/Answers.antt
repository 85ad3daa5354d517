use Rattle.pool_store.proofs.Names.{arith}
use Rattle.file_store.proofs.NewStores.{first_home-rest}
use Rattle.pool_store.proofs.new_directory.first_of.Goals as goal

pub overflow_cast-before : goal.overflow_cast-before
overflow_cast-before g c = let split = first_home-rest c.args.sources.now c.args.f in omega (arith, split, c.requires.homes, c.pages_of-before.ensures)

pub overflow_add-result : goal.overflow_add-result
overflow_add-result g c = let split = first_home-rest c.args.sources.now c.args.f in omega (arith, split, c.requires.homes, c.pages_of-before.ensures)

pub returns : goal.returns
returns g c = let split = first_home-rest c.args.sources.now c.args.f in omega (arith, split, c.requires.homes, c.pages_of-before.ensures)
