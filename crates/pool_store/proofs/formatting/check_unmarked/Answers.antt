use Rattle.pool_store.proofs.Names.{refl, rules}
use Rattle.file_store.{proofs.{Asking.{one_once}}, specs.Format.{IsMarkSector}}
use Rattle.pool_store.proofs.formatting.check_unmarked.Goals as goal

pub returns-clause-unmarked : goal.returns-clause-unmarked
returns-clause-unmarked g c = search rules

pub returns-in_err-read-clause-once : goal.returns-in_err-read-clause-once
returns-in_err-read-clause-once g c = one_once IsMarkSector 0 _ _ refl c.read.ensures.asks

pub returns-then-is_any_mark-clause-once : goal.returns-then-is_any_mark-clause-once
returns-then-is_any_mark-clause-once g c = one_once IsMarkSector 0 _ _ refl c.read.ensures.asks

pub returns-clause-once : goal.returns-clause-once
returns-clause-once g c = one_once IsMarkSector 0 _ _ refl c.read.ensures.asks
