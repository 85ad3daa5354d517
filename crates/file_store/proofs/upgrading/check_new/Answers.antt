use Rattle.file_store.proofs.Names.{rules}
use Rattle.file_store.proofs.upgrading.check_new.Goals as goal

pub returns-in_err-read-clause-room : goal.returns-in_err-read-clause-room
returns-in_err-read-clause-room g c = search rules

pub returns-then-is_any_mark-clause-room : goal.returns-then-is_any_mark-clause-room
returns-then-is_any_mark-clause-room g c = search rules

pub returns-clause-room : goal.returns-clause-room
returns-clause-room g c = search rules
