use Rattle.pool_growth.proofs.Listed.{HasListed}
use Rattle.pool_growth.proofs.front.ChangeRoom.list_directory.Given as goal

-- the pages before this one are listed
abbrev pub invariant-loop-page : goal.invariant-loop-page
invariant-loop-page l = HasListed l.directory l.changes l.page l.fn.self l.self
