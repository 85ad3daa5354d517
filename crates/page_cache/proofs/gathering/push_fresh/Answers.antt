use Rattle.std.proofs.Common.{arith}
use Rattle.page_cache.proofs.gathering.push_fresh.Goals as goal

pub returns-then-n-list-clause-full : goal.returns-then-n-list-clause-full
returns-then-n-list-clause-full c = omega arith
