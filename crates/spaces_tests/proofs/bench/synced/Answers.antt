use Rattle.std.proofs.Common.{rules}
use Rattle.spaces_tests.proofs.bench.synced.Goals as goal

pub returns : goal.returns
returns g c = c.msync-answer.ensures.syncs.ready (λ is. search rules)
