use Rattle.{std.proofs.Common.{◌+◌, ◌<◌}, page_cache.proofs.GatherLemmas.{IsPart}}
use Rattle.page_cache.proofs.cache.PageCache.gather_row.Given as goal

-- the pages before this one were looked at
abbrev pub invariant-loop-offset : goal.invariant-loop-offset
invariant-loop-offset l = IsPart l.self l.row.first.file l.row.first.page l.row.count l.used (λ p. p.page < l.row.first.page + l.offset) l.fn.list l.list l.ranks l.n
