use Rattle.{std.proofs.Common.{◌≡◌, ℕ, ◌<◌, Some, get_or}, vm_types.specs.declared.object.PageKey.TheVariants.{File}, page_cache.{proofs.GatherLemmas.{IsPart}, specs.{Inside.{cache_table_of}, Nodes.{page_at}}}}
use Rattle.page_cache.proofs.cache.PageCache.gather_touched.Given as goal

-- the nodes at the places before this one were looked at
abbrev pub invariant-loop-place : goal.invariant-loop-place
invariant-loop-place l =
    IsPart (cache_table_of l.self-inside) l.row.first.file l.row.first.page l.row.count l.used
    (λ p. (j : ℕ) × (j < l.place) × (page_at l.self-inside.index.pages.items (get_or l.self-inside.touched.order.items j 0) ≡ Some (File p)))
    l.fn.list l.list l.ranks l.n
