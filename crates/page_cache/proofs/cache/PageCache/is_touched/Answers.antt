use Rattle.{std.proofs.Common.{None, Some, sym, ◌∙◌, arith}, page_cache.{proofs.{NodeLemmas.{page_at-within}, SetLemmas.{members-at}, TableLemmas.{is_touched-first}}, specs.Inside.{cache_table_of}}}
use Rattle.page_cache.proofs.cache.PageCache.is_touched.Goals as goal

pub contains-requires : goal.contains-requires
contains-requires c = let within = page_at-within c.self.inside.index.pages.items c.in-Some.node c.args.page c.in-Some.ensures.held in omega (arith, c.self.invariant.nodes)

pub returns-in-Some : goal.returns-in-Some
returns-in-Some c =
    let set = c.self.inside.touched in
    rw (← c.self.view_is) (sym (is_touched-first (cache_table_of c.self.inside) c.args.page (Some c.in-Some.node) (sym c.in-Some.ensures.first)
    ∙ members-at set.ranks.items set.count c.in-Some.node ∙ sym c.contains.ensures))

pub returns-in-None : goal.returns-in-None
returns-in-None c = rw (← c.self.view_is) (sym (is_touched-first (cache_table_of c.self.inside) c.args.page None (sym c.in-None.ensures.first)))
