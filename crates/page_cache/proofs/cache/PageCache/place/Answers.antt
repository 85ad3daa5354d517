use Rattle.{std.proofs.Common.{None, Some, sym, ◌∙◌, arith}, page_cache.{proofs.{NodeLemmas.{page_at-within}, TableLemmas.{place_of-first, place_in-frame, place_in-slot}}, specs.Inside.{cache_table_of}}}
use Rattle.page_cache.proofs.cache.PageCache.place.Goals as goal

pub overflow_cast-result-in-Some-2 : goal.overflow_cast-result-in-Some-2
overflow_cast-result-in-Some-2 c = let within = page_at-within c.self.inside.index.pages.items c.in-Some.node c.args.page c.in-Some.ensures.held in omega (arith, c.self.invariant.most_nodes, c.self.invariant.most_frames)

pub returns-in-Some : goal.returns-in-Some
returns-in-Some c = rw (← c.self.view_is) (sym (place_of-first (cache_table_of c.self.inside) c.args.page (Some c.in-Some.node) (sym c.in-Some.ensures.first) ∙ place_in-frame c.self.inside.frames c.in-Some.node (omega arith)))

pub returns-in-Some-2 : goal.returns-in-Some-2
returns-in-Some-2 c = rw (← c.self.view_is) (sym (place_of-first (cache_table_of c.self.inside) c.args.page (Some c.in-Some.node) (sym c.in-Some.ensures.first) ∙ place_in-slot c.self.inside.frames c.in-Some.node (omega arith)))

pub returns-in-None : goal.returns-in-None
returns-in-None c = rw (← c.self.view_is) (sym (place_of-first (cache_table_of c.self.inside) c.args.page None (sym c.in-None.ensures.first)))
