use Rattle.{page_cache.{proofs.TableLemmas.{held_at, none_at, place_in-frame}, specs.{Inside.{cache_table_of}}}}
use Rattle.page_cache.proofs.cache.PageCache.page_in_frame.Goals as goal

pub returns-clause-held : goal.returns-clause-held
returns-clause-held c =
    rw (← c.self.view_is) (held_at (cache_table_of c.self.inside) _ _ _ c.self.invariant.one (place_in-frame c.self.inside.frames c.args.n.0 (rw (← c.self.view_is) at c.requires)) c.page.ensures)

pub returns-clause-none : goal.returns-clause-none
returns-clause-none c =
    rw (← c.self.view_is) (none_at (cache_table_of c.self.inside) _ _ _ (place_in-frame c.self.inside.frames c.args.n.0 (rw (← c.self.view_is) at c.requires)) c.page.ensures)
