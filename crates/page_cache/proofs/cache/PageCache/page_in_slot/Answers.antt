use Rattle.{std.proofs.Common.{◌+◌}, page_cache.{proofs.TableLemmas.{held_at, none_at, place_in-slot_at}, specs.{Inside.{cache_table_of}, declared.place.Place.TheVariants.{Slot}}}}
use Rattle.page_cache.proofs.cache.PageCache.page_in_slot.Goals as goal

pub returns-clause-held : goal.returns-clause-held
returns-clause-held c =
    rw (← c.self.view_is) (held_at (cache_table_of c.self.inside) _ _ _ c.self.invariant.one (place_in-slot_at c.self.inside.frames c.args.n.0) c.page.ensures)

pub returns-clause-none : goal.returns-clause-none
returns-clause-none c = rw (← c.self.view_is) (none_at (cache_table_of c.self.inside) (c.self.inside.frames + c.args.n.0) (Slot c.args.n) c.page.result (place_in-slot_at c.self.inside.frames c.args.n.0) c.page.ensures)
