use Rattle.{std.proofs.Common.{◌≡◌, ◌<◌, Some, sym, ◌∙◌, arith}, page_cache.{proofs.{NodeLemmas.{first_node-of}, SetLemmas.{members-at}, TableLemmas.{is_touched-first, page_at-place, place_in-frame}}, specs.CacheTable.{place_of}}}
use Rattle.page_cache.specs.{Inside.{cache_table_of}, declared.place.Place.TheVariants.{Frame}}
use Rattle.page_cache.proofs.cache.PageCache.is_frame_touched.Goals as goal

pub contains-requires : goal.contains-requires
contains-requires c = let below : c.args.n.0 < c.self.inside.frames = rw (← c.self.view_is) at c.requires in omega (arith, below, c.self.invariant.least_nodes, c.self.invariant.nodes)

pub returns : goal.returns
returns c page placed =
    let set = c.self.inside.touched in
    let table = cache_table_of c.self.inside in
    let node = c.args.n.0 in
    let below : node < c.self.inside.frames = rw (← c.self.view_is) at c.requires in
    let there : place_of table page ≡ Frame c.args.n = rw (← c.self.view_is) at placed in
    let held = page_at-place table page node (there ∙ sym (place_in-frame table.frames node below)) in
    let first = first_node-of table.pages page node c.self.invariant.one held in
    rw (← c.self.view_is) (sym (is_touched-first table page (Some node) first ∙ members-at set.ranks.items set.count node ∙ sym c.contains.ensures))
