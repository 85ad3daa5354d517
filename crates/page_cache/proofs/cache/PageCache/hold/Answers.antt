use Rattle.{std.proofs.Common.{◌≡◌, ◌≢◌, ℕ, ◌+◌, ◌<◌, length, set, Some, None, sym, ◌∙◌, arith}, vm_types.specs.declared.object.PageKey.{PageKey}, page_cache.proofs.Changes.{nothing_held, unmarked, same_set, given-placed, IsWhole-given}}
use Rattle.page_cache.{proofs.{Changes.{SameButFor-given}, SetLemmas.{members-at}, TableLemmas.{is_touched-first, place_of-first}}, specs.{CacheTable.{CacheTable, cache_frames, slot_count, place_in, place_of}, Inside.{cache_table_of}}}
use Rattle.page_cache.specs.{Inside.{IsWholeCache}, Nodes.{page_at, first_node}, declared.{cache.PageCache.TheInside.{Inside}, index.Index.{Index}, place.Place.TheVariants.{Home}}}
use Rattle.page_cache.proofs.cache.PageCache.hold.Goals as goal

-- what the caller keeps, of the fields
free_of : (cache : Inside) (now : CacheTable) (node : ℕ) → cache_table_of cache ≡ now → IsWholeCache cache → ((p : PageKey) → place_of now p ≢ place_in (cache_frames now) (Some node))
    → page_at cache.index.pages.items node ≡ None
free_of cache now node is whole nobody = let here = rw (← is) at nobody in nothing_held (cache_table_of cache) node whole.one here

inside_of : (cache : Inside) (now : CacheTable) (node : ℕ) → cache_table_of cache ≡ now → IsWholeCache cache → node < cache_frames now + slot_count now → node < length cache.index.pages.items
inside_of cache now node is whole below = let here = rw (← is) at below in omega (arith, here, whole.least_nodes)

home_of : (cache : Inside) (now : CacheTable) (page : PageKey) → cache_table_of cache ≡ now → place_of now page ≡ Home → place_of (cache_table_of cache) page ≡ Home
home_of cache now page is home = rw (← is) at home

found_at : (cache : Inside) (now : CacheTable) (index : Index) (node : ℕ) (page : PageKey) → cache_table_of cache ≡ now → IsWholeCache cache
    → node < cache_frames now + slot_count now → place_of now page ≡ Home → index.pages.items ≡ set cache.index.pages.items node (Some page)
    → first_node index.pages.items page ≡ Some node
found_at cache now index node page is whole below home pages = given-placed cache index cache.touched node page whole (inside_of cache now node is whole below) (home_of cache now page is home) pages

pub insert-requires-clause-free : goal.insert-requires-clause-free
insert-requires-clause-free c = free_of c.self.inside c.args.self.now c.args.node c.self.view_is c.self.invariant c.requires.free

pub invariant_of-self : goal.invariant_of-self
invariant_of-self c =
    IsWhole-given c.self.inside c.insert.new.self c.insert-then-touched.new.self c.args.node c.args.page c.self.invariant (inside_of c.self.inside c.args.self.now c.args.node c.self.view_is c.self.invariant c.requires.inside)
    (home_of c.self.inside c.args.self.now c.args.page c.self.view_is c.requires.home)
    c.insert.ensures.pages c.insert.ensures.chained c.insert-then-touched.ensures.ordered c.insert-then-touched.ensures.others

pub invariant_of-self-else-touched : goal.invariant_of-self-else-touched
invariant_of-self-else-touched c =
    let touched = c.self.inside.touched in
    IsWhole-given c.self.inside c.insert.new.self touched c.args.node c.args.page c.self.invariant (inside_of c.self.inside c.args.self.now c.args.node c.self.view_is c.self.invariant c.requires.inside)
    (home_of c.self.inside c.args.self.now c.args.page c.self.view_is c.requires.home)
    c.insert.ensures.pages c.insert.ensures.chained c.self.invariant.ordered (same_set c.args.node touched.ranks.items touched.count)

pub returns-then-touched-clause-placed : goal.returns-then-touched-clause-placed
returns-then-touched-clause-placed c =
    rw (← c.self.view_is) (place_of-first (cache_table_of (record { frames = c.self.inside.frames; index = c.insert.new.self; touched = c.insert-then-touched.new.self }))
    c.args.page (Some c.args.node) (found_at c.self.inside c.args.self.now c.insert.new.self c.args.node c.args.page c.self.view_is c.self.invariant c.requires.inside c.requires.home c.insert.ensures.pages))

pub returns-then-touched-clause-touched : goal.returns-then-touched-clause-touched
returns-then-touched-clause-touched c =
    let touched = c.insert-then-touched.new.self in
    is_touched-first (cache_table_of (record { frames = c.self.inside.frames; index = c.insert.new.self; touched = touched })) c.args.page (Some c.args.node) (found_at c.self.inside c.args.self.now c.insert.new.self c.args.node c.args.page c.self.view_is c.self.invariant c.requires.inside c.requires.home c.insert.ensures.pages)
    ∙ members-at touched.ranks.items touched.count c.args.node ∙ c.insert-then-touched.ensures.member ∙ sym c.if-touched.true

pub returns-then-touched-clause-others : goal.returns-then-touched-clause-others
returns-then-touched-clause-others c =
    rw (← c.self.view_is) (SameButFor-given c.self.inside c.insert.new.self c.insert-then-touched.new.self c.args.node c.args.page (free_of c.self.inside c.args.self.now c.args.node c.self.view_is c.self.invariant c.requires.free)
    c.insert.ensures.pages c.insert-then-touched.ensures.others)

pub returns-else-touched-clause-placed : goal.returns-else-touched-clause-placed
returns-else-touched-clause-placed c =
    rw (← c.self.view_is) (place_of-first (cache_table_of (record { frames = c.self.inside.frames; index = c.insert.new.self; touched = c.self.inside.touched }))
    c.args.page (Some c.args.node) (found_at c.self.inside c.args.self.now c.insert.new.self c.args.node c.args.page c.self.view_is c.self.invariant c.requires.inside c.requires.home c.insert.ensures.pages))

pub returns-else-touched-clause-touched : goal.returns-else-touched-clause-touched
returns-else-touched-clause-touched c =
    let touched = c.self.inside.touched in
    is_touched-first (cache_table_of (record { frames = c.self.inside.frames; index = c.insert.new.self; touched = touched })) c.args.page (Some c.args.node) (found_at c.self.inside c.args.self.now c.insert.new.self c.args.node c.args.page c.self.view_is c.self.invariant c.requires.inside c.requires.home c.insert.ensures.pages)
    ∙ members-at touched.ranks.items touched.count c.args.node ∙ unmarked c.self.inside c.args.node c.self.invariant (free_of c.self.inside c.args.self.now c.args.node c.self.view_is c.self.invariant c.requires.free) ∙ sym c.if-touched.false

pub returns-else-touched-clause-others : goal.returns-else-touched-clause-others
returns-else-touched-clause-others c =
    let touched = c.self.inside.touched in
    rw (← c.self.view_is) (SameButFor-given c.self.inside c.insert.new.self touched c.args.node c.args.page (free_of c.self.inside c.args.self.now c.args.node c.self.view_is c.self.invariant c.requires.free)
    c.insert.ensures.pages (same_set c.args.node touched.ranks.items touched.count))
