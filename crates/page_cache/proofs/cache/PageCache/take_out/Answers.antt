use Rattle.std.proofs.Common.{◌≡◌, Some, None, sym, ◌∙◌}
use Rattle.page_cache.{specs.{Inside.{cache_table_of}, Nodes.{first_node}}, proofs.{NodeLemmas.{first_node-removed}, SetLemmas.{members-at}, TableLemmas.{is_touched-first, place_of-first}, Changes.{IsWhole-taken, SameButFor-taken}}}
use Rattle.page_cache.proofs.cache.PageCache.take_out.Goals as goal

pub returns-in_default-clause-was : goal.returns-in_default-clause-was
returns-in_default-clause-was c = rw (← c.self.view_is) (sym (is_touched-first (cache_table_of c.self.inside) c.args.page None (sym c.in_default.ensures.first)))

pub returns-in_default-clause-placed : goal.returns-in_default-clause-placed
returns-in_default-clause-placed c = rw (← c.self.view_is) (place_of-first (cache_table_of c.self.inside) c.args.page None (sym c.in_default.ensures.first))

pub returns-in_default-clause-untouched : goal.returns-in_default-clause-untouched
returns-in_default-clause-untouched c = rw (← c.self.view_is) (is_touched-first (cache_table_of c.self.inside) c.args.page None (sym c.in_default.ensures.first))

pub invariant_of-self : goal.invariant_of-self
invariant_of-self c =
    IsWhole-taken c.self.inside c.remove-2.new.self c.remove.new.self c.in-Some.node c.args.page c.self.invariant c.in-Some.ensures.held
    c.remove-2.ensures.pages c.remove-2.ensures.chained c.remove.ensures.ordered c.remove.ensures.member c.remove.ensures.others

pub returns-clause-was : goal.returns-clause-was
returns-clause-was c =
    let touched = c.self.inside.touched in
    rw (← c.self.view_is) (c.contains-touched.ensures ∙ sym (members-at touched.ranks.items touched.count c.in-Some.node)
    ∙ sym (is_touched-first (cache_table_of c.self.inside) c.args.page (Some c.in-Some.node) (sym c.in-Some.ensures.first)))

-- the page is nowhere now
gone : (c : goal.After-remove-2) → first_node c.remove-2.new.self.pages.items c.args.page ≡ None
gone c = rw c.remove-2.ensures.pages (first_node-removed c.self.inside.index.pages.items c.in-Some.node c.args.page c.self.invariant.one c.in-Some.ensures.held)

pub returns-clause-placed : goal.returns-clause-placed
returns-clause-placed c = place_of-first (cache_table_of (record { frames = c.self.inside.frames; index = c.remove-2.new.self; touched = c.remove.new.self })) c.args.page None (gone c)

pub returns-clause-untouched : goal.returns-clause-untouched
returns-clause-untouched c = is_touched-first (cache_table_of (record { frames = c.self.inside.frames; index = c.remove-2.new.self; touched = c.remove.new.self })) c.args.page None (gone c)

pub returns-clause-others : goal.returns-clause-others
returns-clause-others c = rw (← c.self.view_is) (SameButFor-taken c.self.inside c.remove-2.new.self c.remove.new.self c.in-Some.node c.args.page c.in-Some.ensures.held c.remove-2.ensures.pages c.remove.ensures.others)
