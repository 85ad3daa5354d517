use Rattle.{std.proofs.Common.{Some, None, sym, ◌∙◌}, page_cache.{proofs.{Changes.{SameButFor-marked, place_of-marked}, SetLemmas.{members-at}, TableLemmas.{is_touched-first}}, specs.Inside.{cache_table_of}}}
use Rattle.page_cache.proofs.cache.PageCache.clean.Goals as goal

pub returns-in-Some-clause-untouched : goal.returns-in-Some-clause-untouched
returns-in-Some-clause-untouched c =
    let touched = c.remove.new.self in
    is_touched-first (cache_table_of (record { frames = c.self.inside.frames; index = c.self.inside.index; touched = touched })) c.args.page (Some c.in-Some.node)
    (sym c.in-Some.ensures.first) ∙ members-at touched.ranks.items touched.count c.in-Some.node ∙ c.remove.ensures.member

pub returns-in-Some-clause-placed : goal.returns-in-Some-clause-placed
returns-in-Some-clause-placed c = rw (← c.self.view_is) (place_of-marked c.self.inside c.remove.new.self c.args.page)

pub returns-in-Some-clause-others : goal.returns-in-Some-clause-others
returns-in-Some-clause-others c = rw (← c.self.view_is) (SameButFor-marked c.self.inside c.remove.new.self c.in-Some.node c.args.page c.in-Some.ensures.held c.remove.ensures.others)

pub returns-in_default-clause-untouched : goal.returns-in_default-clause-untouched
returns-in_default-clause-untouched c = rw (← c.self.view_is) (is_touched-first (cache_table_of c.self.inside) c.args.page None (sym c.in_default.ensures.first))
