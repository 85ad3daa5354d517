use Rattle.{std.proofs.Common.{None, Some, sym, ◌∙◌}, page_cache.{proofs.{SetLemmas.{members-at}, TableLemmas.{is_touched-first, IsSound-whole}}, specs.{Inside.{cache_table_of}}}}
use Rattle.page_cache.proofs.cache.PageCache.touched_node.Goals as goal

pub returns-in-Some-clause-touched : goal.returns-in-Some-clause-touched
returns-in-Some-clause-touched c =
    let set = c.self.inside.touched in
    rw (← c.self.view_is) (record {
      touched = is_touched-first (cache_table_of c.self.inside) c.args.page (Some c.in-Some.node) (sym c.in-Some.ensures.first)
          ∙ members-at set.ranks.items set.count c.in-Some.node ∙ sym c.contains.ensures ∙ c.if-contains.true;
      first = sym c.in-Some.ensures.first;
    })

pub returns-in-Some-clause-sound : goal.returns-in-Some-clause-sound
returns-in-Some-clause-sound c = rw (← c.self.view_is) (IsSound-whole c.self.inside c.self.invariant)

pub returns-in_default-clause-untouched : goal.returns-in_default-clause-untouched
returns-in_default-clause-untouched c =
    let set = c.self.inside.touched in
    rw (← c.self.view_is) (is_touched-first (cache_table_of c.self.inside) c.args.page (Some c.in-Some.node) (sym c.in-Some.ensures.first)
    ∙ members-at set.ranks.items set.count c.in-Some.node ∙ sym c.contains.ensures ∙ c.if-contains.false)

pub returns-in_default-clause-sound : goal.returns-in_default-clause-sound
returns-in_default-clause-sound c = rw (← c.self.view_is) (IsSound-whole c.self.inside c.self.invariant)

pub returns-in_default-2-clause-untouched : goal.returns-in_default-2-clause-untouched
returns-in_default-2-clause-untouched c = rw (← c.self.view_is) (is_touched-first (cache_table_of c.self.inside) c.args.page None (sym c.find.ensures.first ∙ c.in_default.is))

pub returns-in_default-2-clause-sound : goal.returns-in_default-2-clause-sound
returns-in_default-2-clause-sound c = rw (← c.self.view_is) (IsSound-whole c.self.inside c.self.invariant)
