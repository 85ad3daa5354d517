use Rattle.{std.proofs.{Common.{get_or, refl, arith, rules}, lemmas.{Grind.{common_steps}, List.{get_or_read}}}, page_cache.{proofs.SetLemmas.{inserted}, specs.Sets.{HaveSwapped}}}
use Rattle.page_cache.proofs.node_set.NodeSet.insert.Goals as goal

pub returns-then-rank-self : goal.returns-then-rank-self
returns-then-rank-self c =
    let set = c.args.self.now in
    let read = get_or_read set.ranks.items c.args.node c.index-rank.result.now c.requires.inside c.index-rank.ensures 0 in
    let swapped : HaveSwapped set.order.items set.ranks.items c.swap.new.self.ranks.items (get_or set.ranks.items c.args.node 0) set.count =
    rw (← read) c.swap.ensures.swapped in
    let both = inserted set.order.items set.ranks.items c.swap.new.self.ranks.items set.count c.args.node set.count c.requires.ordered c.requires.inside (omega arith) swapped refl (omega arith) in
    record { ordered = search rules; member = rw c.swap.ensures.count (both.0); others = rw c.swap.ensures.count (both.1) }

pub returns-else-rank-self : goal.returns-else-rank-self
returns-else-rank-self c = grind (arith, common_steps)
