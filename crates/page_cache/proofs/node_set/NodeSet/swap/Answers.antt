use Rattle.{std.proofs.{Common.{refl, sym}, lemmas.List.{get_or_read}}, page_cache.proofs.SetLemmas.{nodes_swapped}}
use Rattle.page_cache.proofs.node_set.NodeSet.swap.Goals as goal

pub returns : goal.returns
returns c =
    let set = c.args.self.now in
    let first = c.index-first.result.now in
    let second = c.index-second.result.now in
    let at_i = get_or_read set.order.items c.args.i first (rw c.requires.ordered.equal c.requires.first) c.index-first.ensures 0 in
    let at_j = get_or_read set.order.items c.args.j second (rw c.requires.ordered.equal c.requires.second) c.index-second.ensures 0 in
    let swapped = nodes_swapped set.order.items set.ranks.items set.count c.args.i c.args.j first second c.requires.ordered c.requires.first c.requires.second (sym at_i) (sym at_j) in
    record { ordered = swapped.0; swapped = swapped.1; count = refl }
