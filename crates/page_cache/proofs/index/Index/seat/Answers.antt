use Rattle.{std.proofs.{Common.{◌≡◌, ◌+◌, ◌<◌, true, get_or, refl, sym, ◌∙◌, inr, arith}, lemmas.List.{get_or_read}}, page_cache.{proofs.ChainLemmas.{link-inside}, specs.{Chains.{is_in_bucket, IsNext}, Nodes.{page_at}}}}
use Rattle.page_cache.proofs.index.Index.seat.Goals as goal

-- where the link leads, and that this is a node of the bucket
leads : (c : goal.After-row_known-in-loop-at-2-1) → (c.index-in-loop-at.result.now ≡ get_or c.args.self.now.links.items c.loop-at.at 0)
    × (c.index-in-loop-at.result.now < c.args.node)
    × (is_in_bucket c.args.self.now.mask c.args.bucket (page_at c.args.self.now.pages.items c.index-in-loop-at.result.now) ≡ true)
leads c =
    let index = c.args.self.now in
    let link = c.loop-at.invariant.link in
    let at_inside = link-inside index.pages.items index.links.items index.mask c.args.bucket c.loop-at.invariant.low c.loop-at.at c.requires.chained c.requires.bucket link in
    let first = get_or_read index.links.items c.loop-at.at c.index.result.now at_inside c.index.ensures 0 in
    let again = get_or_read index.links.items c.loop-at.at c.index-in-loop-at.result.now at_inside c.index-in-loop-at.ensures 0 in
    let less : c.index-in-loop-at.result.now < c.args.node = rw (again ∙ sym first) c.loop-at-test.true in
    let next : IsNext index.pages.items index.mask c.args.bucket c.loop-at.invariant.low c.index-in-loop-at.result.now =
    rw again (c.requires.chained.link c.args.bucket c.loop-at.invariant.low c.loop-at.at c.requires.bucket link) in
    (again, less, next.there (omega arith))

pub loop-at-smaller : goal.loop-at-smaller
loop-at-smaller c =
    let lead = leads c in
    let index = c.args.self.now in
    let next = c.requires.chained.link c.args.bucket (c.index-in-loop-at.result.now + 1) (index.mask + 1 + c.index-in-loop-at.result.now) c.requires.bucket
    (inr (c.index-in-loop-at.result.now, refl, refl, lead.2)) in
    omega (arith, lead.0, lead.1, next.least)

pub loop-at-preserved : goal.loop-at-preserved
loop-at-preserved c = let lead = leads c in record { low = c.index-in-loop-at.result.now + 1; link = inr (c.index-in-loop-at.result.now, refl, refl, lead.2); before = omega (arith, lead.1) }
