use Rattle.std.proofs.{Common.{◌+◌, ◌<◌, length, get_or, sym, ap, ◌∙◌, None, inl, inr, refl, arith, below_more}, lemmas.List.{get_or_read}}
use Rattle.page_cache.{specs.{Nodes.{holds}, Chains.{bucket_of, IsNext}}, proofs.{NodeLemmas.{first_node-found, first_node-none, holds-true}, ChainLemmas.{passed-none}}}
use Rattle.page_cache.proofs.index.Index.find.Goals as goal

pub loop-node-init : goal.loop-node-init
loop-node-init c =
    let index = c.args.self.now in
    let read = get_or_read index.links.items c.bucket_of.result c.index.result.now (omega (arith, c.requires.count)) c.index.ensures 0
    ∙ ap (λ k. get_or index.links.items k 0) c.bucket_of.ensures.bucket in
    let next : IsNext index.pages.items index.mask (bucket_of index.mask c.args.page) 0 c.index.result.now =
    rw read (c.requires.link (bucket_of index.mask c.args.page) 0 (bucket_of index.mask c.args.page) (omega (arith, c.bucket_of.ensures.bucket)) (inl (refl, refl))) in
    record {
      within = next.within;
      there = next.there;
      before = passed-none index.pages.items index.mask 0 c.index.result.now c.args.page next (λ m below. absurd (omega arith));
    }

pub returns-then-holds-clause-first : goal.returns-then-holds-clause-first
returns-then-holds-clause-first c =
    let index = c.args.self.now in
    let read = get_or_read index.pages.items c.loop-node.node c.index-in-loop-node.result.now (omega arith) c.index-in-loop-node.ensures None in
    sym (first_node-found index.pages.items c.args.page c.loop-node.node (ap (holds c.args.page) (sym read) ∙ sym c.holds.ensures ∙ c.if-holds.true) c.loop-node.invariant.before)

pub returns-then-holds-clause-held : goal.returns-then-holds-clause-held
returns-then-holds-clause-held c =
    let index = c.args.self.now in
    let read = get_or_read index.pages.items c.loop-node.node c.index-in-loop-node.result.now (omega arith) c.index-in-loop-node.ensures None in
    sym read ∙ holds-true c.args.page c.index-in-loop-node.result.now (sym c.holds.ensures ∙ c.if-holds.true)

-- where the node's link leads
next_in : (c : goal.After-row_known-in-loop-node-2-1) → IsNext c.args.self.now.pages.items c.args.self.now.mask (bucket_of c.args.self.now.mask c.args.page) (c.loop-node.node + 1) c.index-in-loop-node-2.result.now
next_in c =
    let index = c.args.self.now in
    let inside : c.loop-node.node < length index.pages.items = omega arith in
    let read = get_or_read index.links.items (index.mask + 1 + c.loop-node.node) c.index-in-loop-node-2.result.now (omega (arith, c.requires.count)) c.index-in-loop-node-2.ensures 0 in
    rw read (c.requires.link (bucket_of index.mask c.args.page) (c.loop-node.node + 1) (index.mask + 1 + c.loop-node.node) (omega (arith, c.bucket_of.ensures.bucket, c.bucket_of.ensures.within))
    (inr (c.loop-node.node, refl, refl, c.loop-node.invariant.there inside)))

pub loop-node-smaller : goal.loop-node-smaller
loop-node-smaller c = let next = next_in c in omega (arith, next.least, next.within)

pub loop-node-preserved : goal.loop-node-preserved
loop-node-preserved c =
    let index = c.args.self.now in
    let next = next_in c in
    let read = get_or_read index.pages.items c.loop-node.node c.index-in-loop-node.result.now (omega arith) c.index-in-loop-node.ensures None in
    record {
      within = next.within;
      there = next.there;
      before = passed-none index.pages.items index.mask (c.loop-node.node + 1) c.index-in-loop-node-2.result.now c.args.page next
          (below_more _ _ c.loop-node.invariant.before (ap (holds c.args.page) (sym read) ∙ sym c.holds.ensures ∙ c.if-holds.false));
    }

pub returns-clause-first : goal.returns-clause-first
returns-clause-first c = sym (first_node-none c.args.self.now.pages.items c.args.page (λ m below. c.loop-node.invariant.before m (omega arith)))
