use Rattle.{std.proofs.{Common.{◌≡◌, ◌+◌, true, arith, rules}, lemmas.List.{get_or_read}}, page_cache.{proofs.{ChainLemmas.{bucket-own, IsChained-removed}, NodeLemmas.{page_at-within}}, specs.{Chains.{is_in_bucket}, Nodes.{page_at}}}}
use Rattle.page_cache.proofs.index.Index.remove.Goals as goal

pub returns-clause-chained : goal.returns-clause-chained
returns-clause-chained c =
    let index = c.args.self.now in
    let inside = page_at-within index.pages.items c.args.node c.args.page c.requires.held in
    let held : is_in_bucket index.mask c.bucket_of.result (page_at index.pages.items c.args.node) ≡ true =
    rw (c.requires.held, c.bucket_of.ensures.bucket) (bucket-own index.mask c.args.page) in
    let read = get_or_read index.links.items (index.mask + 1 + c.args.node) c.index.result.now (omega (arith, c.requires.chained.count)) c.index.ensures 0 in
    rw read (IsChained-removed index.pages.items index.links.items index.mask c.bucket_of.result c.args.node c.seat-at.result
    c.requires.chained c.bucket_of.ensures.within c.seat-at.ensures.seat c.seat-at.ensures.from held)

pub returns-clause-pages : goal.returns-clause-pages
returns-clause-pages c = search rules
