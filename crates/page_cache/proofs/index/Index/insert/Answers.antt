use Rattle.{std.proofs.{Common.{sym}, lemmas.List.{get_or_read}}, page_cache.proofs.ChainLemmas.{link-inside, IsChained-inserted}}
use Rattle.page_cache.proofs.index.Index.insert.Goals as goal

pub returns-clause-chained : goal.returns-clause-chained
returns-clause-chained c =
    let index = c.args.self.now in
    let seat = c.seat-at.ensures.seat in
    let at_inside = link-inside index.pages.items index.links.items index.mask c.bucket_of.result seat.low c.seat-at.result c.requires.chained c.bucket_of.ensures.within seat.link in
    let read = get_or_read index.links.items c.seat-at.result c.index.result.now at_inside c.index.ensures 0 in
    rw read (IsChained-inserted index.pages.items index.links.items index.mask c.bucket_of.result c.args.node c.seat-at.result
    c.requires.chained c.bucket_of.ensures.within seat c.seat-at.ensures.from c.args.page c.requires.free c.requires.inside (sym c.bucket_of.ensures.bucket))
