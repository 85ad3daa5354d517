use Rattle.{std.proofs.Common.{◌∙◌, ap, arith, None, replicate}, page_cache.proofs.ChainLemmas.{IsEmptyIndex-made}}
use Rattle.page_cache.proofs.index.Index.new.Goals as goal

pub returns : goal.returns
returns c =
    IsEmptyIndex-made c.loop-node.pages.items c.in_ok-links.links.items _ c.args.nodes c.requires.few
    (c.loop-node.invariant.empty ∙ ap (λ k. replicate k None) (omega arith)) (c.in_ok-links.ensures.items_if_clones_equal (λ y e. (cc)))
