use Rattle.ranges.proofs.{Emptied.{in_row_from, row_parts}, LastName.{bare_last}, Names.{ap, ◌∙◌, ◌≡◌, arith, picture_of, entry}}
use Rattle.ranges.proofs.forgetting.forget_there.Goals as goal

pub forget-requires-clause-bare : goal.forget-requires-clause-bare
forget-requires-clause-bare g c =
    let k = c.args.at in
    bare_last (picture_of c.args.core.now) c.args.pid k 1 c.args.page k c.requires.fit
    (λ j inside. (let parts = row_parts k 1 j inside in let low = parts.0 in let high = parts.1 in let same : j ≡ k = omega (arith, low, high) in ap (λ x. entry (picture_of c.args.core.now) c.args.pid x) same ∙ c.requires.bare))
    (in_row_from k 1 k (omega arith) (omega arith)) c.requires.named (c.is_named_beside.ensures.none c.if-not-is_named_beside.true)
