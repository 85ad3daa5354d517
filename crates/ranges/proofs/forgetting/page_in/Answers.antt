use Rattle.std.proofs.Common.{◌≡◌, ℕ, ◌-◌, ap, sym, subst, arith}
use Rattle.page_cache.specs.{CacheTable.{cache_frames}, declared.place.Place.TheVariants.{Home, Frame, Slot}}
use Rattle.ranges.proofs.Nodes.{at_node, held_away, IsHeldAt}
use Rattle.ranges.proofs.forgetting.page_in.Goals as goal

pub returns-then-node-frames-clause-held : goal.returns-then-node-frames-clause-held
returns-then-node-frames-clause-held g c = held_away c.args.core.now.cache (Frame (record { 0 = c.args.node })) c.page_in_frame.result (λ home. (cc)) c.page_in_frame.ensures.held

pub returns-then-node-frames-clause-found : goal.returns-then-node-frames-clause-found
returns-then-node-frames-clause-found g c = λ p at.
    let t = c.args.core.now.cache in
    let F = c.frames-frames.ensures.count in
    let below = c.if-node-frames.true in
    at_node t c.frames-frames.ensures.sound p c.args.node c.page_in_frame.result (λ less. (c.page_in_frame.ensures.held, c.page_in_frame.ensures.none)) (λ from. absurd (omega (arith, below, F, from))) at

pub returns-clause-held : goal.returns-clause-held
returns-clause-held g c = held_away c.args.core.now.cache (Slot (record { 0 = c.args.node - c.frames-frames.result })) c.page_in_slot.result (λ home. (cc)) c.page_in_slot.ensures.held

pub returns-clause-found : goal.returns-clause-found
returns-clause-found g c = λ p at.
    let t = c.args.core.now.cache in
    let F = c.frames-frames.ensures.count in
    let from = c.if-node-frames.false in
    at_node t c.frames-frames.ensures.sound p c.args.node c.page_in_slot.result (λ less. absurd (omega (arith, from, F, less)))
    (λ over. subst (λ (f : ℕ). IsHeldAt t (Slot (record { 0 = c.args.node - f })) c.page_in_slot.result) F (c.page_in_slot.ensures.held, c.page_in_slot.ensures.none)) at
