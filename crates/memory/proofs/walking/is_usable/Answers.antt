use Rattle.memory.proofs.{Names.{◌≡◌, true, sym, ◌∙◌, arith, false≢true, nat_tests, nat_lt, frame_count}, Walks.{refused}}
use Rattle.memory.proofs.walking.is_usable.Goals as goal

pub returns-then-lets-clause-other : goal.returns-then-lets-clause-other
returns-then-lets-clause-other c outside addr = refused (frame_count c.args.frames.now) addr c.args.access c.args.leaf.0 (λ opens inside.
    let below : nat_lt c.frame.result c.from.result ≡ true = grind (arith, nat_tests, inside, c.frame.ensures.frame, c.from.ensures, c.len.ensures.count) in
    false≢true (sym outside ∙ below))

pub returns-else-lets-clause-other : goal.returns-else-lets-clause-other
returns-else-lets-clause-other c shut addr =
    refused (frame_count c.args.frames.now) addr c.args.access c.args.leaf.0 (λ opens inside. false≢true (sym shut ∙ c.lets.ensures ∙ opens))
