use Rattle.{std.proofs.{Common.{refl, sym}, lemmas.Bool.{false≢true}}, frames.{proofs.ChainLemmas.{IsChained-none, IsChained-first}, specs.Inside.{table_of}}}
use Rattle.frames.proofs.memory.Frames.next_free.Goals as goal

pub returns-then-self-eq0-clause-none : goal.returns-then-self-eq0-clause-none
returns-then-self-eq0-clause-none c =
    rw (← c.self.view_is) (λ _. IsChained-none (table_of c.self.inside) c.self.inside.first_free c.if-self-eq0.true c.self.invariant.1, λ _. refl)

pub returns-else-self-eq0-clause-some : goal.returns-else-self-eq0-clause-some
returns-else-self-eq0-clause-some c =
    let there = IsChained-first (table_of c.self.inside) c.self.inside.first_free c.if-self-eq0.false c.self.invariant.1 in
    rw (← c.self.view_is) (there.1, there.2)

pub returns-else-self-eq0-clause-none : goal.returns-else-self-eq0-clause-none
returns-else-self-eq0-clause-none c =
    let there = IsChained-first (table_of c.self.inside) c.self.inside.first_free c.if-self-eq0.false c.self.invariant.1 in
    rw (← c.self.view_is) (λ e. absurd (false≢true (sym e)), λ full. absurd (full c.self.inside.first_free there.1 there.2))
