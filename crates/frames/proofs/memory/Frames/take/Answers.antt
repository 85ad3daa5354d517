use Rattle.std.proofs.{Common.{[], refl, ◌∙◌, ap, arith}, lemmas.Bool.{false≢true}, lemmas.List.{get_or_read}}
use Rattle.frames.{specs.{Inside.{table_of}, Chain.{next_of}}, proofs.{ChainLemmas.{IsChained-none, IsChained-first}, Calls.{taken, Takes-taken}}}
use Rattle.frames.proofs.memory.Frames.take.Goals as goal

pub returns-then-n-eq0-clause-none_free : goal.returns-then-n-eq0-clause-none_free
returns-then-n-eq0-clause-none_free c =
    rw (← c.self.view_is) (λ _. IsChained-none (table_of c.self.inside) c.self.inside.first_free c.if-n-eq0.true c.self.invariant.1, λ _. refl)

pub index_mut-frame-requires : goal.index_mut-frame-requires
index_mut-frame-requires c =
    let there = IsChained-first (table_of c.self.inside) c.self.inside.first_free c.if-n-eq0.false c.self.invariant.1 in
    omega (arith, there.1)

pub index_mut-requires : goal.index_mut-requires
index_mut-requires c =
    let there = IsChained-first (table_of c.self.inside) c.self.inside.first_free c.if-n-eq0.false c.self.invariant.1 in
    omega (arith, there.1, c.self.invariant.0.all_roles)

pub index_mut-requires-2 : goal.index_mut-requires-2
index_mut-requires-2 c =
    let there = IsChained-first (table_of c.self.inside) c.self.inside.first_free c.if-n-eq0.false c.self.invariant.1 in
    omega (arith, there.1, c.self.invariant.0.all_counts)

pub invariant_of-self : goal.invariant_of-self
invariant_of-self c =
    let there = IsChained-first (table_of c.self.inside) c.self.inside.first_free c.if-n-eq0.false c.self.invariant.1 in
    let read = get_or_read c.self.inside.bytes.items c.self.inside.first_free c.index_mut-frame.result.now there.1 c.index_mut-frame.ensures.value [] in
    taken (table_of c.self.inside) c.self.inside.first_free c.args.role c.clear.new.frame c.read_u32-self-inside.result c.if-n-eq0.false c.requires
    (c.read_u32-self-inside.ensures ∙ ap next_of read) c.self.invariant

pub returns-clause-taken : goal.returns-clause-taken
returns-clause-taken c =
    rw (← c.self.view_is) (Takes-taken (table_of c.self.inside) c.self.inside.first_free c.args.role c.clear.new.frame c.if-n-eq0.false c.clear.ensures c.self.invariant)

pub returns-clause-none_free : goal.returns-clause-none_free
returns-clause-none_free c =
    let there = IsChained-first (table_of c.self.inside) c.self.inside.first_free c.if-n-eq0.false c.self.invariant.1 in
    rw (← c.self.view_is) (λ e. absurd (false≢true e), λ full. absurd (full c.self.inside.first_free there.1 there.2))

pub returns-clause-sound : goal.returns-clause-sound
returns-clause-sound c = (invariant_of-self c).0
