use Rattle.std.proofs.{Common.{◌≡◌, ◌<◌, ◌-◌, ◌++◌, ◌∷◌, [], ℕ, List, set, sym, subst, ◌∙◌, arith}, lemmas.List.{get_or_read, get_or-set_same, length-set}}
use Rattle.swap.{specs.Counts.{count_at, IsStack}, proofs.Stack.{inside_of, has_room, stack_freed, stack_kept, sound_set}}
use Rattle.swap.proofs.share_counts.ShareCounts.lower.Goals as goal

pub push_reserved-requires : goal.push_reserved-requires
push_reserved-requires c =
    let was : 0 < count_at c.self.inside.counts.items c.args.n = (let P : List ℕ → Type 0 = λ l. 0 < count_at l c.args.n in subst P (sym c.self.view_is) c.requires) in
    let below = inside_of c.self.inside.counts.items c.args.n was in
    let short = has_room c.self.inside.counts.items c.self.inside.free.items c.args.n c.self.invariant.stack below was in let room = c.self.invariant.room in
    omega (arith, short, room)

pub invariant_of-self : goal.invariant_of-self
invariant_of-self c =
    let was : 0 < count_at c.self.inside.counts.items c.args.n = (let P : List ℕ → Type 0 = λ l. 0 < count_at l c.args.n in subst P (sym c.self.view_is) c.requires) in
    let below = inside_of c.self.inside.counts.items c.args.n was in let size = length-set c.self.inside.counts.items c.args.n (c.index_mut.result.now - 1) in
    let read : c.index.result.now ≡ c.index_mut.result.now - 1 =
    get_or_read (set c.self.inside.counts.items c.args.n (c.index_mut.result.now - 1)) c.args.n c.index.result.now (omega (arith, size, below)) c.index.ensures 0
    ∙ get_or-set_same c.self.inside.counts.items c.args.n (c.index_mut.result.now - 1) 0 below in
    let none : c.index_mut.result.now - 1 ≡ 0 = sym read ∙ c.if-index-eq0.true in
    let P : ℕ → Type 0 = λ v. IsStack (set c.self.inside.counts.items c.args.n v) (c.self.inside.free.items ++ c.args.n ∷ []) in
    let Q : List ℕ → Type 0 = λ l. IsStack (set c.self.inside.counts.items c.args.n (c.index_mut.result.now - 1)) l in
    record {
      sound = sound_set c.self.inside.counts.items c.args.n (c.index_mut.result.now - 1) (omega (arith, none)) c.self.invariant.sound;
      stack = subst Q (sym c.push_reserved.ensures.items) (subst P (sym none) (stack_freed c.self.inside.counts.items c.self.inside.free.items c.args.n below was c.self.invariant.stack));
      room = (let room = c.self.invariant.room in let capacity = c.push_reserved.ensures.capacity in omega (arith, size, room, capacity));
    }

pub invariant_of-self-else-index-eq0 : goal.invariant_of-self-else-index-eq0
invariant_of-self-else-index-eq0 c =
    let was : 0 < count_at c.self.inside.counts.items c.args.n = (let P : List ℕ → Type 0 = λ l. 0 < count_at l c.args.n in subst P (sym c.self.view_is) c.requires) in
    let below = inside_of c.self.inside.counts.items c.args.n was in let size = length-set c.self.inside.counts.items c.args.n (c.index_mut.result.now - 1) in
    let read : c.index.result.now ≡ c.index_mut.result.now - 1 =
    get_or_read (set c.self.inside.counts.items c.args.n (c.index_mut.result.now - 1)) c.args.n c.index.result.now (omega (arith, size, below)) c.index.ensures 0
    ∙ get_or-set_same c.self.inside.counts.items c.args.n (c.index_mut.result.now - 1) 0 below in
    let some : 0 < c.index_mut.result.now - 1 = (let ne = c.if-index-eq0.false in omega (arith, ne, read)) in
    let had : c.index_mut.result.now ≡ count_at c.self.inside.counts.items c.args.n = get_or_read c.self.inside.counts.items c.args.n c.index_mut.result.now below c.index_mut.ensures.value 0 in
    record {
      sound = sound_set c.self.inside.counts.items c.args.n (c.index_mut.result.now - 1) (let few = c.self.invariant.sound.shared c.args.n in omega (arith, few, had)) c.self.invariant.sound;
      stack = stack_kept c.self.inside.counts.items c.self.inside.free.items c.args.n (c.index_mut.result.now - 1) below was some c.self.invariant.stack;
      room = (let room = c.self.invariant.room in omega (arith, size, room));
    }
