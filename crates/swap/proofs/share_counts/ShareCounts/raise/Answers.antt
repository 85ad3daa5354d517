use Rattle.{std.proofs.{Common.{◌≡◌, ◌<◌, ◌+◌, ℕ, List, sym, subst, arith}, lemmas.List.{get_or_read, length-set}}, swap.{proofs.Stack.{inside_of, stack_kept, sound_set}, specs.Counts.{count_at}}}
use Rattle.swap.proofs.share_counts.ShareCounts.raise.Goals as goal

pub invariant_of-self : goal.invariant_of-self
invariant_of-self c =
    let was : 0 < count_at c.self.inside.counts.items c.args.n = (let P : List ℕ → Type 0 = λ l. 0 < count_at l c.args.n in subst P (sym c.self.view_is) c.requires.in_use) in
    let few : count_at c.self.inside.counts.items c.args.n < 64 = (let P : List ℕ → Type 0 = λ l. count_at l c.args.n < 64 in subst P (sym c.self.view_is) c.requires.few) in
    let below = inside_of c.self.inside.counts.items c.args.n was in
    let size = length-set c.self.inside.counts.items c.args.n (c.index_mut.result.now + 1) in
    let had : c.index_mut.result.now ≡ count_at c.self.inside.counts.items c.args.n = get_or_read c.self.inside.counts.items c.args.n c.index_mut.result.now below c.index_mut.ensures.value 0 in
    record {
      sound = sound_set c.self.inside.counts.items c.args.n (c.index_mut.result.now + 1) (omega (arith, few, had)) c.self.invariant.sound;
      stack = stack_kept c.self.inside.counts.items c.self.inside.free.items c.args.n (c.index_mut.result.now + 1) below was (omega arith) c.self.invariant.stack;
      room = (let room = c.self.invariant.room in omega (arith, size, room));
    }
