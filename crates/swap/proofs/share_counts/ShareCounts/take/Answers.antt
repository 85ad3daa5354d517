use Rattle.{std.{proofs.{Common.{◌≡◌, ◌<◌, ◌-◌, ℕ, List, Option, set, take, length, get_or, sym, subst, arith, vec_len}, lemmas.List.{length-set}}, specs.Option.{IfNone}}, swap.proofs.Stack.{none_free, stack_taken, sound_set}}
use Rattle.swap.specs.Counts.{count_at, IsStack}
use Rattle.swap.proofs.share_counts.ShareCounts.take.Goals as goal

pub returns-in_err-n-clause-none : goal.returns-in_err-n-clause-none
returns-in_err-n-clause-none c =
    let empty : length c.self.inside.free.items ≡ 0 = (let cases = c.in_err-n.ensures.cases in let none = cases.0 in omega (arith, none)) in
    let full : (n : ℕ) → n < length c.self.inside.counts.items → 0 < count_at c.self.inside.counts.items n = none_free c.self.inside.counts.items c.self.inside.free.items c.self.invariant.stack empty in
    let P : List ℕ → Type 0 = λ l. (n : ℕ) → n < length l → 0 < count_at l n in
    let Q : Option ℕ → Type 0 = λ o. IfNone o ((n : ℕ) → n < length c.args.self.now → 0 < count_at c.args.self.now n) in
    subst Q (sym c.from_residual.ensures) (subst P c.self.view_is full)

pub invariant_of-self-2 : goal.invariant_of-self-2
invariant_of-self-2 c =
    let stack = c.self.inside.free.items in let counts = c.self.inside.counts.items in
    let long : vec_len c.self.inside.free ≡ length stack = c.self.inside.free.ok.0 in
    let some : 0 < vec_len c.self.inside.free = (let one = c.in_ok-n.ensures.cases in omega (arith, one)) in
    let top : c.in_ok-n.n ≡ get_or stack (vec_len c.self.inside.free - 1) 0 = (let e = c.in_ok-n.ensures.value 0 some in (cc)) in
    let P : ℕ → Type 0 = λ m. c.in_ok-n.n ≡ get_or stack (m - 1) 0 in let Q : List ℕ → Type 0 = λ l. IsStack (set counts c.in_ok-n.n 1) l in
    let R : ℕ → Type 0 = λ m. IsStack (set counts c.in_ok-n.n 1) (take (m - 1) stack) in let size = length-set counts c.in_ok-n.n 1 in
    record {
      sound = sound_set counts c.in_ok-n.n 1 (omega arith) c.self.invariant.sound;
      stack = subst Q (sym c.in_ok-n.ensures.rest)
          (subst R (sym long) (stack_taken counts stack c.in_ok-n.n 1 (omega (arith, some, long)) (subst P long top) (omega arith) c.self.invariant.stack));
      room = (let room = c.self.invariant.room in let capacity = c.in_ok-n.ensures.capacity in omega (arith, size, room, capacity));
    }
