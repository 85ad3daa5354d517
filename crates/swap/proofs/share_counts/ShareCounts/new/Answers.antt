use Rattle.{std.proofs.{Common.{◌≡◌, ◌-◌, ◌+◌, ◌++◌, ◌∷◌, [], ℕ, List, replicate, length, get_or, ap, ◌∙◌, arith}, lemmas.List.{length-replicate, length_push, get_or_push, get_or_append_left, replicate_more}}, swap.proofs.Stack.{stack_made, sound_zeros}}
use borrow.Author.Count.{below_more}
use Rattle.swap.proofs.share_counts.ShareCounts.new.Goals as goal

pub loop-n-preserved : goal.loop-n-preserved
loop-n-preserved c =
    let inv = c.loop-n.invariant in let pushed = c.push_reserved-in-loop-n.ensures in let counted = c.push_reserved.ensures in
    record {
      zeros = counted.items ∙ ap (λ l. l ++ 0 ∷ []) inv.zeros ∙ replicate_more c.loop-n.n 0;
      size = ap length pushed.items ∙ length_push c.loop-n.free.items _ ∙ ap (λ m. m + 1) inv.size;
      each = λ k lt. ap (λ (l : List ℕ). get_or l k 0) pushed.items ∙ below_more (λ j. get_or (c.loop-n.free.items ++ (c.args.slots - 1 - c.loop-n.n) ∷ []) j 0 ≡ c.args.slots - 1 - j) c.loop-n.n
          (λ j lt. get_or_append_left c.loop-n.free.items _ 0 j (omega (arith, lt, inv.size)) ∙ inv.each j lt) (get_or_push c.loop-n.free.items _ 0 c.loop-n.n inv.size) k lt;
      room_counts = omega (arith, inv.room_counts, counted.capacity);
      room = omega (arith, inv.room, pushed.capacity);
    }

pub invariant_of-result : goal.invariant_of-result
invariant_of-result c =
    let inv = c.loop-n.invariant in
    let end : c.loop-n.n ≡ c.args.slots = omega (arith, c.loop-n-test.false, c.loop-n.auto.n-end) in
    let zeros : c.loop-n.counts.items ≡ replicate c.args.slots 0 = inv.zeros ∙ ap (λ (m : ℕ). replicate m 0) end in
    let size : length c.loop-n.counts.items ≡ c.args.slots = ap length zeros ∙ length-replicate c.args.slots 0 in
    record {
      sound = sound_zeros c.loop-n.counts.items c.args.slots zeros c.requires;
      stack = stack_made c.loop-n.counts.items c.loop-n.free.items c.args.slots zeros (inv.size ∙ end) (λ k lt. inv.each k (omega (arith, lt, end)));
      room = omega (arith, size, inv.room);
    }
