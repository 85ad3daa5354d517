use Rattle.std.proofs.Common.{◌≡◌, ◌≤◌, ◌++◌, length, get_or, vec_len, vec_capacity}
use Rattle.pool_journal.specs.Maps.{free_among, behind}
use Rattle.pool_journal.proofs.taking.TakenSlots.add.Given as goal

abbrev pub invariant-loop-place : goal.invariant-loop-place
invariant-loop-place l = (l.self.slots.items ≡ l.fn.self.slots.items ++ free_among (behind l.from (λ r. get_or l.numbers r 0)) l.second l.place)
    × (vec_len l.self.slots ≤ l.most) × (length l.self.slots.items ≡ vec_len l.self.slots) × (vec_capacity l.self.slots ≡ vec_capacity l.fn.self.slots) × (l.from ≤ l.place)
