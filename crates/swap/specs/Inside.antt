-- What the fields of `ShareCounts` stand for.
use Rattle.std.specs.Prelude.{ℕ, ◌≤◌, List, length, vec_capacity}
use Rattle.swap.specs.declared.share_counts.ShareCounts.TheInside.{Inside}
use Rattle.swap.specs.Counts.{IsStack, AreSoundCounts}

abbrev pub counts_of : Inside → List ℕ
counts_of c = c.counts.items

-- the slots without a share are on the stack, which has room for all
pub record StacksFreeSlots (c : Inside) : Type 0 where
  pub sound : AreSoundCounts c.counts.items
  pub stack : IsStack c.counts.items c.free.items
  pub room : length c.counts.items ≤ vec_capacity c.free
