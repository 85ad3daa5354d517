use Rattle.std.proofs.Common.{◌≡◌, ◌<◌, ◌+◌, ◌-◌, ◌*◌, ◌∙◌, ℕ, Bool, true, false, ap, arith, get_or}
use Rattle.pool_journal.proofs.Bytes.{part_at}
use Rattle.pool_journal.specs.{Maps.{entries_of}, Pools.{block_number}}
use Rattle.pool_journal.proofs.map.SlotMap.block.Goals as goal

pub returns : goal.returns
returns c = record { count = c.block_of.ensures.count; numbers = numbers }
  where
    numbers : (body : Bool) (i : ℕ) → i < 504 → block_number body i c.block_of.result ≡ entries_of c.args.self.now body (504 * c.args.q + i)
    numbers false i below = c.block_of.ensures.first i below ∙ part_at (504 * c.args.q) (504 * c.args.q + 504 - 504 * c.args.q) i c.deref.result.now (omega (arith, below)) ∙ ap (λ xs. get_or xs (504 * c.args.q + i) 0) c.deref.ensures.value
    numbers true i below = c.block_of.ensures.second i below ∙ part_at (504 * c.args.q) (504 * c.args.q + 504 - 504 * c.args.q) i c.deref-2.result.now (omega (arith, below)) ∙ ap (λ xs. get_or xs (504 * c.args.q + i) 0) c.deref-2.ensures.value
