use Rattle.std.proofs.Common.{◌≡◌, ◌<◌, ◌≤◌, ◌+◌, ◌*◌, ◌⊎◌, ◌∙◌, ℕ, Bool, true, false, ap, arith, length, get_or}
use Rattle.std.proofs.lemmas.List.{with_items_is}
use Rattle.std.specs.Vec.{with_items}
use Rattle.pool_journal.proofs.Bytes.{part_number}
use Rattle.pool_journal.specs.{Maps.{entries_of}, Pools.{block_number, within}}
use Rattle.pool_journal.specs.declared.map.SlotMap.{SlotMap}
use Rattle.pool_journal.proofs.map.SlotMap.take_block.Goals as goal

pub returns : goal.returns
returns c = record {
  taken = taken;
  others = others;
  size = λ blocks is. (
    ap (λ xs. length xs) first ∙ c.take_numbers.ensures.size ∙ ap (λ xs. length xs) c.deref_mut.ensures.value ∙ is.0,
    ap (λ xs. length xs) second ∙ c.take_numbers-2.ensures.size ∙ ap (λ xs. length xs) c.deref_mut-2.ensures.value ∙ is.1,
  );
}
  where
    was : SlotMap
    was = c.args.self.now

    new : SlotMap
    new = record { first = with_items was.first c.take_numbers.new.numbers; second = with_items was.second c.take_numbers-2.new.numbers }

    first : new.first.items ≡ c.take_numbers.new.numbers
    first = with_items_is was.first c.take_numbers.new.numbers (c.take_numbers.ensures.size ∙ c.deref_mut.ensures.len)

    second : new.second.items ≡ c.take_numbers-2.new.numbers
    second = with_items_is was.second c.take_numbers-2.new.numbers (c.take_numbers-2.ensures.size ∙ c.deref_mut-2.ensures.len)

    taken : (body : Bool) (i : ℕ) → i < 504 → entries_of new body (504 * c.args.q + i) ≡ within c.args.homes (block_number body i c.args.block.now)
    taken false i below = ap (λ xs. get_or xs (504 * c.args.q + i) 0) first ∙ c.take_numbers.ensures.taken i below ∙ ap (within c.args.homes) (part_number 64 2016 i c.args.block.now (omega (arith, below)))
    taken true i below = ap (λ xs. get_or xs (504 * c.args.q + i) 0) second ∙ c.take_numbers-2.ensures.taken i below ∙ ap (within c.args.homes) (part_number 2080 2016 i c.args.block.now (omega (arith, below)))

    others : (body : Bool) (r : ℕ) → (r < 504 * c.args.q) ⊎ (504 * c.args.q + 504 ≤ r) → entries_of new body r ≡ entries_of was body r
    others false r out = ap (λ xs. get_or xs r 0) first ∙ c.take_numbers.ensures.others r out ∙ ap (λ xs. get_or xs r 0) c.deref_mut.ensures.value
    others true r out = ap (λ xs. get_or xs r 0) second ∙ c.take_numbers-2.ensures.others r out ∙ ap (λ xs. get_or xs r 0) c.deref_mut-2.ensures.value
