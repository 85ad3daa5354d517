-- The weight of a bit that is set.
use Rattle.{std.proofs.Common.{◌≡◌, ℕ, ◌/◌, ◌%◌, ◌≤◌, true, arith, eqb-true}, sv39_walk.specs.Entry.{has_bit, can_write, is_accessed, is_dirty}}

write_set : (e : ℕ) → can_write e ≡ true → e / 4 % 2 ≡ 1
unfolding has_bit
write_set e set = eqb-true (e / 4 % 2) 1 set

accessed_set : (e : ℕ) → is_accessed e ≡ true → e / 64 % 2 ≡ 1
unfolding has_bit
accessed_set e set = eqb-true (e / 64 % 2) 1 set

dirty_set : (e : ℕ) → is_dirty e ≡ true → e / 128 % 2 ≡ 1
unfolding has_bit
dirty_set e set = eqb-true (e / 128 % 2) 1 set

pub write_weighs : (e : ℕ) → can_write e ≡ true → 4 ≤ e
write_weighs e set = let bit = write_set e set in omega (arith, bit)

pub accessed_weighs : (e : ℕ) → is_accessed e ≡ true → 64 ≤ e
accessed_weighs e set = let bit = accessed_set e set in omega (arith, bit)

pub dirty_weighs : (e : ℕ) → is_dirty e ≡ true → 128 ≤ e
dirty_weighs e set = let bit = dirty_set e set in omega (arith, bit)
