-- What a pointer is made of.
use Rattle.{std.proofs.Common.{◌≡◌, ℕ, ◌+◌, ◌*◌, ◌/◌, ◌%◌, ◌<◌, ◌^◌, true, false, refl, arith}, sv39_walk.specs.Entry.{has_bit, frame_of, high_bits, is_pointer, pointer_to}}

bit_clear : (e k : ℕ) → e / 2 ^ k % 2 ≡ 0 → has_bit e k ≡ false
unfolding has_bit
bit_clear e k h = rw h

bit_set : (e k : ℕ) → e / 2 ^ k % 2 ≡ 1 → has_bit e k ≡ true
unfolding has_bit
bit_set e k h = rw h

-- a pointer to a frame that memory can have
pub is_pointer-pointer_to : (n : ℕ) → n < 2 ^ 32 → is_pointer (pointer_to n) ≡ true
unfolding high_bits
is_pointer-pointer_to n h =
    let b0 = bit_set (pointer_to n) 0 (omega arith) in
    let b1 = bit_clear (pointer_to n) 1 (omega arith) in
    let b2 = bit_clear (pointer_to n) 2 (omega arith) in
    let b3 = bit_clear (pointer_to n) 3 (omega arith) in
    let top : (n * 1024 + 1) / 2 ^ 54 ≡ 0 = omega arith in
    rw (b0, b1, b2, b3, top)

pub frame_of-pointer_to : (n : ℕ) → n < 2 ^ 32 → frame_of (pointer_to n) ≡ n
unfolding frame_of
frame_of-pointer_to n h = omega arith

-- nothing is no pointer
pub is_pointer-zero : is_pointer 0 ≡ false
unfolding has_bit
is_pointer-zero = refl
