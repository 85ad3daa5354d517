-- The numbers of entries.
use Rattle.page_tables.proofs.Names.{◌≡◌, ℕ, ◌+◌, ◌*◌, ◌/◌, ◌%◌, Bool, true, false, refl, sym, ap, ◌∙◌, arith, false≢true, ◌&&◌, has_bit, is_valid, is_leaf, is_pointer}
use Rattle.page_tables.specs.{declared.forms.Entry.{Entry}, declared.forms.Entry.TheVariants.{None, Leaf, Swapped, Parked}, Entry.{number_of, IsEntry, IsPageEntry}}

even : (n : ℕ) → n % 2 ≡ 0 → is_valid n ≡ false
unfolding has_bit
even n h = let e : n / 1 % 2 ≡ 0 = omega arith in rw e

not_valid : (n x : ℕ) → (x ≡ 0) → n % 2 ≡ x → is_valid n ≡ true → ⊥
not_valid n x z h v = false≢true (sym (even n (h ∙ z)) ∙ v)

valid_leaf : (e : Entry) → IsEntry e → is_valid (number_of e) ≡ true → (is_valid (number_of e) ≡ true) × (is_leaf (number_of e) ≡ true)
valid_leaf None form v = absurd (not_valid 0 0 refl refl v)
valid_leaf (Leaf l) form v = form
valid_leaf (Swapped slot) form v = absurd (not_valid (slot.0 * 1024 + 2) 0 refl (omega arith) v)
valid_leaf (Parked frame true) form v = absurd (not_valid (frame.0 * 1024 + 260) 0 refl (omega arith) v)
valid_leaf (Parked frame false) form v = absurd (not_valid (frame.0 * 1024 + 4) 0 refl (omega arith) v)

-- of a page's entries the leaves alone are valid
pub valid_is_leaf : (n : ℕ) → IsPageEntry n → is_valid n ≡ true → (is_valid n ≡ true) × (is_leaf n ≡ true)
valid_is_leaf n p v = rw p.is (valid_leaf p.entry p.form (ap is_valid (sym p.is) ∙ v))

not_pointer_even : (n : ℕ) → n % 2 ≡ 0 → is_pointer n ≡ false
not_pointer_even n h = rw (even n h)

and_false : (b : Bool) → (b && false) ≡ false
and_false true = refl
and_false false = refl

-- an entry of a page is no pointer
pub number_of-not_pointer : (e : Entry) → IsEntry e → is_pointer (number_of e) ≡ false
number_of-not_pointer None form = not_pointer_even 0 refl
number_of-not_pointer (Leaf l) form = rw form.1 (and_false _)
number_of-not_pointer (Swapped slot) form = not_pointer_even (slot.0 * 1024 + 2) (omega arith)
number_of-not_pointer (Parked frame true) form = not_pointer_even (frame.0 * 1024 + 260) (omega arith)
number_of-not_pointer (Parked frame false) form = not_pointer_even (frame.0 * 1024 + 4) (omega arith)
