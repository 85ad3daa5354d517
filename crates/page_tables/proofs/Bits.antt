-- The bits of the entries that this crate writes.
use Rattle.page_tables.proofs.Names.{◌≡◌, ◌≢◌, ℕ, inl, inr, ◌+◌, ◌*◌, ◌/◌, ◌%◌, ◌^◌, ◌<◌, ◌≤◌, Bool, true, false, refl, sym, ap, ◌∙◌, subst, arith, eq-eqb, ne_eqb, cases_Bool, false≢true, ◌||◌, ◌&&◌, not, ◌==◌, Prot, has_bit, is_valid}
use Rattle.page_tables.{proofs.Names.{can_read, can_execute, is_private, high_bits, frame_of}, specs.{Entry.{number_of}, Leaves.{IsLeaf, IsEntryOver, is_barred, weight, leaf_number}, declared.forms.Entry.TheVariants.{Parked}}}
use Rattle.vm_types.specs.Permission as Permission

bit_is : (e k : ℕ) (b : Bool) → e / 2 ^ k % 2 ≡ weight b 1 → has_bit e k ≡ b
unfolding has_bit
bit_is e k true h = eq-eqb (e / 2 ^ k % 2) 1 h
bit_is e k false h = ne_eqb (e / 2 ^ k % 2) 1 (λ one. let bad : 1 ≡ 0 = sym one ∙ h in omega (arith, bad))

weight-one : (b : Bool) (n : ℕ) → weight b n ≡ weight b 1 * n
weight-one true n = omega arith
weight-one false n = omega arith

weight-le : (b : Bool) → weight b 1 ≤ 1
weight-le true = omega arith
weight-le false = omega arith

-- a number as a sum of bits
record IsSum (f p d x w r e : ℕ) : Type 0 where
  is : e ≡ f * 1024 + p * 256 + d * 128 + x * 8 + w * 4 + r * 2 + 81
  few : (p ≤ 1) × (d ≤ 1) × (x ≤ 1) × (w ≤ 1) × (r ≤ 1)

module _ (f p d x w r e : ℕ) (s : IsSum f p d x w r e) where
  bits : (e / 1 % 2 ≡ 1) × (e / 2 % 2 ≡ r) × (e / 4 % 2 ≡ w) × (e / 8 % 2 ≡ x) × (e / 16 % 2 ≡ 1) × (e / 32 % 2 ≡ 0) × (e / 64 % 2 ≡ 1) × (e / 128 % 2 ≡ d) × (e / 256 % 2 ≡ p)
  bits = (omega arith, omega arith, omega arith, omega arith, omega arith, omega arith, omega arith, omega arith, omega arith)

  frame_bits : f < 2 ^ 32 → (e / 1024 % 17592186044416 ≡ f) × (e / 18014398509481984 ≡ 0)
  frame_bits small = (omega arith, omega arith)

not_barred : (prot : Prot) → is_barred prot ≡ false → (Permission.can_read prot || Permission.can_execute prot) ≡ true
not_barred prot useful = elim (cases_Bool (Permission.can_read prot || Permission.can_execute prot)) [
  | inl t ↦ t
  | inr f ↦ absurd (false≢true (sym useful ∙ ap not f))
]

reserved_form : (w r : Bool) (high : ℕ) → (w ≡ true → r ≡ true) → high ≡ 0 → ((w && not r) || not (high == 0)) ≡ false
reserved_form true r high reads none = rw (reads refl, none) refl
reserved_form false r high reads none = rw none refl

module _ (prot : Prot) (f : ℕ) (private write stored : Bool) where
  sum : IsSum f (weight private 1) (weight stored 1) (weight (Permission.can_execute prot) 1) (weight write 1) (weight (Permission.can_read prot) 1) (leaf_number prot f private write stored)
  unfolding leaf_number
  sum =
      let r = weight-one (Permission.can_read prot) 2 in
      record {
        is = omega (arith, weight-one private 256, weight-one stored 128, weight-one (Permission.can_execute prot) 8, weight-one write 4, r);
        few = (weight-le private, weight-le stored, weight-le (Permission.can_execute prot), weight-le write, weight-le (Permission.can_read prot));
      }

  pub leaf_frame : f < 2 ^ 32 → frame_of (leaf_number prot f private write stored) ≡ f
  unfolding frame_of
  leaf_frame small = (frame_bits _ _ _ _ _ _ _ sum small).0

  pub leaf_high : f < 2 ^ 32 → high_bits (leaf_number prot f private write stored) ≡ 0
  unfolding high_bits
  leaf_high small = (frame_bits _ _ _ _ _ _ _ sum small).1

  pub leaf_private : is_private (leaf_number prot f private write stored) ≡ private
  leaf_private = bit_is (leaf_number prot f private write stored) 8 private (bits _ _ _ _ _ _ _ sum).8

  pub is_leaf_number : f < 2 ^ 32 → (write ≡ true → Permission.can_read prot ≡ true) → is_barred prot ≡ false → IsLeaf (leaf_number prot f private write stored) prot write stored
  is_leaf_number small reads useful =
      let e = leaf_number prot f private write stored in
      let can_r = bit_is e 1 (Permission.can_read prot) (bits _ _ _ _ _ _ _ sum).1 in
      let can_w = bit_is e 2 write (bits _ _ _ _ _ _ _ sum).2 in
      let can_x = bit_is e 3 (Permission.can_execute prot) (bits _ _ _ _ _ _ _ sum).3 in
      record {
        valid = bit_is e 0 true (bits _ _ _ _ _ _ _ sum).0;
        reads = can_r;
        writes = can_w;
        executes = can_x;
        user = bit_is e 4 true (bits _ _ _ _ _ _ _ sum).4;
        global = bit_is e 5 false (bits _ _ _ _ _ _ _ sum).5;
        accessed = bit_is e 6 true (bits _ _ _ _ _ _ _ sum).6;
        dirty = bit_is e 7 stored (bits _ _ _ _ _ _ _ sum).7;
        leaf = ap (λ y. y || can_execute e) can_r ∙ ap (λ y. Permission.can_read prot || y) can_x ∙ not_barred prot useful;
        unreserved = ap (λ y. (y && not (can_read e)) || not (high_bits e == 0)) can_w
            ∙ ap (λ y. (write && not y) || not (high_bits e == 0)) can_r
            ∙ reserved_form write (Permission.can_read prot) (high_bits e) reads (leaf_high small);
      }

-- the forms of a parked page
pub parked_frame : (f : ℕ) (private : Bool) → f < 2 ^ 32 → frame_of (number_of (Parked (record { 0 = f }) private)) ≡ f
unfolding frame_of
parked_frame f true small = let h : (f * 1024 + 260) / 1024 % 17592186044416 ≡ f = omega arith in h
parked_frame f false small = let h : (f * 1024 + 4) / 1024 % 17592186044416 ≡ f = omega arith in h

pub parked_private : (f : ℕ) (private : Bool) → is_private (number_of (Parked (record { 0 = f }) private)) ≡ private
parked_private f true = bit_is (f * 1024 + 260) 8 true (let h : (f * 1024 + 260) / 256 % 2 ≡ 1 = omega arith in h)
parked_private f false = bit_is (f * 1024 + 4) 8 false (let h : (f * 1024 + 4) / 256 % 2 ≡ 0 = omega arith in h)

pub parked_invalid : (f : ℕ) (private : Bool) → is_valid (number_of (Parked (record { 0 = f }) private)) ≡ false
parked_invalid f true = bit_is (f * 1024 + 260) 0 false (let h : (f * 1024 + 260) / 1 % 2 ≡ 0 = omega arith in h)
parked_invalid f false = bit_is (f * 1024 + 4) 0 false (let h : (f * 1024 + 4) / 1 % 2 ≡ 0 = omega arith in h)

pub parked_framed : (f : ℕ) (private : Bool) → has_bit (number_of (Parked (record { 0 = f }) private)) 1 ≡ false
parked_framed f true = bit_is (f * 1024 + 260) 1 false (let h : (f * 1024 + 260) / 2 % 2 ≡ 0 = omega arith in h)
parked_framed f false = bit_is (f * 1024 + 4) 1 false (let h : (f * 1024 + 4) / 2 % 2 ≡ 0 = omega arith in h)

pub parked_unexecutable : (f : ℕ) (private : Bool) → can_execute (number_of (Parked (record { 0 = f }) private)) ≡ false
parked_unexecutable f true = bit_is (f * 1024 + 260) 3 false (let h : (f * 1024 + 260) / 8 % 2 ≡ 0 = omega arith in h)
parked_unexecutable f false = bit_is (f * 1024 + 4) 3 false (let h : (f * 1024 + 4) / 8 % 2 ≡ 0 = omega arith in h)

parked_some : (f : ℕ) (private : Bool) → number_of (Parked (record { 0 = f }) private) ≢ 0
parked_some f true e = omega (arith, e)
parked_some f false e = omega (arith, e)

zero_invalid : is_valid 0 ≡ false
unfolding has_bit
zero_invalid = refl

-- a page that lies in a frame has an entry
pub over_some : (e : ℕ) (prot : Prot) (f : ℕ) (private write stored : Bool) → IsEntryOver e prot f private write stored → e ≢ 0
over_some e prot f private write stored over none = elim (cases_Bool (is_barred prot)) [
  | inl barred ↦ parked_some f private (sym (over.parked barred) ∙ none)
  | inr useful ↦ false≢true (sym zero_invalid ∙ ap is_valid (sym none) ∙ (over.leaf useful).valid)
]

pub leaf_over : (prot : Prot) (f : ℕ) (private write stored : Bool) (e : ℕ) → e ≡ leaf_number prot f private write stored → f < 2 ^ 32
    → (write ≡ true → Permission.can_read prot ≡ true) → is_barred prot ≡ false → IsEntryOver e prot f private write stored
leaf_over prot f private write stored e is small reads useful = record {
  names = ap frame_of is ∙ leaf_frame prot f private write stored small;
  owned = ap is_private is ∙ leaf_private prot f private write stored;
  leaf = λ _. (let P : ℕ → Type 0 = λ x. IsLeaf x prot write stored in subst P (sym is) (is_leaf_number prot f private write stored small reads useful));
  parked = λ barred. absurd (false≢true (sym useful ∙ barred));
}

pub parked_over : (prot : Prot) (f : ℕ) (private write stored : Bool) → f < 2 ^ 32 → is_barred prot ≡ true
    → IsEntryOver (number_of (Parked (record { 0 = f }) private)) prot f private write stored
parked_over prot f private write stored small barred = record {
  names = parked_frame f private small;
  owned = parked_private f private;
  leaf = λ useful. absurd (false≢true (sym useful ∙ barred));
  parked = λ _. refl;
}
