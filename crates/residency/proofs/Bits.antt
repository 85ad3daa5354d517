-- Bits cleared in entries, and which entries a change is for.
use Rattle.residency.proofs.Names.{◌≡◌, ◌≢◌, ℕ, ◌-◌, ◌/◌, ◌%◌, ◌^◌, ◌==◌, true, false, not, if◌then◌else◌, Some, None, Option, inl, inr, refl, ap, sym, ◌∙◌, subst, arith, ne_eqb, ◌*◌, ◌+◌, cases_Bool, false≢true, and_parts, and_right}
use Rattle.residency.proofs.Names.{not-true, nat_tests, Attr, count_of, Pte, has_bit, is_valid, is_accessed, is_dirty, frame_of, Entry, Leaf, Swapped, Parked, number_of}
use Rattle.residency.specs.{declared.leaves.Change.{Change}, declared.leaves.Change.TheVariants.{Forget, ClearAccessed, ClearDirty}, Seats.{InFrame, seat, is_private, is_swapped}, Picture.{Picture}}
use Rattle.residency.{specs.{Parts.{IsEntryFor, Nothing, Resident, Away, IsResident, IsBehind}, Leaves.{Drops, concerns, IsChanged}}, proofs.Start.{seat-none}}
use Rattle.page_tables.specs.declared.forms.Entry.TheVariants as Entries

bit_same : (e d k : ℕ) → e / 2 ^ k % 2 ≡ d / 2 ^ k % 2 → has_bit e k ≡ has_bit d k
unfolding has_bit
bit_same e d k same = ap (λ x. x == 1) same

pub bit_clear : (e k : ℕ) → e / 2 ^ k % 2 ≡ 0 → has_bit e k ≡ false
unfolding has_bit
bit_clear e k h = rw h

pub bit_six : (e : ℕ) → is_accessed e ≡ true → e / 64 % 2 ≡ 1
unfolding has_bit
bit_six e h = (let test : (e / 64 % 2 == 1) ≡ true = h in grind (arith, nat_tests))

pub bit_seven : (e : ℕ) → is_dirty e ≡ true → e / 128 % 2 ≡ 1
unfolding has_bit
bit_seven e h = (let test : (e / 128 % 2 == 1) ≡ true = h in grind (arith, nat_tests))

frame_same : (e d : ℕ) → e / 1024 ≡ d / 1024 → frame_of e ≡ frame_of d
unfolding frame_of
frame_same e d same = ap (λ x. x % 2 ^ 44) same

-- a bit of the two that a walk sets is gone
pub drops_by : (e d : ℕ) → d % 64 ≡ e % 64 → d / 256 ≡ e / 256 → Drops e d
drops_by e d low high = record {
  valid = bit_same d e 0 (omega arith);
  reads = bit_same d e 1 (omega arith);
  writes = bit_same d e 2 (omega arith);
  executes = bit_same d e 3 (omega arith);
  private = bit_same d e 8 (omega arith);
  frame = frame_same d e (omega arith);
}

pub six_clear : (e : ℕ) → e / 64 % 2 ≡ 1 → is_accessed (e - 64) ≡ false
six_clear e bit = bit_clear (e - 64) 6 (omega arith)

pub six_dirty : (e : ℕ) → e / 64 % 2 ≡ 1 → is_dirty (e - 64) ≡ is_dirty e
six_dirty e bit = bit_same (e - 64) e 7 (omega arith)

pub seven_clear : (e : ℕ) → e / 128 % 2 ≡ 1 → is_dirty (e - 128) ≡ false
seven_clear e bit = bit_clear (e - 128) 7 (omega arith)

pub seven_accessed : (e : ℕ) → e / 128 % 2 ≡ 1 → is_accessed (e - 128) ≡ is_accessed e
seven_accessed e bit = bit_same (e - 128) e 6 (omega arith)

pub valid_zero : is_valid 0 ≡ false
unfolding has_bit
valid_zero = refl

-- what isn't a leaf isn't valid
even : (n : ℕ) → n % 2 ≡ 0 → is_valid n ≡ false
unfolding has_bit
even n h = (let e : n / 1 % 2 ≡ 0 = omega arith in rw e)

pub valid_leaf : (e : Entry) → is_valid (number_of e) ≡ true → (l : Pte) × (e ≡ Leaf l)
valid_leaf Entries.None v = absurd (false≢true (sym valid_zero ∙ v))
valid_leaf (Leaf l) v = (l, refl)
valid_leaf (Swapped slot) v = absurd (false≢true (sym (even (slot.0 * 1024 + 2) (omega arith)) ∙ v))
valid_leaf (Parked frame true) v = absurd (false≢true (sym (even (frame.0 * 1024 + 260) (omega arith)) ∙ v))
valid_leaf (Parked frame false) v = absurd (false≢true (sym (even (frame.0 * 1024 + 4) (omega arith)) ∙ v))

pub leaf_accessed : (e : ℕ) → concerns ClearAccessed e ≡ true → (is_valid e ≡ true) × (is_accessed e ≡ true)
leaf_accessed e = and_parts (is_valid e) (is_accessed e)

pub leaf_dirty : (e : ℕ) → concerns ClearDirty e ≡ true → (is_valid e ≡ true) × (is_dirty e ≡ true)
leaf_dirty e = and_parts (is_valid e) (is_dirty e)

valid_some : (e : ℕ) → is_valid e ≡ true → e ≢ 0
valid_some e valid none = false≢true (sym valid_zero ∙ sym (ap is_valid none) ∙ valid)

pub not_swapped : (e : ℕ) → (is_valid e ≡ false → has_bit e 1 ≡ false) → is_swapped e ≡ false
not_swapped e framed = elim (cases_Bool (is_valid e)) [ inl t ↦ rw t refl | inr f ↦ rw (f, framed f) refl ]

-- an entry that a change is for names a frame
pub some_framed : (change : Change) (e : ℕ) → concerns change e ≡ true → (e ≢ 0) × (is_swapped e ≡ false)
some_framed Forget e h =
    let parts = and_parts (not (e == 0)) (not (is_swapped e)) h in
    (λ none. false≢true (sym (not-true (e == 0) parts.0) ∙ (let z : (e == 0) ≡ true = rw none refl in z)), not-true (is_swapped e) parts.1)
some_framed ClearAccessed e h = let v = leaf_accessed e h in (valid_some e v.0, rw v.0 refl)
some_framed ClearDirty e h = let v = leaf_dirty e h in (valid_some e v.0, rw v.0 refl)

pub framed : (change : Change) (e : ℕ) → concerns change e ≡ true → concerns Forget e ≡ true
framed change e h = let f = some_framed change e h in rw (ne_eqb e 0 f.0, f.1) refl

-- and its page is mapped
pub resident_of : {mode : ℕ} (c : Picture mode) (attr : Option Attr) (e : ℕ) → IsEntryFor c attr e → (e ≢ 0) → is_swapped e ≡ false → (a : Attr) × (attr ≡ Some a) × IsResident c a e
resident_of c attr e (Nothing none) some not_away = absurd (some none)
resident_of c attr e (Resident a at res) some not_away = (a, at, res)
resident_of c attr e (Away a at away) some not_away = absurd (false≢true (sym not_away ∙ away.swapped))

-- a changed entry isn't changed again
pub changed_once : (change : Change) (e e' : ℕ) → IsChanged change e e' → concerns change e' ≡ false
changed_once Forget e e' none = rw none refl
changed_once ClearAccessed e e' c = and_right (is_valid e') (is_accessed e') c.2
changed_once ClearDirty e e' c = and_right (is_valid e') (is_dirty e') c.2

seat_valid : (e : ℕ) → is_valid e ≡ true → seat e ≡ (if is_private e then Some (InFrame (frame_of e)) else None)
seat_valid e valid = elim (cases_Bool (is_private e)) [ inl t ↦ rw t refl | inr f ↦ rw (f, valid) refl ]

seat_dropped : (e e' : ℕ) → is_valid e ≡ true → Drops e e' → seat e' ≡ seat e
seat_dropped e e' valid drops =
    seat_valid e' (drops.valid ∙ valid) ∙ ap (λ p. if p then Some (InFrame (frame_of e')) else None) drops.private
    ∙ ap (λ n. if is_private e then Some (InFrame n) else None) drops.frame ∙ sym (seat_valid e valid)

pub seat_changed : (change : Change) (e e' : ℕ) → concerns change e ≡ true → (change ≡ Forget → is_private e ≡ false) → IsChanged change e e' → seat e' ≡ seat e
seat_changed Forget e e' is common none = ap seat none ∙ seat-none ∙ sym (let c = common refl in let s = (some_framed Forget e is).1 in let none' : seat e ≡ None = rw (c, s) refl in none')
seat_changed ClearAccessed e e' is common c = seat_dropped e e' (leaf_accessed e is).0 c.0
seat_changed ClearDirty e e' is common c = seat_dropped e e' (leaf_dirty e is).0 c.0

-- an entry that lost a bit fits its page as it did
resident_dropped : {mode : ℕ} (c : Picture mode) (a : Attr) (e e' : ℕ) → is_valid e ≡ true → Drops e e' → IsResident c a e → IsResident c a e'
resident_dropped c a e e' valid drops r =
    let leaf = r.leaf valid in
    record {
      framed = λ invalid. absurd (false≢true (sym invalid ∙ drops.valid ∙ valid));
      inside = r.inside;
      private = λ own. r.private (sym drops.private ∙ own);
      behind = λ common. (let P : ℕ → Type 0 = λ n. IsBehind c a.backing n in subst P (sym drops.frame) (r.behind (sym drops.private ∙ common)));
      leaf = λ _. record {
        within = record {
          reads = λ t. leaf.within.reads (sym drops.reads ∙ t);
          writes = λ t. leaf.within.writes (sym drops.writes ∙ t);
          executes = λ t. leaf.within.executes (sym drops.executes ∙ t);
        };
        sole = λ own write. ap (count_of c.frames) drops.frame ∙ leaf.sole (sym drops.private ∙ own) (sym drops.writes ∙ write);
        common = λ common write. leaf.common (sym drops.private ∙ common) (sym drops.writes ∙ write);
      };
    }

for_dropped : {mode : ℕ} (c : Picture mode) (attr : Option Attr) (e e' : ℕ) → is_valid e ≡ true → Drops e e' → IsEntryFor c attr e → IsEntryFor c attr e'
for_dropped c attr e e' valid drops (Nothing none) = absurd (valid_some e valid none)
for_dropped c attr e e' valid drops (Resident a at r) = Resident a at (resident_dropped c a e e' valid drops r)
for_dropped c attr e e' valid drops (Away a at away) = absurd (false≢true (sym (let z : is_swapped e ≡ false = rw valid refl in z) ∙ away.swapped))

pub for_changed : {mode : ℕ} (c : Picture mode) (change : Change) (attr : Option Attr) (e e' : ℕ) → concerns change e ≡ true → IsChanged change e e' → IsEntryFor c attr e → IsEntryFor c attr e'
for_changed c Forget attr e e' is none for = Nothing none
for_changed c ClearAccessed attr e e' is ch for = for_dropped c attr e e' (leaf_accessed e is).0 ch.0 for
for_changed c ClearDirty attr e e' is ch for = for_dropped c attr e e' (leaf_dirty e is).0 ch.0 for
