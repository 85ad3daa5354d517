-- The entries of pages that get another permission.
use Rattle.ranges.proofs.Names.{◌≡◌, ◌≢◌, ℕ, Bool, true, false, inl, inr, refl, sym, ap, ◌∙◌, cases_Bool, and_parts, false≢true, not-true, not-false, or_parts, ◌&&◌, ◌||◌, Prot, has_bit, is_valid, can_read, can_write, can_execute, is_dirty}
use Rattle.ranges.{proofs.Names.{frame_of, is_private, is_swapped, IsEntryOver, is_barred, parked_invalid, parked_framed, parked_unexecutable, over_some}, specs.Leaves.{needs_no_mark, IsPermittedEntry}}
use Rattle.vm_types.specs.Permission as Permission

-- whether a permission lets anything be done
abbrev pub lets_anything : Prot → Bool
lets_anything prot = Permission.can_read prot || Permission.can_execute prot

-- what the entry of a permission over the same frame lets be done
pub record Allows (prot : Prot) (writable : Bool) (e e' : ℕ) : Type 0 where
  pub private : is_private e' ≡ is_private e
  pub frame : frame_of e' ≡ frame_of e
  pub valid : is_valid e' ≡ lets_anything prot
  pub reads : can_read e' ≡ Permission.can_read prot
  pub executes : can_execute e' ≡ Permission.can_execute prot
  pub writes : is_valid e' ≡ true → can_write e' ≡ writable
  pub dirty : is_valid e' ≡ true → is_private e' ≡ false → is_dirty e' ≡ true → (is_valid e ≡ true) × (is_dirty e ≡ true)
  pub some : e' ≢ 0
  pub framed : is_valid e' ≡ false → has_bit e' 1 ≡ false

-- what an entry over the same frame is, with D where it needs no further mark
pub permitted_over : (prot : Prot) (writable : Bool) (e e' f : ℕ) (own marked : Bool) → f ≡ frame_of e → own ≡ is_private e
    → marked ≡ needs_no_mark e → IsEntryOver e' prot f own writable marked → IsPermittedEntry prot writable e e'
permitted_over prot writable e e' f own marked frame mine is over = record { over = rw (frame, mine, is) at over }

pub allowed : (prot : Prot) (writable : Bool) (e e' : ℕ) → IsPermittedEntry prot writable e e' → Allows prot writable e e'
allowed prot writable e e' permitted =
    let over = permitted.over in
    let some = over_some e' prot (frame_of e) (is_private e) writable (needs_no_mark e) over in
    elim (cases_Bool (is_barred prot)) [
      | inl barred ↦ (
          let none : lets_anything prot ≡ false = not-true (lets_anything prot) barred in
          let off = or_parts (Permission.can_read prot) (Permission.can_execute prot) none in
          let parked = over.parked barred in
          let invalid : is_valid e' ≡ false = ap is_valid parked ∙ parked_invalid (frame_of e) (is_private e) in
          record {
            private = over.owned;
            frame = over.names;
            valid = invalid ∙ sym none;
            reads = ap can_read parked ∙ parked_framed (frame_of e) (is_private e) ∙ sym off.0;
            executes = ap can_execute parked ∙ parked_unexecutable (frame_of e) (is_private e) ∙ sym off.1;
            writes = λ valid. absurd (false≢true (sym invalid ∙ valid));
            dirty = λ valid common bit. absurd (false≢true (sym invalid ∙ valid));
            some = some;
            framed = λ _. ap (λ x. has_bit x 1) parked ∙ parked_framed (frame_of e) (is_private e);
          })
      | inr useful ↦ (
          let leaf = over.leaf useful in
          record {
            private = over.owned;
            frame = over.names;
            valid = leaf.valid ∙ sym (not-false (lets_anything prot) useful);
            reads = leaf.reads;
            executes = leaf.executes;
            writes = λ valid. leaf.writes;
            dirty = λ valid common bit. (
                let none : is_private e ≡ false = sym over.owned ∙ common in
                let set : (is_private e || (is_valid e && is_dirty e)) ≡ true = sym leaf.dirty ∙ bit in
                and_parts (is_valid e) (is_dirty e) (rw none at set));
            some = some;
            framed = λ off. absurd (false≢true (sym off ∙ leaf.valid));
          })
    ]

-- an entry over a frame isn't that of a page in a slot
pub here_still : (prot : Prot) (writable : Bool) (e e' : ℕ) → IsPermittedEntry prot writable e e' → is_swapped e' ≡ false
here_still prot writable e e' permitted = elim (cases_Bool (is_valid e')) [
  | inl valid ↦ rw valid refl
  | inr invalid ↦ (let clear = (allowed prot writable e e' permitted).framed invalid in rw (invalid, clear) refl)
]
