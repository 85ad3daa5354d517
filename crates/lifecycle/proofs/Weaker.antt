-- An entry without W.
use Rattle.lifecycle.proofs.Names.{◌&&◌, ◌≡◌, ◌≢◌, ℕ, ◌+◌, ◌-◌, ◌*◌, ◌/◌, ◌%◌, ◌^◌, inl, inr, ◌==◌, Bool, true, false, Option, refl, sym, ap, ◌∙◌, subst, arith, eqb-true, cases_Bool, false≢true, and_parts, FrameNo, Attr, Pte, has_bit}
use Rattle.lifecycle.{proofs.Names.{is_valid, can_write, is_leaf, frame_of, number_of, Entry, Leaf, Swapped, Parked, is_private, seat, Picture, IsEntryFor, Nothing, Resident, Away, no_bit}, specs.Shares.{Weakens, without_write}}
use Rattle.{lifecycle.specs.Shares.{lowered_entry}, page_tables.specs.declared.forms.Entry.TheVariants.{None}}

bit_set : (e : ℕ) → can_write e ≡ true → e / 4 % 2 ≡ 1
unfolding has_bit
bit_set e write = eqb-true (e / 4 % 2) 1 write

number_less : (e : ℕ) → is_valid e ≡ true → can_write e ≡ true → e - 4 ≡ without_write e
number_less e valid write = rw (valid, write) refl

number_same : (e : ℕ) → (is_valid e ≡ true → can_write e ≡ false) → e ≡ without_write e
number_same e unwritten = elim (cases_Bool (is_valid e)) [ inl valid ↦ (let none = unwritten valid in rw (valid, none) refl) | inr invalid ↦ rw invalid refl ]

-- a leaf that lets stores through
pub weaker_leaf : (e : ℕ) → is_valid e ≡ true → can_write e ≡ true → Weakens e (e - 4)
unfolding has_bit frame_of
weaker_leaf e valid write =
    let set = bit_set e write in
    record {
      number = number_less e valid write;
      valid = (let same : (e - 4) / 1 % 2 ≡ e / 1 % 2 = omega (arith, set) in ap (λ x. x == 1) same);
      reads = (let same : (e - 4) / 2 % 2 ≡ e / 2 % 2 = omega (arith, set) in ap (λ x. x == 1) same);
      executes = (let same : (e - 4) / 8 % 2 ≡ e / 8 % 2 = omega (arith, set) in ap (λ x. x == 1) same);
      private = (let same : (e - 4) / 256 % 2 ≡ e / 256 % 2 = omega (arith, set) in ap (λ x. x == 1) same);
      frame = (let same : (e - 4) / 1024 ≡ e / 1024 = omega (arith, set) in ap (λ x. x % 2 ^ 44) same);
      unwritten = λ valid. (let clear : (e - 4) / 4 % 2 ≡ 0 = omega (arith, set) in ap (λ x. x == 1) clear);
    }

pub still_leaf : (e e' : ℕ) → Weakens e e' → is_valid e ≡ true → is_leaf e ≡ true → (is_valid e' ≡ true) × (is_leaf e' ≡ true)
still_leaf e e' weaker valid leaf = (weaker.valid ∙ valid, rw (weaker.reads, weaker.executes) leaf)

-- an entry of another form, or a leaf without W
pub unchanged : (e : ℕ) → (is_valid e ≡ true → can_write e ≡ false) → Weakens e e
unchanged e unwritten = record { number = number_same e unwritten; valid = refl; reads = refl; executes = refl; private = refl; frame = refl; unwritten = unwritten }

even_valid : (e : ℕ) → e % 2 ≡ 0 → is_valid e ≡ true → ⊥
unfolding has_bit
even_valid e even valid = let low : e / 1 % 2 ≡ 0 = omega (arith, even) in false≢true (sym (ap (λ x. x == 1) low) ∙ valid)

own_same : (frame : FrameNo) (private : Bool) → Weakens (number_of (Parked frame private)) (number_of (Parked frame private))
own_same frame true = unchanged (frame.0 * 1024 + 260) (λ valid. absurd (even_valid (frame.0 * 1024 + 260) (omega arith) valid))
own_same frame false = unchanged (frame.0 * 1024 + 4) (λ valid. absurd (even_valid (frame.0 * 1024 + 4) (omega arith) valid))

-- an entry of another form
pub weaker_other : (entry : Entry) → ((leaf : Pte) → entry ≡ Leaf leaf → ⊥) → Weakens (number_of entry) (number_of entry)
weaker_other None other = unchanged 0 (λ valid. absurd (even_valid 0 refl valid))
weaker_other (Leaf leaf) other = absurd (other leaf refl)
weaker_other (Swapped slot) other = unchanged (slot.0 * 1024 + 2) (λ valid. absurd (even_valid (slot.0 * 1024 + 2) (omega arith) valid))
weaker_other (Parked frame private) other = own_same frame private

-- it stands for the page as before
pub weaker_for : {mode : ℕ} (c : Picture mode) (attr : Option Attr) (e e' : ℕ) → is_private e ≡ true → Weakens e e' → IsEntryFor c attr e → IsEntryFor c attr e'
weaker_for c attr e e' own weaker (Nothing none) = absurd (false≢true (sym no_bit ∙ sym (ap is_private none) ∙ own))
weaker_for c attr e e' own weaker (Resident a at resident) =
    let own' : is_private e' ≡ true = weaker.private ∙ own in
    Resident a at (record {
      framed = λ invalid. weaker.reads ∙ resident.framed (sym weaker.valid ∙ invalid);
      inside = resident.inside;
      private = λ private. resident.private own;
      behind = λ common. absurd (false≢true (sym common ∙ own'));
      leaf = λ valid. (
          let was : is_valid e ≡ true = sym weaker.valid ∙ valid in
          let leaf = resident.leaf was in
          let unwritten = weaker.unwritten was in
          record {
            within = record {
              reads = λ reads. leaf.within.reads (sym weaker.reads ∙ reads);
              writes = λ writes. absurd (false≢true (sym unwritten ∙ writes));
              executes = λ executes. leaf.within.executes (sym weaker.executes ∙ executes);
            };
            sole = λ private writes. absurd (false≢true (sym unwritten ∙ writes));
            common = λ common. absurd (false≢true (sym common ∙ own'));
          });
    })
weaker_for c attr e e' own weaker (Away a at away) = absurd (false≢true (sym away.common ∙ own))

-- it names the seat that it named
pub weaker_seat : (e e' : ℕ) → Weakens e e' → seat e' ≡ seat e
weaker_seat e e' weaker = rw (weaker.private, weaker.frame, weaker.valid, weaker.reads) refl

-- and it is the entry of a shared page, where it names a seat
pub weaker_lowered : (e e' : ℕ) → is_private e ≡ true → Weakens e e' → e' ≡ lowered_entry e
weaker_lowered e e' own weaker = rw own weaker.number

-- a leaf that names a seat is that of a frame of the process's own
pub leaf_own : (e : ℕ) → is_valid e ≡ true → seat e ≢ Option.None → is_private e ≡ true
leaf_own e valid some = elim (cases_Bool (is_private e)) [ inl own ↦ own | inr common ↦ absurd (some (rw (common, valid) refl)) ]

-- the entry without W
pub weakened : (e : ℕ) → Weakens e (without_write e)
weakened e = elim (cases_Bool (is_valid e && can_write e)) [
  | inl both ↦ (let parts = and_parts (is_valid e) (can_write e) both in subst (λ (x : ℕ). Weakens e x) (number_less e parts.0 parts.1) (weaker_leaf e parts.0 parts.1))
  | inr none ↦ (
      let unwritten : is_valid e ≡ true → can_write e ≡ false = λ valid. (let P : Bool → Type 0 = λ x. (x && can_write e) ≡ false in subst P valid none) in
      subst (λ (x : ℕ). Weakens e x) (number_same e unwritten) (unchanged e unwritten))
]

lowered_own : (e : ℕ) → is_private e ≡ true → lowered_entry e ≡ without_write e
lowered_own e own = rw own refl

lowered_common : (e : ℕ) → is_private e ≡ false → lowered_entry e ≡ e
lowered_common e common = rw common refl

-- the entry of a shared page names the seat that it named
pub seat_lowered : (e : ℕ) → seat (lowered_entry e) ≡ seat e
seat_lowered e = elim (cases_Bool (is_private e)) [
  | inl own ↦ ap seat (lowered_own e own) ∙ weaker_seat e (without_write e) (weakened e)
  | inr common ↦ ap seat (lowered_common e common)
]
