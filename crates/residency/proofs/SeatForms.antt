-- Which seat an entry has by its form, and what a share that is given back leaves of all bytes.
use Rattle.residency.proofs.{Handing.{away_number}, Names.{◌≡◌, ℕ, inl, inr, ◌+◌, ◌*◌, ◌<◌, ◌^◌, true, false, Some, None, refl, sym, ap, ◌∙◌, arith, cases_eq, cases_Bool, false≢true, PageKey, SlotNo, bytes_of, IsInUse, frame_of, is_valid}}
use Rattle.residency.{proofs.{Names.{has_bit, Entry, Leaf, Swapped, Parked, number_of, IsEntry, parked_framed}, Puts.{SameButSlots}, Setting.{each_view, view_seated, held_by}}, specs.{Parts.{IsFitBut}, Picture.{Picture, view, held}}}
use Rattle.residency.specs.{Picture.{bytes_in, IsOwned}, Seats.{Seat, InFrame, InSlot, seat, is_private, is_swapped}}
use Rattle.swap.specs.Slots as Slots
use Rattle.page_tables.specs.declared.forms.Entry.TheVariants as Entries

pub seat_own : (e : ℕ) → is_private e ≡ true → seat e ≡ Some (InFrame (frame_of e))
seat_own e own = rw own refl

pub seat_common : (e : ℕ) → is_private e ≡ false → is_swapped e ≡ false → seat e ≡ None
seat_common e common here = rw (common, here) refl

pub seat_away : (e : ℕ) → is_private e ≡ false → is_swapped e ≡ true → seat e ≡ Some (InSlot (frame_of e))
seat_away e common away = rw (common, away) refl

zero_here : is_swapped 0 ≡ false
unfolding has_bit
zero_here = refl

pub bit_clear : (e : ℕ) → has_bit e 1 ≡ false → is_swapped e ≡ false
bit_clear e clear = elim (cases_Bool (is_valid e)) [ inl valid ↦ rw valid refl | inr invalid ↦ rw (invalid, clear) refl ]

-- an entry of a page in a slot has that form
pub swapped_form : (e : Entry) → IsEntry e → is_swapped (number_of e) ≡ true → (k : SlotNo) × (e ≡ Swapped k)
swapped_form Entries.None form is = absurd (false≢true (sym zero_here ∙ is))
swapped_form (Leaf l) form is = absurd (false≢true (sym (let z : is_swapped l.0 ≡ false = rw form.0 refl in z) ∙ is))
swapped_form (Swapped k) form is = (k, refl)
swapped_form (Parked f p) form is = absurd (false≢true (sym (bit_clear (number_of (Parked f p)) (parked_framed f.0 p)) ∙ is))

pub away_seat : (k : ℕ) → k < 2 ^ 32 → seat (k * 1024 + 2) ≡ Some (InSlot k)
away_seat k low = let away = away_number k low in seat_away (k * 1024 + 2) away.common away.swapped ∙ ap (λ n. Some (InSlot n)) away.slot

-- a share of a slot was given back: the bytes of all slots are as they were
module _ {mode : ℕ} (old new : Picture mode) (k x d : ℕ) (s : Seat) (fit : IsFitBut old s x d) (same : SameButSlots old new) (releases : Slots.ReleasesSlot old.slots new.slots k) where
  slot_bytes : (j : ℕ) → IsInUse old.slots j → new.slots.bytes j ≡ old.slots.bytes j
  slot_bytes j used = elim (cases_eq j k) [
    | inl e ↦ ap new.slots.bytes e ∙ releases.bytes_kept ∙ ap old.slots.bytes (sym e)
    | inr ne ↦ releases.others.bytes j ne used
  ]

  seat_bytes : (z : Seat) → IsOwned old z → bytes_in new.frames new.slots z ≡ bytes_in old.frames old.slots z
  seat_bytes (InFrame n) is = ap (λ t. bytes_of t n) same.frames
  seat_bytes (InSlot j) is = slot_bytes j is.0

  pub views_given : (q p : ℕ) → view new q p ≡ view old q p
  views_given q p = each_view old new fit.granting same.at q p (λ h. view_seated old new q p (same.at q p) (ap seat (same.entries q p))
      (λ z is. seat_bytes z (fit.counted.1.named q p z h is)))

  pub held_given : (p : PageKey) → held new p ≡ held old p
  held_given p = held_by old new p (same.place p) (λ m at. ap (λ t. bytes_of t m) same.frames) (λ j at. slot_bytes j (let one = fit.places.slotted p j at in omega (arith, one)))
