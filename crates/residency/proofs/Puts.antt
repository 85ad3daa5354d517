-- A slot was taken: nothing names it yet.
use Rattle.residency.proofs.Names.{top_level, PageKey, ◌≡◌, ◌≢◌, ℕ, inl, inr, ◌⊎◌, ◌<◌, ◌==◌, if◌then◌else◌, List, refl, sym, ap, ◌∙◌, arith, eq-eqb, ne_eqb, cases_eq, role_of, count_of, Puts, IsInUse, frame_of, IsPage, Slot}
use Rattle.residency.specs.{Seats.{Seat, InFrame, InSlot, seat}, Picture.{Picture, entry, IsOwned, count_in, page_in}, Parts.{IsCountedBut, IsFitBut, nowhere}}
use Rattle.residency.proofs.{Seats.{counted_fresh}, Granting.{granting_same}, Places.{page_for-same, places_kept, dirty_same}, Rooted.{rooted_frames}}

-- nothing but slots changed
pub record SameButSlots {mode : ℕ} (old new : Picture mode) : Type 0 where
  pub frames : new.frames ≡ old.frames
  pub root : (pid : ℕ) → new.root pid ≡ old.root pid
  pub at : (pid page : ℕ) → new.at pid page ≡ old.at pid page
  pub page_of : (n : ℕ) → new.page_of n ≡ old.page_of n
  pub place : (p : PageKey) → new.place p ≡ old.place p
  pub touched : (p : PageKey) → new.touched p ≡ old.touched p
  pub files : (f : ℕ) → new.files f ≡ old.files f
  pub entries : (pid page : ℕ) → entry new pid page ≡ entry old pid page

-- Own copies have their seats and pages as before, by what is known of slots.
module _ {mode : ℕ} (old new : Picture mode) (same : SameButSlots old new) where
  pub slots_forth : (z : Seat) → ((j : ℕ) → z ≡ InSlot j → IsInUse old.slots j → IsInUse new.slots j) → IsOwned old z → IsOwned new z
  slots_forth (InFrame n) used is = ap (λ t. role_of t n) same.frames ∙ is
  slots_forth (InSlot j) used is = (used j refl is.0, λ p e. is.1 p (sym (same.place p) ∙ e))

  pub slots_back : (z : Seat) → ((j : ℕ) → z ≡ InSlot j → IsInUse new.slots j → IsInUse old.slots j) → IsOwned new z → IsOwned old z
  slots_back (InFrame n) used is = sym (ap (λ t. role_of t n) same.frames) ∙ is
  slots_back (InSlot j) used is = (used j refl is.0, λ p e. is.1 p (same.place p ∙ e))

  pub slots_counts : (z : Seat) → ((j : ℕ) → z ≡ InSlot j → new.slots.count j ≡ old.slots.count j) → count_in new z ≡ count_in old z
  slots_counts (InFrame n) counts = ap (λ t. count_of t n) same.frames
  slots_counts (InSlot j) counts = counts j refl

  pub slots_pages : (sp sp' : ℕ → ℕ) (z : Seat) → ((j : ℕ) → z ≡ InSlot j → sp' j ≡ sp j) → page_in new sp' z ≡ page_in old sp z
  slots_pages sp sp' (InFrame n) pages = same.page_of n
  slots_pages sp sp' (InSlot j) pages = pages j refl

-- The counts are right for the new slots, each page of a file or an object has its slot as before, and no other slot came into use but for own copies.
unfoldable pub fit_slots : {mode : ℕ} (old new : Picture mode) (x x' : Seat) (d d' m : ℕ) → IsFitBut old x d m → SameButSlots old new → IsCountedBut new x' d'
    → ((p : PageKey) (j : ℕ) → old.place p ≡ Slot (record { 0 = j }) → new.slots.count j ≡ old.slots.count j)
    → ((j : ℕ) → 0 < new.slots.count j → (0 < old.slots.count j) ⊎ ((p : PageKey) → old.place p ≢ Slot (record { 0 = j }))) → IsFitBut new x' d' m
fit_slots old new x x' d d' m fit same counted slotted used = record {
  counted = counted;
  rooted = rooted_frames old new m fit.rooted same.frames same.root same.at;
  granting = granting_same old new fit.granting (record { place = λ p n e. same.place p ∙ e; files = same.files })
      (λ pid q h private one. ap (λ t. count_of t (frame_of (entry old pid q))) same.frames ∙ one) same.at (λ pid q h. same.entries pid q);
  places = places_kept old new fit.places same.place (λ p away. page_for-same old new p same.at same.files) slotted used
      (λ n e. ap (λ t. role_of t n) same.frames ∙ e) (λ n e. sym (ap (λ t. role_of t n) same.frames) ∙ e);
  dirty = dirty_same old new fit.dirty same.place same.touched (λ pid q h. same.entries pid q);
}

slot_pages : (ℕ → ℕ) → ℕ → ℕ → ℕ → ℕ
slot_pages sp k page j = if j == k then page else sp j

module _ {mode : ℕ} (old new : Picture mode) (k page m : ℕ) (bytes : List ℕ) (fit : IsFitBut old nowhere 0 m) (same : SameButSlots old new) (puts : Puts old.slots new.slots k bytes) (h : IsPage (top_level mode) page) where
  no_file : (p : PageKey) → old.place p ≡ Slot (record { 0 = k }) → ⊥
  no_file p e = let one = fit.places.slotted p k e in let none = puts.was_free in omega (arith, one, none)

  slot_ne : (z : Seat) (j : ℕ) → z ≡ InSlot j → z ≢ InSlot k → j ≢ k
  slot_ne z j is ne e = ne (is ∙ ap (λ i. InSlot i) e)

  same_count : (z : Seat) → z ≢ InSlot k → (j : ℕ) → z ≡ InSlot j → new.slots.count j ≡ old.slots.count j
  same_count z ne j is = puts.others.counts j (slot_ne z j is ne)

  pub fit_put : IsFitBut new (InSlot k) 1 m
  unfolding slot_pages
  fit_put = fit_slots old new nowhere (InSlot k) 0 1 m fit same (
    slot_pages fit.counted.0 k page,
    counted_fresh mode (entry old) (entry new) (IsOwned old) (IsOwned new) (count_in old) (count_in new)
        (page_in old fit.counted.0) (page_in new (slot_pages fit.counted.0 k page)) (λ q p h'. ap seat (same.entries q p)) (InSlot k) nowhere page fit.counted.1
        (λ is. (let some = is.0 in let none = puts.was_free in omega (arith, some, none)))
        (λ z ne. slots_forth old new same z (λ j is used. (let c = same_count z ne j is in omega (arith, c, used)))) (λ z ne. slots_back old new same z (λ j is used. (let c = same_count z ne j is in omega (arith, c, used))))
        (λ z ne own. slots_counts old new same z (same_count z ne)) (λ z ne own. slots_pages old new same fit.counted.0 (slot_pages fit.counted.0 k page) z (λ j is. (rw (ne_eqb j k (slot_ne z j is ne)) refl)))
        puts.counted (rw (eq-eqb k k refl) refl) h,
  )
      (λ p j there. puts.others.counts j (λ e. no_file p (there ∙ ap (λ i. Slot (record { 0 = i })) e)))
      (λ j some. elim (cases_eq j k) [
        | inl is ↦ inr (λ p there. no_file p (there ∙ ap (λ i. Slot (record { 0 = i })) is))
        | inr ne ↦ inl (let c = puts.others.counts j ne in omega (arith, c, some))
      ])

  pub put_noted : fit_put.counted.0 k ≡ page
  unfolding fit_put fit_slots slot_pages
  put_noted = rw (eq-eqb k k refl) refl
