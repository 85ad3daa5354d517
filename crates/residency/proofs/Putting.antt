-- A slot was taken, or was not to be had: what is seen stays.
use Rattle.residency.proofs.{Moves.{counted_on}, Names.{top_level, PageKey, ◌≡◌, ◌≢◌, ℕ, inl, inr, ◌<◌, List, refl, sym, ap, ◌∙◌, subst, arith, cases_eq, FrameTable, frame_count, role_of, count_of, bytes_of, SlotTable, IsInUse, Same, Puts}}
use Rattle.residency.proofs.{Names.{SharesSlot, Points, last_table, Slot}, Puts.{SameButSlots, slots_forth, slots_back, slots_counts, slots_pages, fit_slots}, Seats.{counted_shared}, Setting.{view_seated, each_view, held_by}}
use Rattle.residency.specs.{Ages.{Same as SameAge}, Evictions.{HasShare, Spares}, Parts.{IsFit, nowhere}, Picture.{Picture, entry, held, bytes_in, IsOwned, count_in, page_in}, Seats.{Seat, InFrame, InSlot, seat}}

pub with_slots : {mode : ℕ} (c : Picture mode) (t : SlotTable) → SameButSlots c (record c { slots = t })
unfolding entry
with_slots c t = record { frames = refl; root = λ p. refl; at = λ p k. refl; page_of = λ n. refl; place = λ p. refl; touched = λ p. refl; files = λ f. refl; entries = λ q p. refl }

pub kept_by : (old new : SlotTable) (k : ℕ) (bytes : List ℕ) → Puts old new k bytes → (j : ℕ) → IsInUse old j → (new.bytes j ≡ old.bytes j) × (new.count j ≡ old.count j)
kept_by old new k bytes puts j used =
    let ne : j ≢ k = λ e. (let P : ℕ → Type 0 = λ i. IsInUse old i in let u = subst P e used in let none = puts.was_free in omega (arith, u, none)) in
    (puts.others.bytes j ne used, puts.others.counts j ne)

pub owned_by : {mode : ℕ} (c : Picture mode) (t : SlotTable) (k : ℕ) (bytes : List ℕ) → IsFit c → Puts c.slots t k bytes → IsOwned (record c { slots = t }) (InSlot k)
owned_by c t k bytes fit puts =
    ((let one = puts.counted in omega (arith, one)), λ p e. (let one = fit.places.slotted p k e in let none = puts.was_free in omega (arith, one, none)))

module _ {mode : ℕ} (old new : Picture mode) (fit : IsFit old) (same : SameButSlots old new)
    (kept : (j : ℕ) → IsInUse old.slots j → new.slots.bytes j ≡ old.slots.bytes j) where
  own_bytes : (z : Seat) → IsOwned old z → bytes_in new.frames new.slots z ≡ bytes_in old.frames old.slots z
  own_bytes (InFrame n) is = ap (λ t. bytes_of t n) same.frames
  own_bytes (InSlot j) is = kept j is.0

  held_put : (p : PageKey) → held new p ≡ held old p
  held_put p = held_by old new p (same.place p) (λ m at. ap (λ t. bytes_of t m) same.frames) (λ j at. kept j (let one = fit.places.slotted p j at in omega (arith, one)))

  pub put_spares : (v k : ℕ) → new.slots.total ≡ old.slots.total → ((j : ℕ) → j ≢ k → IsInUse old.slots j → new.slots.count j ≡ old.slots.count j) → Spares v k old new
  put_spares v k total counts = record {
    pages = record {
      root = same.root;
      at = same.at;
      views = λ pid p. each_view old new fit.granting same.at pid p (λ h. view_seated old new pid p (same.at pid p) (ap seat (same.entries pid p))
          (λ z is. own_bytes z (fit.counted.1.named pid p z h is)));
      files = record { held = λ p. inl (held_put p); touched = same.touched; files = same.files };
    };
    count = ap (λ t. frame_count t) same.frames;
    roles = λ n ne. ap (λ t. role_of t n) same.frames;
    role = inl (ap (λ t. role_of t v) same.frames);
    counts = λ n ne. ap (λ t. count_of t n) same.frames;
    bytes = λ n ne used. ap (λ t. bytes_of t n) same.frames;
    ends = λ pid r p e. ap (λ t. last_table t p (top_level mode) r) same.frames;
    entries = λ pid p h stays. same.entries pid p;
    ages = λ pid p h. SameAge (same.entries pid p);
    pointers = λ n i m points. (let P : FrameTable → Type 0 = λ t. Points t n i m in subst P (sym same.frames) points);
    slots = λ j ne used. (kept j used, counts j ne used);
    total = total;
    place = λ p ne. same.place p;
  }

-- no slot was taken
module _ {mode : ℕ} (old new : Picture mode) (fit : IsFit old) (same : SameButSlots old new) (slots : Same old.slots new.slots) where
  pub fit_unput : IsFit new
  fit_unput = fit_slots old new nowhere nowhere 0 0 0 fit same
      (counted_on old new nowhere 0 fit.counted (λ q p h. ap seat (same.entries q p))
      (λ z. slots_forth old new same z (λ j is used. (let c = slots.counts j in omega (arith, c, used)))) (λ z. slots_back old new same z (λ j is used. (let c = slots.counts j in omega (arith, c, used))))
      (λ z own. slots_counts old new same z (λ j is. slots.counts j)) (λ z own. slots_pages old new same fit.counted.0 fit.counted.0 z (λ j is. refl)))
      (λ p j there. slots.counts j) (λ j some. inl (let c = slots.counts j in omega (arith, c, some)))

-- one more shares a slot that holds own copies
module _ {mode : ℕ} (old new : Picture mode) (k page : ℕ) (fit : IsFit old) (same : SameButSlots old new) (own : IsOwned old (InSlot k)) (noted : fit.counted.0 k ≡ page) (shares : SharesSlot old.slots new.slots k) where
  more_used : (j : ℕ) → IsInUse old.slots j → IsInUse new.slots j
  more_used j used = elim (cases_eq j k) [
    | inl e ↦ (let r = shares.raised in let P : ℕ → Type 0 = λ i. 0 < new.slots.count i in subst P (sym e) (omega (arith, r)))
    | inr ne ↦ (let c = shares.others.counts j ne in omega (arith, c, used))
  ]

  were_used : (j : ℕ) → IsInUse new.slots j → IsInUse old.slots j
  were_used j used = elim (cases_eq j k) [
    | inl e ↦ (let P : ℕ → Type 0 = λ i. 0 < old.slots.count i in subst P (sym e) own.0)
    | inr ne ↦ (let c = shares.others.counts j ne in omega (arith, c, used))
  ]

  forth_shared : (z : Seat) → IsOwned old z → IsOwned new z
  forth_shared z = slots_forth old new same z (λ j is. more_used j)

  pub has_shared : HasShare new k page
  unfolding fit_slots
  has_shared = record {
    fit = fit_slots old new nowhere (InSlot k) 0 1 0 fit same (
      fit.counted.0,
      counted_shared mode (entry old) (entry new) (IsOwned old) (IsOwned new) (count_in old) (count_in new) (page_in old fit.counted.0) (page_in new fit.counted.0)
          (λ q p h. ap seat (same.entries q p)) (InSlot k) nowhere fit.counted.1 forth_shared (λ z. slots_back old new same z (λ j is. were_used j))
          (λ z ne own. slots_counts old new same z (λ j is. shares.others.counts j (λ e. ne (is ∙ ap (λ i. InSlot i) e))))
          (λ z own. slots_pages old new same fit.counted.0 fit.counted.0 z (λ j is. refl)) shares.raised,
    ) (λ p j there. shares.others.counts j (λ is. own.1 p (there ∙ ap (λ i. Slot (record { 0 = i })) is))) (λ j some. inl (were_used j some));
    owned = forth_shared (InSlot k) own;
    noted = noted;
  }

  -- nobody sees it
  pub share_spares : (v : ℕ) → Spares v k old new
  share_spares v = put_spares old new fit same
      (λ j used. elim (cases_eq j k) [
        | inl e ↦ ap new.slots.bytes e ∙ shares.bytes_kept ∙ ap old.slots.bytes (sym e)
        | inr ne ↦ shares.others.bytes j ne used
      ]) v k shares.others.total (λ j ne used. shares.others.counts j ne)
