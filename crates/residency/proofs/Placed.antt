-- One page of a file or an object is elsewhere, or touched otherwise, and every other one is as it was.
use Rattle.residency.proofs.Names.{top_level, PageKey, ◌≡◌, ◌≢◌, ◌⊎◌, ◌<◌, ℕ, inl, inr, true, false, sym, ap, ◌∙◌, Cache, role_of, is_valid, is_dirty, frame_of, IsPage, Home, Frame, Slot}
use Rattle.residency.{specs.{Seats.{InSlot}, Picture.{Picture, entry, is_private, IsOwned}, Parts.{IsPageFor, HasPlaces, IsDirtySound}}, proofs.Places.{cases_page, page_for-same}}

pub record Replaces {mode : ℕ} (old new : Picture mode) (page : PageKey) : Type 0 where
  pub others : (p : PageKey) → p ≢ page → new.place p ≡ old.place p
  pub at : (pid k : ℕ) → new.at pid k ≡ old.at pid k
  pub files : (f : ℕ) → new.files f ≡ old.files f
  -- a cache frame is where the page lies now, or holds the page that it held, which is another one;
  pub cached : (n : ℕ) → new.place page ≡ Frame (record { 0 = n }) → role_of new.frames n ≡ Cache
  pub cached_else : (p : PageKey) (n : ℕ) → p ≢ page → old.place p ≡ Frame (record { 0 = n }) → role_of new.frames n ≡ Cache
  pub held : (n : ℕ) → role_of new.frames n ≡ Cache → (new.place page ≡ Frame (record { 0 = n })) ⊎ ((old.place page ≢ Frame (record { 0 = n })) × (role_of old.frames n ≡ Cache))
  -- so is a slot in use, or it holds own copies;
  pub slotted : (k : ℕ) → new.place page ≡ Slot (record { 0 = k }) → new.slots.count k ≡ 1
  pub slotted_else : (p : PageKey) (k : ℕ) → p ≢ page → old.place p ≡ Slot (record { 0 = k }) → new.slots.count k ≡ old.slots.count k
  pub used : (k : ℕ) → 0 < new.slots.count k
      → IsOwned new (InSlot k) ⊎ ((new.place page ≡ Slot (record { 0 = k })) ⊎ ((old.place page ≢ Slot (record { 0 = k })) × (p : PageKey) × (old.place p ≡ Slot (record { 0 = k }))))
  -- and no other page lies where this one does, but at home
  pub apart : (p : PageKey) → p ≢ page → new.place page ≡ old.place p → old.place p ≡ Home
  pub inside : new.place page ≢ Home → IsPageFor old page

pub places_replaced : {mode : ℕ} (old new : Picture mode) (page : PageKey) → HasPlaces old → Replaces old new page → HasPlaces new
places_replaced old new page places to = record {
  cached = λ p n there. elim (cases_page p page) [
    | inl e ↦ to.cached n (ap new.place (sym e) ∙ there)
    | inr ne ↦ to.cached_else p n ne (sym (to.others p ne) ∙ there)
  ];
  held = λ n cache. elim (to.held n cache) [
    | inl here ↦ (page, here)
    | inr was ↦ (let h = places.held n was.1 in (h.0, to.others h.0 (λ e. was.0 (ap old.place (sym e) ∙ h.1)) ∙ h.1))
  ];
  apart = λ p q e away. elim (cases_page p page) [
    | inl here ↦ elim (cases_page q page) [
      | inl there ↦ here ∙ sym there
      | inr ne ↦ absurd (away (e ∙ to.others q ne ∙ to.apart q ne (ap new.place (sym here) ∙ e ∙ to.others q ne)))
    ]
    | inr ne ↦ elim (cases_page q page) [
      | inl there ↦ absurd (away (to.others p ne ∙ to.apart p ne (ap new.place (sym there) ∙ sym e ∙ to.others p ne)))
      | inr ne' ↦ places.apart p q (sym (to.others p ne) ∙ e ∙ to.others q ne') (λ home. away (to.others p ne ∙ home))
    ]
  ];
  slotted = λ p k there. elim (cases_page p page) [
    | inl e ↦ to.slotted k (ap new.place (sym e) ∙ there)
    | inr ne ↦ (let was = sym (to.others p ne) ∙ there in to.slotted_else p k ne was ∙ places.slotted p k was)
  ];
  used = λ k some. elim (to.used k some) [
    | inl own ↦ inl own
    | inr file ↦ elim file [ inl here ↦ inr (page, here) | inr was ↦ inr (was.1, to.others was.1 (λ e. was.0 (ap old.place (sym e) ∙ was.2)) ∙ was.2) ]
  ];
  inside = λ p away. elim (cases_page p page) [
    | inl e ↦ rw e (page_for-same old new page to.at to.files (to.inside (λ home. away (ap new.place e ∙ home))))
    | inr ne ↦ page_for-same old new p to.at to.files (places.inside p (λ home. away (to.others p ne ∙ home)))
  ];
}

-- No entry changed. What is asked of the page is asked by its new place.
pub dirty_replaced : {mode : ℕ} (old new : Picture mode) (page : PageKey) → IsDirtySound old → ((p : PageKey) → p ≢ page → new.place p ≡ old.place p) → ((p : PageKey) → p ≢ page → new.touched p ≡ old.touched p)
    → ((pid k : ℕ) → IsPage (top_level mode) k → entry new pid k ≡ entry old pid k)
    → ((pid k : ℕ) → IsPage (top_level mode) k → is_valid (entry old pid k) ≡ true → is_private (entry old pid k) ≡ false → is_dirty (entry old pid k) ≡ true
    → new.place page ≡ Frame (record { 0 = frame_of (entry old pid k) }) → new.touched page ≡ true)
    → (new.touched page ≡ true → new.place page ≢ Home) → ((k : ℕ) → new.place page ≡ Slot (record { 0 = k }) → new.touched page ≡ true) → IsDirtySound new
dirty_replaced old new page sound others touched same here home slot = record {
  dirty = λ pid k p h valid common dirty there. (
      let e = same pid k h in
      let was_valid = sym (ap is_valid e) ∙ valid in
      let was_common = sym (ap is_private e) ∙ common in
      let was_dirty = sym (ap is_dirty e) ∙ dirty in
      let at = there ∙ ap (λ x. Frame (record { 0 = frame_of x })) e in
      elim (cases_page p page) [
        | inl is ↦ ap new.touched is ∙ here pid k h was_valid was_common was_dirty (ap new.place (sym is) ∙ at)
        | inr ne ↦ touched p ne ∙ sound.dirty pid k p h was_valid was_common was_dirty (sym (others p ne) ∙ at)
      ]);
  held = λ p now at. elim (cases_page p page) [
    | inl is ↦ home (ap new.touched (sym is) ∙ now) (ap new.place (sym is) ∙ at)
    | inr ne ↦ sound.held p (sym (touched p ne) ∙ now) (sym (others p ne) ∙ at)
  ];
  slotted = λ p k at. elim (cases_page p page) [
    | inl is ↦ ap new.touched is ∙ slot k (ap new.place (sym is) ∙ at)
    | inr ne ↦ touched p ne ∙ sound.slotted p k (sym (others p ne) ∙ at)
  ];
}
