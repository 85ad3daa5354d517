-- A page of a file or an object in a frame, of which no entry says D, is touched no more.
use Rattle.residency.proofs.Names.{top_level, PageKey, ◌≡◌, ◌≢◌, ℕ, inl, inr, false, sym, ap, ◌∙◌, refl, false≢true, bytes_of, frame_of, page_entry, Frame, Slot}
use Rattle.residency.specs.{declared.leaves.Change.TheVariants.{ClearDirty}, Seats.{Seat, InFrame, InSlot, seat}, Picture.{Picture, entry, view, held, bytes_in}, Parts.{IsFit, nowhere}, Leaves.{IsClear}}
use Rattle.residency.proofs.{Entries.{entries_kept}, Moves.{shares_same, fit_kept}, Places.{cases_page, one_frame}, Placed.{dirty_replaced}, Rooted.{rooted_frames}, Setting.{view_seated, held_same}}
use Rattle.page_cache.specs.CacheTable as CacheTable

-- nothing but the touched set changed
pub record Untouches {mode : ℕ} (old new : Picture mode) (page : PageKey) : Type 0 where
  pub frames : new.frames ≡ old.frames
  pub slots : new.slots ≡ old.slots
  pub root : (pid : ℕ) → new.root pid ≡ old.root pid
  pub at : (pid k : ℕ) → new.at pid k ≡ old.at pid k
  pub page_of : (x : ℕ) → new.page_of x ≡ old.page_of x
  pub files : (f : ℕ) → new.files f ≡ old.files f
  pub place : (p : PageKey) → new.place p ≡ old.place p
  pub now : new.touched page ≡ false
  pub others : (p : PageKey) → p ≢ page → new.touched p ≡ old.touched p

module _ {mode : ℕ} (old new : Picture mode) (page : PageKey) (n : ℕ) (fit : IsFit old) (u : Untouches old new page) where
  pub entries_untouched : (pid k : ℕ) → entry new pid k ≡ entry old pid k
  entries_untouched = entries_kept old new 0 fit.rooted (λ r p is_root. ap (λ t. page_entry t (top_level mode) r p) u.frames) u.root

  seat_bytes : (z : Seat) → bytes_in new.frames new.slots z ≡ bytes_in old.frames old.slots z
  seat_bytes (InFrame m) = ap (λ t. bytes_of t m) u.frames
  seat_bytes (InSlot k) = ap (λ t. t.bytes k) u.slots

  pub views_untouched : (q p : ℕ) → view new q p ≡ view old q p
  views_untouched q p = view_seated old new q p (u.at q p) (ap seat (entries_untouched q p)) (λ z is. seat_bytes z)

  pub held_untouched : (p : PageKey) → held new p ≡ held old p
  held_untouched p = held_same old new p (u.place p) u.slots (λ m at. ap (λ t. bytes_of t m) u.frames)

  pub fit_untouched : old.place page ≡ Frame (record { 0 = n }) → IsClear old ClearDirty n → IsFit new
  fit_untouched placed clear = fit_kept old new (shares_same old.frames new.frames u.frames) u.slots u.page_of u.place nowhere 0 0 0 fit u.at u.files (λ pid k h. entries_untouched pid k)
      (rooted_frames old new 0 fit.rooted u.frames u.root u.at)
      (dirty_replaced old new page fit.dirty (λ p ne. u.place p) u.others (λ pid k h. entries_untouched pid k)
      (λ pid k h valid common dirty here. (
      let number = one_frame n (frame_of (entry old pid k)) (sym placed ∙ sym (u.place page) ∙ here) in
      absurd (clear pid k h (record { concerned = rw (valid, dirty) refl; frame = number }))))
      (λ touched home. false≢true (sym u.now ∙ touched))
      (λ k is. absurd (let bad : Frame (record { 0 = n }) ≡ Slot (record { 0 = k }) = sym placed ∙ sym (u.place page) ∙ is in (cc))))

-- no place changed
pub all_placed : (t u : CacheTable.CacheTable) (page : PageKey) → CacheTable.SameButForPage page t u → CacheTable.place_of u page ≡ CacheTable.place_of t page
    → (p : PageKey) → CacheTable.place_of u p ≡ CacheTable.place_of t p
all_placed t u page same placed p = elim (cases_page p page) [
  | inl is ↦ ap (CacheTable.place_of u) is ∙ placed ∙ sym (ap (CacheTable.place_of t) is)
  | inr ne ↦ same.places p ne
]

-- nor did a page become touched
pub all_touched : (t u : CacheTable.CacheTable) (page : PageKey) → CacheTable.SameButForPage page t u → CacheTable.is_touched u page ≡ CacheTable.is_touched t page
    → (p : PageKey) → CacheTable.is_touched u p ≡ CacheTable.is_touched t p
all_touched t u page same touched p = elim (cases_page p page) [
  | inl is ↦ ap (CacheTable.is_touched u) is ∙ touched ∙ sym (ap (CacheTable.is_touched t) is)
  | inr ne ↦ same.touched p ne
]
