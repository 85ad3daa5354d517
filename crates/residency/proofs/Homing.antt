-- A page of a file or an object that lay in a slot is at home and touched no more, and its slot is free.
use Rattle.residency.proofs.Names.{top_level, PageKey, ◌≡◌, ◌≢◌, ℕ, inl, inr, ◌<◌, false, None, refl, sym, ap, ◌∙◌, arith, false≢true, role_of, bytes_of, count_of, ReleasesSlot, frame_of, page_entry, Home, Frame, Slot}
use Rattle.residency.specs.{Seats.{Seat, InFrame, InSlot, seat}, Picture.{Picture, entry, view, held, bytes_at, bytes_in, IsOwned, count_in, page_in}, Parts.{IsFit, HasPlaces, IsDirtySound, nowhere}}
use Rattle.residency.proofs.{Entries.{entries_kept}, Granting.{granting_same}, Places.{cases_page}, Placed.{places_replaced, dirty_replaced}, Rooted.{rooted_frames}, Setting.{view_seated, each_view, held_by}, Moves.{counted_on}}
pub use Rattle.residency.proofs.Places.{one_slot}

-- the steps, taken together
pub record Homes {mode : ℕ} (old new : Picture mode) (page : PageKey) (k : ℕ) : Type 0 where
  pub was : old.place page ≡ Slot (record { 0 = k })
  pub frames : new.frames ≡ old.frames
  pub slots : ReleasesSlot old.slots new.slots k
  pub root : (pid : ℕ) → new.root pid ≡ old.root pid
  pub at : (pid q : ℕ) → new.at pid q ≡ old.at pid q
  pub page_of : (m : ℕ) → new.page_of m ≡ old.page_of m
  pub files : (f : ℕ) → new.files f ≡ old.files f
  pub placed : new.place page ≡ Home
  pub others : (p : PageKey) → p ≢ page → new.place p ≡ old.place p
  pub now : new.touched page ≡ false
  pub rest : (p : PageKey) → p ≢ page → new.touched p ≡ old.touched p

module _ {mode : ℕ} (old new : Picture mode) (page : PageKey) (k : ℕ) (fit : IsFit old) (homes : Homes old new page k) where
  pub same : (pid q : ℕ) → entry new pid q ≡ entry old pid q
  same = entries_kept old new 0 fit.rooted (λ r p is_root. ap (λ t. page_entry t (top_level mode) r p) homes.frames) homes.root

  role : (m : ℕ) → role_of new.frames m ≡ role_of old.frames m
  role m = ap (λ t. role_of t m) homes.frames

  -- a slot that is in use still is another one
  not_k : (j : ℕ) → 0 < new.slots.count j → j ≢ k
  not_k j some e = let here : 0 < new.slots.count k = rw e at some in omega (arith, here, homes.slots.lowered, fit.places.slotted page k homes.was)

  owned_ne : (j : ℕ) → IsOwned old (InSlot j) → j ≢ k
  owned_ne j is e = is.1 page (homes.was ∙ ap (λ i. Slot (record { 0 = i })) (sym e))

  -- and so is that of another page of a file or an object
  slot_ne : (p : PageKey) (j : ℕ) → p ≢ page → old.place p ≡ Slot (record { 0 = j }) → j ≢ k
  slot_ne p j ne there e = ne (fit.places.apart p page (there ∙ ap (λ i. Slot (record { 0 = i })) e ∙ sym homes.was) (λ home. (let bad : Home ≡ Slot (record { 0 = j }) = sym home ∙ there in (cc))))

  forth : (z : Seat) → IsOwned old z → IsOwned new z
  forth (InFrame m) is = role m ∙ is
  forth (InSlot j) is = (
    (let c = homes.slots.others.counts j (owned_ne j is) in let some = is.0 in omega (arith, c, some)),
    λ p at. elim (cases_page p page) [
      | inl e ↦ (let bad : Home ≡ Slot (record { 0 = j }) = sym (ap new.place e ∙ homes.placed) ∙ at in (cc))
      | inr ne ↦ is.1 p (sym (homes.others p ne) ∙ at)
    ],
  )

  back : (z : Seat) → IsOwned new z → IsOwned old z
  back (InFrame m) is = sym (role m) ∙ is
  back (InSlot j) is = (
    (let c = homes.slots.others.counts j (not_k j is.0) in let some = is.0 in omega (arith, c, some)),
    λ p at. elim (cases_page p page) [ inl e ↦ not_k j is.0 (one_slot j k (sym at ∙ ap old.place e ∙ homes.was)) | inr ne ↦ is.1 p (homes.others p ne ∙ at) ],
  )

  counts : (z : Seat) → IsOwned old z → count_in new z ≡ count_in old z
  counts (InFrame m) is = ap (λ t. count_of t m) homes.frames
  counts (InSlot j) is = homes.slots.others.counts j (owned_ne j is)

  pages : (z : Seat) → IsOwned old z → page_in new fit.counted.0 z ≡ page_in old fit.counted.0 z
  pages (InFrame m) is = homes.page_of m
  pages (InSlot j) is = refl

  seat_bytes : (z : Seat) → IsOwned old z → bytes_in new.frames new.slots z ≡ bytes_in old.frames old.slots z
  seat_bytes (InFrame m) is = ap (λ t. bytes_of t m) homes.frames
  seat_bytes (InSlot j) is = homes.slots.others.bytes j (owned_ne j is) is.0

  places : HasPlaces new
  places = places_replaced old new page fit.places (record {
    others = homes.others;
    at = homes.at;
    files = homes.files;
    cached = λ n is. absurd ((let bad : Home ≡ Frame (record { 0 = n }) = sym homes.placed ∙ is in (cc)));
    cached_else = λ p n ne is. role n ∙ fit.places.cached p n is;
    held = λ n is. inr ((λ e. (let bad : Slot (record { 0 = k }) ≡ Frame (record { 0 = n }) = sym homes.was ∙ e in (cc))), sym (role n) ∙ is);
    slotted = λ j is. absurd ((let bad : Home ≡ Slot (record { 0 = j }) = sym homes.placed ∙ is in (cc)));
    slotted_else = λ p j ne is. homes.slots.others.counts j (slot_ne p j ne is);
    used = λ j some. (
        let ne = not_k j some in
        elim (fit.places.used j (omega (arith, homes.slots.others.counts j ne, some))) [
          | inl own ↦ inl (forth (InSlot j) own)
          | inr file ↦ inr (inr ((λ e. ne (one_slot j k (sym e ∙ homes.was))), file.0, file.1))
        ]);
    apart = λ q ne e. sym e ∙ homes.placed;
    inside = λ away. absurd (away homes.placed);
  })

  dirty : IsDirtySound new
  dirty = dirty_replaced old new page fit.dirty homes.others homes.rest (λ pid q h. same pid q) (λ pid q h valid common bit there. absurd ((let bad : Home ≡ Frame (record { 0 = (frame_of (entry old pid q)) }) = sym homes.placed ∙ there in (cc))))
      (λ touched home. false≢true (sym homes.now ∙ touched)) (λ j is. absurd ((let bad : Home ≡ Slot (record { 0 = j }) = sym homes.placed ∙ is in (cc))))

  pub fit_homed : IsFit new
  fit_homed = record {
    counted = counted_on old new nowhere 0 fit.counted (λ q p h. ap seat (same q p)) forth back counts pages;
    rooted = rooted_frames old new 0 fit.rooted homes.frames homes.root homes.at;
    granting = granting_same old new fit.granting
        (record {
          place = λ p m at. homes.others p (λ e. (let bad : Slot (record { 0 = k }) ≡ Frame (record { 0 = m }) = sym homes.was ∙ ap old.place (sym e) ∙ at in (cc))) ∙ at;
          files = homes.files;
        })
        (λ pid q h own sole. ap (λ t. count_of t (frame_of (entry old pid q))) homes.frames ∙ sole) homes.at (λ pid q h. same pid q);
    places = places;
    dirty = dirty;
  }

  pub views : (q p : ℕ) → view new q p ≡ view old q p
  views q p = each_view old new fit.granting homes.at q p (λ h. view_seated old new q p (homes.at q p) (ap seat (same q p)) (λ z is. seat_bytes z (fit.counted.1.named q p z h is)))

  pub held_else : (p : PageKey) → p ≢ page → held new p ≡ held old p
  held_else p ne = held_by old new p (homes.others p ne) (λ m at. ap (λ t. bytes_of t m) homes.frames)
      (λ k' at. homes.slots.others.bytes k' (slot_ne p k' ne at) (let c = fit.places.slotted p k' at in omega (arith, c)))

  pub held_none : held new page ≡ None
  unfolding held
  held_none = ap (λ x. bytes_at new.frames new.slots x) homes.placed
