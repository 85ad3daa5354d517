-- A file page comes into a free frame, and is touched there.
use Rattle.residency.proofs.{Bits.{valid_zero}, Entries.{entries_kept}, Granting.{behind_page, granting_same}, Moves.{shares_same, fit_kept, counted_on}, Names.{top_level, PageKey, Attr, Backing, ◌≡◌, ◌≢◌, ℕ, inl, inr, ◌<◌, List, true}}
use Rattle.residency.proofs.Names.{false, Option, Some, refl, sym, ap, ◌∙◌, arith, cases_eq, false≢true, Free, Table, Private, Cache, FrameTable, bytes_of, role_of, SameButFor, Takes, with_bytes, with_bytes-others, is_valid, frame_of}
use Rattle.residency.proofs.{Names.{IsPage, KeepsTrees, data_changed, Home, Frame, Slot}, Placed.{places_replaced, dirty_replaced}, Places.{cases_page, one_frame}, Rooted.{rooted_same, rooted_frames}, Setting.{view_seated, each_view}}
use Rattle.residency.{proofs.Setting.{held_by}, specs.{Parts.{IsFit, IsEntryFor, Nothing, Resident, Away, IsBehind, HasPlaces, IsDirtySound, nowhere}, Picture.{Picture, entry, view, held, bytes_at, bytes_in, IsOwned, count_in, page_in}}}
use Rattle.residency.specs.{Seats.{Seat, InFrame, InSlot, seat, is_private, is_swapped}, Steps.{BringsIn}}

pub others_then : (n : ℕ) (a b c : FrameTable) → SameButFor n a b → SameButFor n b c → SameButFor n a c
others_then n a b c f g = record {
  frames = g.frames ∙ f.frames;
  bytes = λ m ne. g.bytes m ne ∙ f.bytes m ne;
  roles = λ m ne. g.roles m ne ∙ f.roles m ne;
  counts = λ m ne. g.counts m ne ∙ f.counts m ne;
}

-- a frame that was taken and written, as the other frames see it
pub frames_written : (old mid : FrameTable) (n : ℕ) (w : List ℕ) → Takes old mid Cache n → SameButFor n old (with_bytes mid n w)
frames_written old mid n w takes = others_then n old mid (with_bytes mid n w) takes.others (with_bytes-others mid n w)

module _ {mode : ℕ} (old new : Picture mode) (page : PageKey) (n : ℕ) (fit : IsFit old) (brings : BringsIn old new page n) where
  not_there : (m : ℕ) → role_of old.frames m ≢ Free → m ≢ n
  not_there m used e = used (ap (role_of old.frames) e ∙ brings.was_free)

  private_ne : (m : ℕ) → role_of old.frames m ≡ Private → m ≢ n
  private_ne m own = not_there m (λ free. (let bad : Private ≡ Free = sym own ∙ free in (cc)))

  cache_ne : (m : ℕ) → role_of old.frames m ≡ Cache → m ≢ n
  cache_ne m cache = not_there m (λ free. (let bad : Cache ≡ Free = sym cache ∙ free in (cc)))

  pub trees_brought : KeepsTrees old.frames new.frames (top_level mode)
  trees_brought = data_changed old.frames new.frames (top_level mode) n fit.rooted.forest brings.frames (λ t. (let bad : Free ≡ Table = sym brings.was_free ∙ t in (cc))) (λ t. (let bad : Cache ≡ Table = sym brings.kind ∙ t in (cc)))

  pub entries_brought : (pid k : ℕ) → entry new pid k ≡ entry old pid k
  entries_brought = entries_kept old new 0 fit.rooted trees_brought.entries brings.root

  -- another file page is where it was
  framed : (p : PageKey) (m : ℕ) → old.place p ≡ Frame (record { 0 = m }) → p ≢ page
  framed p m at is = brings.was_away m (ap old.place (sym is) ∙ at)

  no_slot : (p : PageKey) (k : ℕ) → p ≡ page → new.place p ≢ Slot (record { 0 = k })
  no_slot p k is at = let bad : Slot (record { 0 = k }) ≡ Frame (record { 0 = n }) = sym at ∙ ap new.place is ∙ brings.placed in (cc)

  -- the slot of another file page, or of own copies, isn't that of this one
  slot_ne : (p : PageKey) (k : ℕ) → p ≢ page → old.place p ≡ Slot (record { 0 = k }) → old.place page ≢ Slot (record { 0 = k })
  slot_ne p k ne at here = ne (fit.places.apart p page (at ∙ sym here) (λ home. (let bad : Home ≡ Slot (record { 0 = k }) = sym home ∙ at in (cc))))

  in_use : (k : ℕ) → old.place page ≢ Slot (record { 0 = k }) → 0 < old.slots.count k → 0 < new.slots.count k
  in_use k ne some = let c = brings.slots.counts k ne in omega (arith, c, some)

  was_used : (k : ℕ) → 0 < new.slots.count k → (old.place page ≢ Slot (record { 0 = k })) × (0 < old.slots.count k)
  was_used k some =
      let ne : old.place page ≢ Slot (record { 0 = k }) = λ here. (let none = brings.slots.left k here in omega (arith, none, some)) in
      (ne, (let c = brings.slots.counts k ne in omega (arith, c, some)))

  forth : (z : Seat) → IsOwned old z → IsOwned new z
  forth (InFrame m) is = brings.frames.roles m (private_ne m is) ∙ is
  forth (InSlot k) is = (
    in_use k (is.1 page) is.0,
    λ p at. elim (cases_page p page) [ inl e ↦ no_slot p k e at | inr ne ↦ is.1 p (sym (brings.others p ne) ∙ at) ],
  )

  back : (z : Seat) → IsOwned new z → IsOwned old z
  back (InFrame m) is = elim (cases_eq m n) [
    | inl e ↦ (let bad : Private ≡ Cache = sym is ∙ ap (role_of new.frames) e ∙ brings.kind in (cc))
    | inr ne ↦ sym (brings.frames.roles m ne) ∙ is
  ]
  back (InSlot k) is = (
    (was_used k is.0).1,
    λ p at. elim (cases_page p page) [ inl e ↦ (was_used k is.0).0 (ap old.place (sym e) ∙ at) | inr ne ↦ is.1 p (brings.others p ne ∙ at) ],
  )

  counts : (z : Seat) → IsOwned old z → count_in new z ≡ count_in old z
  counts (InFrame m) is = brings.frames.counts m (private_ne m is)
  counts (InSlot k) is = brings.slots.counts k (is.1 page)

  pages : (z : Seat) → IsOwned old z → page_in new fit.counted.0 z ≡ page_in old fit.counted.0 z
  pages (InFrame m) is = brings.page_of m
  pages (InSlot k) is = refl

  own_ne : (pid k : ℕ) → IsPage (top_level mode) k → is_private (entry old pid k) ≡ true → frame_of (entry old pid k) ≢ n
  own_ne pid k h own = private_ne (frame_of (entry old pid k)) (fit.counted.1.named pid k (InFrame (frame_of (entry old pid k))) h (rw own refl))

  placed : HasPlaces new
  placed = places_replaced old new page fit.places (record {
    others = brings.others;
    at = brings.at;
    files = brings.files;
    cached = λ m is. ap (role_of new.frames) (one_frame n m (sym brings.placed ∙ is)) ∙ brings.kind;
    cached_else = λ p m ne is. (let cache = fit.places.cached p m is in brings.frames.roles m (cache_ne m cache) ∙ cache);
    held = λ m cache. elim (cases_eq m n) [
      | inl e ↦ inl (brings.placed ∙ ap (λ i. Frame (record { 0 = i })) (sym e))
      | inr ne ↦ inr (brings.was_away m, sym (brings.frames.roles m ne) ∙ cache)
    ];
    slotted = λ k is. absurd (no_slot page k refl is);
    slotted_else = λ p k ne is. brings.slots.counts k (slot_ne p k ne is);
    used = λ k some. elim (fit.places.used k (was_used k some).1) [
      | inl own ↦ inl (forth (InSlot k) own)
      | inr file ↦ inr (inr ((was_used k some).0, file.0, file.1))
    ];
    apart = λ q ne e. absurd (cache_ne n (fit.places.cached q n (sym e ∙ brings.placed)) refl);
    inside = λ away. brings.inside;
  })

  behind_ne : (b : Backing) (m : ℕ) → IsBehind old b m → m ≢ n
  behind_ne b m is e = let there = behind_page old b m (let a = brings.above in omega (arith, e, a)) is in cache_ne m (fit.places.cached there.0 m there.2) e

  resident_ne : (pid k : ℕ) (a : Option Attr) → IsEntryFor old a (entry old pid k) → is_valid (entry old pid k) ≡ true → is_private (entry old pid k) ≡ false → frame_of (entry old pid k) ≢ n
  resident_ne pid k a (Nothing none) valid common = absurd (false≢true (sym (ap is_valid none ∙ valid_zero) ∙ valid))
  resident_ne pid k a (Resident b at res) valid common = behind_ne b.backing (frame_of (entry old pid k)) (res.behind common)
  resident_ne pid k a (Away b at away) valid common = absurd (false≢true (sym (let here : is_swapped (entry old pid k) ≡ false = rw valid refl in here) ∙ away.swapped))

  dirtied : IsDirtySound new
  dirtied = dirty_replaced old new page fit.dirty brings.others (λ p ne. brings.touched p) (λ pid k h. entries_brought pid k)
      (λ pid k h valid common dirty there. (
      let number = one_frame n (frame_of (entry old pid k)) (sym brings.placed ∙ there) in
      absurd (resident_ne pid k (old.at pid k) (fit.granting.entries pid k h) valid common number)))
      (λ touched home. (let bad : Frame (record { 0 = n }) ≡ Home = sym brings.placed ∙ home in (cc))) (λ k is. absurd (no_slot page k refl is))

  pub fit_brought : IsFit new
  fit_brought = record {
    counted = counted_on old new nowhere 0 fit.counted (λ q p h. ap seat (entries_brought q p)) forth back counts pages;
    rooted = rooted_same old new 0 fit.rooted trees_brought brings.root brings.at;
    granting = granting_same old new fit.granting (record { place = λ p m at. brings.others p (framed p m at) ∙ at; files = brings.files })
        (λ pid k h own one. brings.frames.counts (frame_of (entry old pid k)) (own_ne pid k h own) ∙ one) brings.at (λ pid k h. entries_brought pid k);
    places = placed;
    dirty = dirtied;
  }

  seat_bytes : (z : Seat) → IsOwned old z → bytes_in new.frames new.slots z ≡ bytes_in old.frames old.slots z
  seat_bytes (InFrame m) is = brings.frames.bytes m (private_ne m is)
  seat_bytes (InSlot k) is = brings.slots.bytes k (is.1 page) is.0

  pub views_brought : (q p : ℕ) → view new q p ≡ view old q p
  views_brought q p = each_view old new fit.granting brings.at q p (λ h. view_seated old new q p (brings.at q p) (ap seat (entries_brought q p))
      (λ z is. seat_bytes z (fit.counted.1.named q p z h is)))

  -- another file page has the bytes that it had, and this one those of the frame
  pub held_else : (p : PageKey) → p ≢ page → held new p ≡ held old p
  held_else p ne = held_by old new p (brings.others p ne) (λ m at. brings.frames.bytes m (cache_ne m (fit.places.cached p m at)))
      (λ k at. brings.slots.bytes k (slot_ne p k ne at) (let one = fit.places.slotted p k at in omega (arith, one)))

  pub held_here : held new page ≡ Some (bytes_of new.frames n)
  unfolding held
  held_here = ap (λ x. bytes_at new.frames new.slots x) brings.placed

-- a file page that isn't at home was touched
module _ {mode : ℕ} (old new : Picture mode) (page : PageKey) (fit : IsFit old) (frames : new.frames ≡ old.frames) (slots : new.slots ≡ old.slots) (away : old.place page ≢ Home) (now : new.touched page ≡ true)
    (others : (p : PageKey) → p ≢ page → new.touched p ≡ old.touched p) (place : (p : PageKey) → new.place p ≡ old.place p) (root : (pid : ℕ) → new.root pid ≡ old.root pid)
    (at : (pid k : ℕ) → new.at pid k ≡ old.at pid k) (page_of : (m : ℕ) → new.page_of m ≡ old.page_of m) (files : (f : ℕ) → new.files f ≡ old.files f)
    (same : (pid k : ℕ) → entry new pid k ≡ entry old pid k) where
  pub fit_touched : IsFit new
  fit_touched = fit_kept old new (shares_same old.frames new.frames frames) slots page_of place nowhere 0 0 0 fit at files (λ pid k h. same pid k)
      (rooted_frames old new 0 fit.rooted frames root at)
      (dirty_replaced old new page fit.dirty (λ p ne. place p) others (λ pid k h. same pid k) (λ pid k h valid common bit there. now) (λ touched home. away (sym (place page) ∙ home)) (λ k is. now))
