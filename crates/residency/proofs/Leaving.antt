-- A page of a file leaves its frame, for home or for a slot.
use Rattle.residency.proofs.{Bits.{not_swapped}, Cleaning.{all_touched}, Entries.{entries_kept}, Evicted.{seat_number as seat_below}, Granting.{behind-same, entry_for-by, granting_by}, Moves.{counted_on, bytes_same}, Names.{top_level, PageKey, File}}
use Rattle.residency.proofs.Names.{Attr, Some, ◌≡◌, ◌≢◌, ℕ, inl, inr, ◌⊎◌, ◌<◌, true, false, Option, None, refl, sym, ap, ◌∙◌, subst, rules, ne_eqb, cases_eq, false≢true, Free, Table, Private, Cache, FrameTable, role_of, SameButFor}
use Rattle.residency.proofs.{Names.{CacheTable, SameButForPage, place_of, is_touched, Place, Home, Frame, Slot, SlotTable, frame_of, IsPage, KeepsTrees, data_changed, same_last}, Placed.{places_replaced, dirty_replaced}}
use Rattle.residency.{proofs.{Places.{cases_page, one_frame, one_slot}, Rooted.{rooted_same}, Seats.{counted_left}, Setting.{view_seated, each_view, held_by}}, specs.{Ages.{Same}, Evictions.{Spares}, Leaves.{IsClear}, Parts.{IsCountedBut}}}
use Rattle.residency.specs.{Parts.{IsEntryFor, IsResident, IsFitBut, IsFit, nowhere, HasPlaces, IsDirtySound}, Picture.{Picture, entry, held, is_data, IsOwned, count_in, page_in, bytes_at}, Seats.{Seat}}
use Rattle.residency.specs.{Seats.{InFrame, InSlot, seat, is_private, is_swapped}, declared.leaves.Change.TheVariants.{Forget}}

-- the file page left frame v, which is free now; every other file page is where it was
pub record Leaves {mode : ℕ} (old new : Picture mode) (page : PageKey) (v : ℕ) (at : Place) : Type 0 where
  pub was : old.place page ≡ Frame (record { 0 = v })
  pub above : v ≢ 0
  pub placed : new.place page ≡ at
  pub others : (p : PageKey) → p ≢ page → new.place p ≡ old.place p
  pub frames : SameButFor v old.frames new.frames
  pub free : role_of new.frames v ≡ Free
  pub slots : new.slots ≡ old.slots
  pub root : (pid : ℕ) → new.root pid ≡ old.root pid
  pub at_same : (pid k : ℕ) → new.at pid k ≡ old.at pid k
  pub page_of : (m : ℕ) → new.page_of m ≡ old.page_of m
  pub touched : (p : PageKey) → new.touched p ≡ old.touched p
  pub files : (f : ℕ) → new.files f ≡ old.files f

-- its frame was given back, and its place set
pub leaves_frame : {mode : ℕ} (c : Picture mode) (t : FrameTable) (a b : CacheTable) (page : PageKey) (v : ℕ) (at : Place) → place_of a page ≡ Frame (record { 0 = v }) → v ≢ 0 → place_of b page ≡ at
    → SameButForPage page a b → is_touched b page ≡ is_touched a page → SameButFor v c.frames t → role_of t v ≡ Free
    → Leaves (record c { place = place_of a; touched = is_touched a }) (record c { frames = t; place = place_of b; touched = is_touched b }) page v at
leaves_frame c t a b page v at was above placed others touched frames free = search (rules, all_touched a b page others touched)

-- a page at home is held nowhere
pub home_held : {mode : ℕ} (c : Picture mode) (p : PageKey) → c.place p ≡ Home → held c p ≡ None
unfolding held
home_held c p home = ap (λ x. bytes_at c.frames c.slots x) home

-- no entry is over a frame that was forgotten
pub unnamed_of : {mode : ℕ} (c : Picture mode) (v : ℕ) → IsClear c Forget v → (pid k : ℕ) → IsPage (top_level mode) k → entry c pid k ≢ 0 → is_private (entry c pid k) ≡ false → is_swapped (entry c pid k) ≡ false → frame_of (entry c pid k) ≢ v
unnamed_of c v clear pid k h some common resident frame = clear pid k h (record { concerned = rw (ne_eqb (entry c pid k) 0 some, resident) refl; frame = frame })

module _ {mode : ℕ} (old new : Picture mode) (page : PageKey) (v : ℕ) (at : Place) (x : Seat) (d : ℕ) (fit : IsFitBut old x d 0) (leaves : Leaves old new page v at)
    (unnamed : (pid k : ℕ) → IsPage (top_level mode) k → entry old pid k ≢ 0 → is_private (entry old pid k) ≡ false → is_swapped (entry old pid k) ≡ false → frame_of (entry old pid k) ≢ v) where
  cache : role_of old.frames v ≡ Cache
  cache = fit.places.cached page v leaves.was

  pub trees : KeepsTrees old.frames new.frames (top_level mode)
  trees =
      let cache_table : Cache ≢ Table = λ e. (cc) in
      let free_table : Free ≢ Table = λ e. (cc) in
      data_changed old.frames new.frames (top_level mode) v fit.rooted.forest leaves.frames (λ e. cache_table (sym cache ∙ e)) (λ e. free_table (sym leaves.free ∙ e))

  pub same : (pid k : ℕ) → IsPage (top_level mode) k → entry new pid k ≡ entry old pid k
  same pid k h = entries_kept old new 0 fit.rooted trees.entries leaves.root pid k

  private_ne : (n : ℕ) → role_of old.frames n ≡ Private → n ≢ v
  private_ne n is e = let bad : Private ≡ Cache = sym is ∙ ap (role_of old.frames) e ∙ cache in (cc)

  other : (pid k : ℕ) {a : Attr} → IsPage (top_level mode) k → IsResident old a (entry old pid k) → is_private (entry old pid k) ≡ false → frame_of (entry old pid k) ≢ v
  unfolding frame_of
  other pid k h res common = elim (cases_eq (entry old pid k) 0) [
    | inl none ↦ λ e. leaves.above (sym e ∙ (let zero_frame : frame_of 0 ≡ 0 = refl in ap frame_of none ∙ zero_frame))
    | inr some ↦ unnamed pid k h some common (not_swapped (entry old pid k) res.framed)
  ]

  entry_left : (pid k : ℕ) (attr : Option Attr) → IsPage (top_level mode) k → IsEntryFor old attr (entry old pid k) → IsEntryFor new attr (entry old pid k)
  entry_left pid k attr h = entry_for-by old new attr (entry old pid k) leaves.files
      (λ a res common. behind-same old new a.backing (frame_of (entry old pid k))
      (λ p at. leaves.others p (λ e. other pid k h res common (one_frame v (frame_of (entry old pid k)) (sym leaves.was ∙ ap old.place (sym e) ∙ at))) ∙ at) (res.behind common))
      (λ own write one. leaves.frames.counts (frame_of (entry old pid k)) (private_ne (frame_of (entry old pid k)) (fit.counted.1.named pid k (InFrame (frame_of (entry old pid k))) h (rw own refl))) ∙ one)

  slot_of-same : (j : ℕ) → new.slots.count j ≡ old.slots.count j
  slot_of-same j = ap (λ t. t.count j) leaves.slots

  frame_other : (p : PageKey) (n : ℕ) → p ≢ page → old.place p ≡ Frame (record { 0 = n }) → n ≢ v
  frame_other p n ne is e = ne (fit.places.apart p page (is ∙ ap (λ i. Frame (record { 0 = i })) e ∙ sym leaves.was) (λ home. (let bad : Home ≡ Frame (record { 0 = n }) = sym home ∙ is in (cc))))

  frame_page : (sp : ℕ → ℕ) (z : Seat) → page_in new sp z ≡ page_in old sp z
  frame_page sp (InFrame n) = leaves.page_of n
  frame_page sp (InSlot j) = refl

  count_left : (z : Seat) → IsOwned old z → count_in new z ≡ count_in old z
  count_left (InFrame n) is = leaves.frames.counts n (private_ne n is)
  count_left (InSlot j) is = slot_of-same j

  some_old : (j : ℕ) → 0 < new.slots.count j → 0 < old.slots.count j
  some_old j some = let P : SlotTable → Type 0 = λ t. 0 < t.count j in subst P leaves.slots some

  some_new : (j : ℕ) → 0 < old.slots.count j → 0 < new.slots.count j
  some_new j some = let P : SlotTable → Type 0 = λ t. 0 < t.count j in subst P (sym leaves.slots) some

  forth : (z : Seat) → ((j : ℕ) → z ≡ InSlot j → at ≢ Slot (record { 0 = j })) → IsOwned old z → IsOwned new z
  forth (InFrame n) other is = leaves.frames.roles n (private_ne n is) ∙ is
  forth (InSlot j) other own = (
    some_new j own.0,
    λ p e. elim (cases_page p page) [ inl ip ↦ other j refl (sym leaves.placed ∙ ap new.place (sym ip) ∙ e) | inr np ↦ own.1 p (sym (leaves.others p np) ∙ e) ],
  )

  back : (z : Seat) → IsOwned new z → IsOwned old z
  back (InFrame n) is = sym (leaves.frames.roles n (λ e. (let bad : Free ≡ Private = sym leaves.free ∙ ap (role_of new.frames) (sym e) ∙ is in (cc)))) ∙ is
  back (InSlot j) is = (
    some_old j is.0,
    λ p e. elim (cases_page p page) [
      | inl ip ↦ (let bad : Frame (record { 0 = v }) ≡ Slot (record { 0 = j }) = sym leaves.was ∙ ap old.place (sym ip) ∙ e in (cc))
      | inr np ↦ is.1 p (leaves.others p np ∙ e)
    ],
  )

  -- places, by what is known of the new one
  places_left : ((j : ℕ) → at ≡ Slot (record { 0 = j }) → old.slots.count j ≡ 1) → ((j : ℕ) → (at ≡ Slot (record { 0 = j })) ⊎ (at ≢ Slot (record { 0 = j })))
      → ((n : ℕ) → at ≢ Frame (record { 0 = n })) → ((q : PageKey) → at ≡ old.place q → old.place q ≡ Home) → HasPlaces new
  places_left slot decide no_frame clash = places_replaced old new page fit.places (record {
    others = leaves.others;
    at = leaves.at_same;
    files = leaves.files;
    cached = λ n is. absurd (no_frame n (sym leaves.placed ∙ is));
    cached_else = λ p n ne is. leaves.frames.roles n (frame_other p n ne is) ∙ fit.places.cached p n is;
    held = λ n is. (
        let ne : n ≢ v = λ e. (let bad : Cache ≡ Free = sym is ∙ ap (role_of new.frames) e ∙ leaves.free in (cc)) in
        inr ((λ e. ne (one_frame v n (sym leaves.was ∙ e))), sym (leaves.frames.roles n ne) ∙ is));
    slotted = λ j is. slot_of-same j ∙ slot j (sym leaves.placed ∙ is);
    slotted_else = λ p j ne is. slot_of-same j;
    used = λ j some. elim (fit.places.used j (some_old j some)) [
      | inl own ↦ elim (decide j) [
        | inl is ↦ inr (inl (leaves.placed ∙ is))
        | inr ne ↦ inl (forth (InSlot j) (λ i e. (let same : j ≡ i = cc in subst (λ k. at ≢ Slot (record { 0 = k })) same ne)) own)
      ]
      | inr file ↦ inr (inr ((λ e. (let bad : Frame (record { 0 = v }) ≡ Slot (record { 0 = j }) = sym leaves.was ∙ e in (cc))), file.0, file.1))
    ];
    apart = λ q ne e. clash q (sym leaves.placed ∙ e);
    inside = λ away. fit.places.inside page (λ home. (let bad : Home ≡ Frame (record { 0 = v }) = sym home ∙ leaves.was in (cc)));
  })

  dirty_left : ((j : ℕ) → at ≡ Slot (record { 0 = j }) → old.touched page ≡ true) → (old.touched page ≡ true → at ≢ Home) → ((n : ℕ) → at ≢ Frame (record { 0 = n })) → IsDirtySound new
  dirty_left slot home no_frame = dirty_replaced old new page fit.dirty leaves.others (λ p ne. leaves.touched p) same
      (λ pid k h valid common dirty here. absurd (no_frame (frame_of (entry old pid k)) (sym leaves.placed ∙ here)))
      (λ now is. home (sym (leaves.touched page) ∙ now) (sym leaves.placed ∙ is)) (λ j is. leaves.touched page ∙ slot j (sym leaves.placed ∙ is))

  fit_by : IsCountedBut new nowhere 0 → ((j : ℕ) → at ≡ Slot (record { 0 = j }) → (old.slots.count j ≡ 1) × (old.touched page ≡ true)) → ((j : ℕ) → (at ≡ Slot (record { 0 = j })) ⊎ (at ≢ Slot (record { 0 = j })))
      → ((n : ℕ) → at ≢ Frame (record { 0 = n })) → ((q : PageKey) → at ≡ old.place q → old.place q ≡ Home) → (old.touched page ≡ true → at ≢ Home) → IsFit new
  fit_by counted slot decide no_frame clash home = record {
    counted = counted;
    rooted = rooted_same old new 0 fit.rooted trees leaves.root leaves.at_same;
    granting = granting_by old new fit.granting leaves.at_same (λ pid k h. (let e = entry_left pid k (old.at pid k) h (fit.granting.entries pid k h) in rw (same pid k h) e));
    places = places_left (λ j e. (slot j e).0) decide no_frame clash;
    dirty = dirty_left (λ j e. (slot j e).1) home no_frame;
  }

  pub held_other : (p : PageKey) → p ≢ page → held new p ≡ held old p
  held_other p ne = held_by old new p (leaves.others p ne) (λ m there. leaves.frames.bytes m (frame_other p m ne there)) (λ k there. ap (λ t. t.bytes k) leaves.slots)

  -- nobody sees it, where its bytes are kept or it was untouched
  pub left_spares : (k : ℕ) → (held new page ≡ held old page) ⊎ ((held new page ≡ None) × (old.touched page ≡ false)) → Spares v k old new
  left_spares k bytes =
      let views = λ (pid p : ℕ). each_view old new fit.granting leaves.at_same pid p (λ h. view_seated old new pid p (leaves.at_same pid p) (ap seat (same pid p h))
      (λ z is. bytes_same old new leaves.slots (λ n own. leaves.frames.bytes n (private_ne n own)) z (fit.counted.1.named pid p z h is))) in
      let each : (p : PageKey) → (held new p ≡ held old p) ⊎ ((held new p ≡ None) × (old.touched p ≡ false)) = λ p. elim (cases_page p page) [
        | inl e ↦ (let P : PageKey → Type 0 = λ q. (held new q ≡ held old q) ⊎ ((held new q ≡ None) × (old.touched q ≡ false)) in subst P (sym e) bytes)
        | inr ne ↦ inl (held_other p ne)
      ] in
      let ends = λ (pid r p : ℕ) (e : old.root pid ≡ Some r). (let table = (fit.rooted.roots pid r e).table in (same_last old.frames new.frames fit.rooted.forest trees.forest trees.same (top_level mode) r p table ((trees.tables r).0 table)).0) in
      let place = λ (p : PageKey) (ne : old.place p ≢ Frame (record { 0 = v })). leaves.others p (λ e. ne (ap old.place e ∙ leaves.was)) in
      let slots = λ (j : ℕ). ap (λ t. t.bytes j) leaves.slots in
      let shares = λ (j : ℕ). ap (λ t. t.count j) leaves.slots in
      search (rules, inr, Same, views, each, ends, place, same, slots, shares, leaves.root, leaves.at_same, leaves.touched, leaves.files, leaves.free, leaves.frames.frames, leaves.frames.roles, leaves.frames.counts, leaves.frames.bytes, ap is_data cache, trees.same.forth, ap (λ t. t.total) leaves.slots)

module _ {mode : ℕ} (old new : Picture mode) (page : PageKey) (v : ℕ) where
  abbrev Unnamed : Type 0
  Unnamed = (pid k : ℕ) → IsPage (top_level mode) k → entry old pid k ≢ 0 → is_private (entry old pid k) ≡ false → is_swapped (entry old pid k) ≡ false → frame_of (entry old pid k) ≢ v

  -- An untouched page went home.
  pub fit_home : IsFit old → Leaves old new page v Home → old.touched page ≡ false → Unnamed → IsFit new
  fit_home fit leaves untouched unnamed = fit_by old new page v Home nowhere 0 fit leaves unnamed
      (counted_on old new nowhere 0 fit.counted (λ q p h. ap seat (same old new page v Home nowhere 0 fit leaves unnamed q p h))
      (λ z. forth old new page v Home nowhere 0 fit leaves unnamed z (λ j e home. (cc))) (back old new page v Home nowhere 0 fit leaves unnamed)
      (count_left old new page v Home nowhere 0 fit leaves unnamed) (λ z is. frame_page old new page v Home nowhere 0 fit leaves unnamed fit.counted.0 z))
      (λ j e. absurd ((cc))) (λ j. inr (λ e. (cc))) (λ n e. (cc)) (λ q e. sym e) (λ t. absurd (false≢true (sym untouched ∙ t)))

  module _ (k : ℕ) where
    abbrev place_k : Place
    place_k = Slot (record { 0 = k })

    -- A touched page went to slot k, which nobody had.
    pub fit_slot : (fit : IsFitBut old (InSlot k) 1 0) → IsOwned old (InSlot k) → old.slots.count k ≡ 1 → Leaves old new page v place_k → old.touched page ≡ true → Unnamed → IsFit new
    fit_slot fit own one leaves touched unnamed = fit_by old new page v place_k (InSlot k) 1 fit leaves unnamed (
      fit.counted.0,
      counted_left mode (entry old) (entry new) (IsOwned old) (IsOwned new) (count_in old) (count_in new) (page_in old fit.counted.0) (page_in new fit.counted.0)
          (λ q p h. ap seat (same old new page v place_k (InSlot k) 1 fit leaves unnamed q p h)) (InSlot k) nowhere fit.counted.1 own one (λ now. now.1 page leaves.placed)
          (λ z ne. forth old new page v place_k (InSlot k) 1 fit leaves unnamed z (λ j e there. ne (e ∙ ap (λ i. InSlot i) (sym (one_slot k j there)))))
          (back old new page v place_k (InSlot k) 1 fit leaves unnamed)
          (λ z ne is. count_left old new page v place_k (InSlot k) 1 fit leaves unnamed z is) (λ z is. frame_page old new page v place_k (InSlot k) 1 fit leaves unnamed fit.counted.0 z)
          (λ q p z h is. seat_below old 0 q p z fit.rooted is),
    )
        (λ j e. ((let P : ℕ → Type 0 = λ i. old.slots.count i ≡ 1 in subst P (one_slot k j e) one), touched))
        (λ j. elim (cases_eq k j) [ inl e ↦ inl (ap (λ i. Slot (record { 0 = i })) e) | inr ne ↦ inr (λ e. ne (one_slot k j e)) ])
        (λ n e. (cc)) (λ q e. absurd (own.1 q (sym e))) (λ t e. (cc))
