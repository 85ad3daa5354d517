-- One more shares a frame or a slot, for which no entry names it yet: no process sees that.
use Rattle.lifecycle.proofs.Names.{top_level, File, Object, Attr, Backing, ◌≡◌, ◌≢◌, ℕ, inl, inr, ◌<◌, ◌≤◌, true, [], Option, Some, get_or, refl, sym, ap, ◌∙◌, subst, arith, cases_eq, false≢true, Free, Table, Private, FrameTable}
use Rattle.lifecycle.proofs.Names.{bytes_of, role_of, count_of, Shares, SlotTable, IsInUse, is_valid, can_write, frame_of, KeepsTrees, data_shared, row_same, Slot, Seat, InFrame, InSlot, seat, is_private, Picture, entry}
use Rattle.lifecycle.proofs.Names.{bytes_in, IsOwned, count_in, page_in, IsEntryFor, Nothing, Resident, Away, IsBehind, IsFit, IsFitBut, nowhere, SameBeside, entries_kept, KeepsBehind, past_end-same, entry_for-same}
use Rattle.lifecycle.proofs.Names.{granting_by, bytes_same, held_by, page_kept, fit_slots, slots_forth, slots_back, slots_counts, slots_pages, behind_kept, places_same, dirty_same, SameButSlots, with_slots, rooted_same, counted_shared, each_view, view_seated, held_same, seat_own, same_with}
use Rattle.lifecycle.{proofs.Names.{tables_same}, specs.Shares.{IsUnwritten, RaisesSeat}}
use Rattle.vm_types.specs.declared.region.Backing.TheVariants as Backings
use Rattle.swap.specs.Slots as Slots

behind-same : {mode : ℕ} (old new : Picture mode) (b : Backing) (n : ℕ) → KeepsBehind old new → IsBehind old b n → IsBehind new b n
behind-same old new Backings.Anon n kept behind = behind
behind-same old new (Backings.Private p) n kept behind = kept.place (File p) n behind
behind-same old new (Backings.Shared p) n kept behind = kept.place (File p) n behind
behind-same old new (Backings.Common p) n kept behind = kept.place (Object p) n behind

-- an entry of a page stands for it, where a frame to which it lets stores through is still nobody else's
entry_for-leaf : {mode : ℕ} (old new : Picture mode) (attr : Option Attr) (e : ℕ) → KeepsBehind old new
    → (is_valid e ≡ true → is_private e ≡ true → can_write e ≡ true → count_of old.frames (frame_of e) ≡ 1 → count_of new.frames (frame_of e) ≡ 1)
    → IsEntryFor old attr e → IsEntryFor new attr e
entry_for-leaf old new attr e kept count (Nothing none) = Nothing none
entry_for-leaf old new attr e kept count (Resident a is resident) = Resident a is (record {
  framed = resident.framed;
  inside = past_end-same old new a.backing kept.files ∙ resident.inside;
  private = resident.private;
  behind = λ c. behind-same old new a.backing (frame_of e) kept (resident.behind c);
  leaf = λ valid. (let leaf = resident.leaf valid in record {
    within = leaf.within;
    sole = λ private write. count valid private write (leaf.sole private write);
    common = leaf.common;
  });
})
entry_for-leaf old new attr e kept count (Away a is away) = entry_for-same old new attr e kept (λ private write one. absurd (false≢true (sym away.common ∙ private))) (Away a is away)

-- a frame
module _ {mode : ℕ} (old : Picture mode) (n : ℕ) (fit : IsFit old) (own : role_of old.frames n ≡ Private) (unwritten : IsUnwritten old (InFrame n)) (t : FrameTable) (shares : Shares old.frames t n) where
  abbrev new : Picture mode
  new = record old { frames = t }

  beside : SameBeside old new
  beside = same_with old t

  trees : KeepsTrees old.frames t (top_level mode)
  trees = data_shared old.frames t (top_level mode) n fit.rooted.forest shares (λ table. (let bad : Private ≡ Table = sym own ∙ table in (cc)))

  entries : (q p : ℕ) → entry new q p ≡ entry old q p
  entries q p = entries_kept old new 0 fit.rooted trees.entries beside.root q p

  roles : (m : ℕ) → role_of t m ≡ role_of old.frames m
  roles m = ap (λ r. get_or r m Free) shares.roles_kept

  bytes : (m : ℕ) → bytes_of t m ≡ bytes_of old.frames m
  bytes m = ap (λ b. get_or b m []) shares.bytes_kept

  forth : (z : Seat) → IsOwned old z → IsOwned new z
  forth (InFrame m) is = roles m ∙ is
  forth (InSlot k) is = is

  back : (z : Seat) → IsOwned new z → IsOwned old z
  back (InFrame m) is = sym (roles m) ∙ is
  back (InSlot k) is = is

  counts : (z : Seat) → z ≢ InFrame n → count_in new z ≡ count_in old z
  counts (InFrame m) ne = shares.others.counts m (λ e. ne (ap (λ i. InFrame i) e))
  counts (InSlot k) ne = refl

  pub fit_frame : IsFitBut new (InFrame n) 1 0
  fit_frame = record {
    counted = (
      fit.counted.0,
      counted_shared mode (entry old) (entry new) (IsOwned old) (IsOwned new) (count_in old) (count_in new) (page_in old fit.counted.0) (page_in new fit.counted.0)
          (λ q p h. ap seat (entries q p)) (InFrame n) nowhere fit.counted.1 forth back (λ z ne is. counts z ne) (λ z is. page_kept old new fit.counted.0 beside z) shares.raised,
    );
    rooted = rooted_same old new 0 fit.rooted trees (λ q. refl) (λ q p. refl);
    granting = granting_by old new fit.granting (λ q p. refl) (λ q p h. rw (entries q p) (entry_for-leaf old new (old.at q p) (entry old q p) (behind_kept old new beside)
        (λ valid private write one. elim (cases_eq (frame_of (entry old q p)) n) [
          | inl is ↦ absurd (false≢true (sym (unwritten q p h (seat_own (entry old q p) private ∙ ap (λ i. Some (InFrame i)) is) valid) ∙ write))
          | inr ne ↦ shares.others.counts (frame_of (entry old q p)) ne ∙ one
        ])
        (fit.granting.entries q p h)));
    places = places_same old new fit.places (λ p. refl) (λ q k. refl) (λ f. refl) refl (λ m e. roles m ∙ e) (λ m e. sym (roles m) ∙ e);
    dirty = dirty_same old new fit.dirty (λ p. refl) (λ p. refl) (λ q p h. entries q p);
  }

  pub raises_frame : RaisesSeat old new (InFrame n)
  raises_frame = record {
    beside = record { root = λ q. refl; at = λ q p. refl; page_of = λ m. refl; place = λ p. refl; touched = λ p. refl; files = λ f. refl };
    room = record { frames = shares.others.frames; slots = refl };
    roles = roles;
    entries = entries;
    views = λ q p. each_view old new fit.granting (λ q' p'. refl) q p (λ h. view_seated old new q p refl (ap seat (entries q p))
        (λ z is. bytes_same old new refl (λ m own. bytes m) z (fit.counted.1.named q p z h is)));
    held = λ p. held_same old new p refl refl (λ m at. bytes m);
    tables = tables_same old new (λ q r p e. trees.missing r p (fit.rooted.roots q r e));
    rows = λ q r row m lives here. (
        let table = (fit.rooted.roots q r lives).table in
        row_same old.frames t fit.rooted.forest trees.forest trees.same (top_level mode) r row m table ((trees.tables r).0 table) here);
    raised = shares.raised;
    others = counts;
    pointers = λ m i k. trees.same.forth m i k;
    bytes = λ k used. refl;
  }

-- a slot
module _ {mode : ℕ} (old : Picture mode) (k : ℕ) (fit : IsFit old) (own : IsOwned old (InSlot k)) (t : SlotTable) (shares : Slots.SharesSlot old.slots t k) where
  abbrev now : Picture mode
  now = record old { slots = t }

  same : SameButSlots old now
  same = with_slots old t

  more : (j : ℕ) → old.slots.count j ≤ t.count j
  more j = elim (cases_eq j k) [
    | inl e ↦ subst (λ (i : ℕ). old.slots.count i ≤ t.count i) (sym e) (let r = shares.raised in omega (arith, r))
    | inr ne ↦ (let c = shares.others.counts j ne in omega (arith, c))
  ]

  used_before : (j : ℕ) → 0 < t.count j → 0 < old.slots.count j
  used_before j used = elim (cases_eq j k) [
    | inl e ↦ subst (λ (i : ℕ). 0 < old.slots.count i) (sym e) own.0
    | inr ne ↦ (let c = shares.others.counts j ne in omega (arith, c, used))
  ]

  slot_counts : (z : Seat) → z ≢ InSlot k → count_in now z ≡ count_in old z
  slot_counts z ne = slots_counts old now same z (λ j at. shares.others.counts j (λ e. ne (at ∙ ap (λ i. InSlot i) e)))

  pub fit_slot : IsFitBut now (InSlot k) 1 0
  fit_slot = fit_slots old now nowhere (InSlot k) 0 1 0 fit same (
    fit.counted.0,
    counted_shared mode (entry old) (entry now) (IsOwned old) (IsOwned now) (count_in old) (count_in now) (page_in old fit.counted.0) (page_in now fit.counted.0)
        (λ q p h. ap seat (same.entries q p)) (InSlot k) nowhere fit.counted.1 (λ z. slots_forth old now same z (λ j at some. (let m = more j in omega (arith, m, some))))
        (λ z. slots_back old now same z (λ j at. used_before j)) (λ z ne is. slot_counts z ne) (λ z is. slots_pages old now same fit.counted.0 fit.counted.0 z (λ j at. refl)) shares.raised,
  )
      (λ p j there. shares.others.counts j (λ is. own.1 p (there ∙ ap (λ i. Slot (record { 0 = i })) is))) (λ j some. inl (used_before j some))

  slot_bytes : (j : ℕ) → IsInUse old.slots j → t.bytes j ≡ old.slots.bytes j
  slot_bytes j used = elim (cases_eq j k) [ inl e ↦ ap t.bytes e ∙ shares.bytes_kept ∙ ap old.slots.bytes (sym e) | inr ne ↦ shares.others.bytes j ne used ]

  seen_bytes : (z : Seat) → IsOwned old z → bytes_in now.frames now.slots z ≡ bytes_in old.frames old.slots z
  seen_bytes (InFrame m) is = refl
  seen_bytes (InSlot j) is = slot_bytes j is.0

  pub raises_slot : RaisesSeat old now (InSlot k)
  raises_slot = record {
    beside = record { root = λ q. refl; at = λ q p. refl; page_of = λ m. refl; place = λ p. refl; touched = λ p. refl; files = λ f. refl };
    room = record { frames = refl; slots = shares.others.total };
    roles = λ n. refl;
    entries = same.entries;
    views = λ q p. each_view old now fit.granting (λ q' p'. refl) q p (λ h. view_seated old now q p refl (ap seat (same.entries q p))
        (λ z is. seen_bytes z (fit.counted.1.named q p z h is)));
    held = λ p. held_by old now p refl (λ m at. refl) (λ j at. slot_bytes j (let one = fit.places.slotted p j at in omega (arith, one)));
    tables = tables_same old now (λ q r p e. refl);
    rows = λ q r row m lives here. here;
    raised = shares.raised;
    others = slot_counts;
    pointers = λ n i m p. p;
    bytes = slot_bytes;
  }
