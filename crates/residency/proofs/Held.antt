-- Own copies and touched pages that lie in slots and frames are no more than a state has.
use Rattle.residency.proofs.Names.{◌≡◌, ◌≢◌, ℕ, zero, suc, inl, inr, ◌⊎◌, ◌+◌, ◌^◌, ◌<◌, ◌≤◌, Bool, true, Option, Some, refl, sym, ap, ◌∙◌, arith, cases_lt, cases_Bool, has_own, object_page_limit, count_below, sum_below, View, FilePage}
use Rattle.residency.proofs.{Names.{ObjectPage, PageKey, File, Object, object_limit, top_level, user_end, Private, role_of, count_of, IsPage, IsSwapFull, Place, Home, Frame, Slot, every}, Pigeon.{Code, code, is_inside, passing, pigeons}}
use Rattle.residency.{proofs.{Places.{one_frame, one_slot, record_of, object_of}, Seats.{seated, some_seat, off-none}}, specs.{Calls.{NeedsSlot}, Capacity.{copies_over, touched_file, stored_object}, Parts.{IsFitBut, nowhere}}}
use Rattle.residency.specs.{Picture.{Picture, entry, view, IsOwned, count_in, page_in}, Seats.{Seat, InFrame, InSlot, seat, is_seat, holders_at}}

-- own copies by process and page, and pages of files and of objects
abbrev rows : ℕ → ℕ
rows zero = 65
rows (suc zero) = 4096
rows (suc (suc k)) = object_limit

abbrev places : ℕ → ℕ → ℕ → ℕ
places mode zero p = user_end mode
places mode (suc zero) p = 2 ^ 30
places mode (suc (suc k)) p = object_page_limit

abbrev key_code : PageKey → Code
key_code (File p) = code 1 p.file p.page
key_code (Object p) = code 2 p.object p.page

-- whether a state has it
abbrev claimed_at : (ℕ → ℕ → Option View) → (ℕ → ℕ → Bool) → (ℕ → ℕ → Bool) → ℕ → ℕ → ℕ → Bool
claimed_at views touched stored zero p k = has_own (views p k)
claimed_at views touched stored (suc zero) f k = touched f k
claimed_at views touched stored (suc (suc i)) o k = stored o k

abbrev is_claimed : (ℕ → ℕ → Option View) → (ℕ → ℕ → Bool) → (ℕ → ℕ → Bool) → Code → Bool
is_claimed views touched stored x = claimed_at views touched stored x.group x.row x.place

sum-three : (f : ℕ → ℕ) → sum_below f 3 ≡ f 2 + (f 1 + (f 0 + 0))
unfolding sum_below
sum-three f = refl

claimed_are : (mode : ℕ) (views : ℕ → ℕ → Option View) (touched stored : ℕ → ℕ → Bool) → passing 3 rows (λ a b. places mode a b) (is_claimed views touched stored) ≡ copies_over mode views touched stored
unfolding passing copies_over
claimed_are mode views touched stored =
    let e = sum-three (λ a. sum_below (λ b. count_below (λ i. claimed_at views touched stored a b i) (places mode a b)) (rows a)) in
    omega (arith, e)

count-found : (f : ℕ → Bool) (n : ℕ) → 0 < count_below f n → (k : ℕ) × (k < n) × (f k ≡ true)
unfolding count_below
count-found f zero some = absurd (omega (arith, some))
count-found f (suc n) some = elim (cases_Bool (f n)) [
  | inl t ↦ (n, omega arith, t)
  | inr f' ↦ (let rest : 0 < count_below f n = (let total = rw f' at some in omega (arith, total)) in let found = count-found f n rest in (found.0, (let lt = found.1 in omega (arith, lt)), found.2))
]

-- Where every slot is in use and one frame more needs one, the processes and files have more than there are slots.
module _ {mode : ℕ} (c : Picture mode) (m : ℕ) (fit : IsFitBut c nowhere 0 m) (full : IsSwapFull c.slots) (n : ℕ) (needs : NeedsSlot c n)
    (user : (pid page : ℕ) → has_own (view c pid page) ≡ true → page < user_end mode)
    (files : (p : FilePage) → c.place (File p) ≢ Home → (p.file < 4096) × (p.page < 2 ^ 30))
    (objects : (p : ObjectPage) → c.place (Object p) ≢ Home → (p.object < object_limit) × (p.page < object_page_limit))
    (shared : role_of c.frames n ≡ Private → 0 < count_of c.frames n) (has_seat : (pid page : ℕ) (z : Seat) → IsPage (top_level mode) page → seat (entry c pid page) ≡ Some z → has_own (view c pid page) ≡ true) where
  some_holder : (z : Seat) → IsOwned c z → 0 < count_in c z → (pid : ℕ) × (pid < 65) × (seat (entry c pid (page_in c fit.counted.0 z)) ≡ Some z)
  unfolding holders_at
  some_holder z own some =
      let here = fit.counted.1.counts z own in
      let page = page_in c fit.counted.0 z in
      let found = count-found (λ q. is_seat (seat (entry c q page)) z) 65 (omega (arith, here, off-none nowhere z, some)) in
      (found.0, found.1, seated (seat (entry c found.0 page)) z found.2)

  abbrev place_at : Seat → Place
  place_at (InFrame m) = Frame (record { 0 = m })
  place_at (InSlot k) = Slot (record { 0 = k })

  abbrev claimed : Code → Bool
  claimed = is_claimed (view c) (touched_file c) (stored_object c)

  -- what lies at a seat, by its code
  record Claim (z : Seat) : Type 0 where
    of : Code
    inner : is_inside 3 rows (λ a b. places mode a b) of
    holds : claimed of ≡ true
    own_or_kept : ((of.group ≡ 0) × (seat (entry c of.row of.place) ≡ Some z)) ⊎ ((p : PageKey) × (of ≡ key_code p) × (c.place p ≡ place_at z))

  key_apart : (p q : PageKey) → key_code p ≡ key_code q → p ≡ q
  key_apart (File p) (File q) e = ap (λ (x : Code). File (record_of x.row x.place)) e
  key_apart (File p) (Object q) e = let bad : 1 ≡ 2 = ap (λ (x : Code). x.group) e in absurd (omega (arith, bad))
  key_apart (Object p) (File q) e = let bad : 2 ≡ 1 = ap (λ (x : Code). x.group) e in absurd (omega (arith, bad))
  key_apart (Object p) (Object q) e = ap (λ (x : Code). Object (object_of x.row x.place)) e

  no_own : (p : PageKey) (x : Code) → x ≡ key_code p → x.group ≢ 0
  no_own (File p) x e own = let one : x.group ≡ 1 = ap (λ (y : Code). y.group) e in omega (arith, one, own)
  no_own (Object p) x e own = let two : x.group ≡ 2 = ap (λ (y : Code). y.group) e in omega (arith, two, own)

  one_seat : (z z' : Seat) → place_at z ≡ place_at z' → z ≡ z'
  one_seat (InFrame m) (InFrame j) e = ap (λ i. InFrame i) (sym (one_frame m j e))
  one_seat (InSlot k) (InSlot j) e = ap (λ i. InSlot i) (one_slot k j e)
  one_seat z z' e = absurd ((cc))

  tells : (z z' : Seat) (a : Claim z) (b : Claim z') → a.of ≡ b.of → z ≡ z'
  tells z z' a b e = elim (a.own_or_kept) [
    | inl own ↦ elim (b.own_or_kept) [
      | inl own' ↦ some_seat z z' (sym own.1 ∙ ap (λ (x : Code). seat (entry c x.row x.place)) e ∙ own'.1)
      | inr kept ↦ absurd (no_own kept.0 a.of (e ∙ kept.1) own.0)
    ]
    | inr kept ↦ elim (b.own_or_kept) [
      | inl own ↦ absurd (no_own kept.0 b.of (sym e ∙ kept.1) own.0)
      | inr kept' ↦ one_seat z z' (sym kept.2 ∙ ap c.place (key_apart kept.0 kept'.0 (sym kept.1 ∙ e ∙ kept'.1)) ∙ kept'.2)
    ]
  ]

  own_claim : (z : Seat) → IsOwned c z → 0 < count_in c z → Claim z
  own_claim z own some =
      let who = some_holder z own some in
      let page = page_in c fit.counted.0 z in
      let has = has_seat who.0 page z (fit.counted.1.pages z own) who.2 in
      record { of = code 0 who.0 page; inner = (omega arith, who.1, user who.0 page has); holds = has; own_or_kept = inl (refl, who.2) }

  kept_claim : (z : Seat) (p : PageKey) → place_at z ≢ Home → c.place p ≡ place_at z → c.touched p ≡ true → Claim z
  kept_claim z (File p) away is touched = let low = files p (λ home. away (sym is ∙ home)) in record { of = key_code (File p); inner = (omega arith, low.0, low.1); holds = touched; own_or_kept = inr (File p, refl, is) }
  kept_claim z (Object p) away is touched = let low = objects p (λ home. away (sym is ∙ home)) in record { of = key_code (Object p); inner = (omega arith, low.0, low.1); holds = touched; own_or_kept = inr (Object p, refl, is) }

  -- the slots, and then the frame
  seat_by : (k : ℕ) → (k < c.slots.total) ⊎ (c.slots.total ≤ k) → Seat
  seat_by k (inl lt) = InSlot k
  seat_by k (inr le) = InFrame n

  claim_by : (k : ℕ) (a : (k < c.slots.total) ⊎ (c.slots.total ≤ k)) → Claim (seat_by k a)
  unfolding seat_by
  claim_by k (inl lt) = elim (fit.places.used k (full k lt)) [
    | inl own ↦ own_claim (InSlot k) own (full k lt)
    | inr file ↦ kept_claim (InSlot k) file.0 (λ e. (cc)) file.1 (fit.dirty.slotted file.0 k file.1)
  ]
  claim_by k (inr le) = elim needs [ inl own ↦ own_claim (InFrame n) own (shared own) | inr file ↦ kept_claim (InFrame n) file.0 (λ e. (cc)) file.1 file.2 ]

  apart_by : (j k : ℕ) (a : (j < c.slots.total) ⊎ (c.slots.total ≤ j)) (b : (k < c.slots.total) ⊎ (c.slots.total ≤ k)) → j < c.slots.total + 1 → k < c.slots.total + 1 → seat_by j a ≡ seat_by k b → j ≡ k
  unfolding seat_by
  apart_by j k (inl lt) (inl lt') below below' e = cc
  apart_by j k (inr le) (inr le') below below' e = omega (arith, le, le', below, below')
  apart_by j k a b below below' e = absurd ((cc))

  pub more_held : c.slots.total < copies_over mode (view c) (touched_file c) (stored_object c)
  more_held =
      let by : (k : ℕ) → (k < c.slots.total) ⊎ (c.slots.total ≤ k) = λ k. cases_lt k c.slots.total in
      let most = pigeons 3 rows (λ a b. places mode a b) (λ k. true) (λ k h. (claim_by k (by k)).of) (c.slots.total + 1) claimed (λ k h. (claim_by k (by k)).inner) (λ k h below. (claim_by k (by k)).holds)
      (λ j k h i lt lt' e. apart_by j k (by j) (by k) lt lt' (tells (seat_by j (by j)) (seat_by k (by k)) (claim_by j (by j)) (claim_by k (by k)) e)) in
      omega (arith, most, every (λ k. true) (c.slots.total + 1) (λ k lt. refl), claimed_are mode (view c) (touched_file c) (stored_object c))
