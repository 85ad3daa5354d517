-- Bytes written to the frame that the access of a store was given.
use Rattle.fault.proofs.Names.{top_level, PageKey, Attr, View, ◌≡◌, ◌≢◌, ℕ, inl, inr, ◌⊎◌, true, List, Option, Some, None, sym, ap, ◌∙◌, subst, arith, Table, Private, Cache, FrameTable, bytes_of, role_of, IsHeld, with_bytes}
use Rattle.fault.proofs.Names.{with_bytes-same, frame_of, IsPage, Home, Frame, Seat, InFrame, InSlot, seat, is_private, is_seat, holders_at, Picture, entry, own_in, view, view_of, held, bytes_at, bytes_in, IsOwned, IsFit, nowhere}
use Rattle.fault.proofs.Names.{SameBeside, count-sole, seat_number, seat-same, off-none, each_view, view_seated, held_same, entries_written, fit_written, bytes_else, seat_own}
use Rattle.fault.{specs.Shown.{IsSoleOwner}, proofs.{Ready.{view-mapped, own_in-private}, Settled.{one_view}}}
use Rattle.fault.proofs.Forms as Forms

attr_in : (own : Option (List ℕ)) (o : Option Attr) (v : View) → view_of own o ≡ Some v → o ≡ Some v.attr
attr_in own None v is = let bad : None ≡ Some v = is in (cc)
attr_in own (Some a) v is = ap (λ x. Some x.attr) (one_view (record { attr = a; own = own }) v is)

-- what is seen is mapped
pub view-attr : {mode : ℕ} (c : Picture mode) (pid page : ℕ) (v : View) → view c pid page ≡ Some v → c.at pid page ≡ Some v.attr
unfolding view
view-attr c pid page v is = attr_in (own_in c.frames c.slots (entry c pid page)) (c.at pid page) v is

private_is_data : (t : FrameTable) (n : ℕ) → role_of t n ≡ Private → role_of t n ≢ Table
private_is_data t n private table = let bad : Private ≡ Table = sym private ∙ table in (cc)

cache_is_data : (t : FrameTable) (n : ℕ) → role_of t n ≡ Cache → role_of t n ≢ Table
cache_is_data t n cache table = let bad : Cache ≡ Table = sym cache ∙ table in (cc)

sits : (o : Option Seat) (x : Seat) → o ≡ Some x → is_seat o x ≡ true
sits o x is = ap (λ y. is_seat y x) is ∙ seat-same x

-- a frame of one process alone is named at one page by it alone
sole_page : {mode : ℕ} (c : Picture mode) (pid page n q k : ℕ) → IsFit c → IsSoleOwner c pid page n → IsPage (top_level mode) k → seat (entry c q k) ≡ Some (InFrame n) → (q ≡ pid) × (k ≡ page)
unfolding holders_at
sole_page c pid page n q k fit sole h there =
    let counted = fit.counted.1 in
    let y = InFrame n in
    let here : seat (entry c pid page) ≡ Some y = seat_own (entry c pid page) sole.private ∙ ap (λ x. Some (InFrame x)) sole.frame in
    let owned = counted.named pid page y sole.inside here in
    let at = counted.noted pid page y sole.inside here in
    let at' = counted.noted q k y h there in
    let same : k ≡ page = sym at' ∙ at in
    let off = off-none nowhere y in
    let sum = counted.counts y owned in
    let all : holders_at (entry c) page y ≡ 1 = (let total = sum in let one = sole.sole in let moved = ap (λ x. holders_at (entry c) x y) at in omega (arith, total, one, moved, off)) in
    let Q : ℕ → Type 0 = λ x. seat (entry c q x) ≡ Some y in (
      count-sole (λ r. is_seat (seat (entry c r page)) y) q pid 65 (seat_number c 0 q k y fit.rooted there) (seat_number c 0 pid page y fit.rooted here)
          (sits (seat (entry c q page)) y (subst Q same there)) (sits (seat (entry c pid page)) y here) all,
      same,
    )

module _ {mode : ℕ} (old new : Picture mode) (n : ℕ) (w : List ℕ) (fit : IsFit old) (held_there : IsHeld old.frames n) (frames : new.frames ≡ with_bytes old.frames n w)
    (beside : SameBeside old new) where
  pub bytes_there : bytes_of new.frames n ≡ w
  bytes_there = ap (λ t. bytes_of t n) frames ∙ with_bytes-same old.frames n w held_there.inside

  own_role : (pid page : ℕ) → IsSoleOwner old pid page n → role_of old.frames n ≡ Private
  own_role pid page sole = ap (role_of old.frames) (sym sole.frame) ∙ Forms.own_role old pid page fit sole.inside sole.private

  module _ (datum : role_of old.frames n ≢ Table) where
    fit_data : IsFit new
    fit_data = fit_written old new nowhere 0 0 n w fit frames beside datum

    same_entries : (q k : ℕ) → entry new q k ≡ entry old q k
    same_entries = entries_written old new nowhere 0 0 n w fit frames beside datum

    other_bytes : (m : ℕ) → m ≢ n → bytes_of new.frames m ≡ bytes_of old.frames m
    other_bytes = bytes_else old new nowhere 0 0 n w fit frames beside datum

    seat_bytes : (z : Seat) → z ≢ InFrame n → bytes_in new.frames new.slots z ≡ bytes_in old.frames old.slots z
    seat_bytes (InFrame m) ne = other_bytes m (λ e. ne (ap (λ x. InFrame x) e))
    seat_bytes (InSlot k) ne = ap (λ t. t.bytes k) beside.slots

    same_view : (q k : ℕ) → (IsPage (top_level mode) k → (z : Seat) → seat (entry old q k) ≡ Some z → z ≢ InFrame n) → view new q k ≡ view old q k
    same_view q k ne = each_view old new fit.granting beside.at q k (λ h. view_seated old new q k (beside.at q k) (ap seat (same_entries q k)) (λ z is. seat_bytes z (ne h z is)))

    same_held : (p : PageKey) → ((m : ℕ) → old.place p ≡ Frame (record { 0 = m }) → m ≢ n) → held new p ≡ held old p
    same_held p ne = held_same old new p (beside.place p) beside.slots (λ m at. other_bytes m (ne m at))

  -- a frame that one page alone has
  module _ (pid page : ℕ) (sole : IsSoleOwner old pid page n) where
    own_data : role_of old.frames n ≢ Table
    own_data = private_is_data old.frames n (own_role pid page sole)

    pub fit_own : IsFit new
    fit_own = fit_data own_data

    pub entries_own : (q k : ℕ) → entry new q k ≡ entry old q k
    entries_own = same_entries own_data

    pub view_own : (v : View) → view old pid page ≡ Some v → view new pid page ≡ Some (record v { own = Some w })
    view_own v seen =
        let same = same_entries own_data pid page in
        let mapped = beside.at pid page ∙ view-attr old pid page v seen in
        view-mapped new pid page v.attr mapped
        ∙ ap (λ o. Some (record { attr = v.attr; own = o }))
        (own_in-private new.frames new.slots (entry new pid page) (ap is_private same ∙ sole.private)
        ∙ ap (λ b. Some b) (ap (bytes_of new.frames) (ap frame_of same ∙ sole.frame) ∙ bytes_there))

    pub views_others : (q k : ℕ) → (q ≢ pid) ⊎ (k ≢ page) → view new q k ≡ view old q k
    views_others q k other = same_view own_data q k (λ h z is e. (
        let both = sole_page old pid page n q k fit sole h (subst (λ (x : Seat). seat (entry old q k) ≡ Some x) e is) in
        elim other [
          | inl ne ↦ ne both.0
          | inr ne ↦ ne both.1
        ]))

    pub held_own : (p : PageKey) → held new p ≡ held old p
    held_own p = same_held own_data p (λ m at is. (let bad : Private ≡ Cache = sym (own_role pid page sole) ∙ ap (role_of old.frames) (sym is) ∙ fit.places.cached p m at in (cc)))

  -- the frame of a file page
  module _ (p : PageKey) (at : old.place p ≡ Frame (record { 0 = n })) where
    file_data : role_of old.frames n ≢ Table
    file_data = cache_is_data old.frames n (fit.places.cached p n at)

    pub fit_file : IsFit new
    fit_file = fit_data file_data

    pub entries_file : (q k : ℕ) → entry new q k ≡ entry old q k
    entries_file = same_entries file_data

    owned_else : (z : Seat) → IsOwned old z → z ≢ InFrame n
    owned_else z owned e = let bad : Private ≡ Cache = sym (subst (λ (x : Seat). IsOwned old x) e owned) ∙ fit.places.cached p n at in (cc)

    pub views_file : (q k : ℕ) → view new q k ≡ view old q k
    views_file q k = same_view file_data q k (λ h z is. owned_else z (fit.counted.1.named q k z h is))

    -- every other file page keeps its bytes
    pub held_else : (q : PageKey) → q ≢ p → held new q ≡ held old q
    held_else q ne = same_held file_data q (λ m there is. ne (fit.places.apart q p
        (there ∙ ap (λ x. Frame (record { 0 = x })) is ∙ sym at) (λ home. (let bad : Home ≡ Frame (record { 0 = m }) = sym home ∙ there in (cc)))))

    pub held_written : held new p ≡ Some w
    unfolding held
    held_written = ap (bytes_at new.frames new.slots) (beside.place p ∙ at) ∙ ap (λ b. Some b) bytes_there
