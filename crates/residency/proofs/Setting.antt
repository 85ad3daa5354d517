-- One page's entry set, and what is seen then.
use Rattle.residency.proofs.{Entries.{entries_kept}, Linked.{fit_same}, Moves.{cases_attr, own_kept, owned_forth, owned_back, count_kept, page_kept, view_kept, view-none, counted_kept, bytes_same, set_by}, Names.{user_pages_fit, top_level}}
use Rattle.residency.proofs.Names.{PageKey, ◌≡◌, ◌≢◌, ℕ, inl, inr, ◌⊎◌, ◌<◌, true, false, List, Some, None, refl, sym, ap, ◌∙◌, subst, arith, Role, Table, Private, Cache, FrameTable, bytes_of, role_of, with_bytes, with_bytes-others}
use Rattle.residency.{proofs.{Names.{is_valid, is_dirty, frame_of, IsPage, KeepsTrees, data_written, Place, Home, Frame, Slot}, Rooted.{rooted_same}, Seats.{counted_filled, off-none}, Ways.{each_page}}, specs.Parts.{IsRootedBut}}
use Rattle.residency.specs.{Parts.{IsGranting, IsEntryFor, IsFitBut, nowhere}, Picture.{Picture, entry, view, held, bytes_at, bytes_in, IsOwned, count_in, page_in}, Seats.{Seat, seat, is_private}, Steps.{SameBeside, KeepsShares, SetsPage}}

pub view_seated : {mode : ℕ} (old new : Picture mode) (q p : ℕ) → new.at q p ≡ old.at q p → seat (entry new q p) ≡ seat (entry old q p)
    → ((z : Seat) → seat (entry old q p) ≡ Some z → bytes_in new.frames new.slots z ≡ bytes_in old.frames old.slots z) → view new q p ≡ view old q p
view_seated old new q p at same bytes = view_kept old new q p at (own_kept old new (seat (entry old q p)) (seat (entry new q p)) same bytes)

-- pages that are no user pages show nothing
pub each_view : {mode : ℕ} (old new : Picture mode) → IsGranting old → ((q p : ℕ) → new.at q p ≡ old.at q p) → (q p : ℕ) → (IsPage (top_level mode) p → view new q p ≡ view old q p) → view new q p ≡ view old q p
each_view {mode = mode} old new granting at q p each = elim (cases_attr (old.at q p)) [
  | inl none ↦ view-none new q p (at q p ∙ none) ∙ sym (view-none old q p none)
  | inr some ↦ each (let u = ((granting.user q).user_pages p some).1 in omega (arith, u, user_pages_fit mode))
]

-- a page of a file or an object lies where it lay, and its bytes are the same
bytes_there : {mode : ℕ} (old new : Picture mode) (x : Place) → ((m : ℕ) → x ≡ Frame (record { 0 = m }) → bytes_of new.frames m ≡ bytes_of old.frames m)
    → ((k : ℕ) → x ≡ Slot (record { 0 = k }) → new.slots.bytes k ≡ old.slots.bytes k) → bytes_at new.frames new.slots x ≡ bytes_at old.frames old.slots x
bytes_there old new Home frame slot = refl
bytes_there old new (Frame m) frame slot = ap (λ (w : _). Some w) (frame m.0 refl)
bytes_there old new (Slot k) frame slot = ap (λ (w : _). Some w) (slot k.0 refl)

pub held_by : {mode : ℕ} (old new : Picture mode) (p : PageKey) → new.place p ≡ old.place p → ((m : ℕ) → old.place p ≡ Frame (record { 0 = m }) → bytes_of new.frames m ≡ bytes_of old.frames m)
    → ((k : ℕ) → old.place p ≡ Slot (record { 0 = k }) → new.slots.bytes k ≡ old.slots.bytes k) → held new p ≡ held old p
unfolding held
held_by old new p place frame slot = ap (λ x. bytes_at new.frames new.slots x) place ∙ bytes_there old new (old.place p) frame slot

pub held_same : {mode : ℕ} (old new : Picture mode) (p : PageKey) → new.place p ≡ old.place p → new.slots ≡ old.slots
    → ((m : ℕ) → old.place p ≡ Frame (record { 0 = m }) → bytes_of new.frames m ≡ bytes_of old.frames m) → held new p ≡ held old p
held_same old new p place slots frame = held_by old new p place frame (λ k there. ap (λ t. t.bytes k) slots)

no_table : (r s : Role) → r ≡ s → s ≢ Table → r ≢ Table
no_table r s e ne f = ne (sym e ∙ f)

-- The entry of a page was set.
module _ {mode : ℕ} (old new : Picture mode) (pid page number m : ℕ) (sets : SetsPage old new pid page number) (h : IsPage (top_level mode) page)
    (for : IsEntryFor new (old.at pid page) number) (rooted : IsRootedBut new m)
    (dirty : (p : PageKey) → is_valid number ≡ true → is_private number ≡ false → is_dirty number ≡ true → old.place p ≡ Frame (record { 0 = frame_of number }) → old.touched p ≡ true) where
  -- it names the seat that it named, or none as before
  module _ (same : seat number ≡ seat (entry old pid page)) where
    pub seats_set : (q p : ℕ) → IsPage (top_level mode) p → seat (entry new q p) ≡ seat (entry old q p)
    seats_set q p h' = each_page (λ x y. seat (entry new x y) ≡ seat (entry old x y)) q p pid page (ap seat sets.changed ∙ same) (λ other. ap seat (sets.others q p h' other))

    pub fit_set : (x : Seat) (d : ℕ) → IsFitBut old x d m → IsFitBut new x d m
    fit_set x d fit = set_by old new pid page number m sets for rooted dirty x x d d fit
        (counted_kept old new sets.shares sets.beside.slots sets.beside.page_of sets.beside.place x d seats_set fit.counted)

  -- it names seat y, whose count was off, and named none before
  pub fit_filled : (y : Seat) → IsFitBut old y 1 m → IsOwned old y → (noted : (sp : ℕ → ℕ) → page_in old sp y ≡ page) → pid < 65 → seat (entry old pid page) ≡ None → seat number ≡ Some y
      → IsFitBut new nowhere 0 m
  fit_filled y fit has noted below from to = set_by old new pid page number m sets for rooted dirty y nowhere 1 0 fit (
    fit.counted.0,
    counted_filled mode (entry old) (entry new) (IsOwned old) (IsOwned new) (count_in old) (count_in new) (page_in old fit.counted.0) (page_in new fit.counted.0)
        y pid page fit.counted.1 (owned_forth old new sets.beside sets.shares) (owned_back old new sets.beside sets.shares) (count_kept old new sets.beside sets.shares)
        (λ z is. page_kept old new fit.counted.0 sets.beside z) has (noted fit.counted.0) h below from (ap seat sets.changed ∙ to) sets.others nowhere (off-none nowhere),
  )

-- what is seen where an entry was set
module _ {mode : ℕ} (old new : Picture mode) (pid page number m : ℕ) (x : Seat) (d : ℕ) (fit : IsFitBut old x d m) (sets : SetsPage old new pid page number) where
  seat_bytes : (z : Seat) → IsOwned old z → bytes_in new.frames new.slots z ≡ bytes_in old.frames old.slots z
  seat_bytes = bytes_same old new sets.beside.slots (λ n is. sets.bytes n (no_table (role_of old.frames n) Private is (λ e. (cc))))

  pub other_views : (q p : ℕ) → (q ≢ pid) ⊎ (p ≢ page) → view new q p ≡ view old q p
  other_views q p other = each_view old new fit.granting sets.beside.at q p (λ h. view_seated old new q p (sets.beside.at q p) (ap seat (sets.others q p h other))
      (λ z is. seat_bytes z (fit.counted.1.named q p z h is)))

  pub set_views : IsPage (top_level mode) page → seat number ≡ seat (entry old pid page) → (q p : ℕ) → view new q p ≡ view old q p
  set_views h same q p = each_page (λ a b. view new a b ≡ view old a b) q p pid page
      (view_seated old new pid page (sets.beside.at pid page) (ap seat sets.changed ∙ same) (λ z is. seat_bytes z (fit.counted.1.named pid page z h is))) (other_views q p)

  pub set_held : (p : PageKey) → held new p ≡ held old p
  set_held p = held_same old new p (sets.beside.place p) sets.beside.slots (λ n at. sets.bytes n (no_table (role_of old.frames n) Cache (fit.places.cached p n at) (λ e. (cc))))

-- The bytes of a frame that is no table were written, where no entry names it yet.
pub shares_written : (old new : FrameTable) (n : ℕ) (w : List ℕ) → new ≡ with_bytes old n w → KeepsShares old new
shares_written old new n w is =
    let P : FrameTable → Type 0 = λ t. KeepsShares old t in
    subst P (sym is) (record { private = λ m e. e; was_private = λ m e. e; cache = λ m e. e; was_cache = λ m e. e; counts = λ m e. refl })

module _ {mode : ℕ} (old new : Picture mode) (x : Seat) (d m n : ℕ) (w : List ℕ) (fit : IsFitBut old x d m) (frames : new.frames ≡ with_bytes old.frames n w) (beside : SameBeside old new)
    (datum : role_of old.frames n ≢ Table) where
  pub trees_written : KeepsTrees old.frames new.frames (top_level mode)
  trees_written = let P : FrameTable → Type 0 = λ t. KeepsTrees old.frames t (top_level mode) in subst P (sym frames) (data_written old.frames (top_level mode) n w fit.rooted.forest datum)

  pub entries_written : (q p : ℕ) → entry new q p ≡ entry old q p
  entries_written = entries_kept old new m fit.rooted trees_written.entries beside.root

  pub fit_written : IsFitBut new x d m
  fit_written = fit_same old new x d m m fit beside (shares_written old.frames new.frames n w frames) (λ q p h. entries_written q p)
      (rooted_same old new m fit.rooted trees_written beside.root beside.at)

  pub bytes_else : (k : ℕ) → k ≢ n → bytes_of new.frames k ≡ bytes_of old.frames k
  bytes_else k ne = ap (λ t. bytes_of t k) frames ∙ (with_bytes-others old.frames n w).bytes k ne
