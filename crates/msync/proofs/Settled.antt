-- A file page in a frame is settled: its tail is cut, no leaf over it has D, and it is touched no more.
use Rattle.msync.proofs.Names.{◌≡◌, ◌≢◌, ℕ, inl, inr, ◌&&◌, true, List, Some, sym, ap, ◌∙◌, subst, FilePage, PageKey, File, trimmed, Role, Table, Private, Cache, frame_count, role_of, bytes_of, IsFrame, with_bytes, with_bytes-others}
use Rattle.msync.proofs.Names.{with_bytes-same, is_valid, is_dirty, frame_of, Home, Frame, ClearDirty, Seat, InFrame, InSlot, seat, Picture, entry, view, held, bytes_at, bytes_in, IsOwned, IsFit, nowhere, IsChanged, ChangesLeaves}
use Rattle.msync.proofs.Names.{SameBeside, leaf_dirty, fit_written, entries_written, bytes_else, view_seated, each_view, held_same, Untouches, entries_untouched, views_untouched, held_untouched}
use Rattle.msync.specs.{Spots.{framed_at}, Settling.{ClearsLeaf, SettlesOne}}

pub held_framed : {mode : ℕ} (c : Picture mode) (p : PageKey) (n : ℕ) → c.place p ≡ Frame (record { 0 = n }) → held c p ≡ Some (bytes_of c.frames n)
unfolding held
held_framed c p n at = ap (λ x. bytes_at c.frames c.slots x) at

cache_datum : (r : Role) → r ≡ Cache → r ≢ Table
cache_datum r c t = let bad : Cache ≡ Table = sym c ∙ t in (cc)

private_datum : (r : Role) → r ≡ Private → r ≢ Cache
private_datum r p c = let bad : Private ≡ Cache = sym p ∙ c in (cc)

-- bytes of the page's frame were written
module _ {mode : ℕ} (a b : Picture mode) (page : FilePage) (n : ℕ) (w : List ℕ) (fit : IsFit a) (placed : a.place (File page) ≡ Frame (record { 0 = n }))
    (is : b.frames ≡ with_bytes a.frames n w) (beside : SameBeside a b) where
  cache : role_of a.frames n ≡ Cache
  cache = fit.places.cached (File page) n placed

  datum : role_of a.frames n ≢ Table
  datum = cache_datum (role_of a.frames n) cache

  pub fit_cut : IsFit b
  fit_cut = fit_written a b nowhere 0 0 n w fit is beside datum

  pub entries_cut : (q p : ℕ) → entry b q p ≡ entry a q p
  entries_cut = entries_written a b nowhere 0 0 n w fit is beside datum

  else_same : (m : ℕ) → m ≢ n → bytes_of b.frames m ≡ bytes_of a.frames m
  else_same m ne = bytes_else a b nowhere 0 0 n w fit is beside datum m ne

  seat_bytes : (z : Seat) → IsOwned a z → bytes_in b.frames b.slots z ≡ bytes_in a.frames a.slots z
  seat_bytes (InFrame m) own = else_same m (λ e. private_datum (role_of a.frames m) own (ap (role_of a.frames) e ∙ cache))
  seat_bytes (InSlot k) own = ap (λ t. t.bytes k) beside.slots

  pub views_cut : (q p : ℕ) → view b q p ≡ view a q p
  views_cut q p = each_view a b fit.granting beside.at q p (λ h. view_seated a b q p (beside.at q p) (ap seat (entries_cut q p))
      (λ z own. seat_bytes z (fit.counted.1.named q p z h own)))

  pub frames_cut : frame_count b.frames ≡ frame_count a.frames
  frames_cut = ap frame_count is ∙ (with_bytes-others a.frames n w).frames

  pub bytes_cut : IsFrame a.frames n → bytes_of b.frames n ≡ w
  bytes_cut inside = ap (λ t. bytes_of t n) is ∙ with_bytes-same a.frames n w inside

  -- no other page of a file or an object lies there
  pub kept_cut : (p : PageKey) → p ≢ File page → held b p ≡ held a p
  kept_cut p ne = held_same a b p (beside.place p) beside.slots
      (λ m at. else_same m (λ e. ne (fit.places.apart p (File page) (at ∙ ap (λ i. Frame (record { 0 = i })) e ∙ sym placed) (λ home. (let bad : Home ≡ Frame (record { 0 = m }) = sym home ∙ at in (cc))))))

-- D was cleared over the frame
leaf_cleared : (n e e' : ℕ) (page : FilePage) → (is_valid e && is_dirty e) ≡ true → frame_of e ≡ n → IsChanged ClearDirty e e'
    → ClearsLeaf (λ m. (framed_at page (record { 0 = n })).at ≡ (framed_at page (record { 0 = m })).at) e e'
leaf_cleared n e e' page concerned frame changed =
    let bits = leaf_dirty e concerned in
    record { leaf = bits.0; frame = ap (λ m. (framed_at page (record { 0 = m })).at) (sym frame); loses = record { had = bits.1; number = changed.3 } }

module _ {mode : ℕ} (a b x y : Picture mode) (page : FilePage) (n : ℕ) (w : List ℕ) (fit_a : IsFit a) (fit_b : IsFit b) (fit_x : IsFit x) (placed : a.place (File page) ≡ Frame (record { 0 = n }))
    (inside : IsFrame a.frames n) (is : b.frames ≡ with_bytes a.frames n w) (beside : SameBeside a b) (changes : ChangesLeaves ClearDirty n b x) (u : Untouches x y (File page))
    (bytes : w ≡ trimmed a.files page.file page.page (bytes_of a.frames n)) where
  place : (p : PageKey) → y.place p ≡ a.place p
  place p = u.place p ∙ changes.beside.place p ∙ beside.place p

  held_cleared : (p : PageKey) → held x p ≡ held b p
  held_cleared p = held_same b x p (changes.beside.place p) changes.beside.slots (λ m at. changes.bytes m (cache_datum (role_of b.frames m) (fit_b.places.cached p m at)))

  pub settles_framed : SettlesOne a y (framed_at page (record { 0 = n }))
  settles_framed = record {
    roles = λ m. ap (λ t. role_of t m) u.frames ∙ changes.roles m ∙ ap (λ t. role_of t m) is;
    frames = ap frame_count u.frames ∙ changes.frames ∙ frames_cut a b page n w fit_a placed is beside;
    slots = ap (λ t. t.total) u.slots ∙ ap (λ t. t.total) changes.beside.slots ∙ ap (λ t. t.total) beside.slots;
    root = λ q. u.root q ∙ changes.beside.root q ∙ beside.root q;
    views = λ q p. views_untouched x y (File page) n fit_x u q p ∙ changes.views q p ∙ views_cut a b page n w fit_a placed is beside q p;
    entries = λ q p h. (
        let last = entries_untouched x y (File page) n fit_x u q p in
        let first = entries_cut a b page n w fit_a placed is beside q p in
        elim (changes.entries q p h) [
          | inl same ↦ inl (last ∙ same ∙ first)
          | inr lost ↦ inr (
              let P : ℕ → Type 0 = λ e. ClearsLeaf (λ m. (framed_at page (record { 0 = n })).at ≡ (framed_at page (record { 0 = m })).at) e (entry x q p) in
              let Q : ℕ → Type 0 = λ e. ClearsLeaf (λ m. (framed_at page (record { 0 = n })).at ≡ (framed_at page (record { 0 = m })).at) (entry a q p) e in
              subst Q (sym last) (subst P first (leaf_cleared n (entry b q p) (entry x q p) page lost.0.concerned lost.0.frame lost.1)))
        ]);
    files = λ f. u.files f ∙ changes.beside.files f ∙ beside.files f;
    placed = place (File page) ∙ placed;
    elsewhere = λ p ne. place p;
    cleaned = u.now;
    untouched = λ p ne. u.others p ne ∙ changes.beside.touched p ∙ beside.touched p;
    settled =
        held_framed y (File page) n (place (File page) ∙ placed)
        ∙ ap (λ (v : List ℕ). Some v)
        (ap (λ t. bytes_of t n) u.frames ∙ changes.bytes n (cache_datum (role_of b.frames n) (fit_b.places.cached (File page) n (beside.place (File page) ∙ placed)))
        ∙ bytes_cut a b page n w fit_a placed is beside inside ∙ bytes);
    kept = λ p ne. held_untouched x y (File page) n fit_x u p ∙ held_cleared p ∙ kept_cut a b page n w fit_a placed is beside p ne;
  }
