-- An own copy goes from one seat to another: the steps for one process.
use Rattle.residency.proofs.{Granting.{KeepsBehind, granting_same, granting_changed}, Names.{top_level, PageKey, Attr, ◌≡◌, ◌≢◌, ℕ, inl, inr, ◌⊎◌, ◌<◌, true, false, Option, Some, None, refl, sym, ap, ◌∙◌, subst, false≢true, option_map}}
use Rattle.residency.proofs.{Names.{IsSome, Table, Private, FrameTable, bytes_of, role_of, SameButFor, SlotTable, is_valid, is_dirty, frame_of, IsPage, Frame}, Places.{places_same, dirty_changed}, Seats.{counted_same, counted_put}}
use Rattle.residency.{proofs.{Seats.{seat-other}, Ways.{each_page}}, specs.{Parts.{IsRootedBut, IsEntryFor, IsCountedBut, IsFitBut, IsDirtySound}, Picture.{Picture, entry, view, view_of, own_in, bytes_in, IsOwned, count_in, page_in}}}
use Rattle.residency.specs.{Picture.{is_data}, Seats.{Seat, InFrame, InSlot, seat, is_private}, Steps.{SameBeside, KeepsShares, SetsPage}}

-- but for frames all is as it was
pub same_beside : {mode : ℕ} (c : Picture mode) (t : FrameTable) → SameBeside c (record c { frames = t })
same_beside c t = record { slots = refl; root = λ pid. refl; at = λ pid page. refl; page_of = λ n. refl; place = λ p. refl; touched = λ p. refl; files = λ f. refl }

pub behind_kept : {mode : ℕ} (old new : Picture mode) → SameBeside old new → KeepsBehind old new
behind_kept old new beside = record { place = λ p n e. beside.place p ∙ e; files = beside.files }

-- the same frames
pub shares_same : (old new : FrameTable) → new ≡ old → KeepsShares old new
shares_same old new e =
    let P : FrameTable → Type 0 = λ t. KeepsShares old t in
    subst P (sym e) (record { private = λ n is. is; was_private = λ n is. is; cache = λ n is. is; was_cache = λ n is. is; counts = λ n is. refl })

data_ne : (t : FrameTable) (n m : ℕ) → is_data (role_of t n) ≡ false → is_data (role_of t m) ≡ true → m ≢ n
data_ne t n m none some e = false≢true (sym none ∙ ap (λ k. is_data (role_of t k)) (sym e) ∙ some)

-- the same but for one that held no page and holds none
pub shares_but : (old new : FrameTable) (n : ℕ) → SameButFor n old new → is_data (role_of old n) ≡ false → is_data (role_of new n) ≡ false → KeepsShares old new
shares_but old new n same before after = record {
  private = λ m e. same.roles m (data_ne old n m before (ap is_data e)) ∙ e;
  was_private = λ m e. sym (same.roles m (data_ne new n m after (ap is_data e))) ∙ e;
  cache = λ m e. same.roles m (data_ne old n m before (ap is_data e)) ∙ e;
  was_cache = λ m e. sym (same.roles m (data_ne new n m after (ap is_data e))) ∙ e;
  counts = λ m e. same.counts m (data_ne old n m before (ap is_data e));
}

-- no entry names another seat, and each seat has its count and its page
pub counted_on : {mode : ℕ} (old new : Picture mode) (x : Seat) (d : ℕ) (counted : IsCountedBut old x d) → ((q p : ℕ) → IsPage (top_level mode) p → seat (entry new q p) ≡ seat (entry old q p)) → ((z : Seat) → IsOwned old z → IsOwned new z)
    → ((z : Seat) → IsOwned new z → IsOwned old z) → ((z : Seat) → IsOwned old z → count_in new z ≡ count_in old z) → ((z : Seat) → IsOwned old z → page_in new counted.0 z ≡ page_in old counted.0 z) → IsCountedBut new x d
counted_on {mode} old new x d counted same forth back counts pages =
    (counted.0, counted_same mode (entry old) (entry new) (IsOwned old) (IsOwned new) (count_in old) (count_in new) (page_in old counted.0) (page_in new counted.0) same x d counted.1 forth back counts pages)

-- Own copies have their seats, and pages of files and objects their places, as before.
module _ {mode : ℕ} (old new : Picture mode) (shares : KeepsShares old.frames new.frames) (slots : new.slots ≡ old.slots) (page_of : (n : ℕ) → new.page_of n ≡ old.page_of n)
    (place : (p : PageKey) → new.place p ≡ old.place p) where
  forth : (z : Seat) → IsOwned old z → IsOwned new z
  forth (InFrame n) is = shares.private n is
  forth (InSlot k) is = ((let P : SlotTable → Type 0 = λ t. 0 < t.count k in subst P (sym slots) is.0), λ p e. is.1 p (sym (place p) ∙ e))

  back : (z : Seat) → IsOwned new z → IsOwned old z
  back (InFrame n) is = shares.was_private n is
  back (InSlot k) is = ((let P : SlotTable → Type 0 = λ t. 0 < t.count k in subst P slots is.0), λ p e. is.1 p (place p ∙ e))

  counts : (z : Seat) → IsOwned old z → count_in new z ≡ count_in old z
  counts (InFrame n) is = shares.counts n is
  counts (InSlot k) is = ap (λ t. t.count k) slots

  pages : (sp : ℕ → ℕ) (z : Seat) → page_in new sp z ≡ page_in old sp z
  pages sp (InFrame n) = page_of n
  pages sp (InSlot k) = refl

  pub counted_kept : (x : Seat) (d : ℕ) → ((q p : ℕ) → IsPage (top_level mode) p → seat (entry new q p) ≡ seat (entry old q p)) → IsCountedBut old x d → IsCountedBut new x d
  counted_kept x d same counted = counted_on old new x d counted same forth back counts (λ z is. pages counted.0 z)

  -- and no entry changed
  pub fit_kept : (x : Seat) (d m m' : ℕ) → IsFitBut old x d m → ((q p : ℕ) → new.at q p ≡ old.at q p) → ((f : ℕ) → new.files f ≡ old.files f)
      → ((q p : ℕ) → IsPage (top_level mode) p → entry new q p ≡ entry old q p) → IsRootedBut new m' → IsDirtySound new → IsFitBut new x d m'
  fit_kept x d m m' fit at files same rooted dirty = record {
    counted = counted_kept x d (λ q p h. ap seat (same q p h)) fit.counted;
    rooted = rooted;
    granting = granting_same old new fit.granting (record { place = λ p n e. place p ∙ e; files = files })
        (λ q p h private one. shares.counts (frame_of (entry old q p)) (fit.counted.1.named q p (InFrame (frame_of (entry old q p))) h (rw private refl)) ∙ one) at same;
    places = places_same old new fit.places place at files slots shares.cache shares.was_cache;
    dirty = dirty;
  }

pub owned_forth : {mode : ℕ} (old new : Picture mode) → SameBeside old new → KeepsShares old.frames new.frames → (z : Seat) → IsOwned old z → IsOwned new z
owned_forth old new beside shares = forth old new shares beside.slots beside.page_of beside.place

pub owned_back : {mode : ℕ} (old new : Picture mode) → SameBeside old new → KeepsShares old.frames new.frames → (z : Seat) → IsOwned new z → IsOwned old z
owned_back old new beside shares = back old new shares beside.slots beside.page_of beside.place

pub count_kept : {mode : ℕ} (old new : Picture mode) → SameBeside old new → KeepsShares old.frames new.frames → (z : Seat) → IsOwned old z → count_in new z ≡ count_in old z
count_kept old new beside shares = counts old new shares beside.slots beside.page_of beside.place

pub page_kept : {mode : ℕ} (old new : Picture mode) (sp : ℕ → ℕ) → SameBeside old new → (z : Seat) → page_in new sp z ≡ page_in old sp z
page_kept old new sp beside (InFrame n) = beside.page_of n
page_kept old new sp beside (InSlot k) = refl

pub cases_attr : (o : Option Attr) → (o ≡ None) ⊎ IsSome o
cases_attr None = inl refl
cases_attr (Some a) = inr refl

pub view-none : {mode : ℕ} (c : Picture mode) (pid page : ℕ) → c.at pid page ≡ None → view c pid page ≡ None
unfolding view
view-none c pid page none = ap (λ a. view_of (own_in c.frames c.slots (entry c pid page)) a) none

-- a page is seen as before where its own copy is the same
pub view_kept : {mode : ℕ} (old new : Picture mode) (pid page : ℕ) → new.at pid page ≡ old.at pid page
    → own_in new.frames new.slots (entry new pid page) ≡ own_in old.frames old.slots (entry old pid page) → view new pid page ≡ view old pid page
unfolding view
view_kept old new pid page at own = ap (λ o. view_of o (new.at pid page)) own ∙ ap (λ a. view_of (own_in old.frames old.slots (entry old pid page)) a) at

own_at : {mode : ℕ} (c : Picture mode) (e : ℕ) (x : Seat) → seat e ≡ Some x → own_in c.frames c.slots e ≡ Some (bytes_in c.frames c.slots x)
own_at c e x is = ap (λ o. option_map (bytes_in c.frames c.slots) o) is

pub bytes_same : {mode : ℕ} (old new : Picture mode) → new.slots ≡ old.slots → ((n : ℕ) → role_of old.frames n ≡ Private → bytes_of new.frames n ≡ bytes_of old.frames n)
    → (z : Seat) → IsOwned old z → bytes_in new.frames new.slots z ≡ bytes_in old.frames old.slots z
bytes_same old new slots frames (InFrame n) is = frames n is
bytes_same old new slots frames (InSlot k) is = ap (λ t. t.bytes k) slots

-- a page whose own copy lies in the same seat, with the same bytes, is seen as before
pub own_kept : {mode : ℕ} (old new : Picture mode) (o o' : Option Seat) → o' ≡ o → ((z : Seat) → o ≡ Some z → bytes_in new.frames new.slots z ≡ bytes_in old.frames old.slots z)
    → option_map (bytes_in new.frames new.slots) o' ≡ option_map (bytes_in old.frames old.slots) o
own_kept old new None o' e each = ap (λ x. option_map (bytes_in new.frames new.slots) x) e
own_kept old new (Some z) o' e each = ap (λ x. option_map (bytes_in new.frames new.slots) x) e ∙ ap (λ b. Some b) (each z refl)

-- The entry of the page was set.
module _ {mode : ℕ} (old new : Picture mode) (pid page number m : ℕ) (sets : SetsPage old new pid page number) (for : IsEntryFor new (old.at pid page) number) (rooted : IsRootedBut new m)
    (dirty : (p : PageKey) → is_valid number ≡ true → is_private number ≡ false → is_dirty number ≡ true → old.place p ≡ Frame (record { 0 = frame_of number }) → old.touched p ≡ true) where
  pub set_by : (x x' : Seat) (d d' : ℕ) → IsFitBut old x d m → IsCountedBut new x' d' → IsFitBut new x' d' m
  set_by x x' d d' fit counted = record {
    counted = counted;
    rooted = rooted;
    granting = granting_changed old new pid page fit.granting (behind_kept old new sets.beside)
        (λ q p h private one. sets.shares.counts (frame_of (entry old q p)) (fit.counted.1.named q p (InFrame (frame_of (entry old q p))) h (rw private refl)) ∙ one)
        sets.beside.at sets.others (let P : ℕ → Type 0 = λ e. IsEntryFor new (old.at pid page) e in subst P (sym sets.changed) for);
    places = places_same old new fit.places sets.beside.place sets.beside.at sets.beside.files sets.beside.slots sets.shares.cache sets.shares.was_cache;
    dirty = dirty_changed old new pid page fit.dirty sets.beside.place sets.beside.touched sets.others
        (λ p valid common bit at. dirty p (sym (ap is_valid sets.changed) ∙ valid) (sym (ap is_private sets.changed) ∙ common) (sym (ap is_dirty sets.changed) ∙ bit)
        (at ∙ ap (λ x. Frame (record { 0 = frame_of x })) sets.changed));
  }

-- The entry of the page names seat y now, in place of x: y has one holder less than shares before, and x after.
module _ {mode : ℕ} (old new : Picture mode) (x y : Seat) (m pid page number : ℕ) (fit : IsFitBut old y 1 m) (sets : SetsPage old new pid page number) (h : IsPage (top_level mode) page) (below : pid < 65)
    (from : seat (entry old pid page) ≡ Some x) (to : seat number ≡ Some y) (apart : x ≢ y) (has : IsOwned old y) (noted : page_in old fit.counted.0 y ≡ page)
    (for : IsEntryFor new (old.at pid page) number) (parked : is_valid number ≡ true → is_private number ≡ false → ⊥) (rooted : IsRootedBut new m) where
  now : seat (entry new pid page) ≡ Some y
  now = ap seat sets.changed ∙ to

  pub fit_moved : IsFitBut new x 1 m
  fit_moved = set_by old new pid page number m sets for rooted (λ p valid common bit at. absurd (parked valid common)) y x 1 1 fit (
    fit.counted.0,
    counted_put mode (entry old) (entry new) (IsOwned old) (IsOwned new) (count_in old) (count_in new) (page_in old fit.counted.0) (page_in new fit.counted.0)
        (Some x) x y 1 pid page fit.counted.1 (owned_forth old new sets.beside sets.shares) (owned_back old new sets.beside sets.shares) (count_kept old new sets.beside sets.shares)
        (λ z is. page_kept old new fit.counted.0 sets.beside z) has noted h below from now (seat-other x y apart) sets.others (λ z. refl),
  )

  -- nobody sees it, where both seats have the same bytes
  pub views_moved : bytes_in old.frames old.slots y ≡ bytes_in old.frames old.slots x → (q p : ℕ) → IsPage (top_level mode) p → view new q p ≡ view old q p
  views_moved same q p h' =
      let stays = bytes_same old new sets.beside.slots (λ n is. sets.bytes n (λ t. (let bad : Private ≡ Table = sym is ∙ t in (cc)))) in
      view_kept old new q p (sets.beside.at q p) (each_page (λ a b. own_in new.frames new.slots (entry new a b) ≡ own_in old.frames old.slots (entry old a b)) q p pid page
      (own_at new (entry new pid page) y now ∙ ap (λ b. Some b) (stays y has ∙ same) ∙ sym (own_at old (entry old pid page) x from))
      (λ away. ap (λ e. own_in new.frames new.slots e) (sets.others q p h' away) ∙ own_kept old new (seat (entry old q p)) (seat (entry old q p)) refl (λ z is. stays z (fit.counted.1.named q p z h' is))))
