-- A row of pages with another permission, and the regions that say so.
use Rattle.ranges.proofs.{ClearedPages.{by_row, not_valid}, Emptied.{in_row_from, row_parts, none_here, low_zero, pages_inside}, LeafEntries.{allowed, here_still}, Named.{named-alike, objects-alike, names-protected, uses-protected}}
use Rattle.ranges.proofs.Names.{user_end, top_level, names, uses, PageKey, Object, Prot, Attr, backing_fits, with_prot, permitted, in_row, protected, IsUserMap, user_pages_fit, ◌≡◌, ◌≢◌, ℕ, inl, inr, ◌+◌, ◌<◌, ◌≤◌, ◌^◌, ◌↔◌, Bool, true, false}
use Rattle.ranges.proofs.Names.{List, Option, Some, None, get_or, refl, sym, ap, ◌∙◌, subst, arith, cases_eq, cases_lt, cases_Bool, false≢true, IsSome, IfSome, max, option_map, if◌then◌else◌, FrameTable, role_of, count_of}
use Rattle.ranges.proofs.Names.{is_valid, is_dirty, frame_of, IsPage, page_entry, Frame, ReadsToo, IsReadableMap, reads_protected, Seat, InFrame, seat, Picture, entry, is_private, is_swapped, own_in, bytes_in, view_of}
use Rattle.ranges.proofs.Names.{view, is_shared, IsBehind, IsRootedBut, IsEntryFor, IsResident, IsMapped, IsFit, nowhere, Remaps, entries_kept, KeepsBehind, entry_for-same, user_map-same, readable-same}
use Rattle.ranges.proofs.{Names.{places_renamed, used_kept, counted_kept, shares_kept, bytes_same, KeepsFrames, KeepsShares, own_kept, view-none, view_seated, held_same, seat_own, seat_common}, NewRegions.{rooted_regions, each_map}}
use Rattle.ranges.{proofs.Sharing.{private_data, cache_data}, specs.{Leaves.{is_mapped_shared, TakesStores, IsPermittedEntry, Permits, Empty, Away, Kept, PermitsRow}, Rows.{ReprotectsRow}, Steps.{IsBeside, KeepsEntriesOfOthers}}}
use Rattle.residency.specs.Parts as Parts

mapped_before : (o : Option Attr) (prot : Prot) (b : Bool) → IsSome (if b then option_map (with_prot prot) o else o) → IsSome o
mapped_before None prot true some = some
mapped_before None prot false some = some
mapped_before (Some a) prot b some = refl

fits_still : (o : Option Attr) (prot : Prot) (b : Bool) → IfSome o (λ attr. backing_fits attr.backing 1)
    → IfSome (if b then option_map (with_prot prot) o else o) (λ attr. backing_fits attr.backing 1)
fits_still None prot true fits = fits
fits_still (Some a) prot true fits = fits
fits_still o prot false fits = fits

-- another permission maps no page
module _ (mode : ℕ) where
  pub user_protected : (map : ℕ → Option Attr) (first pages : ℕ) (prot : Prot) → IsUserMap mode map → IsUserMap mode (protected map first pages prot)
  user_protected map first pages prot user = record {
    user_pages = λ page some. user.user_pages page (mapped_before (map page) prot (in_row first pages page) some);
    file_pages = λ page. fits_still (map page) prot (in_row first pages page) (user.file_pages page);
  }

-- a page lies in the seat that it had
seat_still : (t : FrameTable) (o : Option Attr) (prot : Prot) (e e' : ℕ) → Permits t o prot e e' → seat e' ≡ seat e
seat_still t o prot e e' (Empty none none') = ap seat (none' ∙ sym none)
seat_still t o prot e e' (Away away is) = ap seat is
seat_still t o prot e e' (Kept some here writable stores is) = elim (cases_Bool (is_private e)) [
  | inl own ↦ seat_own e' (is.over.owned ∙ own) ∙ ap (λ n. Some (InFrame n)) is.over.names ∙ sym (seat_own e own)
  | inr common ↦ seat_common e' (is.over.owned ∙ common) (here_still prot writable e e' is) ∙ sym (seat_common e common here)
]

shared_one : (o : Option Attr) (a : Attr) → o ≡ Some a → is_mapped_shared o ≡ true → is_shared a.backing ≡ true
shared_one o a is shared = ap is_mapped_shared (sym is) ∙ shared

-- what the page is now, with the entry that it has now
resident_permitted : {mode : ℕ} (new : Picture mode) (t : FrameTable) (o : Option Attr) (a : Attr) (prot : Prot) (writable : Bool) (e e' : ℕ) → o ≡ Some a
    → new.frames.counts ≡ t.counts → ((writable ≡ true) ↔ TakesStores t o prot e) → IsPermittedEntry prot writable e e' → IsResident new a e → IsResident new (with_prot prot a) e'
resident_permitted new t o a prot writable e e' at counts stores permitted resident =
    let is = allowed prot writable e e' permitted in
    let behind : is_private e' ≡ false → IsBehind new a.backing (frame_of e') = λ common. (
    subst (λ (n : ℕ). IsBehind new a.backing n) (sym is.frame) (resident.behind (sym is.private ∙ common))) in
    record {
      framed = is.framed;
      inside = resident.inside;
      private = λ own. resident.private (sym is.private ∙ own);
      behind = behind;
      leaf = λ valid. record {
        within = record { reads = λ b. sym is.reads ∙ b; writes = λ b. (stores.0 (sym (is.writes valid) ∙ b)).permitted; executes = λ b. sym is.executes ∙ b };
        sole = λ own b. ap (λ cs. get_or cs (frame_of e') 0) counts ∙ ap (count_of t) is.frame ∙ (stores.0 (sym (is.writes valid) ∙ b)).sole (sym is.private ∙ own);
        common = λ common b. shared_one o a at ((stores.0 (sym (is.writes valid) ∙ b)).common (sym is.private ∙ common));
      };
    }

-- nor does a permission change what the entry of a page in a slot says
away_permitted : {mode : ℕ} (new : Picture mode) (o : Option Attr) (prot : Prot) (e : ℕ) → is_swapped e ≡ true → IsEntryFor new o e → IsEntryFor new (option_map (with_prot prot) o) e
away_permitted new o prot e away (Parts.Nothing none) = Parts.Nothing none
away_permitted new o prot e away (Parts.Resident a at resident) = elim (cases_Bool (is_valid e)) [
  | inl valid ↦ absurd (false≢true (sym (let z : is_swapped e ≡ false = rw valid refl in z) ∙ away))
  | inr invalid ↦ (let clear = resident.framed invalid in absurd (false≢true (sym (let z : is_swapped e ≡ false = rw (invalid, clear) refl in z) ∙ away)))
]
away_permitted new o prot e away (Parts.Away a at swapped) = Parts.Away (with_prot prot a) (ap (option_map (with_prot prot)) at)
    (record { swapped = swapped.swapped; common = swapped.common; inside = swapped.inside; not_shared = swapped.not_shared })

entry_permitted : {mode : ℕ} (new : Picture mode) (t : FrameTable) (o : Option Attr) (prot : Prot) (e e' : ℕ) → new.frames.counts ≡ t.counts → Permits t o prot e e' → IsEntryFor new o e
    → IsEntryFor new (option_map (with_prot prot) o) e'
entry_permitted new t o prot e e' counts (Empty none none') for = Parts.Nothing none'
entry_permitted new t o prot e e' counts (Away away is) for = subst (λ (x : ℕ). IsEntryFor new (option_map (with_prot prot) o) x) (sym is) (away_permitted new o prot e away for)
entry_permitted new t o prot e e' counts (Kept some here writable stores is) (Parts.Nothing none) = absurd (some none)
entry_permitted new t o prot e e' counts (Kept some here writable stores is) (Parts.Away a at swapped) = absurd (false≢true (sym here ∙ swapped.swapped))
entry_permitted new t o prot e e' counts (Kept some here writable stores is) (Parts.Resident a at resident) =
    Parts.Resident (with_prot prot a) (ap (option_map (with_prot prot)) at) (resident_permitted new t o a prot writable e e' at counts stores is resident)

-- what a leaf with D was
pub record WasDirty (e : ℕ) : Type 0 where
  pub valid : is_valid e ≡ true
  pub dirty : is_dirty e ≡ true

was_dirty : (t : FrameTable) (o : Option Attr) (prot : Prot) (e e' : ℕ) → Permits t o prot e e' → is_valid e' ≡ true → is_private e' ≡ false → is_dirty e' ≡ true → WasDirty e
was_dirty t o prot e e' (Empty none none') valid common dirty = absurd (not_valid (sym (ap is_valid none') ∙ valid))
was_dirty t o prot e e' (Away away is) valid common dirty =
    absurd (false≢true (sym (let z : is_swapped e ≡ false = (let v : is_valid e ≡ true = sym (ap is_valid is) ∙ valid in rw v refl) in z) ∙ away))
was_dirty t o prot e e' (Kept some here writable stores is) valid common dirty = let was = (allowed prot writable e e' is).dirty valid common dirty in record { valid = was.0; dirty = was.1 }

frame_still : (t : FrameTable) (o : Option Attr) (prot : Prot) (e e' : ℕ) → Permits t o prot e e' → frame_of e' ≡ frame_of e
frame_still t o prot e e' (Empty none none') = ap frame_of (none' ∙ sym none)
frame_still t o prot e e' (Away away is) = ap frame_of is
frame_still t o prot e e' (Kept some here writable stores is) = is.over.names

private_still : (t : FrameTable) (o : Option Attr) (prot : Prot) (e e' : ℕ) → Permits t o prot e e' → is_private e' ≡ is_private e
private_still t o prot e e' (Empty none none') = ap is_private (none' ∙ sym none)
private_still t o prot e e' (Away away is) = ap is_private is
private_still t o prot e e' (Kept some here writable stores is) = is.over.owned

view_permitted : (prot : Prot) (o : Option Attr) (own own' : Option (List ℕ)) → own' ≡ own → view_of own' (option_map (with_prot prot) o) ≡ option_map (permitted prot) (view_of own o)
view_permitted prot None own own' same = refl
view_permitted prot (Some a) own own' same = ap (λ w. Some (record { attr = with_prot prot a; own = w })) same

pub view-is : {mode : ℕ} (c : Picture mode) (pid page : ℕ) → view c pid page ≡ view_of (own_in c.frames c.slots (entry c pid page)) (c.at pid page)
unfolding view
view-is c pid page = refl

some_protected : (o : Option Attr) (prot : Prot) (b : Bool) → IsSome o → IsSome (if b then option_map (with_prot prot) o else o)
some_protected None prot true some = some
some_protected (Some a) prot true some = refl
some_protected o prot false some = some

-- what another permission for a row comes to
module _ {mode : ℕ} where
  pub record IsRowReprotected (old new : Picture mode) (pid first pages : ℕ) (prot : Prot) : Type 0 where
    pub row : ReprotectsRow old new pid first pages prot
    pub others : KeepsEntriesOfOthers old new pid
    pub fit : IsFit new

-- The pages from low to high, which are the user pages of a row, have entries of that permission; then the process got
-- the regions.
module _ {mode : ℕ} (old mid new : Picture mode) (pid first pages low high : ℕ) (prot : Prot) (fit : IsFit old) (permits : PermitsRow old mid pid low high prot)
    (rooted : IsRootedBut mid 0) (remaps : Remaps mid new pid)
    (at : (page : ℕ) → new.at pid page ≡ protected (old.at pid) first pages prot page) (reads : ReadsToo prot)
    (row : first + pages ≤ user_end mode) (begins : low ≡ max first 16) (ends : high ≡ max low (first + pages)) where
  memory : KeepsFrames old.frames new.frames
  memory = subst (λ (t : FrameTable). KeepsFrames old.frames t) (sym remaps.frames) permits.memory

  shares : KeepsShares old.frames new.frames
  shares = shares_kept old.frames new.frames memory

  root : (q : ℕ) → new.root q ≡ old.root q
  root q = remaps.root q ∙ permits.beside.root q

  slots : new.slots ≡ old.slots
  slots = remaps.slots ∙ permits.beside.slots

  page_of : (m : ℕ) → new.page_of m ≡ old.page_of m
  page_of m = remaps.page_of m ∙ permits.beside.page_of m

  place : (p : PageKey) → new.place p ≡ old.place p
  place p = remaps.place p ∙ permits.beside.place p

  touched : (p : PageKey) → new.touched p ≡ old.touched p
  touched p = remaps.touched p ∙ permits.beside.touched p

  files : (f : ℕ) → new.files f ≡ old.files f
  files f = remaps.files f ∙ permits.beside.files f

  same_entry : (q page : ℕ) → entry new q page ≡ entry mid q page
  same_entry = entries_kept mid new 0 rooted (λ r p is_root. ap (λ t. page_entry t (top_level mode) r p) remaps.frames) remaps.root

  kept : (q page : ℕ) → IsPage (top_level mode) page → IsBeside pid low high q page → entry new q page ≡ entry old q page
  kept q page h out = same_entry q page ∙ permits.kept q page h out

  changed : (page : ℕ) → IsPage (top_level mode) page → low ≤ page → page < high → Permits old.frames (old.at pid page) prot (entry old pid page) (entry new pid page)
  changed page h least below = subst (λ (x : ℕ). Permits old.frames (old.at pid page) prot (entry old pid page) x) (sym (same_entry pid page)) (permits.changed page h least below)

  seat_here : (q page : ℕ) → IsPage (top_level mode) page → seat (entry new q page) ≡ seat (entry old q page)
  seat_here q page h = elim (by_row pid low high q page) [
    | inl out ↦ ap seat (kept q page h out)
    | inr here ↦ subst (λ (x : ℕ). seat (entry new x page) ≡ seat (entry old x page)) (sym here.0) (seat_still old.frames (old.at pid page) prot (entry old pid page) (entry new pid page) (changed page h here.1 here.2))
  ]

  at_row : (page : ℕ) → in_row first pages page ≡ true → new.at pid page ≡ option_map (with_prot prot) (old.at pid page)
  at_row page e = at page ∙ (rw e refl)

  in_here : (page : ℕ) → low ≤ page → page < high → in_row first pages page ≡ true
  in_here page from below = in_row_from first pages page (omega (arith, begins, from)) (omega (arith, from, below, ends))

  low_unmapped : (page : ℕ) → page < 16 → old.at pid page ≡ None
  low_unmapped page under = none_here (old.at pid page) (λ some. (let above = ((fit.granting.user pid).user_pages page some).0 in omega (arith, under, above)))

  under_sixteen : (page : ℕ) → IsBeside pid low high pid page → in_row first pages page ≡ true → page < 16
  under_sixteen page out e =
      let parts = row_parts first pages page e in
      elim out [
        | inl ne ↦ absurd (ne refl)
        | inr side ↦ elim side [ inl before ↦ omega (arith, begins, before, parts) | inr past ↦ omega (arith, past, ends, parts) ]
      ]

  at_out : (page : ℕ) → IsBeside pid low high pid page → new.at pid page ≡ old.at pid page
  at_out page out = elim (cases_Bool (in_row first pages page)) [
    | inr e ↦ at page ∙ (rw e refl)
    | inl e ↦ (let none = low_unmapped page (under_sixteen page out e) in at_row page e ∙ ap (option_map (with_prot prot)) none ∙ sym none)
  ]

  other_at : (q page : ℕ) → q ≢ pid → new.at q page ≡ old.at q page
  other_at q page ne = remaps.others q page ne ∙ permits.beside.at q page

  at_beside : (q page : ℕ) → IsBeside pid low high q page → new.at q page ≡ old.at q page
  at_beside q page out = elim (cases_eq q pid) [
    | inl is ↦ subst (λ (x : ℕ). new.at x page ≡ old.at x page) (sym is) (at_out page (subst (λ (x : ℕ). IsBeside pid low high x page) is out))
    | inr ne ↦ other_at q page ne
  ]

  entry_none : (page : ℕ) → IsPage (top_level mode) page → IsBeside pid low high pid page → in_row first pages page ≡ true → entry old pid page ≡ 0
  entry_none page h out e = low_zero old pid page fit.granting (under_sixteen page out e)

  keeps_behind : KeepsBehind old new
  keeps_behind = record { place = λ p n e. place p ∙ e; files = files }

  fits_still_here : (q page : ℕ) → IsPage (top_level mode) page → IsEntryFor new (old.at q page) (entry old q page)
  fits_still_here q page h =
      entry_for-same old new (old.at q page) (entry old q page) keeps_behind (λ private write one. ap (λ cs. get_or cs (frame_of (entry old q page)) 0) memory.counts ∙ one)
      (fit.granting.entries q page h)

  fits : (q page : ℕ) → IsPage (top_level mode) page → IsEntryFor new (new.at q page) (entry new q page)
  fits q page h = elim (by_row pid low high q page) [
    | inl out ↦ rw (at_beside q page out, kept q page h out) (fits_still_here q page h)
    | inr here ↦ (
        subst (λ (x : ℕ). IsEntryFor new (new.at x page) (entry new x page)) (sym here.0) (subst (λ (o : Option Attr). IsEntryFor new o (entry new pid page)) (sym (at_row page (in_here page here.1 here.2)))
        (entry_permitted new old.frames (old.at pid page) prot (entry old pid page) (entry new pid page) memory.counts (changed page h here.1 here.2) (fits_still_here pid page h))))
  ]

  names_still : (q k object page : ℕ) → names (new.at q k) object page ≡ names (old.at q k) object page
  names_still q k object page = elim (cases_eq q pid) [
    | inl is ↦ ap (λ x. names (new.at x k) object page) is ∙ ap (λ a. names a object page) (at k) ∙ names-protected (old.at pid) first pages prot k object page ∙ sym (ap (λ x. names (old.at x k) object page) is)
    | inr ne ↦ ap (λ a. names a object page) (other_at q k ne)
  ]

  uses_still : (q k object : ℕ) → uses (new.at q k) object ≡ uses (old.at q k) object
  uses_still q k object = elim (cases_eq q pid) [
    | inl is ↦ ap (λ x. uses (new.at x k) object) is ∙ ap (λ a. uses a object) (at k) ∙ uses-protected (old.at pid) first pages prot k object ∙ sym (ap (λ x. uses (old.at x k) object) is)
    | inr ne ↦ ap (λ a. uses a object) (other_at q k ne)
  ]

  dirty_still : (q page : ℕ) (p : PageKey) → IsPage (top_level mode) page → is_valid (entry new q page) ≡ true → is_private (entry new q page) ≡ false → is_dirty (entry new q page) ≡ true
      → new.place p ≡ Frame (record { 0 = frame_of (entry new q page) }) → new.touched p ≡ true
  dirty_still q page p h valid common dirty there = elim (by_row pid low high q page) [
    | inl out ↦ (
        let e = kept q page h out in
        touched p ∙ fit.dirty.dirty q page p h (sym (ap is_valid e) ∙ valid) (sym (ap is_private e) ∙ common) (sym (ap is_dirty e) ∙ dirty)
        (sym (place p) ∙ there ∙ ap (λ x. Frame (record { 0 = frame_of x })) e))
    | inr here ↦ (
        let moved : entry new pid page ≡ entry new q page = ap (λ x. entry new x page) (sym here.0) in
        let step = changed page h here.1 here.2 in
        let was = was_dirty old.frames (old.at pid page) prot (entry old pid page) (entry new pid page) step (ap is_valid moved ∙ valid) (ap is_private moved ∙ common)
        (ap is_dirty moved ∙ dirty) in
        let frame : frame_of (entry new q page) ≡ frame_of (entry old pid page) =
        ap frame_of (sym moved) ∙ frame_still old.frames (old.at pid page) prot (entry old pid page) (entry new pid page) step in
        let own = private_still old.frames (old.at pid page) prot (entry old pid page) (entry new pid page) step in
        touched p ∙ fit.dirty.dirty pid page p h was.valid (sym own ∙ ap is_private moved ∙ common) was.dirty
        (sym (place p) ∙ there ∙ ap (λ x. Frame (record { 0 = x })) frame))
  ]

  -- the pages that were mapped are
  mapped_on : (q page : ℕ) → IsMapped mid q page → IsMapped new q page
  mapped_on q page some = elim (cases_eq q pid) [
    | inr ne ↦ subst (λ (x : Option Attr). IsSome x) (sym (remaps.others q page ne)) some
    | inl is ↦ (
        let Q : ℕ → Type 0 = λ x. IsSome (mid.at x page) in
        let R : Option Attr → Type 0 = λ x. IsSome x in
        subst (λ (x : ℕ). IsSome (new.at x page)) (sym is) (subst R (sym (at page)) (some_protected (old.at pid page) prot (in_row first pages page) (subst R (permits.beside.at pid page) (subst Q is some)))))
  ]

  rooted_new : IsRootedBut new 0
  rooted_new = rooted_regions mid new pid rooted remaps (λ m table. elim (rooted.used m table) [
    | inl z ↦ inl z
    | inr o ↦ inr (used_kept mid mid (IsMapped mid) (IsMapped new) m (λ a i b p. p) (λ q. refl) mapped_on o)
  ])

  fit_reprotected : IsFit new
  fit_reprotected = record {
    counted = counted_kept old new shares slots page_of place nowhere 0 seat_here fit.counted;
    rooted = rooted_new;
    granting = record {
      entries = fits;
      user = each_map old new pid (IsUserMap mode) (user_map-same mode) other_at
          (user_map-same mode (protected (old.at pid) first pages prot) (new.at pid) at (user_protected mode (old.at pid) first pages prot (fit.granting.user pid))) fit.granting.user;
      readable = each_map old new pid IsReadableMap readable-same other_at
          (readable-same (protected (old.at pid) first pages prot) (new.at pid) at (reads_protected (old.at pid) first pages prot reads (fit.granting.readable pid))) fit.granting.readable;
      objects = objects-alike old.at new.at names_still uses_still fit.granting.objects;
    };
    places = places_renamed old new fit.places place files (λ p away. named-alike old.at new.at p.object p.page (λ q k. names_still q k p.object p.page) ∙ fit.places.inside (Object p) away) slots shares.cache shares.was_cache;
    dirty = record {
      dirty = dirty_still;
      held = λ p now home. fit.dirty.held p (sym (touched p) ∙ now) (sym (place p) ∙ home);
      slotted = λ p k e. touched p ∙ fit.dirty.slotted p k (sym (place p) ∙ e);
    };
  }

  own_bytes : (q page : ℕ) → IsPage (top_level mode) page → (z : Seat) → seat (entry old q page) ≡ Some z → bytes_in new.frames new.slots z ≡ bytes_in old.frames old.slots z
  own_bytes q page h z is = bytes_same old new slots (λ n own. memory.bytes n (private_data (role_of old.frames n) own)) z (fit.counted.1.named q page z h is)

  view_beside : (q page : ℕ) → IsBeside pid low high q page → view new q page ≡ view old q page
  view_beside q page out = elim (cases_lt page (512 ^ (top_level mode + 1))) [
    | inl h ↦ view_seated old new q page (at_beside q page out) (ap seat (kept q page h out)) (own_bytes q page h)
    | inr past ↦ (
        let none = none_here (old.at q page) (λ some. (let under = ((fit.granting.user q).user_pages page some).1 in let fits = user_pages_fit mode in omega (arith, past, under, fits))) in
        view-none new q page (at_beside q page out ∙ none) ∙ sym (view-none old q page none))
  ]

  view_here : (page : ℕ) → in_row first pages page ≡ true → view new pid page ≡ option_map (permitted prot) (view old pid page)
  view_here page e =
      let h = pages_inside mode first pages page row e in
      view-is new pid page ∙ ap (λ o. view_of (own_in new.frames new.slots (entry new pid page)) o) (at_row page e)
      ∙ view_permitted prot (old.at pid page) (own_in old.frames old.slots (entry old pid page)) (own_in new.frames new.slots (entry new pid page))
      (own_kept old new (seat (entry old pid page)) (seat (entry new pid page)) (seat_here pid page h) (own_bytes pid page h))
      ∙ ap (option_map (permitted prot)) (sym (view-is old pid page))

  permits_here : (page : ℕ) → in_row first pages page ≡ true → Permits old.frames (old.at pid page) prot (entry old pid page) (entry new pid page)
  permits_here page e =
      let h = pages_inside mode first pages page row e in
      elim (by_row pid low high pid page) [
        | inl out ↦ Empty (entry_none page h out e) (kept pid page h out ∙ entry_none page h out e)
        | inr here ↦ changed page h here.1 here.2
      ]

  out_of_row : (page : ℕ) → in_row first pages page ≡ false → IsBeside pid low high pid page
  out_of_row page e = elim (by_row pid low high pid page) [ inl out ↦ out | inr here ↦ absurd (false≢true (sym e ∙ in_here page here.1 here.2)) ]

  pub reprotected_row : IsRowReprotected old new pid first pages prot
  reprotected_row = record {
    row = record {
      root = root;
      at = at;
      others_at = other_at;
      views = λ page. elim (cases_Bool (in_row first pages page)) [ inl e ↦ rw e (view_here page e) | inr e ↦ rw e (view_beside pid page (out_of_row page e)) ];
      entries = permits_here;
      kept = λ page h e. kept pid page h (out_of_row page e);
      others = λ q page ne. view_beside q page (inl ne);
      files = record {
        held = λ p. inl (held_same old new p (place p) slots (λ n here. memory.bytes n (cache_data (role_of old.frames n) (fit.places.cached p n here))));
        touched = touched;
        files = files;
      };
    };
    others = λ q page h ne. kept q page h (inl ne);
    fit = fit_reprotected;
  }
