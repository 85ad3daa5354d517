-- A process starts, and pages are mapped for which nothing stands.
use Rattle.fault.proofs.Names.{sizes, top_level, ObjectPage, PageKey, Object, is_named, Attr, IsUserMap, true, ◌≡◌, ◌≢◌, ℕ, inl, inr, ◌⊎◌, ◌<◌, ◌≤◌, List, Option, Some, None, refl, sym, ap, ◌∙◌, subst, arith, cases_eq, false≢true, IsSome}
use Rattle.fault.proofs.Names.{Table, FrameTable, role_of, count_of, SlotTable, frame_of, AddsTable, IsPage, IsTable, Points, IsForest, IsRoot, IsSpare, IsBelowRoot, missing_of, page_entry, missing_of-is, page_entry-missing, empty_last}
use Rattle.fault.proofs.Names.{Run, IsReadableMap, attr_at, Home, Seat, InFrame, InSlot, seat, Picture, entry, IsOwned, count_in, page_in, AreObjects, IsRootedBut, IsUsed, AsRoot, OnWay, IsMapped, IsEntryFor, IsCountedBut, IsFitBut, IsFit}
use Rattle.fault.proofs.Names.{nowhere, ObtainsTable, SameBeside, KeepsShares, Spawns, Remaps, entry-of, entry-same, entries_kept, KeepsBehind, entry_for-same, user_map-same, readable-same, shares_taken, fit_same, loose_table, rooted_taken}
use Rattle.{fault.proofs.Names.{⊎_elim, same_Some, objects-same, named-more, places_same, places_renamed, dirty_same, used_kept, counted_same, entry-dead}, residency.specs.Parts.{Nothing}}

pub one_some : (a b : ℕ) → Some a ≡ Some b → a ≡ b
one_some a b e = same_Some a b e

-- of one process, and of all others
each_process : {P : ℕ → Type 0} (pid : ℕ) → P pid → ((q : ℕ) → q ≢ pid → P q) → (q : ℕ) → P q
each_process {P = P} pid here others q = ⊎_elim (λ is. subst P (sym is) here) (others q) (cases_eq q pid)

-- nothing stands in a tree of which the root has no entry
module _ (mode : ℕ) where
  pub spare_entry : (t : FrameTable) (n page : ℕ) → IsSpare t n → page_entry t (top_level mode) n page ≡ 0
  spare_entry t n page spare =
      let level : missing_of t (top_level mode) n page ≡ top_level mode = missing_of-is t (top_level mode) n page ∙ ap (λ x. x.0) (empty_last t page (top_level mode) n spare.empty) in
      page_entry-missing t (top_level mode) n page (λ none. (omega (arith, level, none, (sizes mode).levels)))

-- the frames are the same
pub shares_frames : (old new : FrameTable) → new ≡ old → KeepsShares old new
shares_frames old new same = record {
  private = λ n e. ap (λ t. role_of t n) same ∙ e;
  was_private = λ n e. sym (ap (λ t. role_of t n) same) ∙ e;
  cache = λ n e. ap (λ t. role_of t n) same ∙ e;
  was_cache = λ n e. sym (ap (λ t. role_of t n) same) ∙ e;
  counts = λ n e. ap (λ t. count_of t n) same;
}

-- Only processes and tables changed, and every entry is the same: own copies lie where they lay.
module _ {mode : ℕ} (old new : Picture mode) (shares : KeepsShares old.frames new.frames) (slots : new.slots ≡ old.slots) (page_of : (m : ℕ) → new.page_of m ≡ old.page_of m)
    (place : (p : PageKey) → new.place p ≡ old.place p) (same : (q p : ℕ) → entry new q p ≡ entry old q p) where
  forth : (z : Seat) → IsOwned old z → IsOwned new z
  forth (InFrame n) is = shares.private n is
  forth (InSlot k) is = ((let P : SlotTable → Type 0 = λ t. 0 < t.count k in subst P (sym slots) is.0), λ p e. is.1 p (sym (place p) ∙ e))

  back : (z : Seat) → IsOwned new z → IsOwned old z
  back (InFrame n) is = shares.was_private n is
  back (InSlot k) is = ((let P : SlotTable → Type 0 = λ t. 0 < t.count k in subst P slots is.0), λ p e. is.1 p (place p ∙ e))

  counts : (z : Seat) → IsOwned old z → count_in new z ≡ count_in old z
  counts (InFrame n) is = shares.counts n is
  counts (InSlot k) is = ap (λ t. t.count k) slots

  pages : (slot_page : ℕ → ℕ) (z : Seat) → page_in new slot_page z ≡ page_in old slot_page z
  pages slot_page (InFrame n) = page_of n
  pages slot_page (InSlot k) = refl

  pub counted_there : (x : Seat) (d : ℕ) → IsCountedBut old x d → IsCountedBut new x d
  counted_there x d counted = (
    counted.0,
    counted_same mode (entry old) (entry new) (IsOwned old) (IsOwned new) (count_in old) (count_in new) (page_in old counted.0) (page_in new counted.0)
        (λ q p h. ap seat (same q p)) x d counted.1 forth back counts (λ z is. pages counted.0 z),
  )

-- table n, which was in no tree, is the root of a new process
module _ {mode : ℕ} (old new : Picture mode) (pid n : ℕ) (fit : IsFitBut old nowhere 0 n) (is_root : IsRoot (top_level mode) old.frames n) (spare : IsSpare old.frames n)
    (loose : (q : ℕ) → old.root q ≢ Some n) (spawns : Spawns old new pid n) where
  nothing_here : (page : ℕ) → entry new pid page ≡ 0
  nothing_here page = entry-of new pid n page spawns.lives ∙ ap (λ t. page_entry t (top_level mode) n page) spawns.frames ∙ spare_entry mode old.frames n page spare

  entries_spawned : (q page : ℕ) → entry new q page ≡ entry old q page
  entries_spawned = each_process {P = λ q. (page : ℕ) → entry new q page ≡ entry old q page} pid (λ page. nothing_here page ∙ sym (entry-dead old pid page spawns.was_free))
      (λ q ne page. entry-same old new q page (spawns.others q ne) (λ x e. ap (λ t. page_entry t (top_level mode) x page) spawns.frames))

  roots_now : (q r : ℕ) → new.root q ≡ Some r → ((q ≡ pid) × (r ≡ n)) ⊎ ((q ≢ pid) × (old.root q ≡ Some r))
  roots_now q r e = elim (cases_eq q pid) [
    | inl is ↦ inl (is, sym (one_some n r (sym spawns.lives ∙ ap new.root (sym is) ∙ e)))
    | inr ne ↦ inr (ne, sym (spawns.others q ne) ∙ e)
  ]

  was_other : (q r : ℕ) → old.root q ≡ Some r → q ≢ pid
  was_other q r e is = let bad : None ≡ Some r = sym spawns.was_free ∙ ap old.root (sym is) ∙ e in (cc)

  used_spawned : (m : ℕ) → IsUsed old (IsMapped old) m → IsUsed new (IsMapped new) m
  used_spawned m (AsRoot q is) = AsRoot q (spawns.others q (was_other q m is) ∙ is)
  used_spawned m (OnWay q r page is here below) =
      let ne = was_other q r is in
      let Q : FrameTable → Type 0 = λ t. IsBelowRoot t (top_level mode) r page m in
      OnWay q r page (spawns.others q ne ∙ is) (subst (λ (x : Option Attr). IsSome x) (sym (spawns.at q page ne)) here) (subst Q (sym spawns.frames) below)

  rooted_spawned : IsRootedBut new 0
  rooted_spawned = record {
    forest = (let P : FrameTable → Type 0 = λ t. IsForest t in subst P (sym spawns.frames) fit.rooted.forest);
    roots = λ q r e. (let P : FrameTable → Type 0 = λ t. IsRoot (top_level mode) t r in subst P (sym spawns.frames) (elim (roots_now q r e) [
      | inl here ↦ (let Q : ℕ → Type 0 = λ x. IsRoot (top_level mode) old.frames x in subst Q (sym here.1) is_root)
      | inr there ↦ fit.rooted.roots q r there.1
    ]));
    apart = λ p q r e f. elim (roots_now p r e) [
      | inl here ↦ elim (roots_now q r f) [
        | inl here' ↦ here.0 ∙ sym here'.0
        | inr there' ↦ absurd (loose q (there'.1 ∙ ap (λ x. Some x) here.1))
      ]
      | inr there ↦ elim (roots_now q r f) [
        | inl here' ↦ absurd (loose p (there.1 ∙ ap (λ x. Some x) here'.1))
        | inr there' ↦ fit.rooted.apart p q r there.1 there'.1
      ]
    ];
    numbers = λ q r e. elim (roots_now q r e) [
      | inl here ↦ (let P : ℕ → Type 0 = λ x. (1 ≤ x) × (x ≤ 64) in subst P (sym here.0) spawns.number)
      | inr there ↦ fit.rooted.numbers q r there.1
    ];
    used = λ m table. (
        elim (fit.rooted.used m (subst (λ (t : FrameTable). IsTable t m) spawns.frames table)) [
          | inl is ↦ inr (AsRoot pid (spawns.lives ∙ ap (λ x. Some x) (sym is)))
          | inr o ↦ inr (used_spawned m o)
        ]);
  }

  at_spawned : (q page : ℕ) → new.at q page ≡ old.at q page
  at_spawned = each_process {P = λ q. (page : ℕ) → new.at q page ≡ old.at q page} pid (λ page. spawns.unmapped page ∙ sym (spawns.was_unmapped page)) (λ q ne page. spawns.at q page ne)

  fit_added : IsFit new
  fit_added =
      let shares = shares_frames old.frames new.frames spawns.frames in
      record {
        counted = counted_there old new shares spawns.slots spawns.page_of spawns.place entries_spawned nowhere 0 fit.counted;
        rooted = rooted_spawned;
        granting = record {
          entries = λ q page h.
              let there = entry_for-same old new (old.at q page) (entry old q page) (record { place = λ p x e. spawns.place p ∙ e; files = spawns.files })
              (λ private write one. ap (λ t. count_of t (frame_of (entry old q page))) spawns.frames ∙ one) (fit.granting.entries q page h) in
              rw (at_spawned q page, entries_spawned q page) there;
          user = λ q. user_map-same mode (old.at q) (new.at q) (at_spawned q) (fit.granting.user q);
          readable = λ q. readable-same (old.at q) (new.at q) (at_spawned q) (fit.granting.readable q);
          objects = objects-same old.at new.at at_spawned fit.granting.objects;
        };
        places = places_same old new fit.places spawns.place at_spawned spawns.files spawns.slots shares.cache shares.was_cache;
        dirty = dirty_same old new fit.dirty spawns.place spawns.touched (λ q page h. entries_spawned q page);
      }

-- a table was taken, and it is the root of a new process
module _ {mode : ℕ} where
  pub fit_spawned : (old mid new : Picture mode) (pid n : ℕ) → IsFit old → role_of old.frames 0 ≢ Table → AddsTable old.frames mid.frames (top_level mode) n
      → SameBeside old mid → Spawns mid new pid n → IsFit new
  fit_spawned old mid new pid n fit zero_page adds beside spawns =
      let rooted = rooted_taken old mid n fit.rooted zero_page adds beside in
      let taken = fit_same old mid nowhere 0 0 n fit beside (shares_taken old.frames mid.frames (top_level mode) n adds)
      (λ q p h. entries_kept old mid 0 fit.rooted adds.entries beside.root q p) rooted in
      fit_added mid new pid n taken adds.root adds.spare (loose_table old mid n fit.rooted adds beside.root) spawns

-- a frame was obtained and taken for a table, and that is the root of a new process
pub fit_started : {mode : ℕ} (first mid new : Picture mode) (pid n : ℕ) → ObtainsTable first mid n → Spawns mid new pid n → IsFit new
fit_started first mid new pid n obtains spawns = fit_spawned obtains.found mid new pid n obtains.fit obtains.zero_page obtains.adds obtains.beside spawns

-- nothing stands for its pages
module _ {mode : ℕ} where
  pub bare_started : (first mid new : Picture mode) (pid n : ℕ) → ObtainsTable first mid n → Spawns mid new pid n → (page : ℕ) → entry new pid page ≡ 0
  bare_started first mid new pid n obtains spawns page =
      entry-of new pid n page spawns.lives ∙ ap (λ t. page_entry t (top_level mode) n page) spawns.frames ∙ spare_entry mode mid.frames n page obtains.adds.spare

-- The regions of a process change, where each entry fits what its page is afterwards, and each table is used still.
module _ {mode : ℕ} (old new : Picture mode) (pid : ℕ) (fit : IsFit old) (remaps : Remaps old new pid) where
  pub entries_remapped : (q page : ℕ) → entry new q page ≡ entry old q page
  entries_remapped = entries_kept old new 0 fit.rooted (λ r p is_root. ap (λ t. page_entry t (top_level mode) r p) remaps.frames) remaps.root

  behind_remapped : KeepsBehind old new
  behind_remapped = record { place = λ p x e. remaps.place p ∙ e; files = remaps.files }

  same_count : (x : ℕ) → count_of new.frames x ≡ count_of old.frames x
  same_count x = ap (λ t. count_of t x) remaps.frames

  lived : (q r : ℕ) → new.root q ≡ Some r → old.root q ≡ Some r
  lived q r e = sym (remaps.root q) ∙ e

  rooted_remapped : ((m : ℕ) → IsUsed old (IsMapped old) m → IsUsed old (IsMapped new) m) → IsRootedBut new 0
  rooted_remapped used = record {
    forest = (let P : FrameTable → Type 0 = λ t. IsForest t in subst P (sym remaps.frames) fit.rooted.forest);
    roots = λ q r e. (let P : FrameTable → Type 0 = λ t. IsRoot (top_level mode) t r in subst P (sym remaps.frames) (fit.rooted.roots q r (lived q r e)));
    apart = λ p q r e f. fit.rooted.apart p q r (lived p r e) (lived q r f);
    numbers = λ q r e. fit.rooted.numbers q r (lived q r e);
    used = λ m table. (
        elim (fit.rooted.used m (subst (λ (t : FrameTable). IsTable t m) remaps.frames table)) [
          | inl is ↦ inl is
          | inr o ↦ inr (used_kept old new (IsMapped new) (IsMapped new) m
              (λ a i b p. (let Q : FrameTable → Type 0 = λ t. Points t a i b in subst Q (sym remaps.frames) p)) remaps.root (λ q page some. some) (used m o))
        ]);
  }

  pub fit_remapped : IsUserMap mode (new.at pid) → IsReadableMap (new.at pid) → AreObjects new.at → ((p : ObjectPage) → old.place (Object p) ≢ Home → is_named new.at p.object p.page ≡ true) → ((page : ℕ) → IsPage (top_level mode) page → IsEntryFor old (new.at pid page) (entry old pid page))
      → ((m : ℕ) → IsUsed old (IsMapped old) m → IsUsed old (IsMapped new) m) → IsFit new
  fit_remapped user readable objects named fits used =
      let shares = shares_frames old.frames new.frames remaps.frames in
      record {
        counted = counted_there old new shares remaps.slots remaps.page_of remaps.place entries_remapped nowhere 0 fit.counted;
        rooted = rooted_remapped used;
        granting = record {
          entries = λ q page h.
              let before : (q : ℕ) → IsEntryFor old (new.at q page) (entry old q page) = each_process {P = λ q. IsEntryFor old (new.at q page) (entry old q page)} pid (fits page h)
              (λ q ne. rw (remaps.others q page ne) (fit.granting.entries q page h)) in
              rw (entries_remapped q page) (entry_for-same old new (new.at q page) (entry old q page) behind_remapped (λ private write one. same_count (frame_of (entry old q page)) ∙ one) (before q));
          user = each_process {P = λ q. IsUserMap mode (new.at q)} pid user (λ q ne. user_map-same mode (old.at q) (new.at q) (λ page. remaps.others q page ne) (fit.granting.user q));
          readable = each_process {P = λ q. IsReadableMap (new.at q)} pid readable (λ q ne. readable-same (old.at q) (new.at q) (λ page. remaps.others q page ne) (fit.granting.readable q));
          objects = objects;
        };
        places = places_renamed old new fit.places remaps.place remaps.files named remaps.slots shares.cache shares.was_cache;
        dirty = dirty_same old new fit.dirty remaps.place remaps.touched (λ q page h. entries_remapped q page);
      }

-- each mapped page of a process is mapped still
used_mapped : {mode : ℕ} (c : Picture mode) (mapped mapped' : ℕ → ℕ → Type 0) (m : ℕ) → ((q page : ℕ) → mapped q page → mapped' q page) → IsUsed c mapped m → IsUsed c mapped' m
used_mapped c mapped mapped' m maps (AsRoot q is) = AsRoot q is
used_mapped c mapped mapped' m maps (OnWay q r page is here below) = OnWay q r page is (maps q page here) below

-- a process that had no page, and for whose pages nothing stands, has these regions
module _ {mode : ℕ} where
  pub fit_mapped : (old new : Picture mode) (pid : ℕ) (runs : List Run) → IsFit old → Remaps old new pid → ((page : ℕ) → new.at pid page ≡ attr_at runs page)
      → IsUserMap mode (attr_at runs) → IsReadableMap (attr_at runs) → AreObjects new.at → ((page : ℕ) → IsPage (top_level mode) page → entry old pid page ≡ 0) → ((page : ℕ) → old.at pid page ≡ None) → IsFit new
  fit_mapped old new pid runs fit remaps at user readable objects bare unmapped =
      let P : Option Attr → Type 0 = λ x. IsSome x in
      fit_remapped old new pid fit remaps (user_map-same mode (attr_at runs) (new.at pid) at user) (readable-same (attr_at runs) (new.at pid) at readable) objects
      (λ p away. named-more old.at new.at p.object p.page (each_process {P = λ q. (page : ℕ) → (new.at q page ≡ old.at q page) ⊎ (old.at q page ≡ None)} pid (λ page. inr (unmapped page))
      (λ q ne page. inl (remaps.others q page ne))) (fit.places.inside (Object p) away))
      (λ page h. Nothing (bare page h))
      (λ m. used_mapped old (IsMapped old) (IsMapped new) m (each_process {P = λ q. (page : ℕ) → IsMapped old q page → IsMapped new q page} pid
      (λ page some. absurd (false≢true (subst P (unmapped page) some))) (λ q ne page. subst P (sym (remaps.others q page ne)))))
