-- A process gets other regions.
use Rattle.ranges.proofs.Names.{top_level, ObjectPage, PageKey, Object, is_named, Attr, in_row, IsUserMap, ◌≡◌, ℕ, inl, inr, ◌+◌, true, false, Option, refl, sym, ap, ◌∙◌, subst, arith, ◌⊎◌, ◌≢◌, None, eq-eqb, ne_eqb, cases_eq}
use Rattle.ranges.proofs.Names.{cases_Bool, IsSome, option_map, Home, FrameTable, role_of, count_of, bytes_of, frame_of, IsPage, IsTable, IsForest, IsRoot, Points, page_entry, IsReadableMap, seat, Picture}
use Rattle.ranges.proofs.Names.{entry, view, held, bytes_in, AreObjects, IsEntryFor, Nothing, IsUsed, IsMapped, IsRootedBut, IsFit, nowhere, Remaps, entries_kept, entry_for-same, user_map-same}
use Rattle.ranges.proofs.Names.{readable-same, objects-same, named-more, places_renamed, dirty_same, used_kept, counted_kept, shares_same, rooted_by, view_seated, held_same}
use Rattle.ranges.{specs.{Rows.{plain, RemapsRow, with_map, without_maps}, Steps.{IsBeside, IsMappedBeside, IsWithoutTables}}, proofs.{ClearedPages.{not_beside}, Emptied.{row_parts, view-bare}, Forgotten.{IsRowRemapped}}}

-- other regions of a process want the tables that there are
pub rooted_regions : {mode : ℕ} (old new : Picture mode) (pid : ℕ) → IsRootedBut old 0 → Remaps old new pid
    → ((m : ℕ) → IsTable old.frames m → (m ≡ 0) ⊎ IsUsed old (IsMapped new) m) → IsRootedBut new 0
rooted_regions {mode = mode} old new pid rooted remaps used = rooted_by old new 0 0 rooted remaps.root (subst (λ (t : FrameTable). IsForest t) (sym remaps.frames) rooted.forest)
    (λ q r e. subst (λ (t : FrameTable). IsRoot (top_level mode) t r) (sym remaps.frames) (rooted.roots q r e))
    (λ m table. elim (used m (subst (λ (t : FrameTable). IsTable t m) remaps.frames table)) [
      | inl z ↦ inl z
      | inr o ↦ inr (used_kept old new (IsMapped new) (IsMapped new) m
          (λ a i b p. (subst (λ (t : FrameTable). Points t a i b) (sym remaps.frames) p)) remaps.root (λ q p some. some) o)
    ])

-- what holds of each process's pages holds still, where it holds of those of the one that has others
pub each_map : {mode : ℕ} (old new : Picture mode) (pid : ℕ) (P : (ℕ → Option Attr) → Type 0) → ((f g : ℕ → Option Attr) → ((page : ℕ) → g page ≡ f page) → P f → P g)
    → ((q page : ℕ) → q ≢ pid → new.at q page ≡ old.at q page) → P (new.at pid) → ((q : ℕ) → P (old.at q)) → (q : ℕ) → P (new.at q)
each_map old new pid P same others here before q = elim (cases_eq q pid) [
  | inl is ↦ subst (λ (x : ℕ). P (new.at x)) (sym is) here
  | inr ne ↦ same (old.at q) (new.at q) (λ page. others q page ne) (before q)
]

-- the memory is the same
module _ {mode : ℕ} (old new : Picture mode) (pid : ℕ) (fit : IsFit old) (remaps : Remaps old new pid) where
  entries_remapped : (q page : ℕ) → entry new q page ≡ entry old q page
  entries_remapped = entries_kept old new 0 fit.rooted (λ r p is_root. ap (λ t. page_entry t (top_level mode) r p) remaps.frames) remaps.root

  fit_remapped : IsUserMap mode (new.at pid) → IsReadableMap (new.at pid) → AreObjects new.at → ((p : ObjectPage) → old.place (Object p) ≢ Home → is_named new.at p.object p.page ≡ true) → ((page : ℕ) → IsPage (top_level mode) page → IsEntryFor old (new.at pid page) (entry old pid page))
      → ((m : ℕ) → IsTable old.frames m → IsUsed old (IsMapped new) m) → IsFit new
  fit_remapped user readable objects named fits used =
      let shares = shares_same old.frames new.frames remaps.frames in
      record {
        counted = counted_kept old new shares remaps.slots remaps.page_of remaps.place nowhere 0 (λ q p h. ap seat (entries_remapped q p)) fit.counted;
        rooted = rooted_regions old new pid fit.rooted remaps (λ m table. inr (used m table));
        granting = record {
          entries = λ q page h. rw (entries_remapped q page) (entry_for-same old new (new.at q page) (entry old q page) (record { place = λ p x e. remaps.place p ∙ e; files = remaps.files })
              (λ private write one. ap (λ t. count_of t (frame_of (entry old q page))) remaps.frames ∙ one) (elim (cases_eq q pid) [
                | inl is ↦ subst (λ (x : ℕ). IsEntryFor old (new.at x page) (entry old x page)) (sym is) (fits page h)
                | inr ne ↦ rw (remaps.others q page ne) (fit.granting.entries q page h)
              ]));
          user = each_map old new pid (IsUserMap mode) (user_map-same mode) remaps.others user fit.granting.user;
          readable = each_map old new pid IsReadableMap readable-same remaps.others readable fit.granting.readable;
          objects = objects;
        };
        places = places_renamed old new fit.places remaps.place remaps.files named remaps.slots shares.cache shares.was_cache;
        dirty = dirty_same old new fit.dirty remaps.place remaps.touched (λ q page h. entries_remapped q page);
      }

  -- a page that has the attributes that it had is seen as before
  view_remapped : (q page : ℕ) → new.at q page ≡ old.at q page → view new q page ≡ view old q page
  view_remapped q page at = view_seated old new q page at (ap seat (entries_remapped q page)) (λ z is. ap (λ t. bytes_in t new.slots z) remaps.frames ∙ ap (λ s. bytes_in old.frames s z) remaps.slots)

  held_remapped : (p : PageKey) → held new p ≡ held old p
  held_remapped p = held_same old new p (remaps.place p) remaps.slots (λ n here. ap (λ t. bytes_of t n) remaps.frames)

-- a row was cleared, and then the process got regions that are new there alone
module _ {mode : ℕ} (old mid new : Picture mode) (pid first pages : ℕ) (map : ℕ → Option Attr) (was : IsRowRemapped old mid pid first pages (old.at pid))
    (remaps : Remaps mid new pid) (at : (page : ℕ) → new.at pid page ≡ map page)
    (others : (page : ℕ) → in_row first pages page ≡ false → map page ≡ old.at pid page) where
  abbrev row : RemapsRow old mid pid first pages (old.at pid)
  row = was.row

  at_mid : (page : ℕ) → in_row first pages page ≡ false → new.at pid page ≡ mid.at pid page
  at_mid page e = at page ∙ others page e ∙ sym (row.at page)

  same_entry : (q page : ℕ) → entry new q page ≡ entry mid q page
  same_entry = entries_remapped mid new pid was.fit remaps

  out_of_row : (page : ℕ) → IsBeside pid first (first + pages) pid page → in_row first pages page ≡ false
  out_of_row page out = elim (cases_Bool (in_row first pages page)) [
    | inr e ↦ e
    | inl e ↦ (let parts = row_parts first pages page e in absurd (not_beside pid first (first + pages) pid page out refl parts.0 parts.1))
  ]

  -- a page beside the row is mapped as it was
  mapped_on : (q page : ℕ) → IsMappedBeside mid pid first (first + pages) q page → IsMapped new q page
  mapped_on q page here = elim (cases_eq q pid) [
    | inr ne ↦ subst (λ (x : Option Attr). IsSome x) (sym (remaps.others q page ne)) here.0
    | inl is ↦ (
        let R : ℕ → Type 0 = λ x. IsSome (new.at x page) in
        let S : Option Attr → Type 0 = λ o. IsSome o in
        subst R (sym is) (subst S (sym (at_mid page (out_of_row page (subst (λ (x : ℕ). IsBeside pid first (first + pages) x page) is here.1)))) (subst (λ (x : ℕ). IsSome (mid.at x page)) is here.0)))
  ]

  -- the pages of all processes are those that are mapped now
  with_new : (q page : ℕ) → new.at q page ≡ with_map old.at pid map q page
  with_new q page = elim (cases_eq q pid) [
    | inl is ↦ rw (eq-eqb q pid is) (ap (λ x. new.at x page) is ∙ at page)
    | inr ne ↦ rw (ne_eqb q pid ne) (remaps.others q page ne ∙ row.others_at q page ne)
  ]

  -- and beside the row they are as they were
  without_more : (q page : ℕ) → (new.at q page ≡ without_maps old.at pid first pages q page) ⊎ (without_maps old.at pid first pages q page ≡ None)
  without_more q page = elim (cases_eq q pid) [
    | inr ne ↦ inl (rw (ne_eqb q pid ne) (remaps.others q page ne ∙ row.others_at q page ne))
    | inl is ↦ elim (cases_Bool (in_row first pages page)) [
      | inl e ↦ inr (rw (eq-eqb q pid is, e) refl)
      | inr e ↦ inl (rw (eq-eqb q pid is, e) (ap (λ x. new.at x page) is ∙ at page ∙ others page e))
    ]
  ]

  fit_row : IsWithoutTables mid pid first (first + pages) → IsUserMap mode map → IsReadableMap map → AreObjects (with_map old.at pid map) → IsFit new
  fit_row none_left user readable objects =
      fit_remapped mid new pid was.fit remaps (user_map-same mode map (new.at pid) at user) (readable-same map (new.at pid) at readable)
      (objects-same (with_map old.at pid map) new.at with_new objects)
      (λ p away. elim (cases_Bool (is_named (without_maps old.at pid first pages) p.object p.page)) [
        | inl is ↦ named-more (without_maps old.at pid first pages) new.at p.object p.page without_more is
        | inr is ↦ absurd (away (was.files.gone p is))
      ])
      (λ page h. elim (cases_Bool (in_row first pages page)) [
        | inl e ↦ Nothing (row.entries page e)
        | inr e ↦ subst (λ (a : Option Attr). IsEntryFor mid a (entry mid pid page)) (sym (at_mid page e)) (was.fit.granting.entries pid page h)
      ])
      (λ m table. used_kept mid mid (IsMappedBeside mid pid first (first + pages)) (IsMapped new) m (λ a i b p. p) (λ q. refl) mapped_on (none_left m table))

  pub row_remapped : IsWithoutTables mid pid first (first + pages) → IsUserMap mode map → IsReadableMap map → AreObjects (with_map old.at pid map)
      → IsRowRemapped old new pid first pages map
  row_remapped none_left user readable objects = record {
    row = record {
      root = λ q. remaps.root q ∙ row.root q;
      at = at;
      others_at = λ q page ne. remaps.others q page ne ∙ row.others_at q page ne;
      entries = λ page e. same_entry pid page ∙ row.entries page e;
      kept = λ page h e. same_entry pid page ∙ row.kept page h e;
      views = λ page. elim (cases_Bool (in_row first pages page)) [
        | inl e ↦ rw e (view-bare new pid page (same_entry pid page ∙ row.entries page e) ∙ ap (option_map plain) (at page))
        | inr e ↦ (let before = rw e at (row.views page) in rw e (view_remapped mid new pid was.fit remaps pid page (at_mid page e) ∙ before))
      ];
      others = λ q page ne. view_remapped mid new pid was.fit remaps q page (remaps.others q page ne) ∙ row.others q page ne;
    };
    others = λ q page h ne. same_entry q page ∙ was.others q page h ne;
    returned = record {
      tables = λ n table. elim (was.returned.tables n table) [
        | inl still ↦ inl (subst (λ (t : FrameTable). IsTable t n) (sym remaps.frames) still)
        | inr gone ↦ inr (ap (λ t. role_of t n) remaps.frames ∙ gone.0, gone.1)
      ];
      free = λ n e. ap (λ t. role_of t n) remaps.frames ∙ was.returned.free n e;
      copies = λ n e. was.returned.copies n (sym (ap (λ t. role_of t n) remaps.frames) ∙ e);
      pointers = λ n i m p. was.returned.pointers n i m (subst (λ (t : FrameTable). Points t n i m) remaps.frames p);
    };
    slots = record {
      total = ap (λ t. t.total) remaps.slots ∙ was.slots.total;
      fewer = λ k. (let e = ap (λ t. t.count k) remaps.slots in let f = was.slots.fewer k in omega (arith, e, f));
      kept = λ k other none. ap (λ t. t.count k) remaps.slots ∙ was.slots.kept k other none;
      bytes = λ k used. ap (λ t. t.bytes k) remaps.slots ∙ was.slots.bytes k (let e = ap (λ t. t.count k) remaps.slots in omega (arith, e, used));
    };
    files = record {
      touched = λ p lasting. remaps.touched p ∙ was.files.touched p lasting;
      place = λ p lasting. remaps.place p ∙ was.files.place p lasting;
      gone = λ p is. remaps.place (Object p) ∙ was.files.gone p is;
      files = λ f. remaps.files f ∙ was.files.files f;
      held = λ p lasting. elim (was.files.held p lasting) [
        | inl same ↦ inl (held_remapped mid new pid was.fit remaps p ∙ same)
        | inr home ↦ inr (held_remapped mid new pid was.fit remaps p ∙ home.0, home.1)
      ];
    };
    fit = fit_row none_left user readable objects;
  }
