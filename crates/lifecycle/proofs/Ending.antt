-- A process goes of which no page has an entry or a table.
use Rattle.vm_types.specs.declared.mode.Levels as Levels
use Rattle.lifecycle.proofs.{Keeping.{live_same}, Names.{user_end, top_level, ObjectPage, Object, Attr, names, is_named, in_row, ◌≡◌, ◌≢◌, ℕ, zero, suc, inl, inr, ◌⊎◌, ◌≤◌, ◌<◌, ◌^◌, Option, Some, None, true, refl, sym, ap, ◌∙◌}}
use Rattle.lifecycle.proofs.Names.{subst, arith, eq-eqb, ne_eqb, cases_eq, cases_Bool, false≢true, is_some, IsSome, user_pages_fit, sizes, Home, Ghosts, Role, Free, Table, Private, Cache, FrameTable, bytes_of, role_of, entry_at, is_pointer}
use Rattle.lifecycle.proofs.Names.{frame_of, index_of, IsPage, IsTable, Points, IsSpare, Way, IsBelowRoot, last_table, missing_of, cases_bool, only_way, way_forth, missing_of-is, last_entry-is, root_field, SlotTable, IsReady, Core, Seat}
use Rattle.lifecycle.proofs.Names.{seat, Picture, picture_of, view, bytes_in, IsOwned, IsFit, IsUsed, AsRoot, OnWay, Exits, KeepsFiles, entries_left, fit_left, view-none, view_seated, held_same, cases_attr, bytes_same, ready_released}
use Rattle.lifecycle.{proofs.Names.{one_some, row_out, named-imp, IsRowRemapped, KeepsNamed, without_maps, KeepsDevices, KeepsEntriesOfOthers, LosesSlots, IsMappedBeside, IsWithoutTables, last_at-stop}, specs.Changes.{RemovesProcess}}
use Rattle.{lifecycle.specs.Changes.{FreesTables, TakesNoFrame}, std.specs.Prelude.{◌*◌}}

-- a table of a process that no longer has tables for its pages is its root, or another process's
module _ {mode : ℕ} (c : Picture mode) (pid r : ℕ) (fit : IsFit c) (root : c.root pid ≡ Some r) (bare : IsWithoutTables c pid 0 (user_end mode)) where
  -- a way that leads to the table begins at the root of another process
  used_apart : (m : ℕ) → IsUsed c (IsMappedBeside c pid 0 (user_end mode)) m
      → ((q : ℕ) × (c.root q ≡ Some m)) ⊎ ((q : ℕ) × (x : ℕ) × (page : ℕ) × (q ≢ pid) × (c.root q ≡ Some x) × IsBelowRoot c.frames (top_level mode) x page m)
  used_apart m (AsRoot q is) = inl (q, is)
  used_apart m (OnWay q x page is here below) = elim here.1 [
    | inl ne ↦ inr (q, x, page, ne, is, below)
    | inr side ↦ absurd (elim side [
      | inl low ↦ omega (arith, low)
      | inr past ↦ (let user = ((fit.granting.user q).user_pages page here.0).1 in omega (arith, past, user))
    ])
  ]

  other_root : (q x : ℕ) → q ≢ pid → c.root q ≡ Some x → x ≢ r
  other_root q x ne is e = ne (fit.rooted.apart q pid r (is ∙ ap (λ y. Some y) e) root)

  -- no pointer is left in the root
  no_pointer : (i m : ℕ) → Points c.frames r i m → ⊥
  no_pointer i m p = elim (used_apart m (bare m (fit.rooted.forest.onto_tables r i m p))) [
    | inl is ↦ (fit.rooted.roots is.0 m is.1).unlinked r i p
    | inr on ↦ (
        let q = on.0 in
        let x = on.1 in
        let page = on.2 in
        let below = on.5 in
        let one = fit.rooted.forest.one_way below.2.0 _ r i m below.2.2 p in
        let way : Way c.frames (top_level mode) x page below.0 r = subst (λ (y : ℕ). Way c.frames (top_level mode) x page below.0 y) one.0 below.2.1 in
        let ends = only_way c.frames (top_level mode) fit.rooted.forest x page r page (fit.rooted.roots q x on.4).unlinked (fit.rooted.roots pid r root).unlinked below.0 0 r way refl in
        other_root q x on.3 on.4 ends.1)
  ]

  -- so it has no entry
  pub spare_root : IsSpare c.frames r
  spare_root =
      let is_root = fit.rooted.roots pid r root in
      record {
        table = is_root.table;
        unlinked = is_root.unlinked;
        empty = λ i h. elim (cases_bool (is_pointer (entry_at c.frames r i))) [
          | inl pointer ↦ absurd (no_pointer i (frame_of (entry_at c.frames r i)) (record { table = is_root.table; index = h; pointer = pointer; target = refl }))
          | inr stop ↦ (
              let p = i * 512 ^ top_level mode in
              let high = (sizes mode).levels.0 in
              let at : index_of p (top_level mode) ≡ i = root_field (top_level mode) i h in
              let last : last_table c.frames p (top_level mode) r ≡ (top_level mode, r) =
              last_at-stop c.frames p (top_level mode) r (omega (arith, high)) (ap (λ j. is_pointer (entry_at c.frames r j)) at ∙ stop) in
              let missing : missing_of c.frames (top_level mode) r p ≡ top_level mode = missing_of-is c.frames (top_level mode) r p ∙ ap (λ x. x.0) last in
              ap (entry_at c.frames r) (sym at) ∙ sym (last_entry-is c.frames (top_level mode) r p ∙ ap (λ x. entry_at c.frames x.1 (index_of p x.0)) last)
              ∙ is_root.bare p (λ none. (omega (arith, missing, none, high))))
        ];
      }

-- the way back to the tables as they were
module _ (mode : ℕ) where
  way_back : (old new : FrameTable) → ((a i b : ℕ) → Points new a i b → Points old a i b) → (r page d n : ℕ) → Way new (top_level mode) r page d n → Way old (top_level mode) r page d n
  way_back old new back r page d n way = way_forth new old back (top_level mode) r page d n way

-- frames of two roles are two
other_frame : (t : FrameTable) (n m : ℕ) (r s : Role) → role_of t n ≡ r → r ≢ s → role_of t m ≡ s → m ≢ n
other_frame t n m r s here ne there e = ne (sym here ∙ ap (role_of t) (sym e) ∙ there)

-- a process went whose root had no entry
module _ {mode : ℕ} (old new : Picture mode) (pid r : ℕ) (fit : IsFit old) (exits : Exits old new pid r) where
  bytes_kept : (n : ℕ) (kind : Role) → role_of old.frames n ≡ kind → Table ≢ kind → bytes_of new.frames n ≡ bytes_of old.frames n
  bytes_kept n kind is ne = exits.frames.bytes n (other_frame old.frames r n Table kind exits.spare.table.role ne is)

  seat_bytes : (z : Seat) → IsOwned old z → bytes_in new.frames new.slots z ≡ bytes_in old.frames old.slots z
  seat_bytes = bytes_same old new exits.slots (λ n is. bytes_kept n Private is (λ e. (cc)))

  others_seen : (q page : ℕ) → q ≢ pid → view new q page ≡ view old q page
  others_seen q page ne = elim (cases_attr (old.at q page)) [
    | inl none ↦ view-none new q page (exits.at q page ne ∙ none) ∙ sym (view-none old q page none)
    | inr some ↦ (
        let h : IsPage (top_level mode) page = omega (arith, ((fit.granting.user q).user_pages page some).1, user_pages_fit mode) in
        view_seated old new q page (exits.at q page ne) (ap seat (entries_left old new pid r fit exits q page))
        (λ z is. seat_bytes z (fit.counted.1.named q page z h is)))
  ]

  pub process_removed : RemovesProcess old new pid
  process_removed = record {
    gone = ap is_some exits.gone;
    pages = λ page. view-none new pid page (exits.unmapped page);
    others_live = λ q ne. live_same old new q (exits.others q ne);
    others = others_seen;
  }

  pub files_ended : KeepsFiles old new
  files_ended = record {
    held = λ p. inl (held_same old new p (exits.place p) exits.slots (λ m at. bytes_kept m Cache (fit.places.cached p m at) (λ e. (cc))));
    touched = exits.touched;
    files = exits.files;
  }

-- a process went of which no table but its root was left
pub none_taken_ended : {mode : ℕ} (first old new : Picture mode) (pid r : ℕ) → Exits old new pid r → TakesNoFrame first.frames old.frames → TakesNoFrame first.frames new.frames
none_taken_ended first old new pid r exits before n = elim (cases_eq n r) [
  | inl is ↦ inr (ap (role_of new.frames) is ∙ exits.free)
  | inr ne ↦ elim (before n) [ inl same ↦ inl (exits.frames.roles n ne ∙ same) | inr free ↦ inr (exits.frames.roles n ne ∙ free) ]
]

-- what exit leaves
module _ {mode : ℕ} where
  pub record IsEnded (old new : Picture mode) (pid : ℕ) : Type 0 where
    pub fit : IsFit new
    pub removed : RemovesProcess old new pid
    pub others : KeepsEntriesOfOthers old new pid
    pub tables : FreesTables old new pid
    pub slots : LosesSlots old new pid 0 (user_end mode)
    pub files : KeepsNamed (without_maps old.at pid 0 (user_end mode)) old new

-- All pages of a process were cleared, and then it was removed.
module _ {mode : ℕ} (first old new : Picture mode) (pid r : ℕ) (begun : IsFit first) (was : IsRowRemapped first old pid 0 (user_end mode) (first.at pid))
    (bare : IsWithoutTables old pid 0 (user_end mode)) (exits : Exits old new pid r) where
  -- what others name is named still
  named_left : (p : ObjectPage) → old.place (Object p) ≢ Home → is_named new.at p.object p.page ≡ true
  named_left p away = elim (cases_Bool (is_named (without_maps first.at pid 0 (user_end mode)) p.object p.page)) [
    | inr none ↦ absurd (away (was.files.gone p none))
    | inl is ↦ named-imp (without_maps first.at pid 0 (user_end mode)) new.at p.object p.page (λ q k here. elim (cases_eq q pid) [
      | inr ne ↦ ap (λ a. names a p.object p.page) (exits.at q k ne ∙ was.row.others_at q k ne) ∙ (let was : names (first.at q k) p.object p.page ≡ true = rw (ne_eqb q pid ne) at here in was)
      | inl e ↦ absurd (none_beyond p q k e here)
    ]) is
  ] where
    none_beyond : (p : ObjectPage) (q k : ℕ) → q ≡ pid → names (without_maps first.at pid 0 (user_end mode) q k) p.object p.page ≡ true → ⊥
    none_beyond p q k e here = elim (cases_Bool (in_row 0 (user_end mode) k)) [
      | inl inside ↦ (let bad : names None p.object p.page ≡ true = rw (eq-eqb q pid e, inside) at here in false≢true bad)
      | inr out ↦ (
          let was : names (first.at pid k) p.object p.page ≡ true = rw (eq-eqb q pid e, out) at here in
          let high = row_out 0 (user_end mode) k out in
          unmapped_named p (first.at pid k) was (λ some. (let low = ((begun.granting.user pid).user_pages k some).1 in elim high [ inl below ↦ omega (arith, below) | inr past ↦ omega (arith, past, low) ])))
    ] where
      unmapped_named : (p : ObjectPage) (a : Option Attr) → names a p.object p.page ≡ true → (IsSome a → ⊥) → ⊥
      unmapped_named p None is none = false≢true is
      unmapped_named p (Some a) is none = none refl

  was_root : first.root pid ≡ Some r
  was_root = sym (was.row.root pid) ∙ exits.lived

  -- a table on the way from its root to one of its pages is no table any more
  below_gone : (page d n : ℕ) → Way first.frames (top_level mode) r page (suc d) n → IsTable old.frames n → ⊥
  below_gone page d n way table = elim (used_apart old pid r was.fit exits.lived bare n (bare n table)) [
    | inl is ↦ (begun.rooted.roots is.0 n (sym (was.row.root is.0) ∙ is.1)).unlinked way.0 _ way.2
    | inr on ↦ (
        let q = on.0 in
        let x = on.1 in
        let below = on.5 in
        let lived : first.root q ≡ Some x = sym (was.row.root q) ∙ on.4 in
        let there = way_back mode first.frames old.frames was.returned.pointers x on.2 (suc below.0) n below.2 in
        let ends = only_way first.frames (top_level mode) begun.rooted.forest x on.2 r page (begun.rooted.roots q x lived).unlinked (begun.rooted.roots pid r was_root).unlinked (suc below.0) (suc d) n there way in
        other_root old pid r was.fit exits.lived bare q x on.3 on.4 ends.1)
  ]

  role_same : (m : ℕ) → m ≢ r → role_of new.frames m ≡ role_of old.frames m
  role_same = exits.frames.roles

  free_kept : (n : ℕ) → role_of old.frames n ≡ Free → role_of new.frames n ≡ Free
  free_kept n e = elim (cases_eq n r) [ inl is ↦ ap (role_of new.frames) is ∙ exits.free | inr ne ↦ role_same n ne ∙ e ]

  own_freed : (page d n : ℕ) → Way first.frames (top_level mode) r page d n → role_of new.frames n ≡ Free
  own_freed page zero n way = ap (role_of new.frames) way ∙ exits.free
  own_freed page (suc d) n way = free_kept n (elim (was.returned.tables n (begun.rooted.forest.onto_tables way.0 _ n way.2)) [
    | inl still ↦ absurd (below_gone page d n way still)
    | inr back ↦ back.0
  ])

  pub ended : IsEnded first new pid
  ended =
      let left = process_removed old new pid r was.fit exits in
      record {
        fit = fit_left old new pid r was.fit exits named_left;
        removed = record {
          gone = left.gone;
          pages = left.pages;
          others_live = λ q ne. left.others_live q ne ∙ live_same first old q (was.row.root q);
          others = λ q page ne. left.others q page ne ∙ was.row.others q page ne;
        };
        others = λ q page h ne. entries_left old new pid r was.fit exits q page ∙ was.others q page h ne;
        tables = record {
          own = λ x page n e on. (own_freed page on.0 n (subst (λ (y : ℕ). Way first.frames (top_level mode) y page on.0 n) (one_some x r (sym e ∙ was_root)) on.2));
          others = λ n table. elim (was.returned.tables n table) [
            | inr back ↦ (let under = back.1.3 in inr (back.1.0, back.1.1, back.1.2, (suc under.0, (omega (arith, under.1)), under.2)))
            | inl still ↦ elim (cases_eq n r) [
              | inl is ↦ inr (r, 0, was_root, (0, (omega arith), is))
              | inr ne ↦ inl (record { inside = rw exits.frames.frames still.inside; role = role_same n ne ∙ still.role })
            ]
          ];
          free = λ n e. free_kept n (was.returned.free n e);
        };
        slots = record {
          total = ap (λ t. t.total) exits.slots ∙ was.slots.total;
          fewer = subst (λ (t : SlotTable). (k : ℕ) → t.count k ≤ first.slots.count k) (sym exits.slots) was.slots.fewer;
          kept = λ k none no_object. ap (λ t. t.count k) exits.slots ∙ was.slots.kept k (λ page h least below. none page h least (omega (arith, below))) no_object;
          bytes = subst (λ (t : SlotTable). (k : ℕ) → 0 < t.count k → t.bytes k ≡ first.slots.bytes k) (sym exits.slots) was.slots.bytes;
        };
        files = record {
          touched = λ p lasting. exits.touched p ∙ was.files.touched p lasting;
          place = λ p lasting. exits.place p ∙ was.files.place p lasting;
          gone = λ p none. exits.place (Object p) ∙ was.files.gone p none;
          files = λ f. exits.files f ∙ was.files.files f;
          held = λ p lasting. elim (was.files.held p lasting) [
            | inl same ↦ elim ((files_ended old new pid r was.fit exits).held p) [
              | inl now ↦ inl (now ∙ same)
              | inr home ↦ inr (home.0, sym (was.files.touched p lasting) ∙ home.1)
            ]
            | inr home ↦ elim ((files_ended old new pid r was.fit exits).held p) [ inl now ↦ inr (now ∙ home.0, home.1) | inr gone ↦ inr (gone.0, home.1) ]
          ];
        };
      }

module _ {M : Type 0} {m : Levels.Ghosts M} {D E : Type 0} (h : Ghosts E) where
  -- swap that was ready is, after a process went
  pub ready_ended : (old new : Core D E M m) (pid low high : ℕ) → KeepsDevices old new → LosesSlots (picture_of old) (picture_of new) pid low high → IsReady h old.swap → IsReady h new.swap
  ready_ended old new pid low high devices slots ready = ready_released h old.swap old.swap new.swap refl devices.pages slots.total ready
