-- A process goes.
use Rattle.residency.proofs.Names.{top_level, ObjectPage, Object, is_named, Attr, true, ◌≡◌, ◌≢◌, ℕ, zero, suc, inl, inr, Option, Some, None, refl, sym, ap, ◌∙◌, subst, arith, cases_eq, false≢true, same_Some, IsSome, sizes, Free, Table}
use Rattle.residency.proofs.Names.{FrameTable, role_of, frame_of, Points, Way, IsEmptyTable, IsSpare, missing_of, page_entry, DropsTree, root_released, way_forth, missing_of-is, page_entry-missing, empty_last, empty_not_linking, Home}
use Rattle.residency.specs.{Seats.{InFrame, seat}, Picture.{Picture, entry, is_data}, Parts.{IsRootedBut, IsUsed, AsRoot, OnWay, IsMapped, Nothing, IsFit, nowhere}, Steps.{KeepsShares, Exits}}
use Rattle.residency.proofs.{Entries.{entry-of, entry-same}, Granting.{entry_for-same, user_map-same, readable-same}, Moves.{counted_kept, shares_but}, Places.{objects-fewer, places_renamed, dirty_same}, Start.{entry-dead}}

-- no way leads on from a root without entries
no_way : (mode : ℕ) (t : FrameTable) (root page depth n : ℕ) → IsEmptyTable t root → Way t (top_level mode) root page (suc depth) n → ⊥
no_way mode t root page zero n empty way = let P : ℕ → Type 0 = λ x. Points t x _ n in empty_not_linking t root empty _ n (subst P way.1 way.2)
no_way mode t root page (suc depth) n empty way = no_way mode t root page depth way.0 empty way.1

-- nothing stands in a tree of which the root has no entry
spare_entry : (mode : ℕ) (t : FrameTable) (n page : ℕ) → IsSpare t n → page_entry t (top_level mode) n page ≡ 0
spare_entry mode t n page spare =
    let level : missing_of t (top_level mode) n page ≡ top_level mode = missing_of-is t (top_level mode) n page ∙ ap (λ x. x.0) (empty_last t page (top_level mode) n spare.empty) in
    page_entry-missing t (top_level mode) n page (λ none. (omega (arith, level, none, (sizes mode).levels)))

module _ {mode : ℕ} (old new : Picture mode) (pid r : ℕ) (fit : IsFit old) (exits : Exits old new pid r) where
  drops : DropsTree old.frames new.frames (top_level mode) r
  drops = root_released old.frames new.frames (top_level mode) r fit.rooted.forest exits.spare exits.frames exits.free

  shares_dropped : KeepsShares old.frames new.frames
  shares_dropped = shares_but old.frames new.frames r exits.frames (ap is_data exits.spare.table.role) (ap is_data exits.free)

  other_root : (q x : ℕ) → q ≢ pid → old.root q ≡ Some x → x ≢ r
  other_root q x ne e is = ne (fit.rooted.apart q pid r (e ∙ ap (λ y. Some y) is) exits.lived)

  pub entries_left : (q page : ℕ) → entry new q page ≡ entry old q page
  entries_left q page = elim (cases_eq q pid) [
    | inl is ↦ rw is (entry-dead new pid page exits.gone ∙ sym (entry-of old pid r page exits.lived ∙ spare_entry mode old.frames r page exits.spare))
    | inr ne ↦ entry-same old new q page (exits.others q ne) (λ x e. drops.entries x page (other_root q x ne e) (fit.rooted.roots q x e))
  ]

  was_root : (q x : ℕ) → new.root q ≡ Some x → (q ≢ pid) × (old.root q ≡ Some x)
  was_root q x e = let ne : q ≢ pid = λ is. (let bad : None ≡ Some x = sym exits.gone ∙ ap new.root (sym is) ∙ e in (cc)) in (ne, sym (exits.others q ne) ∙ e)

  -- a table that stays is used by another process
  used_left : (m : ℕ) → m ≢ r → IsUsed old (IsMapped old) m → IsUsed new (IsMapped new) m
  used_left m ne (AsRoot q is) = AsRoot q (exits.others q (λ e. ne (same_Some m r (sym is ∙ ap old.root e ∙ exits.lived))) ∙ is)
  used_left m ne (OnWay q x page is here below) =
      let other : q ≢ pid = λ e. (
      let same : x ≡ r = same_Some x r (sym is ∙ ap old.root e ∙ exits.lived) in
      let P : ℕ → Type 0 = λ y. Way old.frames (top_level mode) y page (suc below.0) m in
      no_way mode old.frames r page below.0 m exits.spare.empty (subst P same below.2)) in
      let Q : Option Attr → Type 0 = λ y. IsSome y in
      OnWay q x page (exits.others q other ∙ is) (subst Q (sym (exits.at q page other)) here)
      (below.0, below.1, way_forth old.frames new.frames drops.same.forth (top_level mode) x page (suc below.0) m below.2)

  rooted_left : IsRootedBut new 0
  rooted_left = record {
    forest = drops.forest;
    roots = λ q x e. (let was = was_root q x e in drops.roots x (other_root q x was.0 was.1) (fit.rooted.roots q x was.1));
    apart = λ p q x e f. fit.rooted.apart p q x (was_root p x e).1 (was_root q x f).1;
    numbers = λ q x e. fit.rooted.numbers q x (was_root q x e).1;
    used = λ m table. (
        let ne : m ≢ r = λ is. (let bad : Free ≡ Table = sym exits.free ∙ ap (role_of new.frames) (sym is) ∙ table.role in (cc)) in
        elim (fit.rooted.used m ((drops.tables m ne).1 table)) [ inl z ↦ inl z | inr o ↦ inr (used_left m ne o) ]);
  }

  pub fit_left : ((p : ObjectPage) → old.place (Object p) ≢ Home → is_named new.at p.object p.page ≡ true) → IsFit new
  fit_left named = record {
    counted = counted_kept old new shares_dropped exits.slots exits.page_of exits.place nowhere 0 (λ q p h. ap seat (entries_left q p)) fit.counted;
    rooted = rooted_left;
    granting = record {
      entries = λ q page h. elim (cases_eq q pid) [
        | inl is ↦ Nothing (ap (λ x. entry new x page) is ∙ entry-dead new pid page exits.gone)
        | inr ne ↦ (
            let there = entry_for-same old new (old.at q page) (entry old q page) (record { place = λ p x e. exits.place p ∙ e; files = exits.files })
            (λ private write one. shares_dropped.counts (frame_of (entry old q page)) (fit.counted.1.named q page (InFrame (frame_of (entry old q page))) h (rw private refl)) ∙ one)
            (fit.granting.entries q page h) in
            rw (exits.at q page ne, entries_left q page) there)
      ];
      user = λ q. elim (cases_eq q pid) [
        | inl is ↦ record {
          user_pages = λ page some. absurd (false≢true (let P : Option Attr → Type 0 = λ x. IsSome x in subst P (ap (λ x. new.at x page) is ∙ exits.unmapped page) some));
          file_pages = λ page. (let none : new.at q page ≡ None = ap (λ x. new.at x page) is ∙ exits.unmapped page in rw none tt);
        }
        | inr ne ↦ user_map-same mode (old.at q) (new.at q) (λ page. exits.at q page ne) (fit.granting.user q)
      ];
      readable = λ q. elim (cases_eq q pid) [
        | inl is ↦ (λ page. (let none : new.at q page ≡ None = ap (λ x. new.at x page) is ∙ exits.unmapped page in rw none tt))
        | inr ne ↦ readable-same (old.at q) (new.at q) (λ page. exits.at q page ne) (fit.granting.readable q)
      ];
      objects = objects-fewer old.at new.at (λ q page. elim (cases_eq q pid) [
        | inl is ↦ inr (ap (λ x. new.at x page) is ∙ exits.unmapped page)
        | inr ne ↦ inl (exits.at q page ne)
      ]) fit.granting.objects;
    };
    places = places_renamed old new fit.places exits.place exits.files named exits.slots shares_dropped.cache shares_dropped.was_cache;
    dirty = dirty_same old new fit.dirty exits.place exits.touched (λ q page h. entries_left q page);
  }
