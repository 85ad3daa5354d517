-- A table without entries that one more pointer leads to, read both ways: linked, and unlinked again.
use Rattle.page_tables.proofs.Names.{◌≡◌, ◌≢◌, ℕ, zero, suc, ◌+◌, ◌-◌, ◌<◌, ◌≤◌, ◌⊎◌, inl, inr, true, false, sym, ap, ◌∙◌, subst, arith, cases_eq, FrameTable, entry_at, frame_of, is_pointer, index_of, is_pointer-zero}
use Rattle.page_tables.specs.{Tree.{IsTable, Points, IsForest, IsUnlinked, IsRoot, IsEmptyTable, IsSpare, last_table, last_entry, missing_of, page_entry, Way}, Change.{ChangesEntry, LinksTable}}
use Rattle.page_tables.proofs.{Ways.{EndsAt, ends, only_way, index_of-lt, last_table-stop, last_table-zero}, Ends.{last_is, last_from_way, way_forth, missing_of-is, last_entry-is, page_entry-same, page_entry-whole, page_entry-missing}}
use Rattle.page_tables.proofs.Setting.{other_entries, cases_place, at_place, table_forth, table_back, points_forth, points_back, elsewhere, kept_frames}

-- `big` is `small` with entry i of table n pointing to the empty table m
pub record Linked (small big : FrameTable) (n i m : ℕ) : Type 0 where
  pub less : (a j b : ℕ) → Points small a j b → Points big a j b
  pub tables : (a : ℕ) → IsTable small a → IsTable big a
  pub same : (a j : ℕ) → j < 512 → (a ≢ n) ⊎ (j ≢ i) → entry_at big a j ≡ entry_at small a j
  pub off : is_pointer (entry_at small n i) ≡ false
  pub on : Points big n i m
  pub empty : IsEmptyTable big m

-- a way that ends at that place, or any other
pub record Hits (small big : FrameTable) (top root n i m k r p : ℕ) : Type 0 where
  pub is_root : r ≡ root
  pub in_small : last_table small p top r ≡ (suc k, n)
  pub at : index_of p (suc k) ≡ i
  pub in_big : last_table big p top r ≡ (k, m)

pub record Misses (small big : FrameTable) (top r p : ℕ) : Type 0 where
  pub last : last_table big p top r ≡ last_table small p top r
  pub entry : last_entry big top r p ≡ last_entry small top r p

-- a pair by its parts
pub pair : (a b x y : ℕ) → a ≡ x → b ≡ y → ◌≡◌ {A = ℕ × ℕ} (a, b) (x, y)
pair a b x y e f = rw (e, f)

-- an empty table ends a way
pub empty_last : (t : FrameTable) (page k m : ℕ) → IsEmptyTable t m → last_table t page k m ≡ (k, m)
empty_last t page zero m empty = last_table-zero t page m
empty_last t page (suc k) m empty = last_table-stop t page k m (ap is_pointer (empty (index_of page (suc k)) (index_of-lt page (suc k))) ∙ is_pointer-zero)

module _ (small big : FrameTable) (n i m top root page k : ℕ) (linked : Linked small big n i m) (forest : IsForest small) (forest' : IsForest big)
    (unlinked : IsUnlinked big root) (below : k < top) (way : Way big top root page (top - k) m) where
  pub link_cases : (r p : ℕ) → IsTable small r → IsUnlinked big r → Hits small big top root n i m k r p ⊎ Misses small big top r p
  link_cases r p table free =
      let stop = ends small top r p forest table in
      let l = last_table small p top r in
      let up : Way big top r p (top - l.0) l.1 = way_forth small big linked.less top r p (top - l.0) l.1 stop.way in
      elim (cases_place l.1 (index_of p l.0) n i) [
        | inl here ↦ (
            let W : ℕ → Type 0 = λ x. Way big top r p (top - l.0) x in
            let level : top - (top - l.0) ≡ l.0 = omega (arith, stop.least) in
            let P : ℕ → Type 0 = λ j. Points big n j m in
            let at_i : i ≡ index_of p (top - (top - l.0)) = sym here.1 ∙ ap (index_of p) (sym level) in
            let down : Way big top r p (suc (top - l.0)) m = (n, subst W here.0 up, subst P at_i linked.on) in
            let one = only_way big top forest' r p root page free unlinked (suc (top - l.0)) (top - k) m down way in
            let next : l.0 ≡ suc k = omega (arith, one.0, stop.least) in
            let small_last : l ≡ (suc k, n) = pair l.0 l.1 (suc k) n next here.0 in
            let depth : suc (top - l.0) + k ≡ top = omega (arith, next) in
            inl (record {
              is_root = one.1;
              in_small = small_last;
              at = ap (index_of p) (sym next) ∙ here.1;
              in_big = last_from_way big top r p (suc (top - l.0)) m k depth down ∙ empty_last big p k m linked.empty;
            }))
        | inr other ↦ (
            let same = linked.same l.1 (index_of p l.0) (index_of-lt p l.0) other in
            let last = last_is big top r p l.0 l.1 stop.least up (λ h. ap is_pointer same ∙ stop.stops h) in
            inr (record {
              last = last;
              entry = last_entry-is big top r p ∙ ap (λ x. entry_at big x.1 (index_of p x.0)) last ∙ same ∙ sym (last_entry-is small top r p);
            }))
      ]

  hit_entry : (r p : ℕ) → Hits small big top root n i m k r p → last_entry big top r p ≡ 0
  hit_entry r p hit = last_entry-is big top r p ∙ ap (λ x. entry_at big x.1 (index_of p x.0)) hit.in_big ∙ linked.empty (index_of p k) (index_of-lt p k)

  missing_missed : (r p : ℕ) → Misses small big top r p → missing_of big top r p ≡ missing_of small top r p
  missing_missed r p miss = missing_of-is big top r p ∙ ap (λ x. x.0) miss.last ∙ sym (missing_of-is small top r p)

  -- entries of pages are the same
  pub link_entries : (r p : ℕ) → IsTable small r → IsUnlinked big r → page_entry big top r p ≡ page_entry small top r p
  link_entries r p table free = elim (link_cases r p table free) [
    | inl hit ↦ (
        let absent : missing_of small top r p ≢ 0 = λ e. (let level = sym (ap (λ x. x.0) hit.in_small) ∙ sym (missing_of-is small top r p) ∙ e in absurd (omega arith)) in
        elim (cases_eq (missing_of big top r p) 0) [
          | inl e ↦ page_entry-whole big top r p e ∙ hit_entry r p hit ∙ sym (page_entry-missing small top r p absent)
          | inr ne ↦ page_entry-missing big top r p ne ∙ sym (page_entry-missing small top r p absent)
        ])
    | inr miss ↦ page_entry-same small big top r p (missing_missed r p miss) miss.entry
  ]

  pub missing_other : (r p : ℕ) → r ≢ root → IsTable small r → IsUnlinked big r → missing_of big top r p ≡ missing_of small top r p
  missing_other r p ne table free = elim (link_cases r p table free) [ inl hit ↦ absurd (ne hit.is_root) | inr miss ↦ missing_missed r p miss ]

  -- nowhere more are missing
  pub fewer : (r p : ℕ) → IsTable small r → IsUnlinked big r → missing_of big top r p ≤ missing_of small top r p
  fewer r p table free = elim (link_cases r p table free) [
    | inl hit ↦ (
        let now = missing_of-is big top r p ∙ ap (λ x. x.0) hit.in_big in
        omega (arith, now, missing_of-is small top r p ∙ ap (λ x. x.0) hit.in_small))
    | inr miss ↦ (let same = missing_missed r p miss in omega (arith, same))
  ]

  -- roots of the small are roots of the big, where they aren't the linked table
  pub root_up : (r : ℕ) → IsUnlinked big r → IsRoot top small r → IsRoot top big r
  root_up r free is_root = record {
    table = linked.tables r is_root.table;
    unlinked = free;
    bare = λ p ne. elim (link_cases r p is_root.table free) [
      | inl hit ↦ hit_entry r p hit
      | inr miss ↦ miss.entry ∙ is_root.bare p (λ e. ne (missing_missed r p miss ∙ e))
    ];
    flat = λ p e. elim (link_cases r p is_root.table free) [
      | inl hit ↦ ap is_pointer (hit_entry r p hit) ∙ is_pointer-zero
      | inr miss ↦ ap is_pointer miss.entry ∙ is_root.flat p (sym (missing_missed r p miss) ∙ e)
    ];
  }

  -- and back, where the place is zero without the link
  pub root_down : entry_at small n i ≡ 0 → (r : ℕ) → IsTable small r → IsRoot top big r → IsRoot top small r
  root_down none r table is_root = record {
    table = table;
    unlinked = λ a j p. is_root.unlinked a j (linked.less a j r p);
    bare = λ p ne. elim (link_cases r p table is_root.unlinked) [
      | inl hit ↦ last_entry-is small top r p ∙ ap (λ x. entry_at small x.1 (index_of p x.0)) hit.in_small ∙ ap (entry_at small n) hit.at ∙ none
      | inr miss ↦ sym miss.entry ∙ is_root.bare p (λ e. ne (sym (missing_missed r p miss) ∙ e))
    ];
    flat = λ p e. elim (link_cases r p table is_root.unlinked) [
      | inl hit ↦ absurd (let level = sym (ap (λ x. x.0) hit.in_small) ∙ sym (missing_of-is small top r p) ∙ e in (omega arith))
      | inr miss ↦ ap is_pointer (sym miss.entry) ∙ is_root.flat p (missing_missed r p miss ∙ e)
    ];
  }

-- a table that nothing points to is on no way but its own
off_way : (t : FrameTable) (top root page d n m : ℕ) → IsUnlinked t m → m ≢ root → Way t top root page d n → m ≢ n
off_way t top root page zero n m free ne w e = ne (e ∙ w)
off_way t top root page (suc d) n m free ne w e = free w.0 _ (let P : ℕ → Type 0 = λ x. Points t w.0 (index_of page (top - d)) x in subst P (sym e) w.2)

module _ (old new : FrameTable) (top root page m e : ℕ) (forest : IsForest old) (is_root : IsRoot top old root)
    (lacks : missing_of old top root page ≢ 0) (spare : IsSpare old m) (other_table : m ≢ root)
    (pointer : is_pointer e ≡ true) (target : frame_of e ≡ m)
    (change : ChangesEntry old new (last_table old page top root).1 (index_of page (last_table old page top root).0) e) where
  end : EndsAt old top root page (last_table old page top root).0 (last_table old page top root).1
  end = ends old top root page forest is_root.table

  above : 0 < (last_table old page top root).0
  above = let some : (last_table old page top root).0 ≢ 0 = λ z. lacks (missing_of-is old top root page ∙ z) in omega (arith, some)

  off : is_pointer (entry_at old (last_table old page top root).1 (index_of page (last_table old page top root).0)) ≡ false
  off = end.stops above

  forth : (a j b : ℕ) → Points old a j b → Points new a j b
  forth a j b p = points_forth old new _ _ e change a j b (elsewhere old _ _ off a j b p) p

  on : Points new (last_table old page top root).1 (index_of page (last_table old page top root).0) m
  on = record {
    table = table_forth old new _ _ e change _ end.table;
    index = index_of-lt page _;
    pointer = ap is_pointer change.changed ∙ pointer;
    target = ap frame_of change.changed ∙ target;
  }

  -- the new pointer, or an old one
  back : (a j b : ℕ) → Points new a j b
      → ((a ≡ (last_table old page top root).1) × (j ≡ index_of page (last_table old page top root).0) × (b ≡ m)) ⊎ Points old a j b
  back a j b p = elim (cases_place a j (last_table old page top root).1 (index_of page (last_table old page top root).0)) [
    | inl here ↦ inl (here.0, here.1, sym p.target ∙ ap frame_of (at_place new a j _ _ here.0 here.1 ∙ change.changed) ∙ target)
    | inr other ↦ inr (points_back old new _ _ e change a j b other p)
  ]

  forest_after : IsForest new
  forest_after = record {
    onto_tables = λ a j b p. elim (back a j b p) [
      | inl here ↦ (let P : ℕ → Type 0 = λ x. IsTable new x in subst P (sym here.2) (table_forth old new _ _ e change m spare.table))
      | inr q ↦ table_forth old new _ _ e change b (forest.onto_tables a j b q)
    ];
    one_way = λ a i b j x p q. elim (back a i x p) [
      | inl here ↦ elim (back b j x q) [
        | inl there ↦ (here.0 ∙ sym there.0, here.1 ∙ sym there.1)
        | inr q' ↦ absurd (spare.unlinked b j (let P : ℕ → Type 0 = λ y. Points old b j y in subst P here.2 q'))
      ]
      | inr p' ↦ elim (back b j x q) [
        | inl there ↦ absurd (spare.unlinked a i (let P : ℕ → Type 0 = λ y. Points old a i y in subst P there.2 p'))
        | inr q' ↦ forest.one_way a i b j x p' q'
      ]
    ];
    normal = λ a j t h. elim (cases_place a j (last_table old page top root).1 (index_of page (last_table old page top root).0)) [
      | inl here ↦ inl (ap is_pointer (at_place new a j _ _ here.0 here.1 ∙ change.changed) ∙ pointer)
      | inr other ↦ rw (other_entries old new _ _ e change a j h other) (forest.normal a j (table_back old new _ _ e change a t) h)
    ];
  }

  apart : m ≢ (last_table old page top root).1
  apart = off_way old top root page (top - (last_table old page top root).0) (last_table old page top root).1 m spare.unlinked other_table end.way

  linked : Linked old new (last_table old page top root).1 (index_of page (last_table old page top root).0) m
  linked = record {
    less = forth;
    tables = table_forth old new _ _ e change;
    same = λ a j h other. other_entries old new _ _ e change a j h other;
    off = off;
    on = on;
    empty = λ j h. other_entries old new _ _ e change m j h (inl apart) ∙ spare.empty j h;
  }

  -- what nothing pointed to but the new table
  free_after : (x : ℕ) → x ≢ m → IsUnlinked old x → IsUnlinked new x
  free_after x ne free a j p = elim (back a j x p) [ inl here ↦ ne here.2 | inr q ↦ free a j q ]

  below : (last_table old page top root).0 - 1 < top
  below = omega (arith, above, end.least)

  way : Way new top root page (top - ((last_table old page top root).0 - 1)) m
  way =
      let depth : suc (top - (last_table old page top root).0) ≡ top - ((last_table old page top root).0 - 1) = omega (arith, above, end.least) in
      let here : (last_table old page top root).0 ≡ top - (top - (last_table old page top root).0) = omega (arith, end.least) in
      let P : ℕ → Type 0 = λ j. Points new (last_table old page top root).1 (index_of page j) m in
      let W : ℕ → Type 0 = λ d. Way new top root page d m in
      let step : Way new top root page (suc (top - (last_table old page top root).0)) m =
      ((last_table old page top root).1, way_forth old new forth top root page (top - (last_table old page top root).0) (last_table old page top root).1 end.way, subst P here on) in
      subst W depth step

  bare : entry_at old (last_table old page top root).1 (index_of page (last_table old page top root).0) ≡ 0
  bare = sym (last_entry-is old top root page) ∙ is_root.bare page lacks

  root_free : IsUnlinked new root
  root_free = free_after root (λ z. other_table (sym z)) is_root.unlinked

  last_now : last_table new page top root ≡ ((last_table old page top root).0 - 1, m)
  last_now =
      last_from_way new top root page (top - ((last_table old page top root).0 - 1)) m ((last_table old page top root).0 - 1) (omega (arith, above, end.least)) way
      ∙ empty_last new page ((last_table old page top root).0 - 1) m linked.empty

  pub links : LinksTable old new top root page m
  links = record {
    kept = kept_frames old new _ _ e end.table change;
    forest = forest_after;
    stays = root_up old new _ _ m top root page _ linked forest forest_after root_free below way root root_free is_root;
    roots = λ r ne root'. root_up old new _ _ m top root page _ linked forest forest_after root_free below way r (free_after r ne root'.unlinked) root';
    were_roots = λ r ne root'. root_down old new _ _ m top root page _ linked forest forest_after root_free below way bare r (table_back old new _ _ e change r root'.table) root';
    linked = λ free. free _ _ on;
    unlinked = λ x ne. (free_after x ne, λ free a j p. free a j (forth a j x p));
    pointers = λ a j b ne. (forth a j b, λ p. elim (back a j b p) [ inl here ↦ absurd (ne here.2) | inr q ↦ q ]);
    others = λ a j h ne. other_entries old new _ _ e change a j h (inl ne);
    no_more = λ p. fewer old new _ _ m top root page _ linked forest forest_after root_free below way root p is_root.table root_free;
    ends = ap (λ x. x.1) last_now;
    lowered = (
        omega (arith, missing_of-is new top root page ∙ ap (λ x. x.0) last_now, missing_of-is old top root page, above));
    entries = λ r p ne root'. link_entries old new _ _ m top root page _ linked forest forest_after root_free below way r p root'.table (free_after r ne root'.unlinked);
    missing = λ r p other ne root'. missing_other old new _ _ m top root page _ linked forest forest_after root_free below way r p other root'.table (free_after r ne root'.unlinked);
  }
