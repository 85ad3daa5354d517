-- One entry of a page set: no pointer before, no pointer after.
use Rattle.page_tables.proofs.{Ends.{last_is, way_forth, missing_of-is, last_entry-is, page_entry-same, page_entry-whole}, Names.{◌≡◌, ◌≢◌, ℕ, ◌-◌, ◌<◌, ◌≤◌, ◌⊎◌, inl, inr, false, get_or, refl, sym, ap, ◌∙◌, subst, arith, cases_eq}}
use Rattle.page_tables.proofs.{Names.{false≢true, Free, FrameTable, bytes_of, role_of, SameButFor, entry_at, frame_of, is_pointer, index_of}, Pages.{page_from_fields}, Ways.{EndsAt, ends, only_way, index_of-lt}}
use Rattle.page_tables.specs.{Change.{ChangesEntry, KeepsFrames, SetsEntry}, Entry.{IsSoftware}, Tree.{IsTable, Points, IsForest, IsUnlinked, IsRoot, last_table, last_entry, missing_of, IsPage, Way}}

-- an entry reads the bytes of its frame alone
pub entry_at-bytes : (old new : FrameTable) (n i : ℕ) → bytes_of new n ≡ bytes_of old n → entry_at new n i ≡ entry_at old n i
unfolding entry_at
entry_at-bytes old new n i e = rw e

-- every other entry of every table
pub other_entries : (old new : FrameTable) (n i e : ℕ) → ChangesEntry old new n i e → (a j : ℕ) → j < 512 → (a ≢ n) ⊎ (j ≢ i)
    → entry_at new a j ≡ entry_at old a j
other_entries old new n i e change a j h other = elim (cases_eq a n) [
  | inl here ↦ elim other [
    | inl ne ↦ absurd (ne here)
    | inr ne ↦ (let P : ℕ → Type 0 = λ x. entry_at new x j ≡ entry_at old x j in subst P (sym here) (change.entries j h ne))
  ]
  | inr ne ↦ entry_at-bytes old new a j (change.others.bytes a ne)
]

-- here, or not
pub cases_place : (a j n i : ℕ) → ((a ≡ n) × (j ≡ i)) ⊎ ((a ≢ n) ⊎ (j ≢ i))
cases_place a j n i = elim (cases_eq a n) [ inl e ↦ elim (cases_eq j i) [ inl f ↦ inl (e, f) | inr ne ↦ inr (inr ne) ] | inr ne ↦ inr (inl ne) ]

pub at_place : (t : FrameTable) (a j n i : ℕ) → a ≡ n → j ≡ i → entry_at t a j ≡ entry_at t n i
at_place t a j n i e f = rw (e, f)

pub table_forth : (old new : FrameTable) (n i e : ℕ) → ChangesEntry old new n i e → (m : ℕ) → IsTable old m → IsTable new m
table_forth old new n i e change m table = record { inside = rw change.others.frames table.inside; role = ap (λ rs. get_or rs m Free) change.roles ∙ table.role }

pub table_back : (old new : FrameTable) (n i e : ℕ) → ChangesEntry old new n i e → (m : ℕ) → IsTable new m → IsTable old m
table_back old new n i e change m table = record { inside = rw (← change.others.frames) table.inside; role = ap (λ rs. get_or rs m Free) (sym change.roles) ∙ table.role }

-- an entry that is as it was points where it pointed
pub points_moved : (old new : FrameTable) (a j b : ℕ) → IsTable new a → entry_at new a j ≡ entry_at old a j → Points old a j b → Points new a j b
points_moved old new a j b table same p = record { table = table; index = p.index; pointer = ap is_pointer same ∙ p.pointer; target = ap frame_of same ∙ p.target }

-- a pointer at another place
pub points_forth : (old new : FrameTable) (n i e : ℕ) → ChangesEntry old new n i e → (a j b : ℕ) → (a ≢ n) ⊎ (j ≢ i) → Points old a j b → Points new a j b
points_forth old new n i e change a j b other p =
    points_moved old new a j b (table_forth old new n i e change a p.table) (other_entries old new n i e change a j p.index other) p

pub points_back : (old new : FrameTable) (n i e : ℕ) → ChangesEntry old new n i e → (a j b : ℕ) → (a ≢ n) ⊎ (j ≢ i) → Points new a j b → Points old a j b
points_back old new n i e change a j b other p =
    points_moved new old a j b (table_back old new n i e change a p.table) (sym (other_entries old new n i e change a j p.index other)) p

-- no pointer is there
pub elsewhere : (t : FrameTable) (n i : ℕ) → is_pointer (entry_at t n i) ≡ false → (a j b : ℕ) → Points t a j b → (a ≢ n) ⊎ (j ≢ i)
elsewhere t n i off a j b p = elim (cases_place a j n i) [
  | inl here ↦ absurd (false≢true (sym off ∙ ap is_pointer (sym (at_place t a j n i here.0 here.1)) ∙ p.pointer))
  | inr other ↦ other
]

pub others_turned : (old new : FrameTable) (n : ℕ) → SameButFor n old new → SameButFor n new old
others_turned old new n same = record {
  frames = sym same.frames;
  bytes = λ m ne. sym (same.bytes m ne);
  roles = λ m ne. sym (same.roles m ne);
  counts = λ m ne. sym (same.counts m ne);
}

pub kept_frames : (old new : FrameTable) (n i e : ℕ) → IsTable old n → ChangesEntry old new n i e → KeepsFrames old new
kept_frames old new n i e table change = record {
  frames = change.others.frames;
  roles = change.roles;
  counts = change.counts;
  bytes = λ m role. change.others.bytes m (λ here. role (ap (role_of old) here ∙ table.role));
}

-- no pointer was written to the place: no pointer is new, and all trees are trees
module _ (old new : FrameTable) (n i e : ℕ) (forest : IsForest old) (software : IsSoftware e) (leaf : is_pointer e ≡ false) (change : ChangesEntry old new n i e) where
  pub no_pointer : is_pointer (entry_at new n i) ≡ false
  no_pointer = ap is_pointer change.changed ∙ leaf

  pub not_new : (a j b : ℕ) → Points new a j b → Points old a j b
  not_new a j b p = points_back old new n i e change a j b (elsewhere new n i no_pointer a j b p) p

  pub forest_after : IsForest new
  forest_after = record {
    onto_tables = λ a j b p. table_forth old new n i e change b (forest.onto_tables a j b (not_new a j b p));
    one_way = λ a j b k m p q. forest.one_way a j b k m (not_new a j m p) (not_new b k m q);
    normal = λ a j t h. elim (cases_place a j n i) [
      | inl here ↦ (let P : ℕ → Type 0 = λ x. IsSoftware x in subst P (sym (at_place new a j n i here.0 here.1 ∙ change.changed)) software)
      | inr other ↦ rw (other_entries old new n i e change a j h other) (forest.normal a j (table_back old new n i e change a t) h)
    ];
  }

-- an entry that is no pointer is set where the way to a page ends at table n of the lowest level
pub record Set (old new : FrameTable) (top root page n e : ℕ) : Type 0 where
  pub forest : IsForest old
  pub is_root : IsRoot top old root
  pub whole : missing_of old top root page ≡ 0
  pub last : (last_table old page top root).1 ≡ n
  pub software : IsSoftware e
  pub leaf : is_pointer e ≡ false
  pub change : ChangesEntry old new n (index_of page 0) e

module _ (old new : FrameTable) (top root page n e : ℕ) (x : Set old new top root page n e) where
  level_zero : (last_table old page top root).0 ≡ 0
  level_zero = sym (missing_of-is old top root page) ∙ x.whole

  end : EndsAt old top root page (last_table old page top root).0 (last_table old page top root).1
  end = ends old top root page x.forest x.is_root.table

  table : IsTable old n
  table = let P : ℕ → Type 0 = λ y. IsTable old y in subst P x.last end.table

  way : Way old top root page top n
  way = let P : ℕ → Type 0 = λ y. Way old top root page (top - (last_table old page top root).0) y in
      let all : top - (last_table old page top root).0 ≡ top = omega (arith, level_zero) in
      let Q : ℕ → Type 0 = λ d. Way old top root page d n in
      subst Q all (subst P x.last end.way)

  before : is_pointer (entry_at old n (index_of page 0)) ≡ false
  before =
      let here : last_entry old top root page ≡ entry_at old n (index_of page 0) =
      last_entry-is old top root page ∙ at_place old _ _ n (index_of page 0) x.last (ap (index_of page) level_zero) in
      ap is_pointer (sym here) ∙ x.is_root.flat page x.whole

  after : is_pointer (entry_at new n (index_of page 0)) ≡ false
  after = no_pointer old new n (index_of page 0) e x.forest x.software x.leaf x.change

  forth : (a j b : ℕ) → Points old a j b → Points new a j b
  forth a j b p = points_forth old new n (index_of page 0) e x.change a j b (elsewhere old n (index_of page 0) before a j b p) p

  back : (a j b : ℕ) → Points new a j b → Points old a j b
  back = not_new old new n (index_of page 0) e x.forest x.software x.leaf x.change

  -- the ends of ways stay
  last_same : (r p : ℕ) → IsTable old r → last_table new p top r ≡ last_table old p top r
  last_same r p t =
      let stop = ends old top r p x.forest t in
      let l = last_table old p top r in
      last_is new top r p l.0 l.1 stop.least (way_forth old new forth top r p (top - l.0) l.1 stop.way)
      (λ h. elim (cases_place l.1 (index_of p l.0) n (index_of page 0)) [
        | inl here ↦ ap is_pointer (at_place new _ _ n (index_of page 0) here.0 here.1) ∙ after
        | inr other ↦ ap is_pointer (other_entries old new n (index_of page 0) e x.change l.1 (index_of p l.0) (index_of-lt p l.0) other) ∙ stop.stops h
      ])

  missing_kept : (r p : ℕ) → IsTable old r → missing_of new top r p ≡ missing_of old top r p
  missing_kept r p t = missing_of-is new top r p ∙ ap (λ y. y.0) (last_same r p t) ∙ sym (missing_of-is old top r p)

  -- a way ends at the place, which is the page's own then, or the entry at its end stays
  own_or_not : (r p : ℕ) → IsTable old r → IsUnlinked old r
      → ((r ≡ root) × ((last_table old p top r).0 ≡ 0) × ((k : ℕ) → k ≤ top → index_of p k ≡ index_of page k) × (last_entry new top r p ≡ e)) ⊎ (last_entry new top r p ≡ last_entry old top r p)
  own_or_not r p t unlinked =
      let stop = ends old top r p x.forest t in
      let l = last_table old p top r in
      let now = last_entry-is new top r p ∙ ap (λ y. entry_at new y.1 (index_of p y.0)) (last_same r p t) in
      elim (cases_place l.1 (index_of p l.0) n (index_of page 0)) [
        | inl here ↦ (
            let P : ℕ → Type 0 = λ y. Way old top r p (top - l.0) y in
            let one = only_way old top x.forest r p root page unlinked x.is_root.unlinked (top - l.0) top n (subst P here.0 stop.way) way in
            let zero_level : l.0 ≡ 0 = omega (arith, one.0, stop.least) in
            let fields : (k : ℕ) → k ≤ top → index_of p k ≡ index_of page k = λ k h. elim (cases_eq k 0) [
              | inl e' ↦ (ap (index_of p) (e' ∙ sym zero_level) ∙ here.1 ∙ ap (index_of page) (sym e'))
              | inr ne ↦ (let k_is : top - (top - k) ≡ k = omega arith in ap (index_of p) (sym k_is) ∙ one.2 (top - k) (omega arith) ∙ ap (index_of page) k_is)
            ] in
            inl (one.1, zero_level, fields, now ∙ at_place new _ _ n (index_of page 0) here.0 here.1 ∙ x.change.changed))
        | inr other ↦ inr (now ∙ other_entries old new n (index_of page 0) e x.change l.1 (index_of p l.0) (index_of-lt p l.0) other ∙ sym (last_entry-is old top r p))
      ]

  root_after : (r : ℕ) → IsRoot top old r → IsRoot top new r
  root_after r root' = record {
    table = table_forth old new n (index_of page 0) e x.change r root'.table;
    unlinked = λ a j p. root'.unlinked a j (back a j r p);
    bare = λ p ne. (
        let some : missing_of old top r p ≢ 0 = λ z. ne (missing_kept r p root'.table ∙ z) in
        elim (own_or_not r p root'.table root'.unlinked) [ inl own ↦ absurd (some (missing_of-is old top r p ∙ own.1)) | inr same ↦ same ∙ root'.bare p some ]);
    flat = λ p z. elim (own_or_not r p root'.table root'.unlinked) [
      | inl own ↦ ap is_pointer own.3 ∙ x.leaf
      | inr same ↦ ap is_pointer same ∙ root'.flat p (sym (missing_kept r p root'.table) ∙ z)
    ];
  }

  -- the change undone
  undone : Set new old top root page n (entry_at old n (index_of page 0))
  undone = record {
    forest = forest_after old new n (index_of page 0) e x.forest x.software x.leaf x.change;
    is_root = root_after root x.is_root;
    whole = missing_kept root page x.is_root.table ∙ x.whole;
    last = ap (λ y. y.1) (last_same root page x.is_root.table) ∙ x.last;
    software = x.forest.normal n (index_of page 0) table (index_of-lt page 0);
    leaf = before;
    change = record {
      others = others_turned old new n x.change.others;
      roles = sym x.change.roles;
      counts = sym x.change.counts;
      changed = refl;
      entries = λ j h ne. sym (x.change.entries j h ne);
    };
  }

  made : ((r : ℕ) → IsRoot top new r → IsRoot top old r) → IsPage top page → SetsEntry old new top root page e
  made were_roots small = record {
    kept = kept_frames old new n (index_of page 0) e table x.change;
    forest = undone.forest;
    stays = undone.is_root;
    roots = root_after;
    were_roots = were_roots;
    unlinked = λ m. (λ free a j p. free a j (back a j m p), λ free a j p. free a j (forth a j m p));
    pointers = λ a i b. (forth a i b, back a i b);
    others = λ a i h other. other_entries old new n (index_of page 0) e x.change a i h (let P : ℕ → Type 0 = λ y. (a ≢ y) ⊎ (i ≢ index_of page 0) in subst P x.last other);
    changed = page_entry-whole new top root page undone.whole ∙ last_entry-is new top root page
        ∙ at_place new _ _ n (index_of page 0) undone.last (ap (index_of page) (sym (missing_of-is new top root page) ∙ undone.whole)) ∙ x.change.changed;
    entries = λ r p root' small' differs. page_entry-same old new top r p (missing_kept r p root'.table) (elim (own_or_not r p root'.table root'.unlinked) [
      | inl own ↦ elim differs [ inl other_root ↦ absurd (other_root own.0) | inr other_page ↦ absurd (other_page (page_from_fields top p page small' small own.2)) ]
      | inr same ↦ same
    ]);
    missing = λ r p root'. missing_kept r p root'.table;
    ends = last_same;
  }

pub sets : (old new : FrameTable) (top root page n e : ℕ) → Set old new top root page n e → IsPage top page → SetsEntry old new top root page e
sets old new top root page n e x = made old new top root page n e x (root_after new old top root page n (entry_at old n (index_of page 0)) (undone old new top root page n e x))
