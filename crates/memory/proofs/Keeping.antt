-- Which changes of memory leave a leaf where it was.
use Rattle.memory.proofs.Names.{◌≡◌, ◌≢◌, ℕ, zero, suc, ◌-◌, ◌<◌, ◌⊎◌, inl, inr, Some, None, Result, Ok, Err, get_or, refl, sym, ap, ◌∙◌, subst, arith, cases_eq, false≢true, same_Some, IfOk, OnErr, FrameNo, NoFree, top_level, Role, Free}
use Rattle.memory.proofs.Names.{Table, FrameTable, frame_count, role_of, SameButFor, Takes, is_pointer, entry_at, frame_of, index_of, is_pointer-zero, IsTable, Points, IsForest, IsRoot, IsSpare, IsUnlinked, Way, last_table}
use Rattle.memory.proofs.Names.{page_entry, SetsEntry, LinksTable, Prunes, ends, index_of-lt, only_way, way_forth, empty_not_linking, table_moved, table_moved_back, zeros_empty, cases_place, entry_at-bytes, points_moved, sizes}
use Rattle.disk_model.specs.Tally.{Tally}
use Rattle.memory.proofs.Names.{◌^◌, min, arith}
use Rattle.memory.{specs.{declared.buffer.TranslationBuffer.{TranslationBuffer}, Lines.{AreHits, line_at, line_place}, Kept.{IsLeafOf, LinesAreLeaves}, Notes.{IsNumberOf}}, proofs.Leaves.{as_leaf, as_number, is_page, root_table, is_entry, of_entry}}
pub use Rattle.page_tables.proofs.Data.{free_is_no_table, released_role}

-- the same way, over tables still, to the same number
pub number_moved : (mode : ℕ) (old new : FrameTable) (root page number : ℕ) (l : IsNumberOf mode old root page number) → IsUnlinked new root
    → Way new (top_level mode) root page (top_level mode) l.lowest → IsTable new l.lowest
    → entry_at new l.lowest (index_of page 0) ≡ entry_at old l.lowest (index_of page 0) → IsNumberOf mode new root page number
number_moved mode old new root page number l unlinked way table entry =
    record { lowest = l.lowest; inside = l.inside; unlinked = unlinked; way = way; table = table; here = entry ∙ l.here; some = l.some }

-- or to the same leaf
carried : (mode : ℕ) (old new : FrameTable) (root page leaf : ℕ) (l : IsLeafOf mode old root page leaf) → frame_count new ≡ frame_count old → IsUnlinked new root
    → Way new (top_level mode) root page (top_level mode) l.lowest → IsTable new l.lowest
    → entry_at new l.lowest (index_of page 0) ≡ entry_at old l.lowest (index_of page 0) → IsLeafOf mode new root page leaf
carried mode old new root page leaf l frames unlinked way table entry =
    let T : ℕ → Type 0 = λ n. frame_of leaf < n in
    as_leaf mode new root page leaf (number_moved mode old new root page leaf (as_number mode old root page leaf l) unlinked way table entry) l.valid (subst T (sym frames) l.target)

-- where every pointer stays, so does the way
stays_on : (mode : ℕ) (old new : FrameTable) (root page leaf : ℕ) (l : IsLeafOf mode old root page leaf) → ((a i b : ℕ) → Points old a i b → Points new a i b)
    → Way new (top_level mode) root page (top_level mode) l.lowest
stays_on mode old new root page leaf l forth = way_forth old new forth (top_level mode) root page (top_level mode) l.lowest l.way

-- a way that isn't empty begins with a pointer of its root
first_pointer : (t : FrameTable) (top root page d n : ℕ) → Way t top root page d n → 0 < d → (x : ℕ) × (y : ℕ) × Points t root x y
first_pointer t top root page zero n w some = absurd (omega arith)
first_pointer t top root page (suc zero) n w some = (index_of page (top - 0), n, subst (λ (z : ℕ). Points t z (index_of page (top - 0)) n) w.1 w.2)
first_pointer t top root page (suc (suc d)) n w some = first_pointer t top root page (suc d) w.0 w.1 (omega arith)

-- One frame changed, which had no entry if it was a table, and which points nowhere afterwards.
module _ (old new : FrameTable) (n : ℕ) (same : SameButFor n old new) (idle : (i : ℕ) → i < 512 → IsTable old n → entry_at old n i ≡ 0)
    (silent : (i m : ℕ) → Points new n i m → ⊥) where
  apart : (m i : ℕ) → i < 512 → IsTable old m → entry_at old m i ≢ 0 → m ≢ n
  apart m i h table some e = some (ap (λ (x : ℕ). entry_at old x i) e ∙ idle i h (subst (λ (x : ℕ). IsTable old x) e table))

  pointed : (m i k : ℕ) → Points old m i k → entry_at old m i ≢ 0
  pointed m i k p z = false≢true (sym is_pointer-zero ∙ ap is_pointer (sym z) ∙ p.pointer)

  points_stay : (m i k : ℕ) → Points old m i k → Points new m i k
  points_stay m i k p =
      let ne : m ≢ n = apart m i p.index p.table (pointed m i k p) in
      points_moved old new m i k (table_moved old new n m same ne p.table) (entry_at-bytes old new m i (same.bytes m ne)) p

  points_back : (m i k : ℕ) → Points new m i k → Points old m i k
  points_back m i k p =
      let ne : m ≢ n = λ e. silent i k (let P : ℕ → Type 0 = λ x. Points new x i k in subst P e p) in
      points_moved new old m i k (table_moved_back old new n m same ne p.table) (sym (entry_at-bytes old new m i (same.bytes m ne))) p

  -- each number that is there stays
  pub number_stays : (mode root page number : ℕ) → IsNumberOf mode old root page number → IsNumberOf mode new root page number
  number_stays mode root page number l =
      let ne : l.lowest ≢ n = apart l.lowest (index_of page 0) (index_of-lt page 0) l.table (λ z. l.some (sym l.here ∙ z)) in
      number_moved mode old new root page number l (λ a i p. l.unlinked a i (points_back a i root p))
      (way_forth old new points_stay (top_level mode) root page (top_level mode) l.lowest l.way)
      (table_moved old new n l.lowest same ne l.table) (entry_at-bytes old new l.lowest (index_of page 0) (same.bytes l.lowest ne))

  -- and so does each leaf
  pub leaf_stays : (mode root page leaf : ℕ) → IsLeafOf mode old root page leaf → IsLeafOf mode new root page leaf
  leaf_stays mode root page leaf l =
      let T : ℕ → Type 0 = λ n. frame_of leaf < n in
      as_leaf mode new root page leaf (number_stays mode root page leaf (as_number mode old root page leaf l)) l.valid (subst T (sym same.frames) l.target)

-- a frame changed that is no table, before or afterwards
pub data_leaf : (old new : FrameTable) (n : ℕ) → SameButFor n old new → role_of old n ≢ Table → role_of new n ≢ Table
    → (mode root page leaf : ℕ) → IsLeafOf mode old root page leaf → IsLeafOf mode new root page leaf
data_leaf old new n same before after = leaf_stays old new n same (λ i h table. absurd (before table.role)) (λ i m p. after p.table.role)

-- a frame that was taken is filled with zeros, so if it is a table now it points nowhere
pub taken_leaf : (old new : FrameTable) (n : ℕ) (kind : Role) → Takes old new kind n
    → (mode root page leaf : ℕ) → IsLeafOf mode old root page leaf → IsLeafOf mode new root page leaf
taken_leaf old new n kind takes =
    leaf_stays old new n takes.others (λ i h table. absurd (free_is_no_table (role_of old n) takes.was_free table.role))
    (empty_not_linking new n (zeros_empty new n takes.zeros))

-- a table without entries that was given back
pub dropped_leaf : (old new : FrameTable) (n : ℕ) → SameButFor n old new → IsSpare old n → role_of new n ≡ Free
    → (mode root page leaf : ℕ) → IsLeafOf mode old root page leaf → IsLeafOf mode new root page leaf
dropped_leaf old new n same spare gone = leaf_stays old new n same (λ i h table. spare.empty i h) (λ i m p. free_is_no_table (role_of new n) gone p.table.role)

-- pointers on a way stay, so the way does
pub way_along : (old new : FrameTable) (top r p : ℕ) → ((x d k : ℕ) → Way old top r p d x → Points old x (index_of p (top - d)) k → Points new x (index_of p (top - d)) k)
    → (d n : ℕ) → Way old top r p d n → Way new top r p d n
way_along old new top r p points zero n w = w
way_along old new top r p points (suc d) n w = (w.0, way_along old new top r p points d w.0 w.1, points w.0 d n w.1 w.2)

pub is_table : (old new : FrameTable) (n : ℕ) → frame_count new ≡ frame_count old → new.roles ≡ old.roles → IsTable old n → IsTable new n
is_table old new n frames roles table = record { inside = rw frames table.inside; role = ap (λ rs. get_or rs n Free) roles ∙ table.role }

-- A change in the tree of one root: the leaves of other roots hang on tables that are not in it.
module _ (mode : ℕ) (old new : FrameTable) (root : ℕ) (forest : IsForest old) (is_root : IsRoot (top_level mode) old root) where
  pub not_below : (r p : ℕ) → IsUnlinked old r → r ≢ root → (x d : ℕ) → Way old (top_level mode) r p d x → (q d' : ℕ) → Way old (top_level mode) root q d' x → ⊥
  not_below r p unlinked ne x d w q d' w' = ne (only_way old (top_level mode) forest r p root q unlinked is_root.unlinked d d' x w w').1

  pub not_last : (r p : ℕ) → IsUnlinked old r → r ≢ root → (x d : ℕ) → Way old (top_level mode) r p d x → (q : ℕ) → x ≢ (last_table old q (top_level mode) root).1
  not_last r p unlinked ne x d w q same =
      let end = ends old (top_level mode) root q forest is_root.table in
      let d' : ℕ = top_level mode - (last_table old q (top_level mode) root).0 in
      not_below r p unlinked ne x d w q d' (subst (λ (z : ℕ). Way old (top_level mode) root q d' z) (sym same) end.way)

  pub own : (r : ℕ) → r ≡ root → IsRoot (top_level mode) old r
  own r same = let R : ℕ → Type 0 = λ x. IsRoot (top_level mode) old x in subst R (sym same) is_root

  own_leaf : (r p e : ℕ) → IsForest new → IsRoot (top_level mode) new r → frame_count new ≡ frame_count old
      → page_entry new (top_level mode) r p ≡ page_entry old (top_level mode) r p → IsLeafOf mode old r p e → IsLeafOf mode new r p e
  own_leaf r p e forest' now frames entry l =
      of_entry mode new r p e forest' now l.inside (entry ∙ is_entry mode old r p e l) l.valid (subst (λ (n : ℕ). frame_of e < n) (sym frames) l.target)

  -- the entry of a page was set
  pub set_leaf : (q number : ℕ) → SetsEntry old new (top_level mode) root q number → (r p e : ℕ) → IsLeafOf mode old r p e → (r ≢ root) ⊎ (p ≢ q) → IsLeafOf mode new r p e
  set_leaf q number sets r p e l other = elim (cases_eq r root) [
    | inl same ↦ (let here = own r same in own_leaf r p e sets.forest (sets.roots r here) sets.kept.frames (sets.entries r p here (is_page mode p l.inside) other) l)
    | inr ne ↦ carried mode old new r p e l sets.kept.frames ((sets.unlinked r).0 l.unlinked) (stays_on mode old new r p e l (λ a i b. (sets.pointers a i b).0))
        (is_table old new l.lowest sets.kept.frames sets.kept.roles l.table)
        (sets.others l.lowest (index_of p 0) (index_of-lt p 0) (inl (not_last r p l.unlinked ne l.lowest (top_level mode) l.way q)))
  ]

  -- a table was linked
  pub linked_leaf : (q table : ℕ) → LinksTable old new (top_level mode) root q table → IsSpare old table → table ≢ root → (r p e : ℕ) → IsLeafOf mode old r p e → IsLeafOf mode new r p e
  linked_leaf q table links spare apart_ r p e l = elim (cases_eq r root) [
    | inl same ↦ (
        let here = own r same in
        let ne : r ≢ table = λ z. apart_ (sym z ∙ same) in
        own_leaf r p e links.forest (links.roots r ne here) links.kept.frames (links.entries r p ne here) l)
    | inr other ↦ (
        let some : 0 < top_level mode = omega (arith, (sizes mode).levels) in
        let first = first_pointer old (top_level mode) r p (top_level mode) l.lowest l.way some in
        let ne : r ≢ table = λ z. empty_not_linking old table spare.empty first.0 first.1 (subst (λ (x : ℕ). Points old x first.0 first.1) z first.2) in
        let forth : (a i b : ℕ) → Points old a i b → Points new a i b = λ a i b points.
        (links.pointers a i b (λ z. spare.unlinked a i (subst (λ (x : ℕ). Points old a i x) z points))).0 points in
        carried mode old new r p e l links.kept.frames ((links.unlinked r ne).0 l.unlinked) (stays_on mode old new r p e l forth)
        (is_table old new l.lowest links.kept.frames links.kept.roles l.table)
        (links.others l.lowest (index_of p 0) (index_of-lt p 0) (not_last r p l.unlinked other l.lowest (top_level mode) l.way q)))
  ]

  -- tables without entries were released
  pub pruned_leaf : (q : ℕ) → Prunes old new (top_level mode) root q → (r p e : ℕ) → IsLeafOf mode old r p e → IsLeafOf mode new r p e
  pruned_leaf q prunes r p e l = elim (cases_eq r root) [
    | inl same ↦ (let here = own r same in own_leaf r p e prunes.forest (prunes.roots r here) prunes.kept.frames (prunes.entries r p here) l)
    | inr ne ↦ (
        let stays : (x d : ℕ) → Way old (top_level mode) r p d x → IsTable old x → IsTable new x = λ x d w table. elim (prunes.gone x table) [
          | inl there ↦ there
          | inr gone ↦ absurd (not_below r p l.unlinked ne x d w q (suc gone.1.0) gone.1.2)
        ] in
        let entries : (x d : ℕ) → Way old (top_level mode) r p d x → IsTable new x → (i : ℕ) → i < 512 → entry_at new x i ≡ entry_at old x i = λ x d w table.
        elim (prunes.others x table) [ inl on ↦ absurd (not_below r p l.unlinked ne x d w q _ on.2) | inr same ↦ same ] in
        let points : (x d k : ℕ) → Way old (top_level mode) r p d x → Points old x (index_of p (top_level mode - d)) k → Points new x (index_of p (top_level mode - d)) k =
        λ x d k w old_points.
        let table = stays x d w old_points.table in
        points_moved old new x _ k table (entries x d w table _ old_points.index) old_points in
        let way : (d n : ℕ) → Way old (top_level mode) r p d n → Way new (top_level mode) r p d n = λ d n w. way_along old new (top_level mode) r p points d n w in
        let lowest = stays l.lowest (top_level mode) l.way l.table in
        let here = stays r 0 refl (root_table old (top_level mode) r p (top_level mode) l.lowest l.way l.table) in
        carried mode old new r p e l prunes.kept.frames ((prunes.unlinked r here).0 l.unlinked) (way (top_level mode) l.lowest l.way) lowest
        (entries l.lowest (top_level mode) l.way lowest (index_of p 0) (index_of-lt p 0)))
  ]

-- lines that stay, or go, where all leaves stay
pub kept_by : (mode : ℕ) (old new : FrameTable) (b b' : TranslationBuffer) → ((r p e : ℕ) → line_at b' r p ≡ Some e → line_at b r p ≡ Some e)
    → ((r p e : ℕ) → IsLeafOf mode old r p e → IsLeafOf mode new r p e) → LinesAreLeaves mode old b → LinesAreLeaves mode new b'
kept_by mode old new b b' fewer leaf kept = record { leaves = λ r p e at. leaf r p e (kept.leaves r p e (fewer r p e at)) }

-- no line is new
pub no_more : (b : TranslationBuffer) (r p e : ℕ) → line_at b r p ≡ Some e → line_at b r p ≡ Some e
no_more b r p e at = at

line_here : (b : TranslationBuffer) (r p root q : ℕ) → r ≡ root → p ≡ q → line_at b root q ≡ line_at b r p
line_here b r p root q e f = rw (e, f)

-- the lines are leaves where that of one page is, and those of all others are
kept_but : (mode : ℕ) (t : FrameTable) (b : TranslationBuffer) (root q : ℕ) → ((e : ℕ) → line_at b root q ≡ Some e → IsLeafOf mode t root q e)
    → ((r p e : ℕ) → (r ≢ root) ⊎ (p ≢ q) → line_at b r p ≡ Some e → IsLeafOf mode t r p e) → LinesAreLeaves mode t b
kept_but mode t b root q one others = record {
  leaves = λ r p e at. elim (cases_place r p root q) [
    | inl here ↦ rw (here.0, here.1) (one e (line_here b r p root q here.0 here.1 ∙ at))
    | inr other ↦ others r p e other at
  ];
}

-- a page's entry was set, and its line is gone
pub kept_set : (mode : ℕ) (old new : FrameTable) (root q number : ℕ) (b b' : TranslationBuffer) → IsForest old → IsRoot (top_level mode) old root → SetsEntry old new (top_level mode) root q number
    → line_at b' root q ≡ None → ((r p e : ℕ) → line_at b' r p ≡ Some e → line_at b r p ≡ Some e) → LinesAreLeaves mode old b → LinesAreLeaves mode new b'
kept_set mode old new root q number b b' forest is_root sets gone fewer kept =
    kept_but mode new b' root q (λ e at. (let bad = sym gone ∙ at in (cc)))
    (λ r p e other at. set_leaf mode old new root forest is_root q number sets r p e (kept.leaves r p e (fewer r p e at)) other)

-- where the line of one page alone is dropped
pub fewer_page : (b b' : TranslationBuffer) (root q : ℕ) → line_at b' root q ≡ None
    → ((r p : ℕ) → (r ≢ root) ⊎ (p ≢ q) → line_at b' r p ≡ line_at b r p) → (r p e : ℕ) → line_at b' r p ≡ Some e → line_at b r p ≡ Some e
fewer_page b b' root q gone others r p e at = elim (cases_place r p root q) [
  | inl here ↦ (let bad = sym gone ∙ line_here b' r p root q here.0 here.1 ∙ at in (cc))
  | inr other ↦ sym (others r p other) ∙ at
]

-- where that of one place is
pub fewer_place : (b b' : TranslationBuffer) (place : ℕ) → ((r p : ℕ) → line_place p ≡ place → line_at b' r p ≡ None)
    → ((r p : ℕ) → line_place p ≢ place → line_at b' r p ≡ line_at b r p) → (r p e : ℕ) → line_at b' r p ≡ Some e → line_at b r p ≡ Some e
fewer_place b b' place gone others r p e at = elim (cases_eq (line_place p) place) [
  | inl same ↦ (let bad = sym (gone r p same) ∙ at in (cc))
  | inr ne ↦ sym (others r p ne) ∙ at
]

-- a leaf is kept
pub kept_more : (mode : ℕ) (t : FrameTable) (b b' : TranslationBuffer) (root q leaf : ℕ) → IsLeafOf mode t root q leaf → line_at b' root q ≡ Some leaf
    → ((r p : ℕ) → line_place p ≡ line_place q → (r ≢ root) ⊎ (p ≢ q) → line_at b' r p ≡ None)
    → ((r p : ℕ) → line_place p ≢ line_place q → line_at b' r p ≡ line_at b r p) → LinesAreLeaves mode t b → LinesAreLeaves mode t b'
kept_more mode t b b' root q leaf l now replaced others kept =
    kept_but mode t b' root q (λ e at. rw (← (same_Some leaf e (sym now ∙ at))) l) (λ r p e other at. elim (cases_eq (line_place p) (line_place q)) [
      | inl same ↦ (let bad = sym (replaced r p same other) ∙ at in (cc))
      | inr ne ↦ kept.leaves r p e (sym (others r p ne) ∙ at)
    ])

-- a page's entry was set to a leaf, which is kept in place of what its place had
pub kept_new : (mode : ℕ) (old new : FrameTable) (b b' : TranslationBuffer) (root q leaf : ℕ) → IsForest old → IsRoot (top_level mode) old root
    → SetsEntry old new (top_level mode) root q leaf → IsLeafOf mode new root q leaf → line_at b' root q ≡ Some leaf
    → ((r p : ℕ) → line_place p ≡ line_place q → (r ≢ root) ⊎ (p ≢ q) → line_at b' r p ≡ None)
    → ((r p : ℕ) → line_place p ≢ line_place q → line_at b' r p ≡ line_at b r p) → LinesAreLeaves mode old b → LinesAreLeaves mode new b'
kept_new mode old new b b' root q leaf forest is_root sets l now replaced others kept =
    kept_but mode new b' root q (λ e at. rw (← (same_Some leaf e (sym now ∙ at))) l) (λ r p e other at. elim (cases_eq (line_place p) (line_place q)) [
      | inl same ↦ (let bad = sym (replaced r p same other) ∙ at in (cc))
      | inr ne ↦ set_leaf mode old new root forest is_root q leaf sets r p e (kept.leaves r p e (sym (others r p ne) ∙ at)) other
    ])

-- a frame was taken, or none
pub kept_taken : (mode : ℕ) (old new : FrameTable) (b : TranslationBuffer) (kind : Role) (r : Result FrameNo NoFree) → LinesAreLeaves mode old b
    → IfOk r (λ n. Takes old new kind n.0) → OnErr r (new ≡ old) → LinesAreLeaves mode new b
kept_taken mode old new b kind (Ok n) kept taken err = kept_by mode old new b b (no_more b) (taken_leaf old new n.0 kind taken mode) kept
kept_taken mode old new b kind (Err e) kept taken err = subst (λ (t : FrameTable). LinesAreLeaves mode t b) (sym err) kept

-- a frame was changed, and no line is left if it is a table
pub kept_data : (mode : ℕ) (old new : FrameTable) (n : ℕ) (b b' : TranslationBuffer)
    → ((r p e : ℕ) → line_at b' r p ≡ Some e → (line_at b r p ≡ Some e) × (role_of old n ≢ Table))
    → (role_of old n ≢ Table → (r p e : ℕ) → IsLeafOf mode old r p e → IsLeafOf mode new r p e) → LinesAreLeaves mode old b → LinesAreLeaves mode new b'
kept_data mode old new n b b' fewer leaf kept = record { leaves = λ r p e at. let left = fewer r p e at in leaf left.1 r p e (kept.leaves r p e left.0) }

-- no look found a line
pub still_counted : {hits : ℕ} (b b' : TranslationBuffer) → AreHits hits b → b'.found ≡ b.found → AreHits hits b'
still_counted b b' is same = is ∙ ap (λ (t : Tally). min t.number (2 ^ 64 - 1)) (sym same)
