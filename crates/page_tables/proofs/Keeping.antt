-- What leaves all trees: changes of frames that are no tables, a table taken, a table without links given back.
use Rattle.page_tables.proofs.Names.{◌≡◌, ◌≢◌, ℕ, inl, inr, refl, sym, ap, ◌∙◌, subst, arith, cases_eq, cases_lt, false≢true, get_or_past, Free, Zero, Table, FrameTable, frame_count, bytes_of, role_of, SameButFor, IsSound, IsFresh, Takes}
use Rattle.page_tables.proofs.Names.{zero_bytes, zero_bytes-at, entry_at, is_pointer, index_of, is_pointer-zero, Result, Ok, Err, IfOk, FrameNo, NoFree}
use Rattle.page_tables.specs.{Entry.{IsSoftware}, declared.forms.Entry.TheVariants.{None}, Tree.{IsTable, Points, IsForest, IsUnlinked, IsRoot, IsEmptyTable, IsSpare, last_entry, missing_of, page_entry}, Change.{AddsTable}}
use Rattle.page_tables.proofs.{Ways.{index_of-lt}, Setting.{entry_at-bytes, others_turned, points_moved}, Ends.{SameTrees, turned, root_same, missing_same, entry_same, last_entry-is}, EmptyBytes.{entries_zero}, Linking.{empty_last}}

-- tables are the same but for one frame that is no table afterwards
pub record KeepsTables (gone : ℕ) (old new : FrameTable) : Type 0 where
  pub tables : (n : ℕ) → n ≢ gone → IsTable old n → IsTable new n
  pub back : (n : ℕ) → IsTable new n → (n ≢ gone) × IsTable old n
  pub bytes : (n : ℕ) → n ≢ gone → IsTable old n → bytes_of new n ≡ bytes_of old n

pub table_moved : (old new : FrameTable) (n m : ℕ) → SameButFor n old new → m ≢ n → IsTable old m → IsTable new m
table_moved old new n m same ne table = record { inside = rw same.frames table.inside; role = same.roles m ne ∙ table.role }

pub table_moved_back : (old new : FrameTable) (n m : ℕ) → SameButFor n old new → m ≢ n → IsTable new m → IsTable old m
table_moved_back old new n m same ne table = record { inside = rw (← same.frames) table.inside; role = sym (same.roles m ne) ∙ table.role }

-- a frame changed, and is no table afterwards: private and cached pages are taken, shared, written and released so
pub keeps_tables : (n : ℕ) (old new : FrameTable) → SameButFor n old new → role_of new n ≢ Table → KeepsTables n old new
keeps_tables n old new same no_table = record {
  tables = λ m ne table. table_moved old new n m same ne table;
  back = λ m table. (
      let ne : m ≢ n = λ e. no_table (ap (role_of new) (sym e) ∙ table.role) in
      (ne, table_moved_back old new n m same ne table));
  bytes = λ m ne table. same.bytes m ne;
}

-- a frame that is no table has no part in any tree
pub not_linked : (t : FrameTable) (n : ℕ) → IsForest t → role_of t n ≢ Table → IsUnlinked t n
not_linked t n forest ne a i p = ne (forest.onto_tables a i n p).role

pub not_linking : (t : FrameTable) (n : ℕ) → role_of t n ≢ Table → (i b : ℕ) → Points t n i b → ⊥
not_linking t n ne i b p = ne p.table.role

-- a table without entries links nothing
pub empty_not_linking : (t : FrameTable) (n : ℕ) → IsEmptyTable t n → (i b : ℕ) → Points t n i b → ⊥
empty_not_linking t n empty i b p = false≢true (sym is_pointer-zero ∙ ap is_pointer (sym (empty i p.index)) ∙ p.pointer)

module _ (gone : ℕ) (old new : FrameTable) (linking : (i b : ℕ) → Points old gone i b → ⊥) (kept : KeepsTables gone old new) where
  entry_kept : (n i : ℕ) → n ≢ gone → IsTable old n → entry_at new n i ≡ entry_at old n i
  entry_kept n i ne table = entry_at-bytes old new n i (kept.bytes n ne table)

  pub same_trees : SameTrees old new
  same_trees = record {
    forth = λ a i b p. (
        let ne : a ≢ gone = λ e. linking i b (let P : ℕ → Type 0 = λ x. Points old x i b in subst P e p) in
        points_moved old new a i b (kept.tables a ne p.table) (entry_kept a i ne p.table) p);
    back = λ a i b p. (let there = kept.back a p.table in points_moved new old a i b there.1 (sym (entry_kept a i there.0 there.1)) p);
    entries = λ n i h table table'. entry_kept n i (kept.back n table').0 table;
  }

  module _ (forest : IsForest old) (unlinked : IsUnlinked old gone) where
    -- all tables are trees as before
    pub forest_kept : IsForest new
    forest_kept = record {
      onto_tables = λ a i b p. (
          let q = same_trees.back a i b p in
          kept.tables b (λ e. unlinked a i (let P : ℕ → Type 0 = λ x. Points old a i x in subst P e q)) (forest.onto_tables a i b q));
      one_way = λ a i b j m p q. forest.one_way a i b j m (same_trees.back a i m p) (same_trees.back b j m q);
      normal = λ n i table h. (
          let there = kept.back n table in
          let P : ℕ → Type 0 = λ x. IsSoftware x in subst P (sym (entry_kept n i there.0 there.1)) (forest.normal n i there.1 h));
    }

    -- every root but that one, with all its pages
    pub root_kept : (top r : ℕ) → r ≢ gone → IsRoot top old r → IsRoot top new r
    root_kept top r ne is_root = root_same old new forest forest_kept same_trees top r (kept.tables r ne is_root.table) is_root

    pub entry_kept_at : (top r p : ℕ) → r ≢ gone → IsRoot top old r → page_entry new top r p ≡ page_entry old top r p
    entry_kept_at top r p ne is_root = entry_same old new forest forest_kept same_trees top r p is_root.table (kept.tables r ne is_root.table)

    pub missing_kept_at : (top r p : ℕ) → r ≢ gone → IsRoot top old r → missing_of new top r p ≡ missing_of old top r p
    missing_kept_at top r p ne is_root = missing_same old new forest forest_kept same_trees top r p is_root.table (kept.tables r ne is_root.table)

-- a table of zeros has no entry
pub zeros_empty : (t : FrameTable) (n : ℕ) → bytes_of t n ≡ zero_bytes → IsEmptyTable t n
zeros_empty t n zeros = entries_zero t n (λ k _. rw zeros (zero_bytes-at k))

-- a table that was taken: all trees are as before, and it is in none of them
module _ (old new : FrameTable) (n : ℕ) (forest : IsForest old) (takes : Takes old new Table n) where
  was : role_of old n ≢ Table
  was e = let bad : Free ≡ Table = sym takes.was_free ∙ e in (cc)

  empty_now : IsEmptyTable new n
  empty_now = zeros_empty new n takes.zeros

  turned_kept : KeepsTables n new old
  turned_kept = keeps_tables n new old (others_turned old new n takes.others) was

  pub same_taken : SameTrees old new
  same_taken = turned new old (same_trees n new old (empty_not_linking new n empty_now) turned_kept)

  table_taken : (m : ℕ) → IsTable old m → IsTable new m
  table_taken m table = (turned_kept.back m table).1

  forest_taken : IsForest new
  forest_taken = record {
    onto_tables = λ a i b p. table_taken b (forest.onto_tables a i b (same_taken.back a i b p));
    one_way = λ a i b j m p q. forest.one_way a i b j m (same_taken.back a i m p) (same_taken.back b j m q);
    normal = λ m i table h. elim (cases_eq m n) [
      | inl e ↦ (let P : ℕ → Type 0 = λ x. IsSoftware (entry_at new x i) in let Q : ℕ → Type 0 = λ x. IsSoftware x in
          subst P (sym e) (subst Q (sym (empty_now i h)) (inr (record { entry = None; form = tt; is = refl }))))
      | inr ne ↦ rw (entry_at-bytes old new m i (takes.others.bytes m ne)) (forest.normal m i (turned_kept.tables m ne table) h)
    ];
  }

  spare_taken : IsSpare new n
  spare_taken = record {
    table = record { inside = rw takes.others.frames takes.inside; role = takes.kind_set };
    unlinked = λ a i p. was (forest.onto_tables a i n (same_taken.back a i n p)).role;
    empty = empty_now;
  }

-- a table without entries and links begins a tree of its own, in which nothing stands
pub spare_root : (top : ℕ) (t : FrameTable) (n : ℕ) → IsSpare t n → IsRoot top t n
spare_root top t n spare =
    let last : (p : ℕ) → last_entry t top n p ≡ 0 = λ p. last_entry-is t top n p ∙ ap (λ x. entry_at t x.1 (index_of p x.0)) (empty_last t p top n spare.empty)
    ∙ spare.empty (index_of p top) (index_of-lt p top) in
    record { table = spare.table; unlinked = spare.unlinked; bare = λ p ne. last p; flat = λ p e. ap is_pointer (last p) ∙ is_pointer-zero }

-- no table, no tree
pub no_tables : (t : FrameTable) → ((n : ℕ) → role_of t n ≢ Table) → IsForest t
no_tables t none = record {
  onto_tables = λ n i m p. absurd (none n p.table.role);
  one_way = λ a i b j m p q. absurd (none a p.table.role);
  normal = λ n i table h. absurd (none n table.role);
}

-- a table taken by the call on frames
pub adds_table : (old new : FrameTable) (top n : ℕ) → IsForest old → Takes old new Table n → AddsTable old new top n
adds_table old new top n forest takes =
    let forest' = forest_taken old new n forest takes in
    let trees = same_taken old new n forest takes in
    let tables = table_taken old new n forest takes in
    record {
      takes = takes;
      forest = forest';
      spare = spare_taken old new n forest takes;
      root = spare_root top new n (spare_taken old new n forest takes);
      apart = λ m table e. was old new n forest takes (ap (role_of old) (sym e) ∙ table.role);
      roots = λ r is_root. root_same old new forest forest' trees top r (tables r is_root.table) is_root;
      were_roots = λ r ne is_root. root_same new old forest' forest (turned old new trees) top r ((turned_kept old new n forest takes).tables r ne is_root.table) is_root;
      unlinked = λ m. (λ free a i p. free a i (trees.back a i m p), λ free a i p. free a i (trees.forth a i m p));
      entries = λ r p is_root. entry_same old new forest forest' trees top r p is_root.table (tables r is_root.table);
      missing = λ r p is_root. missing_same old new forest forest' trees top r p is_root.table (tables r is_root.table);
    }

-- memory as it is made holds no table
pub fresh_forest : (t : FrameTable) (count : ℕ) → IsSound t → IsFresh t count → IsForest t
fresh_forest t count sound fresh = no_tables t (λ n. elim (cases_lt n (frame_count t)) [
  | inl inside ↦ elim (cases_eq n 0) [
    | inl e ↦ (λ r. (let bad : Zero ≡ Table = sym sound.zero_role ∙ ap (role_of t) (sym e) ∙ r in (cc)))
    | inr ne ↦ (λ r. (let bad : Free ≡ Table = sym (fresh.free n (omega arith) inside) ∙ r in (cc)))
  ]
  | inr past ↦ (λ r. (let bad : Free ≡ Table = sym (get_or_past t.roles n Free (omega (arith, sound.all_roles))) ∙ r in (cc)))
])

-- the same of the call's result
pub if_taken : (result : Result FrameNo NoFree) (old new : FrameTable) → IsForest old → IfOk result (λ n. Takes old new Table n.0)
    → IfOk result (λ n. (top : ℕ) → AddsTable old new top n.0)
if_taken (Ok n) old new forest takes = λ top. adds_table old new top n.0 forest takes
if_taken (Err e) old new forest takes = tt
