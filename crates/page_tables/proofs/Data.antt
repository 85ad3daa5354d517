-- What leaves all trees: frames that are no tables, however they are taken, shared, written and given back. And a
-- table without entries that is given back, which leaves all trees but its own.
use Rattle.page_tables.proofs.Names.{◌≡◌, ◌≢◌, ℕ, inl, inr, ◌<◌, List, get_or, sym, ap, ◌∙◌, arith, cases_eq, ◌↔◌, Role, Free, Table, FrameTable, role_of, count_of, SameButFor, Shares, Releases, with_bytes, with_bytes-others}
use Rattle.page_tables.specs.Tree.{IsTable, IsForest, IsUnlinked, IsRoot, IsSpare, missing_of, page_entry}
use Rattle.page_tables.proofs.{Ends.{SameTrees, turned, root_same, missing_same, entry_same}, Keeping.{keeps_tables, not_linked, not_linking, empty_not_linking, same_trees, forest_kept}}

-- all trees are as they were
pub record KeepsTrees (old new : FrameTable) (top : ℕ) : Type 0 where
  pub forest : IsForest new
  pub same : SameTrees old new
  pub tables : (n : ℕ) → IsTable old n ↔ IsTable new n
  pub unlinked : (n : ℕ) → IsUnlinked old n ↔ IsUnlinked new n
  pub roots : (r : ℕ) → IsRoot top old r → IsRoot top new r
  pub were_roots : (r : ℕ) → IsRoot top new r → IsRoot top old r
  pub entries : (r p : ℕ) → IsRoot top old r → page_entry new top r p ≡ page_entry old top r p
  pub missing : (r p : ℕ) → IsRoot top old r → missing_of new top r p ≡ missing_of old top r p

-- all trees but that of one root are as they were, and it is gone
pub record DropsTree (old new : FrameTable) (top root : ℕ) : Type 0 where
  pub forest : IsForest new
  pub same : SameTrees old new
  pub gone : role_of new root ≡ Free
  pub tables : (n : ℕ) → n ≢ root → IsTable old n ↔ IsTable new n
  pub unlinked : (n : ℕ) → IsUnlinked old n ↔ IsUnlinked new n
  pub roots : (r : ℕ) → r ≢ root → IsRoot top old r → IsRoot top new r
  pub were_roots : (r : ℕ) → r ≢ root → IsRoot top new r → IsRoot top old r
  pub entries : (r p : ℕ) → r ≢ root → IsRoot top old r → page_entry new top r p ≡ page_entry old top r p
  pub missing : (r p : ℕ) → r ≢ root → IsRoot top old r → missing_of new top r p ≡ missing_of old top r p

-- a frame changed that is no table, before or afterwards
pub data_changed : (old new : FrameTable) (top n : ℕ) → IsForest old → SameButFor n old new → role_of old n ≢ Table → role_of new n ≢ Table
    → KeepsTrees old new top
data_changed old new top n forest same before after =
    let kept = keeps_tables n old new same after in
    let free = not_linked old n forest before in
    let linking = not_linking old n before in
    let forest' = forest_kept n old new linking kept forest free in
    let trees = same_trees n old new linking kept in
    let forth : (m : ℕ) → IsTable old m → IsTable new m = λ m table. kept.tables m (λ e. before (ap (role_of old) (sym e) ∙ table.role)) table in
    let back : (m : ℕ) → IsTable new m → IsTable old m = λ m table. (kept.back m table).1 in
    record {
      forest = forest';
      same = trees;
      tables = λ m. (forth m, back m);
      unlinked = λ m. (λ free a i p. free a i (trees.back a i m p), λ free a i p. free a i (trees.forth a i m p));
      roots = λ r is_root. root_same old new forest forest' trees top r (forth r is_root.table) is_root;
      were_roots = λ r is_root. root_same new old forest' forest (turned old new trees) top r (back r is_root.table) is_root;
      entries = λ r p is_root. entry_same old new forest forest' trees top r p is_root.table (forth r is_root.table);
      missing = λ r p is_root. missing_same old new forest forest' trees top r p is_root.table (forth r is_root.table);
    }

pub free_is_no_table : (r : Role) → r ≡ Free → r ≢ Table
free_is_no_table r e f = let bad : Free ≡ Table = sym e ∙ f in (cc)

-- one more shares a frame
pub data_shared : (old new : FrameTable) (top n : ℕ) → IsForest old → Shares old new n → role_of old n ≢ Table → KeepsTrees old new top
data_shared old new top n forest shares other =
    data_changed old new top n forest shares.others other (λ e. other (ap (λ rs. get_or rs n Free) (sym shares.roles_kept) ∙ e))

-- a frame of data that was given back is no table
pub released_role : (old new : FrameTable) (n : ℕ) → Releases old new n → role_of old n ≢ Table → role_of new n ≢ Table
released_role old new n releases other = elim (cases_eq (count_of old n) 1) [
  | inl one ↦ free_is_no_table (role_of new n) (releases.freed one)
  | inr more ↦ (
      let shared : 1 < count_of old n = omega (arith, releases.lowered, more) in
      λ e. other (ap (λ rs. get_or rs n Free) (sym (releases.role_kept shared)) ∙ e))
]

-- one less shares a frame
pub data_released : (old new : FrameTable) (top n : ℕ) → IsForest old → Releases old new n → role_of old n ≢ Table → KeepsTrees old new top
data_released old new top n forest releases other = data_changed old new top n forest releases.others other (released_role old new n releases other)

-- bytes of a frame written
pub data_written : (t : FrameTable) (top n : ℕ) (w : List ℕ) → IsForest t → role_of t n ≢ Table → KeepsTrees t (with_bytes t n w) top
data_written t top n w forest other = data_changed t (with_bytes t n w) top n forest (with_bytes-others t n w) other other

-- a root without entries given back
pub root_released : (old new : FrameTable) (top n : ℕ) → IsForest old → IsSpare old n → SameButFor n old new → role_of new n ≡ Free
    → DropsTree old new top n
root_released old new top n forest spare same gone =
    let kept = keeps_tables n old new same (free_is_no_table (role_of new n) gone) in
    let linking = empty_not_linking old n spare.empty in
    let forest' = forest_kept n old new linking kept forest spare.unlinked in
    let trees = same_trees n old new linking kept in
    record {
      forest = forest';
      same = trees;
      gone = gone;
      tables = λ m ne. (λ table. kept.tables m ne table, λ table. (kept.back m table).1);
      unlinked = λ m. (λ free a i p. free a i (trees.back a i m p), λ free a i p. free a i (trees.forth a i m p));
      roots = λ r ne is_root. root_same old new forest forest' trees top r (kept.tables r ne is_root.table) is_root;
      were_roots = λ r ne is_root. root_same new old forest' forest (turned old new trees) top r (kept.back r is_root.table).1 is_root;
      entries = λ r p ne is_root. entry_same old new forest forest' trees top r p is_root.table (kept.tables r ne is_root.table);
      missing = λ r p ne is_root. missing_same old new forest forest' trees top r p is_root.table (kept.tables r ne is_root.table);
    }
