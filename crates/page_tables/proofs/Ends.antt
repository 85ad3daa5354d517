-- Where ways end, and what they have in common in two memories.
use Rattle.page_tables.proofs.Names.{◌≡◌, ◌≢◌, ℕ, zero, suc, ◌+◌, ◌-◌, ◌<◌, ◌≤◌, ◌⊎◌, inl, inr, true, false, refl, sym, ap, ◌∙◌, subst, arith, ne_eqb, cases_eq, false≢true, FrameTable, entry_at, frame_of, has_bit, is_pointer, is_valid}
use Rattle.page_tables.{proofs.{Names.{index_of}, Ways.{cases_bool, ends, index_of-lt, last_at-stop, last_table-next, last_table-stop, last_table-zero}}, specs.{Entry.{IsPageEntry}, Tree.{IsTable, Points, EndsWay, IsForest, IsRoot}}}
use Rattle.page_tables.specs.{Tree.{last_table, last_entry, missing_of, page_entry, Way}, declared.forms.Entry.TheVariants.{None}}

-- the way from a table on the way
pub last_from_way : (t : FrameTable) (top root page d n level : ℕ) → d + level ≡ top → Way t top root page d n
    → last_table t page top root ≡ last_table t page level n
last_from_way t top root page zero n level e w = let all : level ≡ top = omega arith in rw (all, w)
last_from_way t top root page (suc d) n level e w =
    let here : top - d ≡ suc level = omega arith in
    let step = rw here at w.2 in
    last_from_way t top root page d w.0 (suc level) (omega arith) w.1
    ∙ last_table-next t page level w.0 step.pointer ∙ ap (last_table t page level) step.target

-- a way that stops
pub last_is : (t : FrameTable) (top root page level n : ℕ) → level ≤ top → Way t top root page (top - level) n
    → (0 < level → is_pointer (entry_at t n (index_of page level)) ≡ false) → last_table t page top root ≡ (level, n)
last_is t top root page zero n least w stops = last_from_way t top root page (top - 0) n 0 (omega arith) w ∙ last_table-zero t page n
last_is t top root page (suc level) n least w stops =
    last_from_way t top root page (top - suc level) n (suc level) (omega arith) w ∙ last_table-stop t page level n (stops (omega arith))

pub way_forth : (old new : FrameTable) → ((a i b : ℕ) → Points old a i b → Points new a i b)
    → (top root page d n : ℕ) → Way old top root page d n → Way new top root page d n
way_forth old new forth top root page zero n w = w
way_forth old new forth top root page (suc d) n w = (w.0, way_forth old new forth top root page d w.0 w.1, forth _ _ _ w.2)

-- the words of contracts by the end of the way
pub missing_of-is : (t : FrameTable) (top root page : ℕ) → missing_of t top root page ≡ (last_table t page top root).0
unfolding missing_of
missing_of-is t top root page = refl

pub last_entry-is : (t : FrameTable) (top root page : ℕ)
    → last_entry t top root page ≡ entry_at t (last_table t page top root).1 (index_of page (last_table t page top root).0)
unfolding last_entry
last_entry-is t top root page = refl

pub page_entry-whole : (t : FrameTable) (top root page : ℕ) → missing_of t top root page ≡ 0 → page_entry t top root page ≡ last_entry t top root page
unfolding page_entry
page_entry-whole t top root page e = rw e

pub page_entry-missing : (t : FrameTable) (top root page : ℕ) → missing_of t top root page ≢ 0 → page_entry t top root page ≡ 0
unfolding page_entry
page_entry-missing t top root page ne = rw (ne_eqb _ 0 ne)

-- equal ends and equal last entries make equal entries
pub page_entry-same : (old new : FrameTable) (top root page : ℕ) → missing_of new top root page ≡ missing_of old top root page
    → last_entry new top root page ≡ last_entry old top root page → page_entry new top root page ≡ page_entry old top root page
unfolding page_entry
page_entry-same old new top root page m e = rw (m, e)

-- two memories with the same pointers and, in the tables of both, the same entries
pub record SameTrees (old new : FrameTable) : Type 0 where
  pub forth : (a i b : ℕ) → Points old a i b → Points new a i b
  pub back : (a i b : ℕ) → Points new a i b → Points old a i b
  pub entries : (n i : ℕ) → i < 512 → IsTable old n → IsTable new n → entry_at new n i ≡ entry_at old n i

-- the same of the two the other way round
pub turned : (old new : FrameTable) → SameTrees old new → SameTrees new old
turned old new same = record { forth = same.back; back = same.forth; entries = λ n i h table table'. sym (same.entries n i h table' table) }

table_there : (t : FrameTable) → IsForest t → (top root page d n : ℕ) → IsTable t root → Way t top root page d n → IsTable t n
table_there t forest top root page zero n table w = (let P : ℕ → Type 0 = λ x. IsTable t x in subst P (sym w) table)
table_there t forest top root page (suc d) n table w = forest.onto_tables _ _ _ w.2

pub same_last : (old new : FrameTable) → IsForest old → IsForest new → SameTrees old new → (top r p : ℕ) → IsTable old r → IsTable new r
    → (last_table new p top r ≡ last_table old p top r) × (last_entry new top r p ≡ last_entry old top r p)
same_last old new forest forest' same top r p table table' =
    let end = ends old top r p forest table in
    let l = last_table old p top r in
    let w = way_forth old new same.forth top r p (top - l.0) l.1 end.way in
    let entry = same.entries l.1 (index_of p l.0) (index_of-lt p l.0) end.table (table_there new forest' top r p (top - l.0) l.1 table' w) in
    let last : last_table new p top r ≡ l = last_is new top r p l.0 l.1 end.least w (λ h. ap is_pointer entry ∙ end.stops h) in
    (last, last_entry-is new top r p ∙ ap (λ x. entry_at new x.1 (index_of p x.0)) last ∙ entry ∙ sym (last_entry-is old top r p))

-- a root stays one, and so do all its pages
pub root_same : (old new : FrameTable) → IsForest old → IsForest new → SameTrees old new → (top r : ℕ) → IsTable new r → IsRoot top old r → IsRoot top new r
root_same old new forest forest' same top r table' root =
    let last : (p : ℕ) → (last_table new p top r ≡ last_table old p top r) × (last_entry new top r p ≡ last_entry old top r p) = λ p. same_last old new forest forest' same top r p root.table table' in
    let missing : (p : ℕ) → missing_of new top r p ≡ missing_of old top r p = λ p. missing_of-is new top r p ∙ ap (λ x. x.0) (last p).0 ∙ sym (missing_of-is old top r p) in
    record {
      table = table';
      unlinked = λ a i points. root.unlinked a i (same.back a i r points);
      bare = λ p ne. (last p).1 ∙ root.bare p (λ e. ne (missing p ∙ e));
      flat = λ p e. ap is_pointer (last p).1 ∙ root.flat p (sym (missing p) ∙ e);
    }

pub missing_same : (old new : FrameTable) → IsForest old → IsForest new → SameTrees old new → (top r p : ℕ) → IsTable old r → IsTable new r
    → missing_of new top r p ≡ missing_of old top r p
missing_same old new forest forest' same top r p table table' =
    missing_of-is new top r p ∙ ap (λ x. x.0) (same_last old new forest forest' same top r p table table').0 ∙ sym (missing_of-is old top r p)

pub entry_same : (old new : FrameTable) → IsForest old → IsForest new → SameTrees old new → (top r p : ℕ) → IsTable old r → IsTable new r
    → page_entry new top r p ≡ page_entry old top r p
entry_same old new forest forest' same top r p table table' =
    page_entry-same old new top r p (missing_same old new forest forest' same top r p table table') (same_last old new forest forest' same top r p table table').1

-- what stands for a page is the number of an entry
pub page_is_entry : (t : FrameTable) (top root page : ℕ) → IsForest t → IsRoot top t root → IsPageEntry (page_entry t top root page)
page_is_entry t top root page forest is_root = elim (cases_eq (missing_of t top root page) 0) [
  | inl whole ↦ (
      let l = last_table t page top root in
      let end = ends t top root page forest is_root.table in
      let entry = last_entry-is t top root page in
      let P : ℕ → Type 0 = λ x. IsPageEntry x in
      let here : IsPageEntry (entry_at t l.1 (index_of page l.0)) = elim (forest.normal l.1 (index_of page l.0) end.table (index_of-lt page l.0)) [
        | inl pointer ↦ absurd (false≢true (sym (is_root.flat page whole) ∙ ap is_pointer entry ∙ pointer))
        | inr is_entry ↦ is_entry
      ] in
      subst P (sym (page_entry-whole t top root page whole ∙ entry)) here)
  | inr ne ↦ rw (page_entry-missing t top root page ne) (record { entry = None; form = tt; is = refl })
]

-- a way that was gone to its end
pub ends_way : (t : FrameTable) (top root page l n m : ℕ) → (l, n) ≡ last_table t page top root → l ≤ top → top ≤ 3 → IsTable t n
    → (n ≡ root) ⊎ ((l < top) × Points t m (index_of page (l + 1)) n) → EndsWay t top root page l n m
ends_way t top root page l n m e in_levels few table parent = record {
  level = ap (λ p. p.0) e;
  missing = ap (λ p. p.0) e ∙ sym (missing_of-is t top root page);
  in_levels = in_levels;
  few = few;
  table = ap (λ p. p.1) e;
  is_table = table;
  parent = parent;
}

-- at the lowest level there is no more to go
pub way_done : (t : FrameTable) (top root page l n m : ℕ) → l ≤ 0 → last_table t page l n ≡ last_table t page top root → top ≤ 3 → IsTable t n
    → (n ≡ root) ⊎ ((l < top) × Points t m (index_of page (l + 1)) n) → EndsWay t top root page 0 n m
way_done t top root page zero n m low e few table parent = ends_way t top root page 0 n m (sym (last_table-zero t page n) ∙ e) (omega arith) few table parent
way_done t top root page (suc l) n m low e few table parent = absurd (omega (arith, low))

-- the number of a page where its way ends
pub entry_missing : (t : FrameTable) (top root page l n m : ℕ) → EndsWay t top root page l n m → 0 < l → page_entry t top root page ≡ 0
entry_missing t top root page l n m way some = page_entry-missing t top root page (λ none. omega (arith, way.missing, none, some))

pub entry_there : (t : FrameTable) (top root page l n m : ℕ) → EndsWay t top root page l n m → l ≤ 0 → page_entry t top root page ≡ entry_at t n (index_of page 0)
entry_there t top root page l n m way low =
    let zero : l ≡ 0 = omega (arith, low) in
    page_entry-whole t top root page (sym way.missing ∙ zero) ∙ last_entry-is t top root page
    ∙ ap (λ x. entry_at t x (index_of page (last_table t page top root).0)) (sym way.table) ∙ ap (λ x. entry_at t n (index_of page x)) (sym way.level ∙ zero)

invalid_zero : is_valid 0 ≡ false
unfolding has_bit
invalid_zero = refl

-- a valid entry of a table on the way to a page, above the lowest level, points to the next one
pub valid_points : (t : FrameTable) (top root page level n e : ℕ) → IsRoot top t root → IsTable t n → 0 < level → last_table t page level n ≡ last_table t page top root
    → e ≡ entry_at t n (index_of page level) → is_valid e ≡ true → Points t n (index_of page level) (frame_of e)
valid_points t top root page level n e is_root table above same is valid = elim (cases_bool (is_pointer (entry_at t n (index_of page level)))) [
  | inl pointer ↦ record { table = table; index = index_of-lt page level; pointer = pointer; target = ap frame_of (sym is) }
  | inr stop ↦ (let ends : last_table t page top root ≡ (level, n) = sym same ∙ last_at-stop t page level n above stop in
      let some : missing_of t top root page ≢ 0 = λ none. absurd (omega (arith, above, missing_of-is t top root page ∙ ap (λ x. x.0) ends, none)) in
      let bare = is ∙ sym (ap (λ x. entry_at t x.1 (index_of page x.0)) ends) ∙ sym (last_entry-is t top root page) ∙ is_root.bare page some in
      absurd (false≢true (sym invalid_zero ∙ ap is_valid (sym bare) ∙ valid)))
]
