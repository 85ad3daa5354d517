-- A table without entries unlinked and given back.
use Rattle.page_tables.proofs.Names.{◌≡◌, ◌≢◌, ℕ, suc, ◌+◌, ◌-◌, ◌<◌, ◌⊎◌, inl, inr, false, refl, sym, ap, ◌∙◌, subst, arith, cases_eq, cases_lt, Free, Table, FrameTable, role_of, SameButFor, entry_at, frame_of, is_pointer, is_pointer-zero}
use Rattle.page_tables.specs.{Entry.{IsSoftware}, declared.forms.Entry.TheVariants.{None}, Tree.{IsTable, Points, IsForest, IsUnlinked, IsRoot, IsEmptyTable, last_table, missing_of, Way}, Change.{ChangesEntry, Prunes}}
use Rattle.page_tables.proofs.{Ways.{EndsAt, ends, way_pointed}, Ends.{SameTrees, turned, root_same, missing_of-is, way_forth}, Setting.{other_entries, cases_place, at_place, table_forth, table_back, points_forth, elsewhere, forest_after, no_pointer, not_new}}
use Rattle.page_tables.proofs.{Linking.{Linked, link_cases, link_entries, root_down, root_up}, Keeping.{KeepsTables, keeps_tables, empty_not_linking, same_trees, forest_kept, root_kept, entry_kept_at, missing_kept_at}}

-- a table without entries points to no table, itself neither
pub empty_apart : (t : FrameTable) (n i m : ℕ) → Points t n i m → IsEmptyTable t m → n ≡ m → ⊥
empty_apart t n i m p empty e = empty_not_linking t m empty i m (let P : ℕ → Type 0 = λ x. Points t x i m in subst P e p)

-- what holds where the other doesn't
pub otherwise : {A B : Type 0} → A ⊎ B → (A → ⊥) → B
otherwise (inl a) no_a = absurd (no_a a)
otherwise (inr b) no_a = b

module _ (old new : FrameTable) (top root page n i m k : ℕ) (forest : IsForest old) (is_root : IsRoot top old root)
    (last : last_table old page top root ≡ (k, m)) (not_root : m ≢ root) (empty : IsEmptyTable old m) (on : Points old n i m)
    (mid : FrameTable) (change : ChangesEntry old mid n i 0) (released : SameButFor m mid new) (free : role_of new m ≡ Free) where
  nothing : IsSoftware 0
  nothing = inr (record { entry = None; form = tt; is = refl })

  to_old : (a j b : ℕ) → Points mid a j b → Points old a j b
  to_old = not_new old mid n i 0 forest nothing is_pointer-zero change

  forest_mid : IsForest mid
  forest_mid = forest_after old mid n i 0 forest nothing is_pointer-zero change

  linked : Linked mid old n i m
  linked = record {
    less = to_old;
    tables = table_back old mid n i 0 change;
    same = λ a j h other. sym (other_entries old mid n i 0 change a j h other);
    off = no_pointer old mid n i 0 forest nothing is_pointer-zero change;
    on = on;
    empty = empty;
  }

  end : EndsAt old top root page k m
  end = let P : ℕ × ℕ → Type 0 = λ x. EndsAt old top root page x.0 x.1 in subst P last (ends old top root page forest is_root.table)

  below : k < top
  below = elim (cases_lt k top) [
    | inl lt ↦ lt
    | inr le ↦ (
        let none : top - k ≡ 0 = omega (arith, le) in
        let P : ℕ → Type 0 = λ d. Way old top root page d m in
        absurd (not_root (subst P none end.way)))
  ]

  apart : m ≢ n
  apart e = empty_not_linking old m empty i m (let P : ℕ → Type 0 = λ x. Points old x i m in subst P (sym e) on)

  free_mid : IsUnlinked mid m
  free_mid a j p =
      let one = forest.one_way a j n i m (to_old a j m p) on in
      elim (elsewhere mid n i linked.off a j m p) [ inl ne ↦ ne one.0 | inr ne ↦ ne one.1 ]

  empty_mid : IsEmptyTable mid m
  empty_mid j h = other_entries old mid n i 0 change m j h (inl apart) ∙ empty j h

  no_table : role_of new m ≢ Table
  no_table e = let bad : Free ≡ Table = sym free ∙ e in (cc)

  kept : KeepsTables m mid new
  kept = keeps_tables m mid new released no_table

  linking : (j b : ℕ) → Points mid m j b → ⊥
  linking = empty_not_linking mid m empty_mid

  other_root : (r : ℕ) → IsRoot top old r → r ≢ m
  other_root r root' e = root'.unlinked n i (let P : ℕ → Type 0 = λ x. Points old n i x in subst P (sym e) on)

  root_mid : (r : ℕ) → IsRoot top old r → IsRoot top mid r
  root_mid r root' = root_down mid old n i m top root page k linked forest_mid forest is_root.unlinked below end.way change.changed r (table_forth old mid n i 0 change r root'.table) root'

  same : SameTrees mid new
  same = same_trees m mid new linking kept

  -- what nothing points to any more, but the table that is gone, nothing pointed to before
  unlinked_back : (x : ℕ) → IsTable new x → IsUnlinked new x → IsUnlinked old x
  unlinked_back x t unlinked a j p = elim (cases_place a j n i) [
    | inl here ↦ (kept.back x t).0 (sym p.target ∙ ap frame_of (at_place old a j n i here.0 here.1) ∙ on.target)
    | inr other ↦ unlinked a j (same.forth a j x (points_forth old mid n i 0 change a j x other p))
  ]

  root_old : (r : ℕ) → IsRoot top new r → IsRoot top old r
  root_old r root' =
      root_up mid old n i m top root page k linked forest_mid forest is_root.unlinked below end.way r (unlinked_back r root'.table root'.unlinked)
      (root_same new mid (forest_kept m mid new linking kept forest_mid free_mid) forest_mid (turned mid new same) top r ((kept.back r root'.table).1) root')

  depth : suc (top - k - 1) ≡ top - k
  depth = omega (arith, below)

  depth_below : top - k - 1 < top
  depth_below = omega (arith, below)

  -- the table that is gone
  below_root : Way old top root page (suc (top - k - 1)) m
  below_root = let W : ℕ → Type 0 = λ d. Way old top root page d m in subst W (sym depth) end.way

  -- the table that pointed to it
  on_way : Way old top root page (top - k - 1) n
  on_way = let W : ℕ → Type 0 = λ x. Way old top root page (top - k - 1) x in subst W (forest.one_way _ _ n i m below_root.2 on).0 below_root.1

  pub prunes : Prunes old new top root page
  prunes =
      let table : IsTable old m = forest.onto_tables n i m on in
      record {
        kept = record {
          frames = released.frames ∙ change.others.frames;
          bytes = λ x role. released.bytes x (λ e. role (ap (role_of old) e ∙ table.role)) ∙ change.others.bytes x (λ e. role (ap (role_of old) e ∙ on.table.role));
          roles = λ x role. released.roles x (λ e. role (ap (role_of old) e ∙ table.role)) ∙ change.others.roles x (λ e. role (ap (role_of old) e ∙ on.table.role));
          counts = λ x role. released.counts x (λ e. role (ap (role_of old) e ∙ table.role)) ∙ change.others.counts x (λ e. role (ap (role_of old) e ∙ on.table.role));
          tables = λ x t. table_back old mid n i 0 change x (kept.back x t).1;
        };
        forest = forest_kept m mid new linking kept forest_mid free_mid;
        gone = λ x t. elim (cases_eq x m) [
          | inl e ↦ inr (
            ap (role_of new) e ∙ free,
            (top - k - 1, depth_below, (let W : ℕ → Type 0 = λ y. Way old top root page (suc (top - k - 1)) y in subst W (sym e) below_root)),
          )
          | inr ne ↦ inl (kept.tables x ne (table_forth old mid n i 0 change x t))
        ];
        others = λ x t. elim (cases_eq x n) [
          | inl e ↦ inl (top - k - 1, omega (arith, depth_below), (let W : ℕ → Type 0 = λ y. Way old top root page (top - k - 1) y in subst W (sym e) on_way))
          | inr ne ↦ inr (λ j h.
              same.entries x j h (kept.back x t).1 t ∙ other_entries old mid n i 0 change x j h (inl ne))
        ];
        pointers = λ a j b p. to_old a j b (same.back a j b p);
        roots = λ r root'. root_kept m mid new linking kept forest_mid free_mid top r (other_root r root') (root_mid r root');
        were_roots = root_old;
        unlinked = λ x t. (λ unlinked a j p. unlinked a j (to_old a j x (same.back a j x p)), unlinked_back x t);
        entries = λ r p root'. entry_kept_at m mid new linking kept forest_mid free_mid top r p (other_root r root') (root_mid r root')
            ∙ sym (link_entries mid old n i m top root page k linked forest_mid forest is_root.unlinked below end.way r p (table_forth old mid n i 0 change r root'.table) root'.unlinked);
      }

  pub missing_up : missing_of new top root page ≡ missing_of old top root page + 1
  missing_up =
      let table = table_forth old mid n i 0 change root is_root.table in
      let old_missing = missing_of-is old top root page ∙ ap (λ x. x.0) last in
      missing_kept_at m mid new linking kept forest_mid free_mid top root page (other_root root is_root) (root_mid root is_root)
      ∙ elim (link_cases mid old n i m top root page k linked forest_mid forest is_root.unlinked below end.way root page table is_root.unlinked) [
        | inl hit ↦ missing_of-is mid top root page ∙ ap (λ x. x.0) hit.in_small ∙ (let more : suc k ≡ missing_of old top root page + 1 = omega (arith, old_missing) in more)
        | inr miss ↦ (
            let P : ℕ × ℕ → Type 0 = λ x. EndsAt mid top root page x.0 x.1 in
            let here = subst P (sym miss.last ∙ last) (ends mid top root page forest_mid table) in
            absurd (way_pointed mid top root page (top - k) m (omega (arith, below)) here.way free_mid))
      ]

-- nothing was pruned
pub Prunes-refl : (t : FrameTable) (top root page : ℕ) → IsForest t → Prunes t t top root page
Prunes-refl t top root page forest = record {
  kept = record { frames = refl; bytes = λ x role. refl; roles = λ x role. refl; counts = λ x role. refl; tables = λ x table. table };
  forest = forest;
  gone = λ x table. inl table;
  others = λ x table. inr (λ i h. refl);
  pointers = λ a i b p. p;
  roots = λ r is_root. is_root;
  were_roots = λ r is_root. is_root;
  unlinked = λ x table. (λ free. free, λ free. free);
  entries = λ r p is_root. refl;
}

pub Prunes-trans : (t u v : FrameTable) (top root page : ℕ) → Prunes t u top root page → Prunes u v top root page → Prunes t v top root page
Prunes-trans t u v top root page a b =
    let back : (d n : ℕ) → Way u top root page d n → Way t top root page d n = way_forth u t a.pointers top root page in
    record {
      kept = record {
        frames = b.kept.frames ∙ a.kept.frames;
        bytes = λ x role. b.kept.bytes x (λ e. role (sym (a.kept.roles x role) ∙ e)) ∙ a.kept.bytes x role;
        roles = λ x role. b.kept.roles x (λ e. role (sym (a.kept.roles x role) ∙ e)) ∙ a.kept.roles x role;
        counts = λ x role. b.kept.counts x (λ e. role (sym (a.kept.roles x role) ∙ e)) ∙ a.kept.counts x role;
        tables = λ x table. a.kept.tables x (b.kept.tables x table);
      };
      forest = b.forest;
      gone = λ x table. elim (a.gone x table) [
        | inl stays ↦ elim (b.gone x stays) [ inl still ↦ inl still | inr lost ↦ inr (lost.0, (lost.1.0, lost.1.1, back (suc lost.1.0) x lost.1.2)) ]
        | inr lost ↦ inr (b.kept.roles x (λ e. (let bad : Free ≡ Table = sym lost.0 ∙ e in (cc))) ∙ lost.0, lost.1)
      ];
      others = λ x table. elim (b.others x table) [
        | inl way ↦ inl (way.0, way.1, back way.0 x way.2)
        | inr same ↦ elim (a.others x (b.kept.tables x table)) [ inl way ↦ inl way | inr first ↦ inr (λ i h. same i h ∙ first i h) ]
      ];
      pointers = λ n i m p. a.pointers n i m (b.pointers n i m p);
      roots = λ r is_root. b.roots r (a.roots r is_root);
      were_roots = λ r is_root. a.were_roots r (b.were_roots r is_root);
      unlinked = λ x table. (
        λ free. (b.unlinked x table).0 ((a.unlinked x (b.kept.tables x table)).0 free),
        λ free. (a.unlinked x (b.kept.tables x table)).1 ((b.unlinked x table).1 free),
      );
      entries = λ r p is_root. b.entries r p (a.roots r is_root) ∙ a.entries r p is_root;
    }
