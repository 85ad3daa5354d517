-- What the tree of a root says of a page, as the number at the end of the page's way.
use Rattle.memory.proofs.Names.{◌≡◌, ◌≢◌, ℕ, ◌-◌, ◌<◌, inl, inr, sym, ap, ◌∙◌, subst, arith, cases_eq, top_level, user_end, FrameTable, entry_at, index_of, IsForest, IsRoot, Way, last_table, missing_of, page_entry, ends, last_table-zero}
use Rattle.memory.{specs.Notes.{IsNumberOf}, proofs.Names.{last_from_way, missing_of-is, last_entry-is, page_entry-whole, page_entry-missing}}

-- the number is what the tree says of the page
pub is_number : (mode : ℕ) (t : FrameTable) (root page number : ℕ) → IsNumberOf mode t root page number → page_entry t (top_level mode) root page ≡ number
is_number mode t root page number l =
    let last : last_table t page (top_level mode) root ≡ (0, l.lowest) =
    last_from_way t (top_level mode) root page (top_level mode) l.lowest 0 (omega arith) l.way ∙ last_table-zero t page l.lowest in
    let whole : missing_of t (top_level mode) root page ≡ 0 = missing_of-is t (top_level mode) root page ∙ ap (λ z. z.0) last in
    page_entry-whole t (top_level mode) root page whole ∙ last_entry-is t (top_level mode) root page ∙ ap (λ z. entry_at t z.1 (index_of page z.0)) last ∙ l.here

-- what the tree says of a user page, where that is something
pub of_number : (mode : ℕ) (t : FrameTable) (root page number : ℕ) → IsForest t → IsRoot (top_level mode) t root → page < user_end mode
    → page_entry t (top_level mode) root page ≡ number → number ≢ 0 → IsNumberOf mode t root page number
of_number mode t root page number forest is_root small is some =
    let whole : missing_of t (top_level mode) root page ≡ 0 = elim (cases_eq (missing_of t (top_level mode) root page) 0) [
      | inl none ↦ none
      | inr ne ↦ absurd (some (sym is ∙ page_entry-missing t (top_level mode) root page ne))
    ] in
    let n : ℕ = (last_table t page (top_level mode) root).1 in
    let level : (last_table t page (top_level mode) root).0 ≡ 0 = sym (missing_of-is t (top_level mode) root page) ∙ whole in
    let end = ends t (top_level mode) root page forest is_root.table in
    let all : top_level mode - (last_table t page (top_level mode) root).0 ≡ top_level mode = omega (arith, level) in
    record {
      lowest = n;
      inside = small;
      unlinked = is_root.unlinked;
      way = subst (λ (k : ℕ). Way t (top_level mode) root page k n) all end.way;
      table = end.table;
      here = sym (page_entry-whole t (top_level mode) root page whole ∙ last_entry-is t (top_level mode) root page ∙ ap (λ k. entry_at t n (index_of page k)) level) ∙ is;
      some = some;
    }
