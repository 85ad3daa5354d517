-- The pages of one row have one lowest table.
use Rattle.page_tables.proofs.Names.{◌≡◌, ℕ, zero, suc, inl, inr, ◌≤◌, ◌*◌, ◌/◌, ◌%◌, refl, sym, ap, ◌∙◌, subst, arith, FrameTable, entry_at, is_pointer, frame_of, index_of}
use Rattle.page_tables.{specs.{Tree.{EndsWay, IsTable, IsForest, IsRoot, last_table, page_entry}, Change.{SetsEntry}, Places.{IsTableOf}}, proofs.Pages.{index_of-suc, index_of-zero}}
use Rattle.page_tables.proofs.{Ways.{ends, cases_bool, last_table-next, last_table-stop, last_table-zero}, Ends.{SameTrees, same_last, missing_of-is, last_entry-is, page_entry-whole}, Setting.{at_place}}

same_above : (p q k : ℕ) → p / 512 ≡ q / 512 → index_of p (suc k) ≡ index_of q (suc k)
same_above p q k same = index_of-suc p k ∙ ap (λ x. index_of x k) same ∙ sym (index_of-suc q k)

-- pages of one row have the same end of the way
pub last_in_row : (t : FrameTable) (p q level r : ℕ) → p / 512 ≡ q / 512 → last_table t q level r ≡ last_table t p level r
last_in_row t p q zero r same = last_table-zero t q r ∙ sym (last_table-zero t p r)
last_in_row t p q (suc level) r same =
    let here : entry_at t r (index_of q (suc level)) ≡ entry_at t r (index_of p (suc level)) = ap (entry_at t r) (sym (same_above p q level same)) in
    elim (cases_bool (is_pointer (entry_at t r (index_of p (suc level))))) [
      | inl pointer ↦ last_table-next t q level r (ap is_pointer here ∙ pointer) ∙ ap (λ x. last_table t q level (frame_of x)) here
          ∙ last_in_row t p q level (frame_of (entry_at t r (index_of p (suc level)))) same ∙ sym (last_table-next t p level r pointer)
      | inr stop ↦ last_table-stop t q level r (ap is_pointer here ∙ stop) ∙ sym (last_table-stop t p level r stop)
    ]

-- where the way to a page ends at level 0 is the table of its row
pub found_at : (t : FrameTable) (top root page l n m : ℕ) → EndsWay t top root page l n m → l ≤ 0 → IsTableOf t top root (page / 512) n
found_at t top root page l n m way low = record {
  table = way.is_table;
  whole = λ p same. missing_of-is t top root p ∙ ap (λ x. x.0) (last_in_row t page p top root (sym same)) ∙ sym way.level ∙ (omega (arith, low));
  last = λ p same. ap (λ x. x.1) (last_in_row t page p top root (sym same)) ∙ sym way.table;
}

-- the entry of a page stands in the table of its row
pub entry_in_row : (t : FrameTable) (top root page n : ℕ) → IsTableOf t top root (page / 512) n → page_entry t top root page ≡ entry_at t n (page % 512)
entry_in_row t top root page n row =
    let whole = row.whole page refl in
    page_entry-whole t top root page whole ∙ last_entry-is t top root page
    ∙ at_place t _ _ n (page % 512) (row.last page refl) (ap (index_of page) (sym (missing_of-is t top root page) ∙ whole) ∙ index_of-zero page)

-- where the ways end as they did, a row keeps its table
row_moved : (old new : FrameTable) (top r row n : ℕ) → IsForest new → IsTable new r → ((p : ℕ) → last_table new p top r ≡ last_table old p top r)
    → IsTableOf old top r row n → IsTableOf new top r row n
row_moved old new top r row n forest table moved old_row =
    let first : row * 512 / 512 ≡ row = omega arith in
    let P : ℕ → Type 0 = λ x. IsTable new x in
    record {
      table = subst P (ap (λ x. x.1) (moved (row * 512)) ∙ old_row.last (row * 512) first) (ends new top r (row * 512) forest table).table;
      whole = λ p same. missing_of-is new top r p ∙ ap (λ x. x.0) (moved p) ∙ sym (missing_of-is old top r p) ∙ old_row.whole p same;
      last = λ p same. ap (λ x. x.1) (moved p) ∙ old_row.last p same;
    }

-- as when an entry of a page is set
pub row_stays : (old new : FrameTable) (top root page e : ℕ) → SetsEntry old new top root page e → (r row n : ℕ) → IsRoot top old r
    → IsTableOf old top r row n → IsTableOf new top r row n
row_stays old new top root page e sets r row n is_root =
    row_moved old new top r row n sets.forest (sets.roots r is_root).table (λ p. sets.ends r p is_root.table)

-- and when frames change that are in no tree
pub row_same : (old new : FrameTable) → IsForest old → IsForest new → SameTrees old new → (top r row n : ℕ) → IsTable old r → IsTable new r
    → IsTableOf old top r row n → IsTableOf new top r row n
row_same old new forest forest' same top r row n table table' =
    row_moved old new top r row n forest' table' (λ p. (same_last old new forest forest' same top r p table table').0)
