-- Entries that name the frame that they named.
use Rattle.ranges.proofs.Names.{◌≡◌, ◌≢◌, ℕ, ◌/◌, ◌%◌, Bool, false, sym, ◌∙◌, top_level, table_entries, Prot, FrameTable, IsForest, page_entry, IsTableOf, NamesNoMore, of_number, is_swapped}
use Rattle.ranges.{specs.Leaves.{IsPermittedEntry}, proofs.LeafEntries.{allowed}}

-- another permission is over the same frame, so the page that stands at that place names no frame anew
pub names_still : (mode : ℕ) (t : FrameTable) (table index : ℕ) (prot : Prot) (writable : Bool) (e e' : ℕ) → IsForest t
    → ((root page : ℕ) → IsTableOf t (top_level mode) root (page / table_entries) table → page % table_entries ≡ index → e ≡ page_entry t (top_level mode) root page)
    → e ≢ 0 → is_swapped e ≡ false → IsPermittedEntry prot writable e e' → NamesNoMore mode t table index e'
names_still mode t table index prot writable e e' forest stands some here permitted some' here' common root page is_root small place at =
    let allows = allowed prot writable e e' permitted in
    record {
      number = e;
      is = of_number mode t root page e forest is_root small (sym (stands root page place at)) some;
      framed = here;
      common = sym allows.private ∙ common;
      frame = sym allows.frame;
    }
