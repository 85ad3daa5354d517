-- Places of a table that are passed over.
use Rattle.lifecycle.proofs.Names.{top_level, ◌≡◌, ℕ, true, refl, ◌+◌, ◌/◌, ◌%◌, ◌<◌, ◌≤◌, sym, ◌∙◌, subst, IsPageEntry, IsTableOf, page_entry, page_is_entry, Picture, entry, is_live, IsRootedBut, entry-of, place_at, row_at}
use Rattle.lifecycle.{specs.Shares.{IsTableFor}, proofs.{Live.{live_root}, Names.{same_table}}}
use Rattle.ranges.specs.{WaysPassed.{IsLinkedPart}, declared.rows.LinkedPart.{LinkedPart}}

-- the table of a row is that of each of its pages
pub in_row : {mode : ℕ} (c : Picture mode) (pid n first index : ℕ) → first % 512 ≡ 0 → index < 512 → IsTableFor c pid (first / 512) n → IsTableFor c pid ((first + index) / 512) n
in_row c pid n first index begins below place = subst (λ (x : ℕ). IsTableFor c pid x n) (row_at first index begins below) place

-- what stands for a page has the form of an entry
pub page_form : {mode : ℕ} (c : Picture mode) (pid page e : ℕ) → IsRootedBut c 0 → is_live c pid ≡ true → e ≡ entry c pid page → IsPageEntry e
page_form {mode = mode} c pid page e rooted live is =
    let r = live_root (c.root pid) live in
    subst (λ (x : ℕ). IsPageEntry x) (sym (is ∙ entry-of c pid r.0 page r.1)) (page_is_entry c.frames (top_level mode) r.0 page rooted.forest (rooted.roots pid r.0 r.1))

-- and the number at its place is its entry
pub number_in_row : {mode : ℕ} (c : Picture mode) (pid n first index e : ℕ) → is_live c pid ≡ true → first % 512 ≡ 0 → index < 512 → IsTableFor c pid (first / 512) n
    → ((root page : ℕ) → IsTableOf c.frames (top_level mode) root (page / 512) n → page % 512 ≡ index → e ≡ page_entry c.frames (top_level mode) root page)
    → e ≡ entry c pid (first + index)
number_in_row c pid n first index e live begins below place reads =
    let r = live_root (c.root pid) live in
    reads r.0 (first + index) (in_row c pid n first index begins below place r.0 r.1) (place_at first index begins below) ∙ sym (entry-of c pid r.0 (first + index) r.1)

-- and so is that at a page's place of the table of a part
pub number_in_part : {mode : ℕ} (c : Picture mode) (part : LinkedPart) (page e : ℕ) → is_live c part.pid ≡ true → IsLinkedPart c part → part.first ≤ page → page < part.end
    → ((root p : ℕ) → IsTableOf c.frames (top_level mode) root (p / 512) part.table.0 → p % 512 ≡ page % 512 → e ≡ page_entry c.frames (top_level mode) root p) → e ≡ entry c part.pid page
number_in_part {mode = mode} c part page e live is from below reads =
    let r = live_root (c.root part.pid) live in
    reads r.0 page (subst (λ (x : ℕ). IsTableOf c.frames (top_level mode) r.0 x part.table.0) (same_table part.first page part.end from below is.one_table) (is.table r.0 r.1)) refl
    ∙ sym (entry-of c part.pid r.0 page r.1)
