-- Pages of one table, and those without an entry among them that a search passed over.
use Rattle.ranges.proofs.Names.{top_level, ◌≡◌, ℕ, ◌+◌, ◌*◌, ◌/◌, ◌%◌, ◌<◌, ◌≤◌, Some, ◌∙◌, subst, arith, IsPage, page_entry, IsTableOf, Picture, entry, entry-of}

pub same_table : (start page stop : ℕ) → start ≤ page → page < stop → stop ≤ (start / 512 + 1) * 512 → start / 512 ≡ page / 512
same_table start page stop from below end = omega arith

-- the end of the table is the same from each of its pages
pub end_from : (start page stop : ℕ) → start ≤ page → stop ≤ (start / 512 + 1) * 512 → stop ≤ (page / 512 + 1) * 512
end_from start page stop from end = omega arith

pub none_passed : {mode : ℕ} (c : Picture mode) (pid r n start low high stop : ℕ) → c.root pid ≡ Some r → IsTableOf c.frames (top_level mode) r (start / 512) n
    → start ≤ low → high ≤ stop → stop ≤ (start / 512 + 1) * 512
    → ((root p : ℕ) → IsTableOf c.frames (top_level mode) root (p / 512) n → low ≤ p → p < high → page_entry c.frames (top_level mode) root p ≡ 0)
    → (page : ℕ) → low ≤ page → page < high → entry c pid page ≡ 0
none_passed {mode = mode} c pid r n start low high stop root row from within end passed page least below =
    let same = same_table start page stop (omega (arith, from, least)) (omega (arith, below, within)) end in
    entry-of c pid r page root ∙ passed r page (subst (λ (x : ℕ). IsTableOf c.frames (top_level mode) r x n) same row) least below

pub none_between : {mode : ℕ} (c : Picture mode) (pid r n start low high stop : ℕ) → c.root pid ≡ Some r → IsTableOf c.frames (top_level mode) r (start / 512) n
    → start ≤ low → high ≤ stop → stop ≤ (start / 512 + 1) * 512
    → ((root p : ℕ) → IsTableOf c.frames (top_level mode) root (p / 512) n → low ≤ p → p < high → page_entry c.frames (top_level mode) root p ≡ 0)
    → (page : ℕ) → IsPage (top_level mode) page → low ≤ page → page < high → entry c pid page ≡ 0
none_between c pid r n start low high stop root row from within end passed page h = none_passed c pid r n start low high stop root row from within end passed page

-- a page of the row that begins with page first: its place, and its table
pub place_at : (first index : ℕ) → first % 512 ≡ 0 → index < 512 → (first + index) % 512 ≡ index
place_at first index begins below = omega arith

pub row_at : (first index : ℕ) → first % 512 ≡ 0 → index < 512 → first / 512 ≡ (first + index) / 512
row_at first index begins below = omega arith

-- pages at places that were passed over
pub none_at : {mode : ℕ} (c : Picture mode) (pid r n first low high : ℕ) → c.root pid ≡ Some r → IsTableOf c.frames (top_level mode) r (first / 512) n
    → first % 512 ≡ 0 → high ≤ 512
    → ((root p : ℕ) → IsTableOf c.frames (top_level mode) root (p / 512) n → low ≤ p % 512 → p % 512 < high → page_entry c.frames (top_level mode) root p ≡ 0)
    → (page : ℕ) → first + low ≤ page → page < first + high → entry c pid page ≡ 0
none_at {mode = mode} c pid r n first low high root row begins most passed page from below =
    let same : first / 512 ≡ page / 512 = omega (arith, from, below, most, begins) in
    let least : low ≤ page % 512 = omega (arith, from, below, most, begins) in
    let under : page % 512 < high = omega (arith, from, below, most, begins) in
    entry-of c pid r page root ∙ passed r page (subst (λ (x : ℕ). IsTableOf c.frames (top_level mode) r x n) same row) least under
