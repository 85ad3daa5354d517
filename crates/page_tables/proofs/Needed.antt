-- Which tables are left after those without entries on one way were given back: each lies on the way to a page that is needed.
use Rattle.page_tables.proofs.{Ends.{last_is, last_from_way, way_forth, missing_of-is, last_entry-is, page_entry-whole}, Names.{◌≡◌, ◌≢◌, ℕ, zero, suc, ◌+◌, ◌-◌, ◌*◌, ◌/◌, ◌%◌, ◌^◌, ◌<◌, ◌≤◌, ◌⊎◌, inl, inr, true, false, refl, sym, ap, ◌∙◌}}
use Rattle.page_tables.proofs.{Names.{subst, arith, cases_eq, false≢true, pow-add, div-lt_iff_lt-mul, mul-div_cancel, FrameTable, entry_at, frame_of, is_pointer, index_of}, Pages.{fields_same, span_positive, place_above, field_is}}
use Rattle.page_tables.{proofs.{Spans.{last_most, missing_in_place}, Ways.{EndsAt, ends, cases_bool, only_way, way_pointed}}, specs.{Change.{Prunes, IsPruned}, Tree.{IsPage, IsTable, Points, IsForest, IsRoot, IsUnlinked, last_table}}}
use Rattle.page_tables.specs.Tree.{missing_of, last_entry, page_entry, Way, IsBelowRoot}
pub use Rattle.page_tables.proofs.Tight.{stay_way}

-- a table with an entry has one somewhere
found : (t : FrameTable) (n k : ℕ) → ((i : ℕ) → i < k → entry_at t n i ≡ 0) ⊎ ((i : ℕ) × (i < k) × (entry_at t n i ≢ 0))
found t n zero = inl (λ i lt. absurd (omega arith))
found t n (suc k) = elim (found t n k) [
  | inl none ↦ elim (cases_eq (entry_at t n k) 0) [
    | inl e ↦ inl (λ i lt. elim (cases_eq i k) [ inl is ↦ ap (entry_at t n) is ∙ e | inr ne ↦ none i (omega (arith, lt, ne)) ])
    | inr ne ↦ inr (k, omega arith, ne)
  ]
  | inr some ↦ inr (some.0, (let lt = some.1 in omega (arith, lt)), some.2)
]

-- two pages with the same way so far
way_alike : (t : FrameTable) (top r p q d m : ℕ) → ((k : ℕ) → k < d → index_of p (top - k) ≡ index_of q (top - k)) → Way t top r p d m → Way t top r q d m
way_alike t top r p q zero m same w = w
way_alike t top r p q (suc d) m same w =
    let P : ℕ → Type 0 = λ j. Points t w.0 j m in
    (w.0, way_alike t top r p q d w.0 (λ k lt. same k (omega (arith, lt))) w.1, subst P (same d (omega arith)) w.2)

-- pages in the place of one entry of a table of level k have the same way to that table, and one to any above it
way_along : (t : FrameTable) (top r p q d m k : ℕ) → d + k ≤ top → p / 512 ^ (k + 1) ≡ q / 512 ^ (k + 1) → Way t top r p d m → Way t top r q d m
way_along t top r p q d m k le same w = way_alike t top r p q d m (λ j lt. fields_same p q (k + 1) (top - j) (omega (arith, lt, le)) same) w

-- a table on the way to a page isn't below the end of that way
above_end : (t : FrameTable) (top r page d m : ℕ) → d ≤ top → Way t top r page d m → d + (last_table t page top r).0 ≤ top
above_end t top r page d m le w =
    let sum : d + (top - d) ≡ top = omega (arith, le) in
    let from : (last_table t page top r).0 ≡ (last_table t page (top - d) m).0 = ap (λ x. x.0) (last_from_way t top r page d m (top - d) sum w) in
    omega (arith, from, last_most t page (top - d) m, le)

-- the page in the place of entry i of the table of level k on the way to a page, the first one there
page_at : ℕ → ℕ → ℕ → ℕ
page_at page k i = (page / 512 ^ (k + 1) * 512 + i) * 512 ^ k

module _ (page k i : ℕ) (below : i < 512) where
  place_is : page_at page k i / 512 ^ k ≡ page / 512 ^ (k + 1) * 512 + i
  unfolding page_at
  place_is = mul-div_cancel (page / 512 ^ (k + 1) * 512 + i) (span_positive k)

  above_is : page / 512 ^ (k + 1) ≡ page_at page k i / 512 ^ (k + 1)
  above_is = sym (place_above (page_at page k i) k ∙ ap (λ x. x / 512) place_is ∙ row (page / 512 ^ (k + 1)))
    where
      row : (a : ℕ) → (a * 512 + i) / 512 ≡ a
      row a = omega (arith, below)

  field_at : index_of (page_at page k i) k ≡ i
  field_at = field_is (page_at page k i) k ∙ ap (λ x. x % 512) place_is ∙ row (page / 512 ^ (k + 1))
    where
      row : (a : ℕ) → (a * 512 + i) % 512 ≡ i
      row a = omega (arith, below)

  page_at-fits : (top : ℕ) → k ≤ top → IsPage top page → IsPage top (page_at page k i)
  page_at-fits top le h =
      let sum : top + 1 ≡ (top - k) + (k + 1) = omega (arith, le) in
      let split : 512 ^ (top + 1) ≡ 512 ^ (top - k) * 512 ^ (k + 1) = ap (λ x. 512 ^ x) sum ∙ pow-add 512 (top - k) (k + 1) in
      let P : ℕ → Type 0 = λ x. page < x in
      let high : page / 512 ^ (k + 1) < 512 ^ (top - k) = (div-lt_iff_lt-mul (span_positive (k + 1))).1 (subst P split h) in
      let Q : ℕ → Type 0 = λ x. x < 512 ^ (top - k) in
      let R : ℕ → Type 0 = λ x. page_at page k i < x in
      subst R (sym split) ((div-lt_iff_lt-mul (span_positive (k + 1))).0 (subst Q above_is high))

-- The pages that are needed no more lie in one block of 512 ^ e, those of a lowest table, or those in the place of a missing one.
module _ (top : ℕ) (old new : FrameTable) (r page : ℕ) (forest : IsForest old) (is_root : IsRoot top old r) (prunes : Prunes old new top r page) (pruned : IsPruned new top r page)
    (fits : IsPage top page) (e : ℕ) (positive : 0 < e) (size : (e ≡ 1) ⊎ (e ≡ missing_of old top r page)) (before after : ℕ → Type 0)
    (block : (p : ℕ) → before p → after p ⊎ (p / 512 ^ e ≡ page / 512 ^ e))
    (some : (p : ℕ) → IsPage top p → page_entry new top r p ≢ 0 → after p)
    (used : (m p d : ℕ) → d < top → Way old top r p (suc d) m → (q : ℕ) × before q × IsBelowRoot old top r q m) where
  root_now : IsRoot top new r
  root_now = prunes.roots r is_root

  was_way : (p d m : ℕ) → Way new top r p d m → Way old top r p d m
  was_way p = way_forth new old prunes.pointers top r p

  -- a table below another one is no root
  not_root : (p d m : ℕ) → 0 < d → Way new top r p d m → m ≢ r
  not_root p d m lt w e = way_pointed new top r p d m lt w (let P : ℕ → Type 0 = λ x. IsUnlinked new x in subst P (sym e) root_now.unlinked)

  abbrev k : ℕ
  k = (last_table new page top r).0

  abbrev L : ℕ
  L = (last_table new page top r).1

  end : EndsAt new top r page k L
  end = ends new top r page prunes.forest root_now.table

  has_entry : L ≢ r → (i : ℕ) × (i < 512) × (entry_at new L i ≢ 0)
  has_entry ne = elim (found new L 512) [ inl none ↦ elim pruned.last [ inl e ↦ absurd (ne e) | inr full ↦ absurd (full none) ] | inr has ↦ has ]

  abbrev Result : ℕ → Type 0
  Result m = (q : ℕ) × after q × IsBelowRoot new top r q m

  -- no more are missing than were, and so the block lies below the last table on the way now
  block_below : 0 < k → e ≤ k
  block_below above = elim size [
    | inl one ↦ omega (arith, one, above)
    | inr gap ↦ (
        omega (arith, gap, above_end old top r page (top - k) L (omega arith) (was_way page (top - k) L end.way), missing_of-is old top r page, end.least))
  ]

  -- a table below the root on the way to a page of the block isn't below the block
  above_block : (p d m : ℕ) → d < top → p / 512 ^ e ≡ page / 512 ^ e → Way old top r p (suc d) m → d + e ≤ top
  above_block p d m below same w = elim size [
    | inl one ↦ omega (arith, one, below)
    | inr gap ↦ (
        let some : missing_of old top r page ≢ 0 = λ z. omega (arith, z, gap, positive) in
        let P : ℕ → Type 0 = λ x. page / 512 ^ x ≡ p / 512 ^ x in
        let there = missing_in_place old top r page p some (subst P gap (sym same)) in
        omega (arith, gap, above_end old top r p (suc d) m (omega (arith, below)) w, missing_of-is old top r p, there))
  ]

  -- m is a table below the root on the way to the page, and entry i of the last table on it is set
  module _ (m d : ℕ) (below : d < top) (w : Way new top r page (suc d) m) (i : ℕ) (lt : i < 512) (set : entry_at new L i ≢ 0) (far : suc d + k ≤ top) where
    abbrev p : ℕ
    p = page_at page k i

    there : Way new top r p (top - k) L
    there = way_along new top r page p (top - k) L k (let least = end.least in omega (arith, least)) (above_is page k i lt) end.way

    mine : Way new top r p (suc d) m
    mine = way_along new top r page p (suc d) m k far (above_is page k i lt) w

    value : last_table new p top r ≡ (k, L) → last_entry new top r p ≡ entry_at new L i
    value last = last_entry-is new top r p ∙ ap (λ x. entry_at new x.1 (index_of p x.0)) last ∙ ap (entry_at new L) (field_at page k i lt)

    -- no table is missing: the entry is that of a page
    lowest : k ≡ 0 → Result m
    lowest level =
        let last : last_table new p top r ≡ (k, L) = last_is new top r p k L end.least there (λ h. absurd (omega (arith, h, level))) in
        let whole : missing_of new top r p ≡ 0 = missing_of-is new top r p ∙ ap (λ x. x.0) last ∙ level in
        let entry : page_entry new top r p ≡ entry_at new L i = page_entry-whole new top r p whole ∙ value last in
        (p, some p (page_at-fits page k i lt top end.least fits) (λ none. set (sym entry ∙ none)), (d, below, mine))

    -- some are missing: the entry leads to another table, which lies over another page
    over : (above : 0 < k) → is_pointer (entry_at new L i) ≡ true → Result m
    over above pointer =
        let least = end.least in
        let T = frame_of (entry_at new L i) in
        let on : Points new L i T = record { table = end.table; index = lt; pointer = pointer; target = refl } in
        let level : top - (top - k) ≡ k = omega (arith, least) in
        let step : Points new L (index_of p (top - (top - k))) T =
        (let Q : ℕ → Type 0 = λ j. Points new L j T in subst Q (sym (ap (index_of p) level ∙ field_at page k i lt)) on) in
        let down_old : Way old top r p (suc (top - k)) T = was_way p (suc (top - k)) T (L, there, step) in
        let other = used T p (top - k) (omega (arith, least, above)) down_old in
        let q = other.0 in
        let one = only_way old top forest r p r q is_root.unlinked is_root.unlinked (suc (top - k)) (suc other.2.0) T down_old other.2.2 in
        let at_k : i ≡ index_of q k = sym (field_at page k i lt) ∙ sym (ap (index_of p) level) ∙ one.2 (top - k) (omega arith) ∙ ap (index_of q) level in
        elim (block q other.1) [
          | inl yes_q ↦ (q, yes_q, (d, below, way_alike new top r p q (suc d) m (λ j less. one.2 j (omega (arith, less, far))) mine))
          | inr row ↦ (
              let i_is : i ≡ index_of page k = at_k ∙ fields_same q page e k (block_below above) row in
              absurd (false≢true (sym (end.stops above) ∙ sym (ap (λ j. is_pointer (entry_at new L j)) i_is) ∙ pointer)))
        ]

    higher : (above : 0 < k) → Result m
    higher above = elim (cases_bool (is_pointer (entry_at new L i))) [
      | inl pointer ↦ over above pointer
      | inr no_pointer ↦ (
          let at : is_pointer (entry_at new L (index_of p k)) ≡ false = ap (λ j. is_pointer (entry_at new L j)) (field_at page k i lt) ∙ no_pointer in
          let last : last_table new p top r ≡ (k, L) = last_is new top r p k L end.least there (λ h. at) in
          let missing : missing_of new top r p ≡ k = missing_of-is new top r p ∙ ap (λ x. x.0) last in
          let bare : last_entry new top r p ≡ 0 = root_now.bare p (λ e. omega (arith, e, missing, above)) in
          absurd (set (sym (value last) ∙ bare)))
    ]

    on_way : Result m
    on_way = elim (cases_eq k 0) [ inl level ↦ lowest level | inr ne ↦ higher (omega (arith, ne)) ]

  by_end : (m d : ℕ) → d < top → Way new top r page (suc d) m → Result m
  by_end m d below w =
      let far : suc d + k ≤ top = above_end new top r page (suc d) m (omega (arith, below)) w in
      let has = has_entry (not_root page (top - k) L (omega (arith, far)) end.way) in
      on_way m d below w has.0 has.1 has.2 far

  -- each table that stays lies on the way to a page that is still needed
  pub still_used : (m p d : ℕ) → d < top → IsTable new m → before p → Way old top r p (suc d) m → Result m
  still_used m p d below table need w = elim (block p need) [
    | inl yes_p ↦ (p, yes_p, (d, below, stay_way old new top r page forest prunes r p (suc d) m table w))
    | inr row ↦ (
        let high = above_block p d m below row w in
        by_end m d below
        (way_alike new top r p page (suc d) m (λ j lt. fields_same p page e (top - j) (omega (arith, lt, high)) row) (stay_way old new top r page forest prunes r p (suc d) m table w)))
  ]
