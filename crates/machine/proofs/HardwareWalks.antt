-- How walks end at addresses above the user pages, and after a frame that is no table was written.
use Rattle.std.proofs.{Common.{ℕ, zero, suc, ◌+◌, ◌-◌, ◌/◌, ◌%◌, ◌^◌, ◌==◌, ◌≡◌, ◌<◌, ◌≤◌, inl, inr, true, false, Some, Ok, Err, Result, refl, sym, ap, ◌∙◌, subst, arith, ne_eqb}, lemmas.Bool.{cases_eq, cases_lt, Decides.{nat_tests}}}
use Rattle.{frames.specs.{FrameTable.{FrameTable, bytes_of, frame_count, role_of}, declared.role.Role.TheVariants.{Table}}, std.specs.Prelude.{nat_le, nat_lt}}
use Rattle.sv39_walk.{proofs.Way.{last_of-zero, last_of-stop, last_of-next}, specs.{Entry.{entry_at, frame_of, has_bit, is_pointer}, Walk.{answer_of, index_of, is_canonical, last_of, leads_on, translated}, declared.translation.WalkFault.{WalkFault, TheVariants.{Invalid, NonCanonical}}}}
use Rattle.page_tables.{proofs.{Ends.{last_entry-is, page_entry-whole}, Setting.{entry_at-bytes}, Ways.{cases_bool, last_table-next, last_table-stop, last_table-zero, next_table}}, specs.Tree.{IsForest, IsPage, IsRoot, IsTable, last_entry, last_table, missing_of, page_entry}}
use Rattle.{fault.proofs.Ready.{page_user}, residency.{proofs.Entries.{entry-of}, specs.{Parts.{IsFit, IsEntryFor, Nothing, Resident, Away}, Picture.{Picture, entry}}}}
use Rattle.vm_types.{proofs.Modes.{two_modes, user_pages_fit}, specs.{Limits.{top_level, user_end}, declared.{access.Access.{Access}, number.Phys.{Phys}}}}

below_true : (m n : ℕ) → m < n → nat_lt m n ≡ true
below_true m n h = grind (arith, nat_tests)

outside_false : (m n : ℕ) → m < n → nat_le n m ≡ false
outside_false m n h = grind (arith, nat_tests)

-- where each table has its bytes, the walks through it end as they did
last_same : (old new : FrameTable) → IsForest old → frame_count new ≡ frame_count old → ((n i : ℕ) → IsTable old n → entry_at new n i ≡ entry_at old n i)
    → (page level n : ℕ) → IsTable old n → last_of new page level n ≡ last_of old page level n
unfolding last_of
last_same old new forest size entries page zero n table = ap (λ (e : ℕ). (0, e)) (entries n (index_of page 0) table)
last_same old new forest size entries page (suc level) n table =
    let e = entry_at old n (index_of page (suc level)) in
    let here = entries n (index_of page (suc level)) table in
    elim (cases_bool (is_pointer e)) [
      | inl pointer ↦ (
          let there = forest.onto_tables n _ _ (next_table old page (suc level) n table pointer) in
          rw (here, size, pointer, below_true (frame_of e) (frame_count old) there.inside) (last_same old new forest size entries page level (frame_of e) there))
      | inr stop ↦ rw (here, size, stop) refl
    ]

pub walks_same : (old new : FrameTable) (top root addr : ℕ) (access : Access) → IsForest old → IsTable old root → frame_count new ≡ frame_count old
    → ((n : ℕ) → role_of old n ≡ Table → bytes_of new n ≡ bytes_of old n) → translated top new root addr access ≡ translated top old root addr access
unfolding translated
walks_same old new top root addr access forest table size tables =
    rw (last_same old new forest size (λ n i is. entry_at-bytes old new n i (tables n is.role)) (addr / 4096) top root table, size) refl

abbrev with_entry : FrameTable → ℕ → ℕ × ℕ → ℕ × ℕ
with_entry t page last = (last.0, entry_at t last.1 (index_of page last.0))

-- the last entry of the walk stands where the way through the tables ends
last_of-table : (t : FrameTable) → IsForest t → (page level n : ℕ) → IsTable t n → last_of t page level n ≡ with_entry t page (last_table t page level n)
last_of-table t forest page zero n table = last_of-zero t page n ∙ ap (with_entry t page) (sym (last_table-zero t page n))
last_of-table t forest page (suc level) n table = elim (cases_bool (is_pointer (entry_at t n (index_of page (suc level))))) [
  | inl pointer ↦ (
      let e = entry_at t n (index_of page (suc level)) in
      let there = forest.onto_tables n _ _ (next_table t page (suc level) n table pointer) in
      let leads : leads_on t e ≡ true = rw pointer (below_true (frame_of e) (frame_count t) there.inside) in
      let less : suc level - 1 ≡ level = omega arith in
      last_of-next t page (suc level) n (omega arith) leads ∙ ap (λ k. last_of t page k (frame_of e)) less
      ∙ last_of-table t forest page level (frame_of e) there ∙ ap (with_entry t page) (sym (last_table-next t page level n pointer)))
  | inr stop ↦ (
      let stops : leads_on t (entry_at t n (index_of page (suc level))) ≡ false = rw stop in
      last_of-stop t page (suc level) n (omega arith) stops ∙ ap (with_entry t page) (sym (last_table-stop t page level n stop)))
]

-- the walk to a page without an entry ends in none
last_none : (t : FrameTable) (top root page : ℕ) → IsForest t → IsRoot top t root → page_entry t top root page ≡ 0 → (last_of t page top root).1 ≡ 0
last_none t top root page forest is_root none =
    let ends : (last_of t page top root).1 ≡ last_entry t top root page = ap (λ (x : ℕ × ℕ). x.1) (last_of-table t forest page top root is_root.table) ∙ sym (last_entry-is t top root page) in
    elim (cases_eq (missing_of t top root page) 0) [
      | inl whole ↦ ends ∙ sym (page_entry-whole t top root page whole) ∙ none
      | inr ne ↦ ends ∙ is_root.bare page ne
    ]

-- pages with the same fields
abbrev SameFields : ℕ → ℕ → ℕ → Type 0
SameFields top p q = (l : ℕ) → l ≤ top → index_of p l ≡ index_of q l

-- walks to them end alike
last_alike : (t : FrameTable) (p q level n : ℕ) → SameFields level p q → last_of t p level n ≡ last_of t q level n
unfolding last_of
last_alike t p q zero n same = ap (λ (i : ℕ). (0, entry_at t n i)) (same 0 (omega arith))
last_alike t p q (suc level) n same =
    rw (same (suc level) (omega arith), last_alike t p q level (frame_of (entry_at t n (index_of q (suc level)))) (λ l low. same l (omega (arith, low)))) refl

fields_three : (p : ℕ) → SameFields 2 p (p % 2 ^ 27)
unfolding index_of
fields_three p zero low = omega arith
fields_three p (suc zero) low = omega arith
fields_three p (suc (suc zero)) low = omega arith
fields_three p (suc (suc (suc l))) low = absurd (omega (arith, low))

fields_four : (p : ℕ) → SameFields 3 p (p % 2 ^ 36)
unfolding index_of
fields_four p zero low = omega arith
fields_four p (suc zero) low = omega arith
fields_four p (suc (suc zero)) low = omega arith
fields_four p (suc (suc (suc zero))) low = omega arith
fields_four p (suc (suc (suc (suc l)))) low = absurd (omega (arith, low))

high_three : (addr : ℕ) → is_canonical 2 addr ≡ true → 2 ^ 26 ≤ addr / 4096 → 2 ^ 26 ≤ addr / 4096 % 2 ^ 27
unfolding is_canonical
high_three addr fits above =
    let rest : (addr / 2 ^ 38 + 1 == 2 ^ 26) ≡ true = rw (ne_eqb (addr / 2 ^ 38) 0 (λ none. omega (arith, above, none))) at fits in
    let ones : addr / 2 ^ 38 + 1 ≡ 2 ^ 26 = grind (arith, nat_tests, rest) in
    omega (arith, ones)

high_four : (addr : ℕ) → is_canonical 3 addr ≡ true → 2 ^ 35 ≤ addr / 4096 → 2 ^ 35 ≤ addr / 4096 % 2 ^ 36
unfolding is_canonical
high_four addr fits above =
    let rest : (addr / 2 ^ 47 + 1 == 2 ^ 17) ≡ true = rw (ne_eqb (addr / 2 ^ 47) 0 (λ none. omega (arith, above, none))) at fits in
    let ones : addr / 2 ^ 47 + 1 ≡ 2 ^ 17 = grind (arith, nat_tests, rest) in
    omega (arith, ones)

-- the page of the tables' upper half that has the fields of an address above the user pages
high_page : (mode addr : ℕ) → is_canonical (top_level mode) addr ≡ true → user_end mode ≤ addr / 4096
    → (page : ℕ) × IsPage (top_level mode) page × (user_end mode ≤ page) × SameFields (top_level mode) (addr / 4096) page
high_page mode addr fits above = elim (two_modes mode) [
  | inl three ↦ (
    addr / 4096 % 2 ^ 27,
    (let all = user_pages_fit mode in omega (arith, all, three.1)),
    (let high = high_three addr (ap (λ top. is_canonical top addr) (sym three.0) ∙ fits) (omega (arith, above, three.1)) in omega (arith, high, three.1)),
    subst (λ (top : ℕ). SameFields top (addr / 4096) (addr / 4096 % 2 ^ 27)) (sym three.0) (fields_three (addr / 4096)),
  )
  | inr four ↦ (
    addr / 4096 % 2 ^ 36,
    (let all = user_pages_fit mode in omega (arith, all, four.1)),
    (let high = high_four addr (ap (λ top. is_canonical top addr) (sym four.0) ∙ fits) (omega (arith, above, four.1)) in omega (arith, high, four.1)),
    subst (λ (top : ℕ). SameFields top (addr / 4096) (addr / 4096 % 2 ^ 36)) (sym four.0) (fields_four (addr / 4096)),
  )
]

module _ {mode : ℕ} where
  -- above the user pages there is no entry
  bare : (c : Picture mode) (pid page : ℕ) → IsFit c → user_end mode ≤ page → IsEntryFor c (c.at pid page) (entry c pid page) → entry c pid page ≡ 0
  bare c pid page fit above (Nothing none) = none
  bare c pid page fit above (Resident a at lies) = absurd (let user = page_user c pid page a fit at in omega (arith, above, user.1))
  bare c pid page fit above (Away a at lies) = absurd (let user = page_user c pid page a fit at in omega (arith, above, user.1))

  -- so the tables grant accesses to user pages alone
  pub user_walked : (c : Picture mode) (pid root addr : ℕ) (access : Access) (place : Phys) → IsFit c → c.root pid ≡ Some root
      → translated (top_level mode) c.frames root addr access ≡ Ok place → addr / 4096 < user_end mode
  unfolding translated answer_of has_bit
  user_walked c pid root addr access place fit lives is = elim (cases_lt (addr / 4096) (user_end mode)) [
    | inl low ↦ low
    | inr above ↦ elim (cases_bool (is_canonical (top_level mode) addr)) [
      | inl fits ↦ (
          let is_root = fit.rooted.roots pid root lives in
          let high = high_page mode addr fits above in
          let none = sym (entry-of c pid root high.0 lives) ∙ bare c pid high.0 fit high.2 (fit.granting.entries pid high.0 high.1) in
          let ends = ap (λ (x : ℕ × ℕ). x.1) (last_alike c.frames (addr / 4096) high.0 (top_level mode) root high.3)
          ∙ last_none c.frames (top_level mode) root high.0 fit.rooted.forest is_root none in
          absurd (let never : ◌≡◌ {A = Result Phys WalkFault} (Err Invalid) (Ok place) = rw (fits, outside_false root (frame_count c.frames) is_root.table.inside, ends) at is in cc))
      | inr outside ↦ absurd (let never : ◌≡◌ {A = Result Phys WalkFault} (Err NonCanonical) (Ok place) = rw outside at is in cc)
    ]
  ]
