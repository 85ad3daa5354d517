-- Rows without entries: what the processes see.
use Rattle.vm_types.specs.declared.mode.Levels as Levels
use Rattle.ranges.proofs.Names.{user_end, top_level, Attr, in_row, sizes, user_pages_fit, ◌≡◌, ℕ, inl, inr, ◌⊎◌, ◌+◌, ◌<◌, ◌≤◌, true, false, List, Option, Some, None, refl, sym, ap, ◌∙◌, arith, nat_tests, cases_lt, cases_Bool, and_parts}
use Rattle.ranges.proofs.Names.{and_cases, leb-true, leb-false, ltb-true, ltb-false, false≢true, leb, ltb, is_some, max, option_map, IsPage, InSlot, seat, Picture, entry, own_in, view_of, view, bytes_in, IsEntryFor, Nothing, Resident, Away}
use Rattle.ranges.proofs.Names.{IsUsed, AsRoot, OnWay, IsGranting, IsFit, Core, picture_of, seat-none}
use Rattle.ranges.{specs.{Rows.{plain}, RowsCleared.{ClearsPages, ClearsRow}, Steps.{IsBeside, Clears, IsMappedBeside, IsWithoutTables, IsCleared}}, proofs.ClearedPages.{by_row, not_beside, returned_any, returned_wider}}

view_plain : (own : Option (List ℕ)) (o : Option Attr) → own ≡ None → view_of own o ≡ option_map plain o
view_plain own None none = refl
view_plain own (Some a) none = ap (λ w. Some (record { attr = a; own = w })) none

-- a page without an entry has no own copy
pub view-bare : {mode : ℕ} (c : Picture mode) (pid page : ℕ) → entry c pid page ≡ 0 → view c pid page ≡ option_map plain (c.at pid page)
unfolding view
view-bare c pid page none = view_plain (own_in c.frames c.slots (entry c pid page)) (c.at pid page) (ap (λ o. option_map (bytes_in c.frames c.slots) o) (ap seat none ∙ seat-none))

pub unmapped_zero : {mode : ℕ} (c : Picture mode) (o : Option Attr) (e : ℕ) → IsEntryFor c o e → o ≡ None → e ≡ 0
unmapped_zero c o e (Nothing none) gone = none
unmapped_zero c o e (Resident a is resident) gone = let bad : None ≡ Some a = sym gone ∙ is in (cc)
unmapped_zero c o e (Away a is away) gone = let bad : None ≡ Some a = sym gone ∙ is in (cc)

pub none_here : (o : Option Attr) → (is_some o ≡ true → ⊥) → o ≡ None
none_here None h = refl
none_here (Some a) h = absurd (h refl)

-- a page under the first user page has no entry
module _ {mode : ℕ} where
  pub low_zero : (c : Picture mode) (pid page : ℕ) → IsGranting c → page < 16 → entry c pid page ≡ 0
  low_zero c pid page granting low =
      let h : IsPage (top_level mode) page = (let fits = user_pages_fit mode in let least = (sizes mode).least in omega (arith, fits, least, low)) in
      unmapped_zero c (c.at pid page) (entry c pid page) (granting.entries pid page h)
      (none_here (c.at pid page) (λ some. (let above = ((granting.user pid).user_pages page some).0 in omega (arith, low, above))))

pub row_parts : (first pages page : ℕ) → in_row first pages page ≡ true → (first ≤ page) × (page < first + pages)
row_parts first pages page e = let both = and_parts (leb first page) (ltb page (first + pages)) e in (leb-true first page both.0, ltb-true page (first + pages) both.1)

pub row_out : (first pages page : ℕ) → in_row first pages page ≡ false → (page < first) ⊎ (first + pages ≤ page)
row_out first pages page e = elim (and_cases (leb first page) (ltb page (first + pages)) e) [
  | inl low ↦ inl (leb-false first page low)
  | inr high ↦ inr (ltb-false page (first + pages) high)
]

-- a page between two is one of the row
pub in_row_from : (first pages k : ℕ) → first ≤ k → k < first + pages → in_row first pages k ≡ true
in_row_from first pages k low high = grind (arith, nat_tests)

-- the user pages of a row are pages of the tree
pub pages_inside : (mode first pages page : ℕ) → first + pages ≤ user_end mode → in_row first pages page ≡ true → IsPage (top_level mode) page
pages_inside mode first pages page row e = let parts = row_parts first pages page e in let fits = user_pages_fit mode in omega (arith, parts, row, fits)

-- the pages from low to high, which are the user pages of a row, were cleared
module _ {M : Type 0} {m : Levels.Ghosts M} {D E : Type 0} (was now : Core D E M m) (pid first pages low high : ℕ) (fit : IsFit (picture_of was)) (done : ClearsPages was now pid low high)
    (row : first + pages ≤ user_end m.mode) (begins : low ≡ max first 16) (ends : high ≡ max low (first + pages)) where
  abbrev old : Picture m.mode
  old = picture_of was

  abbrev new : Picture m.mode
  new = picture_of now

  abbrev clears : Clears old new pid low high
  clears = done.clears

  entry_gone : (page : ℕ) → in_row first pages page ≡ true → entry new pid page ≡ 0
  entry_gone page e =
      let at = row_parts first pages page e in
      elim (cases_lt page low) [
        | inl before ↦ low_zero new pid page done.fit.granting (omega (arith, begins, before, at))
        | inr from ↦ clears.gone page (pages_inside m.mode first pages page row e) from (omega (arith, at, ends))
      ]

  inside_row : (page : ℕ) → low ≤ page → page < high → (first ≤ page) × (page < first + pages)
  inside_row page from below = (omega (arith, begins, from), omega (arith, from, below, ends))

  beside_row : (page : ℕ) → in_row first pages page ≡ false → IsBeside pid low high pid page
  beside_row page e = elim (by_row pid low high pid page) [
    | inl out ↦ out
    | inr inside ↦ (let at = inside_row page inside.1 inside.2 in absurd (false≢true (sym e ∙ in_row_from first pages page at.0 at.1)))
  ]

  seated_inside : (k page : ℕ) → first ≤ page → page < first + pages → seat (entry old pid page) ≡ Some (InSlot k) → low ≤ page
  seated_inside k page from below is = elim (cases_lt page low) [
    | inr inside ↦ inside
    | inl before ↦ (
        let none : seat (entry old pid page) ≡ None = ap seat (low_zero old pid page fit.granting (omega (arith, begins, before, from))) ∙ seat-none in
        let bad : None ≡ Some (InSlot k) = sym none ∙ is in (cc))
  ]

  none_left : IsCleared new pid low high → IsWithoutTables new pid first (first + pages)
  none_left cleared m table = by_use (cleared.tables m table)
    where
      beside_it : (q p : ℕ) → IsMappedBeside new pid low high q p → IsBeside pid first (first + pages) q p
      beside_it q p here = elim (by_row pid first (first + pages) q p) [
        | inl out ↦ out
        | inr inside ↦ (
            absurd (not_beside pid low high q p here.1 inside.0 (omega (arith, begins, inside, ((done.fit.granting.user q).user_pages p here.0).0)) (omega (arith, inside, ends))))
      ]

      by_use : IsUsed new (IsMappedBeside new pid low high) m → IsUsed new (IsMappedBeside new pid first (first + pages)) m
      by_use (AsRoot q is) = AsRoot q is
      by_use (OnWay q x p is here below) = OnWay q x p is (here.0, beside_it q p here) below

  pub row_cleared : IsCleared new pid low high → ClearsRow was now pid first pages
  row_cleared cleared =
      let returned = returned_wider old new pid low high first (first + pages) inside_row clears.returned in
      record {
        row = record {
          root = clears.beside.root;
          at = λ page. clears.beside.at pid page;
          others_at = λ q page ne. clears.beside.at q page;
          entries = entry_gone;
          kept = λ page h e. clears.kept pid page h (beside_row page e);
          views = λ page. elim (cases_Bool (in_row first pages page)) [
            | inl e ↦ rw e (view-bare new pid page (entry_gone page e) ∙ ap (option_map plain) (clears.beside.at pid page))
            | inr e ↦ rw e (clears.views pid page (beside_row page e))
          ];
          others = λ q page ne. clears.views q page (inl ne);
        };
        files = record { held = λ p. inl (clears.held p); touched = clears.beside.touched; files = clears.beside.files };
        others = λ q page h ne. clears.kept q page h (inl ne);
        tables = returned_any old new pid first (first + pages) returned;
        row_tables = returned;
        none_left = none_left cleared;
        slots = record {
          total = clears.slots.total;
          fewer = clears.slots.fewer;
          given = λ k page h from below is. clears.slots.given k page h (seated_inside k page from below is) (omega (arith, below, ends)) is;
          kept = λ k other. clears.slots.kept k (λ page h from below. (let row' = inside_row page from below in other page h row'.0 row'.1));
          bytes = clears.slots.bytes;
        };
        fit = done.fit;
        rest = done.rest;
        refused = done.refused;
      }
