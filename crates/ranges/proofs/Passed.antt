-- Pages of a row that are not mapped, passed over.
use Rattle.vm_types.specs.declared.mode.Levels as Levels
use Rattle.ranges.proofs.Names.{user_end, top_level, Attr, ◌≡◌, ℕ, inl, inr, ◌<◌, ◌≤◌, ◌+◌, Option, None, ap, ◌∙◌, subst, arith, cases_lt, false≢true, max, IsSome, IsPage, Picture, entry, IsUsed, AsRoot, OnWay, IsGranting, IsFit, Core, picture_of}
use Rattle.ranges.{specs.{Rows.{IsUnmapped}, RowsCleared.{ClearsPages, ClearsRow}, Steps.{IsBeside, Clears, IsMappedBeside, IsCleared}}, proofs.{ClearedPages.{by_row, clears_none, clears_then, not_beside}, Emptied.{row_cleared, unmapped_zero}}}

-- a page that isn't mapped has no entry
bare : {mode : ℕ} (c : Picture mode) (pid page : ℕ) → IsGranting c → IsPage (top_level mode) page → c.at pid page ≡ None → entry c pid page ≡ 0
bare c pid page granting h gone = unmapped_zero c (c.at pid page) (entry c pid page) (granting.entries pid page h) gone

not_mapped : (o : Option Attr) → o ≡ None → IsSome o → ⊥
not_mapped o gone some = let P : Option Attr → Type 0 = λ x. IsSome x in false≢true (subst P gone some)

-- what was cleared goes on over pages that aren't mapped
module _ {mode : ℕ} (c : Picture mode) (pid low mid high : ℕ) (granting : IsGranting c) (gap : IsUnmapped (c.at pid) mid high) where
  none_there : (page : ℕ) → IsPage (top_level mode) page → mid ≤ page → page < high → entry c pid page ≡ 0
  none_there page h from below = bare c pid page granting h (gap page from below)

  clears_on : (old : Picture mode) → IsFit old → low ≤ mid → mid ≤ high → Clears old c pid low mid → Clears old c pid low high
  clears_on old fit le le' clears = clears_then old c c pid low mid high fit le le' clears (clears_none c pid mid high none_there)

  beside_on : (q p : ℕ) → IsMappedBeside c pid low mid q p → IsBeside pid low high q p
  beside_on q p here = elim (by_row pid low high q p) [
    | inl out ↦ out
    | inr inside ↦ elim (cases_lt p mid) [
      | inl front ↦ absurd (not_beside pid low mid q p here.1 inside.0 inside.1 front)
      | inr past ↦ absurd (not_mapped (c.at q p) (ap (λ x. c.at x p) inside.0 ∙ gap p past inside.2) here.0)
    ]
  ]

  used_on : (m : ℕ) → IsUsed c (IsMappedBeside c pid low mid) m → IsUsed c (IsMappedBeside c pid low high) m
  used_on m (AsRoot q is) = AsRoot q is
  used_on m (OnWay q x p is here below) = OnWay q x p is (here.0, beside_on q p here) below

  pub cleared_on : IsCleared c pid low mid → IsCleared c pid low high
  cleared_on cleared = record {
    none = λ page h least below. elim (cases_lt page mid) [ inl front ↦ cleared.none page h least front | inr back ↦ none_there page h back below ];
    tables = λ m table. used_on m (cleared.tables m table);
  }

module _ {M : Type 0} {m : Levels.Ghosts M} {D E : Type 0} where
  pub pages_on : (old c : Core D E M m) (pid low mid high : ℕ) → IsFit (picture_of old) → low ≤ mid → mid ≤ high → IsUnmapped ((picture_of c).at pid) mid high → ClearsPages old c pid low mid → ClearsPages old c pid low high
  pages_on old c pid low mid high fit le le' gap pages = record {
    clears = clears_on (picture_of c) pid low mid high pages.fit.granting gap (picture_of old) fit le le' pages.clears;
    fit = pages.fit;
    rest = pages.rest;
    refused = pages.refused;
  }

  -- a row is cleared once it is as far as a page, and no page of the row is mapped from there on
  pub row_passed : (old c : Core D E M m) (pid first pages low page : ℕ) → IsFit (picture_of old) → ClearsPages old c pid low page → IsCleared (picture_of c) pid low page
      → first + pages ≤ user_end m.mode → low ≡ max first 16 → low ≤ page → page ≤ max low (first + pages) → IsUnmapped ((picture_of c).at pid) page (first + pages)
      → ClearsRow old c pid first pages
  row_passed old c pid first pages low page fit done cleared row begins least within none =
      let end = max page (first + pages) in
      let gap : IsUnmapped ((picture_of c).at pid) page end = λ p from below. none p from (omega (arith, from, below)) in
      row_cleared old c pid first pages low end fit (pages_on old c pid low page end fit least (omega arith) gap done) row begins (omega (arith, least, within))
      (cleared_on (picture_of c) pid low page end done.fit.granting gap cleared)
