-- What the walks along a list find, said of its map.
use Rattle.std.proofs.Common.{◌==◌, IfSome, IsSome, ◌/◌, ◌≡◌, ℕ, zero, suc, ◌+◌, ◌<◌, ◌≤◌, ◌⊎◌, inl, inr, max, Bool, true, false, not, if◌then◌else◌, ◌&&◌, leb, ltb, refl, sym, ◌∙◌, ap, ap₂, arith, List, [], ◌∷◌, Option, Some, None}
use Rattle.{std.proofs.{Common.{is_some, is_none, true≢false, leb-true, leb-false, ltb-true, le-leb, lt-ltb}, lemmas.Bool.{cases_Bool, cases_eq, false_from_ne_true, and_parts, and_from}}, vm_types.specs.Limits.{user_end}}
use Rattle.{vm_types.specs.{Placement.{is_free, is_place, lowest_from, lowest_place, placed}, Rows.{is_covered}, declared.region.Attr.{Attr}}, regions.proofs.{ListLemmas.{attr_at-before}, RunLemmas.{by_leb, by_ltb, lt_or_le}}}
use Rattle.regions.{proofs.RunLemmas.{attr_in-inside, attr_in-below, attr_in-above}, specs.{Run.{IsRun, attr_in}, RunList.{run_or_else, attr_at, IsMaximal}, Search.{gap_from, is_clear, lowest_gap}, declared.run.Run.{Run}}}

-- rows all mapped, or all free

pub is_covered-all : (map : ℕ → Option Attr) (first count : ℕ) → ((k : ℕ) → first ≤ k → k < first + count → is_some (map k) ≡ true) → is_covered map first count ≡ true
unfolding is_covered
is_covered-all map first zero h = refl
is_covered-all map first (suc count) h =
    and_from (is_some (map (first + count))) (is_covered map first count) (h (first + count) (omega arith) (omega arith)) (is_covered-all map first count (λ k a b. h k a (omega arith)))

pub is_covered-at : (map : ℕ → Option Attr) (first count k : ℕ) → is_covered map first count ≡ true → first ≤ k → k < first + count → is_some (map k) ≡ true
unfolding is_covered
is_covered-at map first zero k e a b = absurd (omega arith)
is_covered-at map first (suc count) k e a b =
    let parts = and_parts (is_some (map (first + count))) (is_covered map first count) e in
    elim (cases_eq k (first + count)) [
      | inl q ↦ ap (λ (n : ℕ). is_some (map n)) q ∙ parts.0
      | inr q ↦ is_covered-at map first count k parts.1 a (omega arith)
    ]

pub is_free-all : (map : ℕ → Option Attr) (first count : ℕ) → ((k : ℕ) → first ≤ k → k < first + count → map k ≡ None) → is_free map first count ≡ true
unfolding is_free
is_free-all map first zero h = refl
is_free-all map first (suc count) h =
    and_from (is_none (map (first + count))) (is_free map first count) (ap (λ (o : Option Attr). is_none o) (h (first + count) (omega arith) (omega arith))) (is_free-all map first count (λ k a b. h k a (omega arith)))

none_is : (o : Option Attr) → is_none o ≡ true → o ≡ None
none_is None e = refl
none_is (Some a) e = cc

pub is_free-at : (map : ℕ → Option Attr) (first count k : ℕ) → is_free map first count ≡ true → first ≤ k → k < first + count → map k ≡ None
unfolding is_free
is_free-at map first zero k e a b = absurd (omega arith)
is_free-at map first (suc count) k e a b =
    let parts = and_parts (is_none (map (first + count))) (is_free map first count) e in
    elim (cases_eq k (first + count)) [
      | inl q ↦ ap (λ (n : ℕ). map n) q ∙ none_is (map (first + count)) parts.0
      | inr q ↦ is_free-at map first count k parts.1 a (omega arith)
    ]

some_else : (a b : Option Attr) → is_some b ≡ true → is_some (run_or_else a b) ≡ true
some_else None b e = e
some_else (Some x) b e = refl

some_inside : (run : Run) (runs : List Run) (page : ℕ) → run.first ≤ page → page < run.end → is_some (attr_at (run ∷ runs) page) ≡ true
some_inside run runs page a b = ap (λ (o : Option Attr). is_some (run_or_else o (attr_at runs page))) (attr_in-inside run page a b)

-- the gap is the first page from this one on that isn't mapped

pub record IsGap (map : ℕ → Option Attr) (page gap : ℕ) : Type 0 where
  pub from : page ≤ gap
  pub mapped : (k : ℕ) → page ≤ k → k < gap → is_some (map k) ≡ true
  pub open_there : map gap ≡ None

-- places

pub record IsPlace (mode : ℕ) (map : ℕ → Option Attr) (count first : ℕ) : Type 0 where
  pub low : 16 ≤ first
  pub high : first + count ≤ user_end mode
  pub free : is_free map first count ≡ true

-- the lowest place, if any
abbrev pub IsLowest : ℕ → (ℕ → Option Attr) → ℕ → Option ℕ → Type 0
IsLowest mode map count None = (first : ℕ) → IsPlace mode map count first → ⊥
IsLowest mode map count (Some place) = IsPlace mode map count place × ((first : ℕ) → first < place → IsPlace mode map count first → ⊥)

pub some_from : (r : Option ℕ) (n : ℕ) → IfSome r (λ x. x ≡ n) → IsSome r → r ≡ Some n
some_from None n f s = cc
some_from (Some x) n f s = ap (λ (k : ℕ). Some k) f

module _ (mode : ℕ) where
  gap_here : (run : Run) (runs : List Run) (page : ℕ) → IsRun mode run → IsMaximal mode run.end runs → page < run.first → IsGap (attr_at (run ∷ runs)) page page
  gap_here run runs page r rest h =
      record {
        from = omega arith;
        mapped = λ k a b. absurd (omega arith);
        open_there = ap (λ (o : Option Attr). run_or_else o (attr_at runs page)) (attr_in-below run page h) ∙ attr_at-before mode run.end runs page rest (omega arith);
      }

  gap_further : (run : Run) (runs : List Run) (page gap : ℕ) → run.first ≤ page → IsGap (attr_at runs) (max page run.end) gap → IsGap (attr_at (run ∷ runs)) page gap
  gap_further run runs page gap h g =
      record {
        from = omega arith;
        mapped = λ k a b. elim (lt_or_le k run.end) [
          | inl c ↦ some_inside run runs k (omega arith) c
          | inr c ↦ some_else (attr_in run k) (attr_at runs k) (g.mapped k (omega arith) b)
        ];
        open_there = ap (λ (o : Option Attr). run_or_else o (attr_at runs gap)) (attr_in-above run gap (omega arith)) ∙ g.open_there;
      }

  pub gap_from-is : (from page : ℕ) (runs : List Run) → IsMaximal mode from runs → IsGap (attr_at runs) page (gap_from page runs)
  gap_from-is from page [] m = record { from = omega arith; mapped = λ k a b. absurd (omega arith); open_there = refl }
  gap_from-is from page (run ∷ runs) m =
      by_ltb (IsGap (attr_at (run ∷ runs)) page) page run.first page (gap_from (max page run.end) runs)
      (λ h. gap_here run runs page m.1 m.3 h)
      (λ h. gap_further run runs page (gap_from (max page run.end) runs) h (gap_from-is run.end (max page run.end) runs m.3))

  covered_by_gap : (map : ℕ → Option Attr) (first count gap : ℕ) → IsGap map first gap → (b : Bool) → leb (first + count) gap ≡ b → is_covered map first count ≡ b
  covered_by_gap map first count gap g true e =
      let l : first + count ≤ gap = leb-true (first + count) gap e in
      is_covered-all map first count (λ k a b. g.mapped k a (omega arith))
  covered_by_gap map first count gap g false e =
      false_from_ne_true (is_covered map first count)
      (λ c. true≢false (sym (is_covered-at map first count gap c g.from (leb-false (first + count) gap e)) ∙ ap (λ (o : Option Attr). is_some o) g.open_there))

  pub is_covered-gap : (runs : List Run) (first count : ℕ) → IsMaximal mode 16 runs → is_covered (attr_at runs) first count ≡ leb (first + count) (gap_from first runs)
  is_covered-gap runs first count m =
      covered_by_gap (attr_at runs) first count (gap_from first runs) (gap_from-is 16 first runs m) (leb (first + count) (gap_from first runs)) refl

  -- a clear row is free

  clear_apart : (run : Run) (first end : ℕ) → not (ltb run.first end && ltb first run.end) ≡ true → (end ≤ run.first) ⊎ (run.end ≤ first)
  clear_apart run first end e = elim (lt_or_le run.first end) [
    | inl a ↦ elim (lt_or_le first run.end) [ inl b ↦ absurd (true≢false (sym (rw (lt-ltb run.first end a, lt-ltb first run.end b) at e))) | inr b ↦ inr b ]
    | inr a ↦ inl a
  ]

  clear_none : (first end : ℕ) (runs : List Run) (k : ℕ) → is_clear first end runs ≡ true → first ≤ k → k < end → attr_at runs k ≡ None
  clear_none first end [] k e a b = refl
  clear_none first end (run ∷ runs) k e a b =
      let parts = and_parts (not (ltb run.first end && ltb first run.end)) (is_clear first end runs) e in
      ap (λ (o : Option Attr). run_or_else o (attr_at runs k))
      (elim (clear_apart run first end parts.0) [ inl h ↦ attr_in-below run k (omega arith) | inr h ↦ attr_in-above run k (omega arith) ])
      ∙ clear_none first end runs k parts.1 a b

  rest_none : (a b : Option Attr) → run_or_else a b ≡ None → b ≡ None
  rest_none None b e = e
  rest_none (Some x) b e = cc

  none_clear : (from first end : ℕ) (runs : List Run) → IsMaximal mode from runs → first < end → ((k : ℕ) → first ≤ k → k < end → attr_at runs k ≡ None) → is_clear first end runs ≡ true
  none_clear from first end [] m h none = refl
  none_clear from first end (run ∷ runs) m h none =
      and_from (not (ltb run.first end && ltb first run.end)) (is_clear first end runs)
      (ap not (false_from_ne_true (ltb run.first end && ltb first run.end)
      (λ e.
      let parts = and_parts (ltb run.first end) (ltb first run.end) e in
      let a : run.first < end = ltb-true run.first end parts.0 in
      let b : first < run.end = ltb-true first run.end parts.1 in
      true≢false (sym (some_inside run runs (max run.first first) (omega arith) (omega arith)) ∙ ap (λ (o : Option Attr). is_some o) (none (max run.first first) (omega arith) (omega arith))))))
      (none_clear run.end first end runs m.3 h (λ k a b. rest_none (attr_in run k) (attr_at runs k) (none k a b)))

  pub is_free-clear : (runs : List Run) (first count : ℕ) → IsMaximal mode 16 runs → 0 < count → is_free (attr_at runs) first count ≡ is_clear first (first + count) runs
  is_free-clear runs first count m h = elim (cases_Bool (is_clear first (first + count) runs)) [
    | inl e ↦ is_free-all (attr_at runs) first count (λ k a b. clear_none first (first + count) runs k e a b) ∙ sym e
    | inr e ↦ (false_from_ne_true (is_free (attr_at runs) first count)
        (λ f. true≢false (sym (none_clear 16 first (first + count) runs m (omega arith) (λ k a b. is_free-at (attr_at runs) first count k f a b)) ∙ e))
        ∙ sym e)
  ]

  pub is_place-true : (map : ℕ → Option Attr) (count first : ℕ) → IsPlace mode map count first → is_place mode map count first ≡ true
  unfolding is_place
  is_place-true map count first p =
      and_from (leb 16 first) (leb (first + count) (user_end mode) && is_free map first count) (le-leb 16 first p.low)
      (and_from (leb (first + count) (user_end mode)) (is_free map first count) (le-leb (first + count) (user_end mode) p.high) p.free)

  pub is_place-is : (map : ℕ → Option Attr) (count first : ℕ) → is_place mode map count first ≡ true → IsPlace mode map count first
  unfolding is_place
  is_place-is map count first e =
      let parts = and_parts (leb 16 first) (leb (first + count) (user_end mode) && is_free map first count) e in
      let more = and_parts (leb (first + count) (user_end mode)) (is_free map first count) parts.1 in
      record { low = leb-true 16 first parts.0; high = leb-true (first + count) (user_end mode) more.0; free = more.1 }

  from_test : (map : ℕ → Option Attr) (count first pages : ℕ) (b : Bool) → is_place mode map count first ≡ b → lowest_from mode map count first (suc pages) ≡ (if b then Some first else lowest_from mode map count (suc first) pages)
  unfolding lowest_from
  from_test map count first pages true e = rw (e, lowest_from)
  from_test map count first pages false e = rw (e, lowest_from)

  lowest_from-none : (map : ℕ → Option Attr) (count first pages : ℕ) → ((k : ℕ) → IsPlace mode map count k → ⊥) → lowest_from mode map count first pages ≡ None
  unfolding lowest_from
  lowest_from-none map count first zero h = refl
  lowest_from-none map count first (suc pages) h =
      from_test map count first pages false (false_from_ne_true (is_place mode map count first) (λ e. h first (is_place-is map count first e)))
      ∙ lowest_from-none map count (suc first) pages h

  lowest_from-some : (map : ℕ → Option Attr) (count first pages place : ℕ) → IsPlace mode map count place → ((k : ℕ) → k < place → IsPlace mode map count k → ⊥) → first ≤ place → place < first + pages → lowest_from mode map count first pages ≡ Some place
  unfolding lowest_from
  lowest_from-some map count first zero place p low a b = absurd (omega arith)
  lowest_from-some map count first (suc pages) place p low a b = elim (cases_eq first place) [
    | inl e ↦ from_test map count first pages true (ap (λ (n : ℕ). is_place mode map count n) e ∙ is_place-true map count place p) ∙ ap (λ (n : ℕ). Some n) e
    | inr e ↦ (from_test map count first pages false (false_from_ne_true (is_place mode map count first) (λ t. low first (omega arith) (is_place-is map count first t)))
        ∙ lowest_from-some map count (suc first) pages place p low (omega arith) (omega arith))
  ]

  pub lowest_place-is : (map : ℕ → Option Attr) (count : ℕ) (place : Option ℕ) → IsLowest mode map count place → lowest_place mode map count ≡ place
  unfolding lowest_place
  lowest_place-is map count None h = lowest_from-none map count 16 (user_end mode) h
  lowest_place-is map count (Some place) h =
      let low : 16 ≤ place = h.0.low in
      lowest_from-some map count 16 (user_end mode) place h.0 h.1 low (omega arith)

  -- the walk that looks for it

  module _ (map : ℕ → Option Attr) (count : ℕ) (some : 0 < count) where
    low_here : (page : ℕ) → 16 ≤ page → page + count ≤ user_end mode → ((k : ℕ) → page ≤ k → k < page + count → map k ≡ None) → ((k : ℕ) → k < page → IsPlace mode map count k → ⊥) → IsLowest mode map count (Some page)
    low_here page a b free low = (record { low = a; high = b; free = is_free-all map page count free }, low)

    -- no place before the end of a run that leaves too small a gap
    no_place : (run : Run) (runs : List Run) (page : ℕ) → IsRun mode run → run.first < page + count → ((k : ℕ) → page ≤ k → map k ≡ attr_at (run ∷ runs) k) → ((k : ℕ) → k < page → IsPlace mode map count k → ⊥) → (k : ℕ) → k < run.end → IsPlace mode map count k → ⊥
    no_place run runs page r over same low k h p = elim (lt_or_le k page) [
      | inl c ↦ low k c p
      | inr c ↦ (true≢false (sym (some_inside run runs (max k run.first) (omega arith) (omega arith))
          ∙ ap (λ (o : Option Attr). is_some o) (sym (same (max k run.first) (omega arith)) ∙ is_free-at map k count (max k run.first) p.free (omega arith) (omega arith))))
    ]

    walk : (page : ℕ) (runs : List Run) → 16 ≤ page → IsMaximal mode page runs → ((k : ℕ) → page ≤ k → map k ≡ attr_at runs k) → ((k : ℕ) → k < page → IsPlace mode map count k → ⊥) → IsLowest mode map count (lowest_gap mode count page runs)
    walk page [] a m same low =
        by_leb (IsLowest mode map count) (page + count) (user_end mode) (Some page) None
        (λ (h : page + count ≤ user_end mode). low_here page a h (λ k c _. same k c) low)
        (λ (h : user_end mode < page + count).
        λ k p. elim (lt_or_le k page) [ inl c ↦ low k c p | inr c ↦ let high : k + count ≤ user_end mode = p.high in absurd (omega arith) ])
    walk page (run ∷ runs) a m same low =
        by_leb (IsLowest mode map count) (page + count) run.first (Some page) (lowest_gap mode count run.end runs)
        (λ (h : page + count ≤ run.first).
        low_here page a (omega arith)
        (λ k c d. same k c ∙ ap (λ (o : Option Attr). run_or_else o (attr_at runs k)) (attr_in-below run k (omega arith)) ∙ attr_at-before mode run.end runs k m.3 (omega arith))
        low)
        (λ (h : run.first < page + count).
        walk run.end runs (omega arith) m.3
        (λ k c. same k (omega arith) ∙ ap (λ (o : Option Attr). run_or_else o (attr_at runs k)) (attr_in-above run k c))
        (no_place run runs page m.1 h same low))

  pub lowest_place-gap : (runs : List Run) (count : ℕ) → IsMaximal mode 16 runs → 0 < count → lowest_place mode (attr_at runs) count ≡ lowest_gap mode count 16 runs
  lowest_place-gap runs count m h =
      lowest_place-is (attr_at runs) count (lowest_gap mode count 16 runs)
      (walk (attr_at runs) count h 16 runs (omega arith) m (λ k _. refl)
      (λ k b p. let low : 16 ≤ k = p.low in absurd (omega arith)))

  pub is_place-clear : (runs : List Run) (count first : ℕ) → IsMaximal mode 16 runs → 0 < count → 16 ≤ first → first + count ≤ user_end mode → is_place mode (attr_at runs) count first ≡ is_clear first (first + count) runs
  unfolding is_place
  is_place-clear runs count first m h a b =
      ap₂ (λ (x y : Bool). x && (y && is_free (attr_at runs) first count)) (le-leb 16 first a) (le-leb (first + count) (user_end mode) b)
      ∙ is_free-clear runs first count m h

  pub is_place-not : (map : ℕ → Option Attr) (count first : ℕ) → (first < 16) ⊎ (user_end mode < first + count) → is_place mode map count first ≡ false
  is_place-not map count first h =
      false_from_ne_true (is_place mode map count first)
      (λ e.
      let p : IsPlace mode map count first = is_place-is map count first e in
      elim h [ inl a ↦ absurd (omega arith) | inr a ↦ absurd (omega arith) ])

  pub placed-is : (map : ℕ → Option Attr) (address count : ℕ) (x y : Bool) → (address == 0) ≡ x → is_place mode map count (address / 4096) ≡ y
      → placed mode map address count ≡ (if not x && y then Some (address / 4096) else lowest_place mode map count)
  unfolding placed
  placed-is map address count x y e p = ap₂ (λ (x y : Bool). if not x && y then Some (address / 4096) else lowest_place mode map count) e p
