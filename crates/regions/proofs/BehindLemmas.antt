-- The runs from the first one on that ends behind a page: a search by halves finds them, and each look-up from the page
-- on needs no others.
use Rattle.std.proofs.Common.{inl, inr, ◌≡◌, ℕ, zero, suc, ◌^◌, ◌<◌, ◌≤◌, max, min, Bool, true, false, if◌then◌else◌, leb, ltb, refl, sym, ◌∙◌, ap, ap₂, subst, arith, List, [], ◌∷◌, length, drop, get_or, Option, Some, None, le-leb}
use Rattle.{std.{proofs.{Common.{lt-ltb}, Math.Bool.{and-false}, lemmas.Bool.{le-ltb, lt-leb}}, specs.List.{slice_get, Sorted.{IsNonDecreasingBy, IsPartitionPoint}}}, vm_types.specs.declared.region.Attr.{Attr}}
use Rattle.regions.{proofs.{ListLemmas.{attr_at-before}, RunLemmas.{by_leb, widest_run, attr_in-above, lt_or_le, or_else-none}}, specs.{Run.{IsRun, attr_in, run_between}, RunList.{run_or_else, attr_at, IsMaximal}}}
use Rattle.regions.specs.{Search.{first_part, gap_from, is_clear, runs_behind}, declared.run.Run.{Run}}

-- what the search by halves leaves

first_test : (page : ℕ) (run : Run) (runs : List Run) (b : Bool) → leb run.end page ≡ b → runs_behind page (run ∷ runs) ≡ (if b then runs_behind page runs else run ∷ runs)
first_test page run runs b e = ap (λ (x : Bool). if x then runs_behind page runs else run ∷ runs) e

pub point_behind : (page : ℕ) (runs : List Run) (i : ℕ) → i ≤ length runs → IsPartitionPoint (λ (run : Run). leb run.end page ≡ true) (λ (run : Run). leb run.end page ≡ false) runs i → drop i runs ≡ runs_behind page runs
point_behind page [] zero h p = refl
point_behind page [] (suc i) h p = refl
point_behind page (run ∷ runs) zero h p = sym (first_test page run runs false (p.1 0 run (omega arith) (omega arith)))
point_behind page (run ∷ runs) (suc i) h p =
    point_behind page runs i (omega arith)
    (λ k d a b. p.0 (suc k) d (omega arith) (omega arith), λ k d a b. p.1 (suc k) d (omega arith) (omega arith))
    ∙ sym (first_test page run runs true (p.0 0 run (omega arith) (omega arith)))

-- what the first of them tells of the list

pub record Tells (mode : ℕ) (page : ℕ) (runs : List Run) (run : Run) : Type 0 where
  pub is_run : IsRun mode run
  pub at : attr_at runs page ≡ attr_in run page
  pub part : first_part page runs ≡ run_between page (2 ^ 35) None run
  pub clear : (end : ℕ) → is_clear page end runs ≡ leb end run.first

-- where there is none, nothing is mapped from the page on
pub record Ends (page : ℕ) (runs : List Run) : Type 0 where
  pub at : attr_at runs page ≡ None
  pub part : first_part page runs ≡ None
  pub clear : (end : ℕ) → is_clear page end runs ≡ true

abbrev pub Looked : ℕ → ℕ → List Run → Option Run → Type 0
Looked mode page runs None = Ends page runs
Looked mode page runs (Some run) = Tells mode page runs run

module _ (mode : ℕ) where
  -- the ends rise

  ends_after : (from : ℕ) (runs : List Run) (k : ℕ) (d : Run) → IsMaximal mode from runs → k < length runs → from ≤ (get_or runs k d).end
  ends_after from [] k d m h = absurd (omega arith)
  ends_after from (run ∷ runs) zero d m h = omega arith
  ends_after from (run ∷ runs) (suc k) d m h = omega (arith, ends_after run.end runs k d m.3 (omega arith))

  rise : (from : ℕ) (runs : List Run) (i j : ℕ) (d : Run) → IsMaximal mode from runs → i ≤ j → j < length runs → (get_or runs i d).end ≤ (get_or runs j d).end
  rise from [] i j d m a h = absurd (omega arith)
  rise from (run ∷ runs) zero zero d m a h = omega arith
  rise from (run ∷ runs) zero (suc j) d m a h = ends_after run.end runs j d m.3 (omega arith)
  rise from (run ∷ runs) (suc i) zero d m a h = absurd (omega arith)
  rise from (run ∷ runs) (suc i) (suc j) d m a h = rise run.end runs i j d m.3 (omega arith) (omega arith)

  pub ends_rise : (from : ℕ) (runs : List Run) → IsMaximal mode from runs → IsNonDecreasingBy (λ run. run.end) runs
  ends_rise from runs m = λ i j d a h. rise from runs i j d m a h

  -- a run that ends at the page or before it tells nothing

  module _ (page : ℕ) (run : Run) (runs : List Run) (h : run.end ≤ page) where
    at_passed : attr_at (run ∷ runs) page ≡ attr_at runs page
    at_passed = ap (λ (o : Option Attr). run_or_else o (attr_at runs page)) (attr_in-above run page h)

    part_passed : first_part page (run ∷ runs) ≡ first_part page runs
    part_passed = rw (le-ltb (max run.first page) (min run.end (2 ^ 35)) (omega arith)) refl

    clear_passed : (end : ℕ) → is_clear page end (run ∷ runs) ≡ is_clear page end runs
    clear_passed end = rw (le-ltb page run.end h, and-false (ltb run.first end)) refl

    passed : (first : Option Run) → Looked mode page runs first → Looked mode page (run ∷ runs) first
    passed None l = record { at = at_passed ∙ l.at; part = part_passed ∙ l.part; clear = λ end. clear_passed end ∙ l.clear end }
    passed (Some other) l = record { is_run = l.is_run; at = at_passed ∙ l.at; part = part_passed ∙ l.part; clear = λ end. clear_passed end ∙ l.clear end }

  -- the first that ends behind it tells all

  clear_later : (from page end : ℕ) (runs : List Run) → IsMaximal mode from runs → end ≤ from → is_clear page end runs ≡ true
  clear_later from page end [] m h = refl
  clear_later from page end (run ∷ runs) m h = rw (le-ltb run.first end (omega arith)) (clear_later run.end page end runs m.3 (omega arith))

  module _ (page : ℕ) (run : Run) (runs : List Run) (is_run : IsRun mode run) (rest : IsMaximal mode run.end runs) (h : page < run.end) where
    part_here : first_part page (run ∷ runs) ≡ run_between page (2 ^ 35) None run
    part_here = rw (lt-ltb (max run.first page) (min run.end (2 ^ 35)) (let high = widest_run mode run is_run in omega (arith, high, h))) refl

    clear_here : (end : ℕ) → is_clear page end (run ∷ runs) ≡ leb end run.first
    clear_here end = elim (lt_or_le run.first end) [
      | inl a ↦ rw (lt-ltb page run.end h, lt-ltb run.first end a, lt-leb end run.first a) refl
      | inr a ↦ rw (lt-ltb page run.end h, le-ltb run.first end a, le-leb end run.first a) (clear_later run.end page end runs rest (omega arith))
    ]

    here : Looked mode page (run ∷ runs) (Some run)
    here =
        record {
          is_run = is_run;
          at = ap (λ (o : Option Attr). run_or_else (attr_in run page) o) (attr_at-before mode run.end runs page rest h) ∙ or_else-none (attr_in run page);
          part = part_here;
          clear = clear_here;
        }

  pub looked : (from page : ℕ) (runs : List Run) → IsMaximal mode from runs → Looked mode page runs (slice_get (runs_behind page runs) 0)
  looked from page [] m = record { at = refl; part = refl; clear = λ end. refl }
  looked from page (run ∷ runs) m =
      by_leb (λ (l : List Run). Looked mode page (run ∷ runs) (slice_get l 0)) run.end page (runs_behind page runs) (run ∷ runs)
      (λ h. passed page run runs h (slice_get (runs_behind page runs) 0) (looked run.end page runs m.3))
      (λ h. here page run runs m.1 m.3 h)

  -- as a caller has the first of them
  pub first_tells : (page : ℕ) (runs behind : List Run) (first : Option Run) → IsMaximal mode 16 runs → behind ≡ runs_behind page runs → first ≡ slice_get behind 0 → Looked mode page runs first
  first_tells page runs behind first m e f =
      subst (λ (o : Option Run). Looked mode page runs o) (sym (f ∙ ap (λ (l : List Run). slice_get l 0) e)) (looked 16 page runs m)

  -- the first page from this one on that isn't mapped: the runs that end before it don't matter

  pub gap_behind : (from page : ℕ) (runs : List Run) → IsMaximal mode from runs → gap_from page (runs_behind page runs) ≡ gap_from page runs
  gap_behind from page [] m = refl
  gap_behind from page (run ∷ runs) m =
      by_leb (λ (l : List Run). gap_from page l ≡ gap_from page (run ∷ runs)) run.end page (runs_behind page runs) (run ∷ runs)
      (λ (h : run.end ≤ page).
      let before : max page run.end ≡ page = omega arith in
      let low : run.first < run.end = m.1.nonempty in
      gap_behind run.end page runs m.3 ∙ sym (ap₂ (λ (b : Bool) (n : ℕ). if b then page else gap_from n runs) (le-ltb page run.first (omega arith)) before))
      (λ _. refl)
