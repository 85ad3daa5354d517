-- A maximal list is as long as its map has runs.
use Rattle.std.proofs.{Common.{inl, inr, ◌≡◌, ◌≢◌, ℕ, zero, suc, ◌+◌, ◌-◌, ◌<◌, ◌≤◌, Bool, true, false, not, if◌then◌else◌, refl, sym, ◌∙◌, ap, ap₂, arith, List, [], ◌∷◌, length, Option, Some, None}, lemmas.Bool.{cases_eq}}
use Rattle.vm_types.specs.{Limits.{user_end}, declared.region.Attr.{Attr}, Attributes.{attr_after, attr_eq}, Runs.{begins, begins_run, runs_below, run_count}}
use Rattle.regions.specs.{declared.run.Run.{Run}, Run.{IsRun}, RunList.{run_or_else, attr_at, joins_first, IsMaximal, end_of}}
use Rattle.regions.proofs.{AttrLemmas.{attr_after-add, attr_eq-same}, RunLemmas.{lt_or_le, attr_in-inside, attr_in-below, attr_in-above}, ListLemmas.{end_of-from, end_of-user, attr_at-before}, WalkLemmas.{not_merged}}

-- the page before
abbrev before_of : (ℕ → Option Attr) → ℕ → Option Attr
before_of map zero = None
before_of map (suc page) = map page

begins_run-is : (map : ℕ → Option Attr) (page : ℕ) → begins_run map page ≡ begins (before_of map page) (map page)
begins_run-is map zero = refl
begins_run-is map (suc page) = refl

before_same : (map other : ℕ → Option Attr) (page : ℕ) → ((k : ℕ) → k < page → map k ≡ other k) → before_of map page ≡ before_of other page
before_same map other zero h = refl
before_same map other (suc page) h = h page (omega arith)

begins_run-same : (map other : ℕ → Option Attr) (page : ℕ) → ((k : ℕ) → k < suc page → map k ≡ other k) → begins_run map page ≡ begins_run other page
begins_run-same map other page h =
    begins_run-is map page
    ∙ ap₂ (λ (a b : Option Attr). begins a b) (before_same map other page (λ k l. h k (omega arith))) (h page (omega arith))
    ∙ sym (begins_run-is other page)

pub runs_below-same : (map other : ℕ → Option Attr) (end : ℕ) → ((k : ℕ) → k < end → map k ≡ other k) → runs_below map end ≡ runs_below other end
unfolding runs_below
runs_below-same map other zero h = refl
runs_below-same map other (suc page) h =
    ap₂ (λ (b : Bool) (n : ℕ). if b then n + 1 else n) (begins_run-same map other page h) (runs_below-same map other page (λ k l. h k (omega arith)))

module _ (mode : ℕ) where
  pub run_count-same : (map other : ℕ → Option Attr) → ((k : ℕ) → map k ≡ other k) → run_count mode map ≡ run_count mode other
  unfolding run_count
  run_count-same map other h = runs_below-same map other (user_end mode) (λ k _. h k)

  nothing_before : (page : ℕ) → before_of (λ _. None) page ≡ None
  nothing_before zero = refl
  nothing_before (suc page) = refl

  module _ (run : Run) (runs : List Run) (r : IsRun mode run) (rest : IsMaximal mode run.end runs) where
    at_below : (page : ℕ) → page < run.first → attr_at (run ∷ runs) page ≡ None
    at_below page h =
        ap (λ (o : Option Attr). run_or_else o (attr_at runs page)) (attr_in-below run page h)
        ∙ attr_at-before mode run.end runs page rest (omega arith)

    rest_below : (page : ℕ) → page < run.end → attr_at runs page ≡ None
    rest_below page h = attr_at-before mode run.end runs page rest h

    at_inside : (page : ℕ) → run.first ≤ page → page < run.end → attr_at (run ∷ runs) page ≡ Some (attr_after run.attr (page - run.first))
    at_inside page a b = ap (λ (o : Option Attr). run_or_else o (attr_at runs page)) (attr_in-inside run page a b)

    at_above : (page : ℕ) → run.end ≤ page → attr_at (run ∷ runs) page ≡ attr_at runs page
    at_above page h = ap (λ (o : Option Attr). run_or_else o (attr_at runs page)) (attr_in-above run page h)

    begins_first : begins_run (attr_at (run ∷ runs)) run.first ≡ true
    begins_first = rw (begins_run-is (attr_at (run ∷ runs)) run.first, before_same (attr_at (run ∷ runs)) (λ _. None) run.first (λ k h. at_below k h), nothing_before run.first, at_inside run.first (omega arith) r.nonempty) refl

    rest_first : begins_run (attr_at runs) run.first ≡ false
    rest_first = rw (begins_run-is (attr_at runs) run.first, rest_below run.first r.nonempty) refl

    inside_same : (page : ℕ) → run.first ≤ page → suc page < run.end → begins_run (attr_at (run ∷ runs)) (suc page) ≡ begins_run (attr_at runs) (suc page)
    inside_same page a b = rw (at_inside page a (omega arith), at_inside (suc page) (omega arith) b, rest_below (suc page) b)
        (ap not (attr_eq-same _ _ (attr_after-add run.attr (page - run.first) 1 ∙ ap (λ (n : ℕ). attr_after run.attr n) (omega arith))))

    -- at the page past the run
    end_none : (page : ℕ) → run.first ≤ page → suc page ≡ run.end → attr_at runs (suc page) ≡ None → begins_run (attr_at (run ∷ runs)) (suc page) ≡ begins_run (attr_at runs) (suc page)
    end_none page a e none = rw (at_above (suc page) (omega arith), none) refl

    end_some : (page : ℕ) (next : Attr) → run.first ≤ page → suc page ≡ run.end → attr_at runs (suc page) ≡ Some next → attr_eq (attr_after run.attr (run.end - run.first)) next ≡ false → begins_run (attr_at (run ∷ runs)) (suc page) ≡ begins_run (attr_at runs) (suc page)
    end_some page next a e some differs =
        let d : (page - run.first) + 1 ≡ run.end - run.first = omega arith in
        rw (at_inside page a (omega arith), at_above (suc page) (omega arith), some, rest_below page (omega arith))
        (ap not (ap (λ (x : Attr). attr_eq x next) (attr_after-add run.attr (page - run.first) 1 ∙ ap (λ (n : ℕ). attr_after run.attr n) d) ∙ differs))

    above_same : (page : ℕ) → run.end ≤ page → begins_run (attr_at (run ∷ runs)) (suc page) ≡ begins_run (attr_at runs) (suc page)
    above_same page h = ap₂ (λ (x y : Option Attr). begins x y) (at_above page h) (at_above (suc page) (omega arith))

    below_same : (page : ℕ) → page < run.first → begins_run (attr_at (run ∷ runs)) page ≡ begins_run (attr_at runs) page
    below_same page h = begins_run-same (attr_at (run ∷ runs)) (attr_at runs) page (λ k l. at_below k (omega arith) ∙ sym (rest_below k (omega arith)))

  end_same : (run : Run) (runs : List Run) → IsRun mode run → IsMaximal mode run.end runs → joins_first run runs ≡ false → (page : ℕ) → run.first ≤ page → suc page ≡ run.end → begins_run (attr_at (run ∷ runs)) (suc page) ≡ begins_run (attr_at runs) (suc page)
  end_same run runs r rest j page a e = by_next (attr_at runs (suc page)) refl where
    by_next : (o : Option Attr) → attr_at runs (suc page) ≡ o → begins_run (attr_at (run ∷ runs)) (suc page) ≡ begins_run (attr_at runs) (suc page)
    by_next None is = end_none run runs r rest page a e is
    by_next (Some next) is = end_some run runs r rest page next a e is (not_merged mode run runs next rest j (ap (attr_at runs) (sym e) ∙ is))

  -- but at its first page, a run adds no beginning
  others_same : (run : Run) (runs : List Run) → IsRun mode run → IsMaximal mode run.end runs → joins_first run runs ≡ false → (page : ℕ) → page ≢ run.first → begins_run (attr_at (run ∷ runs)) page ≡ begins_run (attr_at runs) page
  others_same run runs r rest j zero n = below_same run runs r rest zero (omega arith)
  others_same run runs r rest j (suc page) n = elim (lt_or_le (suc page) run.first) [
    | inl a ↦ below_same run runs r rest (suc page) a
    | inr a ↦ elim (lt_or_le (suc page) run.end) [
      | inl b ↦ inside_same run runs r rest page (omega arith) b
      | inr b ↦ elim (lt_or_le page run.end) [
        | inl c ↦ end_same run runs r rest j page (omega arith) (omega arith)
        | inr c ↦ above_same run runs r rest page c
      ]
    ]
  ]

  count_low : (run : Run) (runs : List Run) → IsRun mode run → IsMaximal mode run.end runs → (end : ℕ) → end ≤ run.first → runs_below (attr_at (run ∷ runs)) end ≡ runs_below (attr_at runs) end
  count_low run runs r rest end h =
      runs_below-same (attr_at (run ∷ runs)) (attr_at runs) end (λ k l. at_below run runs r rest k (omega arith) ∙ sym (rest_below run runs r rest k (omega arith)))

  one_more : (b : Bool) (n k : ℕ) → n ≡ k + 1 → (if b then n + 1 else n) ≡ (if b then k + 1 else k) + 1
  one_more true n k e = ap (λ (x : ℕ). x + 1) e
  one_more false n k e = e

  pub count_high : (run : Run) (runs : List Run) → IsRun mode run → IsMaximal mode run.end runs → joins_first run runs ≡ false → (end : ℕ) → run.first < end → runs_below (attr_at (run ∷ runs)) end ≡ runs_below (attr_at runs) end + 1
  unfolding runs_below
  count_high run runs r rest j zero h = absurd (omega arith)
  count_high run runs r rest j (suc page) h = elim (cases_eq page run.first) [
    | inl e ↦ (let first : begins_run (attr_at (run ∷ runs)) page ≡ true = ap (λ (n : ℕ). begins_run (attr_at (run ∷ runs)) n) e ∙ begins_first run runs r rest in
        let none : begins_run (attr_at runs) page ≡ false = ap (λ (n : ℕ). begins_run (attr_at runs) n) e ∙ rest_first run runs r rest in
        rw (first, none, count_low run runs r rest page (omega arith)) refl)
    | inr n ↦ (ap (λ (b : Bool). if b then runs_below (attr_at (run ∷ runs)) page + 1 else runs_below (attr_at (run ∷ runs)) page) (others_same run runs r rest j page n)
        ∙ one_more (begins_run (attr_at runs) page) (runs_below (attr_at (run ∷ runs)) page) (runs_below (attr_at runs) page) (count_high run runs r rest j page (omega arith)))
  ]

  count_nothing : (end : ℕ) → runs_below (attr_at []) end ≡ 0
  unfolding runs_below
  count_nothing zero = refl
  count_nothing (suc zero) = refl
  count_nothing (suc (suc page)) = count_nothing (suc page)

  pub runs_below-maximal : (from : ℕ) (runs : List Run) (end : ℕ) → IsMaximal mode from runs → end_of from runs ≤ end → runs_below (attr_at runs) end ≡ length runs
  runs_below-maximal from [] end m h = count_nothing end
  runs_below-maximal from (run ∷ runs) end m h =
      let rest : run.end ≤ end_of run.end runs = end_of-from mode run.end runs m.3 in
      omega (arith, count_high run runs m.1 m.3 m.2 end (omega arith), runs_below-maximal run.end runs end m.3 h)

  pub run_count-maximal : (runs : List Run) → IsMaximal mode 16 runs → run_count mode (attr_at runs) ≡ length runs
  unfolding run_count
  run_count-maximal runs m = runs_below-maximal 16 runs (user_end mode) m (end_of-user mode runs m)
