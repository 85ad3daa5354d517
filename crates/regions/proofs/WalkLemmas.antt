-- What is public of a list's map: where it is mapped, and what a walk over its runs finds.
use Rattle.std.proofs.{Common.{inl, inr, ◌≡◌, ℕ, ◌+◌, ◌-◌, ◌^◌, ◌<◌, ◌≤◌, ◌&&◌, eq-eqb, max, min, Bool, false, refl, sym, ◌∙◌, ap, subst, arith, List, [], ◌∷◌, Option, Some, None, IsSome, IfSome, IfNone}, lemmas.Option.{same_Some}}
use Rattle.{vm_types.specs.{Attributes.{attr_after, attr_eq, backing_fits}, Limits.{user_end}, Rows.{IsUserMap}, declared.region.Attr.{Attr}}, regions.proofs.AttrLemmas.{attr_after-add, attr_after-zero, backing_fits-after}}
use Rattle.regions.proofs.{AttrLemmas.{backing_fits-less}, ListLemmas.{attr_at-before}, RunLemmas.{side, below, inside, above, by_ltb, widest_run, lt_or_le, attr_in-inside, attr_in-below, attr_in-above, attr_in-cut, clipped-inside, changed-none, IsPart, cut-run}}
use Rattle.regions.specs.{Run.{IsRun, attr_in, cut_run}, RunList.{run_or_else, attr_at, joins_first, IsMaximal, IsNextRun}, Search.{first_part, run_or}, declared.run.Run.{Run}}

-- only user pages are mapped

abbrev IsUserAttr : ℕ → ℕ → Option Attr → Type 0
IsUserAttr mode page o = (IsSome o → (16 ≤ page) × (page < user_end mode)) × IfSome o (λ attr. backing_fits attr.backing 1)

some_none : IsSome {T = Attr} None → ⊥
some_none h = cc

-- a walk's next run

-- whether the part is the next run of the map, or no page is mapped from the page on
abbrev pub IsNextOrNone : ℕ → (ℕ → Option Attr) → ℕ → Option Run → Type 0
IsNextOrNone mode map page None = (k : ℕ) → page ≤ k → map k ≡ None
IsNextOrNone mode map page (Some run) = IsNextRun mode map page run

module _ (mode : ℕ) where
  user_none : (page : ℕ) → IsUserAttr mode page None
  user_none page = (λ h. absurd (some_none h), tt)

  user_inside : (run : Run) (page : ℕ) → IsRun mode run → run.first ≤ page → page < run.end → IsUserAttr mode page (Some (attr_after run.attr (page - run.first)))
  user_inside run page r a b =
      let fits : backing_fits run.attr.backing ((page - run.first) + 1) = backing_fits-less run.attr.backing ((page - run.first) + 1) (run.end - run.first) (omega arith) r.file_pages in
      (λ _. (omega arith, omega arith), backing_fits-after run.attr.backing (page - run.first) 1 fits)

  user_in : (run : Run) (page : ℕ) → IsRun mode run → IsUserAttr mode page (attr_in run page)
  user_in run page r = elim (side run page) [
    | below a ↦ rw (attr_in-below run page a) (user_none page)
    | inside a b ↦ rw (attr_in-inside run page a b) (user_inside run page r a b)
    | above b ↦ rw (attr_in-above run page b) (user_none page)
  ]

  user_or : (page : ℕ) (a b : Option Attr) → IsUserAttr mode page a → IsUserAttr mode page b → IsUserAttr mode page (run_or_else a b)
  user_or page None b ha hb = hb
  user_or page (Some x) b ha hb = ha

  user_at : (from : ℕ) (runs : List Run) (page : ℕ) → IsMaximal mode from runs → IsUserAttr mode page (attr_at runs page)
  user_at from [] page m = user_none page
  user_at from (run ∷ runs) page m = user_or page (attr_in run page) (attr_at runs page) (user_in run page m.1) (user_at run.end runs page m.3)

  pub user_map : (runs : List Run) → IsMaximal mode 16 runs → IsUserMap mode (attr_at runs)
  user_map runs m = record { user_pages = λ page. (user_at 16 runs page m).0; file_pages = λ page. (user_at 16 runs page m).1 }

  -- where a run of the list ends, the next doesn't go on with it
  pub not_merged : (run : Run) (runs : List Run) (attr : Attr) → IsMaximal mode run.end runs → joins_first run runs ≡ false → attr_at runs run.end ≡ Some attr
      → attr_eq (attr_after run.attr (run.end - run.first)) attr ≡ false
  not_merged run [] attr rest apart there = (let bad : None ≡ Some attr = there in (cc))
  not_merged run (next ∷ runs) attr rest apart there = elim (lt_or_le run.end next.first) [
    | inl behind ↦ (let bad : None ≡ Some attr = sym (attr_at-before mode next.first (next ∷ runs) run.end (omega arith, rest.1, rest.2, rest.3) behind) ∙ there in (cc))
    | inr here ↦ (let some : next.first < next.end = rest.1.nonempty in
        let e : run.end ≡ next.first = omega (arith, rest.0, here) in
        let none : run.end - next.first ≡ 0 = omega (arith, e) in
        let is = attr_in-inside next run.end here (omega (arith, e, some)) ∙ ap (λ (n : ℕ). Some (attr_after next.attr n)) none ∙ ap (λ (a : Attr). Some a) (attr_after-zero next.attr) in
        let same : next.attr ≡ attr = same_Some next.attr attr (sym (ap (λ (o : Option Attr). run_or_else o (attr_at runs run.end)) is) ∙ there) in
        let Q : Attr → Type 0 = λ a. attr_eq (attr_after run.attr (run.end - run.first)) a ≡ false in
        subst Q same (subst (λ (b : Bool). (b && attr_eq (attr_after run.attr (run.end - run.first)) next.attr) ≡ false) (eq-eqb run.end next.first e) apart))
  ]

  next_here : (page : ℕ) (run : Run) (runs : List Run) → IsRun mode run → joins_first run runs ≡ false → IsMaximal mode run.end runs → max run.first page < min run.end (2 ^ 35) → IsNextRun mode (attr_at (run ∷ runs)) page (cut_run None run (max run.first page) (min run.end (2 ^ 35)))
  next_here page run runs r apart rest h =
      let part : IsPart mode page (2 ^ 35) run (cut_run None run (max run.first page) (min run.end (2 ^ 35))) = cut-run mode page (2 ^ 35) None run r h in
      let high : run.end ≤ 2 ^ 35 = widest_run mode run r in
      let low : 16 ≤ run.first = r.low in
      record {
        from = omega arith;
        low = omega arith;
        nonempty = h;
        high = omega arith;
        none_before = λ k a b.
            ap (λ (o : Option Attr). run_or_else o (attr_at runs k)) (attr_in-below run k (omega arith))
            ∙ attr_at-before mode run.end runs k rest (omega arith);
        mapped = λ k a b.
            let same : attr_in run k ≡ Some (attr_after (cut_run None run (max run.first page) (min run.end (2 ^ 35))).attr (k - max run.first page)) =
            sym (changed-none (attr_in run k))
            ∙ sym (clipped-inside page (2 ^ 35) None k (attr_in run k) (omega arith) (omega arith))
            ∙ sym (attr_in-cut page (2 ^ 35) None run k)
            ∙ attr_in-inside (cut_run None run (max run.first page) (min run.end (2 ^ 35))) k a b in
            ap (λ (o : Option Attr). run_or_else o (attr_at runs k)) same;
        ends = λ attr there.
            let end : min run.end (2 ^ 35) ≡ run.end = omega (arith, high) in
            let behind : attr_at (run ∷ runs) run.end ≡ attr_at runs run.end = ap (λ (o : Option Attr). run_or_else o (attr_at runs run.end)) (attr_in-above run run.end (omega arith)) in
            let count : (max run.first page - run.first) + (min run.end (2 ^ 35) - max run.first page) ≡ run.end - run.first = omega (arith, h, end) in
            let long = attr_after-add run.attr (max run.first page - run.first) (min run.end (2 ^ 35) - max run.first page) ∙ ap (attr_after run.attr) count in
            subst (λ (a : Attr). attr_eq a attr ≡ false) (sym long) (not_merged run runs attr rest apart (sym behind ∙ ap (attr_at (run ∷ runs)) (sym end) ∙ there));
      }

  next_later : (page : ℕ) (run : Run) (runs : List Run) (next : Option Run) → run.end ≤ page → IsNextOrNone mode (attr_at runs) page next → IsNextOrNone mode (attr_at (run ∷ runs)) page next
  next_later page run runs None h n = λ k a. ap (λ (o : Option Attr). run_or_else o (attr_at runs k)) (attr_in-above run k (omega arith)) ∙ n k a
  next_later page run runs (Some next) h n =
      let from : page ≤ next.first = n.from in
      record {
        from = from;
        low = n.low;
        nonempty = n.nonempty;
        high = n.high;
        none_before = λ k a b. ap (λ (o : Option Attr). run_or_else o (attr_at runs k)) (attr_in-above run k (omega arith)) ∙ n.none_before k a b;
        mapped = λ k a b. ap (λ (o : Option Attr). run_or_else o (attr_at runs k)) (attr_in-above run k (omega arith)) ∙ n.mapped k a b;
        ends = λ attr there. (
            n.ends attr (sym (ap (λ (o : Option Attr). run_or_else o (attr_at runs next.end)) (attr_in-above run next.end (omega arith))) ∙ there));
      }

  pub first_part-is : (from page : ℕ) (runs : List Run) → IsMaximal mode from runs → IsNextOrNone mode (attr_at runs) page (first_part page runs)
  first_part-is from page [] m = λ k a. refl
  first_part-is from page (run ∷ runs) m =
      let high : run.end ≤ 2 ^ 35 = widest_run mode run m.1 in
      by_ltb (λ (o : Option Run). IsNextOrNone mode (attr_at (run ∷ runs)) page (run_or o (first_part page runs))) (max run.first page) (min run.end (2 ^ 35))
      (Some (cut_run None run (max run.first page) (min run.end (2 ^ 35)))) None
      (λ (h : max run.first page < min run.end (2 ^ 35)). next_here page run runs m.1 m.2 m.3 h)
      (λ (h : min run.end (2 ^ 35) ≤ max run.first page).
      let some : run.first < run.end = m.1.nonempty in next_later page run runs (first_part page runs) (omega arith) (first_part-is run.end page runs m.3))

  pub next_none : (map : ℕ → Option Attr) (page : ℕ) (o : Option Run) → IsNextOrNone mode map page o → IfNone o ((k : ℕ) → page ≤ k → map k ≡ None)
  next_none map page None n = n
  next_none map page (Some run) n = tt

  pub next_some : (map : ℕ → Option Attr) (page : ℕ) (o : Option Run) → IsNextOrNone mode map page o → IfSome o (λ run. IsNextRun mode map page run)
  next_some map page None n = tt
  next_some map page (Some run) n = n
