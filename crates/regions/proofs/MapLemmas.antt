-- The maps that the rebuilt lists stand for, and how long their beginnings are.
use Rattle.{std.proofs.Common.{◌≡◌, ℕ, ◌-◌, ◌^◌, ◌<◌, ◌≤◌, inl, inr, ⊎_elim, max, if◌then◌else◌, ◌&&◌, leb, ltb, refl, sym, ◌∙◌, ap, arith, List, [], Option, Some, None, option_map}, vm_types.specs.Attributes.{attr_after}}
use Rattle.{vm_types.specs.{Attributes.{with_prot}, declared.{permission.Prot.{Prot}, region.Attr.{Attr}}}, regions.proofs.ListLemmas.{end_of-widest, attr_at-behind, end_of-pushed, maximal-pushed, attr_at-pushed, Pasted, pasted-is}}
use Rattle.regions.{proofs.RunLemmas.{lt_or_le, row_inside, row_below, row_above, attr_in-inside, attr_in-below, attr_in-above, or_else-none, clipped, clipped-inside, clipped-below, clipped-above, changed-none}, specs.Run.{IsRun, attr_in}}
use Rattle.regions.specs.{RunList.{run_or_else, attr_at, IsMaximal, end_of, pushed, pasted, list_removed, list_protected, list_replaced}, declared.run.Run.{Run}}

-- before a page, behind a page
clip_front : (first page : ℕ) (attr : Option Attr) → page < first → run_or_else (clipped 0 first None page attr) None ≡ attr
clip_front first page attr h = or_else-none (clipped 0 first None page attr) ∙ clipped-inside 0 first None page attr (omega arith) h ∙ changed-none attr

clip_no_front : (first page : ℕ) (attr : Option Attr) → first ≤ page → run_or_else (clipped 0 first None page attr) None ≡ None
clip_no_front first page attr h = or_else-none (clipped 0 first None page attr) ∙ clipped-above 0 first None page attr h

clip_back : (end page : ℕ) (attr : Option Attr) → end ≤ page → (2 ^ 35 ≤ page → attr ≡ None) → clipped end (2 ^ 35) None page attr ≡ attr
clip_back end page attr h none =
    ⊎_elim
    (λ (b : page < 2 ^ 35). clipped-inside end (2 ^ 35) None page attr h b ∙ changed-none attr)
    (λ (b : 2 ^ 35 ≤ page). clipped-above end (2 ^ 35) None page attr b ∙ sym (none b))
    (lt_or_le page (2 ^ 35))

module _ (mode : ℕ) where
  pub attr_at-high : (runs : List Run) → IsMaximal mode 16 runs → (page : ℕ) → 2 ^ 35 ≤ page → attr_at runs page ≡ None
  attr_at-high runs m page h =
      let e : end_of 16 runs ≤ 2 ^ 35 = end_of-widest mode runs m in
      attr_at-behind mode 16 runs page m (omega arith)

  -- the three parts of a page's place
  three_parts : (first end page : ℕ) (x o middle : Option Attr) → first ≤ end → (2 ^ 35 ≤ page → o ≡ None) →
      (page < first → middle ≡ None) → (first ≤ page → page < end → run_or_else middle None ≡ x) → (end ≤ page → middle ≡ None) →
      run_or_else (clipped end (2 ^ 35) None page o) (run_or_else middle (run_or_else (clipped 0 first None page o) None)) ≡ (if leb first page && ltb page end then x else o)
  three_parts first end page x o middle h high m1 m2 m3 = elim (lt_or_le page first) [
    | inl a ↦ rw (row_below first end page a, clipped-below end (2 ^ 35) None page o (omega arith), m1 a) (clip_front first page o a)
    | inr a ↦ elim (lt_or_le page end) [
      | inl b ↦ rw (row_inside first end page a b, clipped-below end (2 ^ 35) None page o b, clip_no_front first page o a) (m2 a b)
      | inr b ↦ rw (row_above first end page b, clip_back end page o b high, m3 b, clip_no_front first page o a) (or_else-none o)
    ]
  ]

  module _ (runs : List Run) (m : IsMaximal mode 16 runs) (first end : ℕ) (h : first ≤ end) where
    pub front_is : Pasted mode 0 first None [] runs (pasted 0 first None [] runs)
    front_is = pasted-is mode 0 first 16 None [] runs tt (omega arith) m

    pub front_end_low : end_of 16 (pasted 0 first None [] runs) ≤ max first 16
    front_end_low = omega (arith, front_is.end)

    pub front_end_high : end_of 16 (pasted 0 first None [] runs) ≤ max end 16
    front_end_high = omega (arith, front_is.end)

    pub removed_is : Pasted mode end (2 ^ 35) None (pasted 0 first None [] runs) runs (list_removed runs first end)
    removed_is = pasted-is mode end (2 ^ 35) 16 None (pasted 0 first None [] runs) runs front_is.maximal front_end_high m

    pub removed_at : (page : ℕ) → attr_at (list_removed runs first end) page ≡ (if leb first page && ltb page end then None else attr_at runs page)
    removed_at page =
        removed_is.at page
        ∙ ap (λ (o : Option Attr). run_or_else (clipped end (2 ^ 35) None page (attr_at runs page)) o) (front_is.at page)
        ∙ three_parts first end page None (attr_at runs page) None h (attr_at-high runs m page) (λ _. refl) (λ _ _. refl) (λ _. refl)

    pub middle_is : (prot : Prot) → Pasted mode first end (Some prot) (pasted 0 first None [] runs) runs (pasted first end (Some prot) (pasted 0 first None [] runs) runs)
    middle_is prot = pasted-is mode first end 16 (Some prot) (pasted 0 first None [] runs) runs front_is.maximal front_end_low m

    pub middle_end : (prot : Prot) → end_of 16 (pasted first end (Some prot) (pasted 0 first None [] runs) runs) ≤ max end 16
    middle_end prot = omega (arith, front_is.end, (middle_is prot).end)

    pub protected_is : (prot : Prot) → Pasted mode end (2 ^ 35) None (pasted first end (Some prot) (pasted 0 first None [] runs) runs) runs (list_protected runs first end prot)
    protected_is prot = pasted-is mode end (2 ^ 35) 16 None (pasted first end (Some prot) (pasted 0 first None [] runs) runs) runs (middle_is prot).maximal (middle_end prot) m

    pub protected_at : (prot : Prot) (page : ℕ) → attr_at (list_protected runs first end prot) page ≡ (if leb first page && ltb page end then option_map (with_prot prot) (attr_at runs page) else attr_at runs page)
    protected_at prot page =
        (protected_is prot).at page
        ∙ ap (λ (o : Option Attr). run_or_else (clipped end (2 ^ 35) None page (attr_at runs page)) o)
        ((middle_is prot).at page ∙ ap (λ (o : Option Attr). run_or_else (clipped first end (Some prot) page (attr_at runs page)) o) (front_is.at page))
        ∙ three_parts first end page (option_map (with_prot prot) (attr_at runs page)) (attr_at runs page) (clipped first end (Some prot) page (attr_at runs page)) h (attr_at-high runs m page)
        (λ a. clipped-below first end (Some prot) page (attr_at runs page) a)
        (λ a b. or_else-none (clipped first end (Some prot) page (attr_at runs page)) ∙ clipped-inside first end (Some prot) page (attr_at runs page) a b)
        (λ a. clipped-above first end (Some prot) page (attr_at runs page) a)

  module _ (runs : List Run) (m : IsMaximal mode 16 runs) (run : Run) (r : IsRun mode run) where
    pub replaced_front : Pasted mode 0 run.first None [] runs (pasted 0 run.first None [] runs)
    replaced_front = front_is runs m run.first run.end (let s : run.first < run.end = r.nonempty in omega arith)

    pub replaced_behind : end_of 16 (pasted 0 run.first None [] runs) ≤ run.first
    replaced_behind = omega (arith, replaced_front.end)

    pub replaced_maximal : IsMaximal mode 16 (pushed (pasted 0 run.first None [] runs) run)
    replaced_maximal = maximal-pushed mode 16 (pasted 0 run.first None [] runs) run replaced_front.maximal replaced_behind r

    pub replaced_end : end_of 16 (pushed (pasted 0 run.first None [] runs) run) ≤ max run.end 16
    replaced_end = omega (arith, end_of-pushed 16 (pasted 0 run.first None [] runs) run)

    pub replaced_is : Pasted mode run.end (2 ^ 35) None (pushed (pasted 0 run.first None [] runs) run) runs (list_replaced runs run)
    replaced_is = pasted-is mode run.end (2 ^ 35) 16 None (pushed (pasted 0 run.first None [] runs) run) runs replaced_maximal replaced_end m

    pub replaced_at : (page : ℕ) → attr_at (list_replaced runs run) page ≡ (if leb run.first page && ltb page run.end then Some (attr_after run.attr (page - run.first)) else attr_at runs page)
    replaced_at page =
        replaced_is.at page
        ∙ ap (λ (o : Option Attr). run_or_else (clipped run.end (2 ^ 35) None page (attr_at runs page)) o)
        (attr_at-pushed mode 16 (pasted 0 run.first None [] runs) run page replaced_front.maximal replaced_behind r
        ∙ ap (λ (o : Option Attr). run_or_else (attr_in run page) o) (replaced_front.at page))
        ∙ three_parts run.first run.end page (Some (attr_after run.attr (page - run.first))) (attr_at runs page) (attr_in run page) (omega arith) (attr_at-high runs m page)
        (λ a. attr_in-below run page a)
        (λ a b. or_else-none (attr_in run page) ∙ attr_in-inside run page a b)
        (λ a. attr_in-above run page a)
