use Rattle.ranges.proofs.Names.{top_level, Attr, ◌≡◌, ℕ, ◌<◌, ◌≤◌, Option, inl, inr, refl, sym, ◌∙◌, subst, arith, cases_lt, IsSome, IsPage, Run, IsNextRun, attr_at, Picture, picture_of, entry, IsGranting}
use Rattle.ranges.{specs.WaysPassed.{HaveNoWholeWay}, proofs.{Emptied.{unmapped_zero}, Gaps.{user_inside}}}
use Rattle.ranges.proofs.rows.linked_part.Goals as goal

-- the pages before the first of a run that has its tables have no entries
module _ {mode : ℕ} (c : Picture mode) (pid page at first linked : ℕ) (map : ℕ → Option Attr) (run : Run) (granting : IsGranting c) (same : (k : ℕ) → map k ≡ c.at pid k)
    (before : (p : ℕ) → IsPage (top_level mode) p → page ≤ p → p < at → entry c pid p ≡ 0) (next : IsNextRun mode map at run)
    (is : first ≡ run.first) (unlinked : HaveNoWholeWay c pid first linked) where
  none_before : (p : ℕ) → IsPage (top_level mode) p → page ≤ p → p < linked → entry c pid p ≡ 0
  none_before p h from below = elim (cases_lt p at) [
    | inl front ↦ before p h from front
    | inr late ↦ elim (cases_lt p run.first) [
      | inl gap ↦ unmapped_zero c (c.at pid p) (entry c pid p) (granting.entries pid p h) (sym (same p) ∙ next.none_before p late gap)
      | inr inside ↦ unlinked.gap p (omega (arith, is, inside)) below
    ]
  ]

pub loop-run-preserved : goal.loop-run-preserved
loop-run-preserved g c =
    let k = c.loop-run.invariant in
    let next = c.in-Some.ensures.some in
    let from = next.from in
    record {
      from = omega (arith, k.from, from, next.nonempty);
      gap = λ p h from below. none_before (picture_of c.args.core.now) c.args.pid c.args.page c.loop-run.at c.user_page.result c.in-Some.run'.end (attr_at c.regions.result.now)
          c.in-Some.run' c.requires.fit.granting c.regions.ensures k.gap next c.user_page.ensures c.in_default-next_linked.ensures.none p h from below;
    }

pub returns-in-Some-next_linked : goal.returns-in-Some-next_linked
returns-in-Some-next_linked g c =
    let old : Picture g.M.Levels.mode = picture_of c.args.core.now in
    let k = c.loop-run.invariant in
    let next = c.in-Some.ensures.some in
    let finds = c.in-Some-next_linked.ensures.some in
    let part = c.in-Some-next_linked.part in
    let from = next.from in
    let on = finds.from in
    let high = next.high in
    record {
      none = tt;
      some = record {
        linked = finds.linked;
        of = finds.of;
        mapped = λ p low below. subst (λ (x : Option Attr). IsSome x) (sym (next.mapped p (omega (arith, low, on, c.user_page.ensures)) (omega (arith, below, finds.ends))) ∙ c.regions.ensures p) refl;
        from = omega (arith, k.from, from, on, c.user_page.ensures);
        gap = λ p low below. none_before old c.args.pid c.args.page c.loop-run.at c.user_page.result part.first (attr_at c.regions.result.now)
            c.in-Some.run' c.requires.fit.granting c.regions.ensures k.gap next c.user_page.ensures finds.unlinked p
            (user_inside g.M.Levels.mode p c.in-Some.run'.end (omega (arith, below, finds.further, finds.ends)) high) low below;
      };
    }

pub returns : goal.returns
returns g c =
    let old : Picture g.M.Levels.mode = picture_of c.args.core.now in
    record {
      none = λ p h from. elim (cases_lt p c.loop-run.at) [
        | inl front ↦ c.loop-run.invariant.gap p h from front
        | inr late ↦ unmapped_zero old (old.at c.args.pid p) (entry old c.args.pid p) (c.requires.fit.granting.entries c.args.pid p h)
            (sym (c.regions.ensures p) ∙ c.in_default.ensures.none p late)
      ];
      some = tt;
    }
