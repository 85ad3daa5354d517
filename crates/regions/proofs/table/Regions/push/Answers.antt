use Rattle.std.proofs.{Common.{◌≡◌, ℕ, ◌-◌, ◌<◌, ◌≤◌, true, false, List, length, take, set, get_or, sym, ◌∙◌, ap, subst, arith, add-one, length-set}, lemmas.List.{length-take-le}}
use Rattle.regions.{specs.{declared.run.Run.{Run}, Run.{merged}, RunList.{end_of, IsMaximal, joins_last, pushed}}, proofs.{ListLemmas.{maximal-pushed}, PushLemmas.{added_at, merged_last, length_added, some_last, unused}}}
use Rattle.regions.proofs.table.Regions.push.Goals as goal

-- the runs with the new one behind
behind_them : (old now : List Run) (next : Run) → old ≡ now → end_of 16 now ≤ next.first → end_of 16 old ≤ next.first
behind_them old now next e h = subst (λ (l : List Run). end_of 16 l ≤ next.first) (sym e) h

pub invariant_of-self : goal.invariant_of-self
invariant_of-self g c =
    let goes_on = ap (λ (l : List Run). joins_last l c.args.next) c.self.view_is ∙ sym c.joins_last.ensures ∙ c.if-joins_last.true in
    let some : 0 < c.self.inside.len = some_last c.self.inside.runs c.self.inside.len c.args.next goes_on in (
      c.self.invariant.0,
      length-set c.self.inside.runs (c.self.inside.len - 1) (merged (get_or c.self.inside.runs (c.self.inside.len - 1) unused) c.args.next) ∙ c.self.invariant.1,
      subst (λ (l : List Run). IsMaximal g.M.Levels.mode 16 l)
          (sym (merged_last c.self.inside.runs c.self.inside.len unused c.args.next some (omega arith) goes_on))
          (maximal-pushed g.M.Levels.mode 16 (take c.self.inside.len c.self.inside.runs) c.args.next c.self.invariant.2 (behind_them _ _ c.args.next c.self.view_is c.requires.behind) c.requires.run),
    )

pub returns-then-joins_last-clause-ok : goal.returns-then-joins_last-clause-ok
returns-then-joins_last-clause-ok g c =
    let goes_on = ap (λ (l : List Run). joins_last l c.args.next) c.self.view_is ∙ sym c.joins_last.ensures ∙ c.if-joins_last.true in
    let some : 0 < c.self.inside.len = some_last c.self.inside.runs c.self.inside.len c.args.next goes_on in
    merged_last c.self.inside.runs c.self.inside.len unused c.args.next some (omega arith) goes_on
    ∙ ap (λ (l : List Run). pushed l c.args.next) c.self.view_is

pub returns-then-self-ge-RUNS-clause-err : goal.returns-then-self-ge-RUNS-clause-err
returns-then-self-ge-RUNS-clause-err g c =
    let full : length (take c.self.inside.len c.self.inside.runs) ≡ c.self.inside.len = length-take-le c.self.inside.len c.self.inside.runs (omega arith) in
    omega (arith, full, ap (λ (l : List Run). length l) c.self.view_is, length_added c.args.self.now c.args.next (sym c.joins_last.ensures ∙ c.if-joins_last.false))

pub invariant_of-self-2 : goal.invariant_of-self-2
invariant_of-self-2 g c =
    let ends = ap (λ (l : List Run). joins_last l c.args.next) c.self.view_is ∙ sym c.joins_last.ensures ∙ c.if-joins_last.false in
    let more = ap (λ (k : ℕ). take k (set c.self.inside.runs c.self.inside.len c.args.next)) (add-one c.self.inside.len)
    ∙ added_at c.self.inside.runs c.self.inside.len c.args.next (omega arith) ends in (
      omega arith,
      length-set c.self.inside.runs c.self.inside.len c.args.next ∙ c.self.invariant.1,
      subst (λ (l : List Run). IsMaximal g.M.Levels.mode 16 l) (sym more)
          (maximal-pushed g.M.Levels.mode 16 (take c.self.inside.len c.self.inside.runs) c.args.next c.self.invariant.2 (behind_them _ _ c.args.next c.self.view_is c.requires.behind) c.requires.run),
    )

pub returns-clause-ok : goal.returns-clause-ok
returns-clause-ok g c =
    let ends = ap (λ (l : List Run). joins_last l c.args.next) c.self.view_is ∙ sym c.joins_last.ensures ∙ c.if-joins_last.false in
    ap (λ (k : ℕ). take k (set c.self.inside.runs c.self.inside.len c.args.next)) (add-one c.self.inside.len)
    ∙ added_at c.self.inside.runs c.self.inside.len c.args.next (omega arith) ends
    ∙ ap (λ (l : List Run). pushed l c.args.next) c.self.view_is
