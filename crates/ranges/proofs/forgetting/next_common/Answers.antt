use Rattle.ranges.proofs.{Names.{◌-◌, inl, inr, sym, ◌∙◌, arith, cases_lt}, Naming.{none_named, uncommon_named}}
use Rattle.ranges.proofs.forgetting.next_common.Goals as goal

pub loop-run-preserved : goal.loop-run-preserved
loop-run-preserved g c =
    let next = c.in-Some.ensures.some in
    record {
      low = (let a = c.loop-run.invariant.low in let b = next.from in let d = next.nonempty in omega (arith, a, b, d));
      none = λ k object page low less. elim (cases_lt k c.loop-run.from) [
        | inl passed ↦ c.loop-run.invariant.none k object page low passed
        | inr late ↦ elim (cases_lt k c.in-Some.run'.first) [
          | inl gap ↦ none_named _ object page (sym (c.regions.ensures k) ∙ next.none_before k late gap)
          | inr within ↦ uncommon_named _ c.in-Some.run' (k - c.in-Some.run'.first) object page (sym (c.regions.ensures k) ∙ next.mapped k within less) c.in_default-first_of.ensures.none
        ]
      ];
    }
