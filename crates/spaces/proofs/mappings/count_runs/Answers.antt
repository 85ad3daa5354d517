use Rattle.spaces.proofs.{Names.{◌≤◌, ℕ, inl, inr, sym, subst, arith, cases_eq, cases_lt, run_count, picture_of}, Numbers.{no_runs}}
use Rattle.spaces.proofs.mappings.count_runs.Goals as goal

pub loop-number-init : goal.loop-number-init
loop-number-init g c = record { few = λ q low high. absurd (omega (arith, low, high)) }

pub loop-number-preserved : goal.loop-number-preserved
loop-number-preserved g c = record {
  few = λ q low high. elim (cases_eq q c.loop-number.number) [
    | inl same ↦ subst (λ (p : ℕ). run_count g.M.Levels.mode ((picture_of c.args.core.now).at p) ≤ 256) (sym same) c.runs_of.ensures
    | inr other ↦ c.loop-number.invariant.few q low (omega (arith, high, other))
  ];
}

pub returns : goal.returns
returns g c = λ q.
    elim (cases_lt q 1) [
      | inl none ↦ no_runs c.args.core.now c.requires.fit q (λ r at. (let low = (c.requires.fit.rooted.numbers q r at).0 in omega (arith, none, low)))
      | inr some ↦ elim (cases_lt q 65) [
        | inl high ↦ c.loop-number.invariant.few q some (omega (arith, high, c.loop-number-test.false))
        | inr past ↦ no_runs c.args.core.now c.requires.fit q (λ r at. (let most = (c.requires.fit.rooted.numbers q r at).1 in omega (arith, past, most)))
      ]
    ]
