use Rattle.std.proofs.Common.{◌≡◌, ◌<◌, ℕ, Bool, true, false, ◌||◌, get_or, length, refl, subst, sym, ⊎_elim, arith}
use Rattle.std.proofs.lemmas.Bool.{cases_eq, or_parts, Decides.{nat_tests}}
use Rattle.std.specs.Prelude.{nat_lt}
use Rattle.pool_journal.proofs.map_blocks.are_given.Goals as goal

not_above : (a : ℕ) → nat_lt 0 a ≡ false → a ≡ 0
not_above a is = grind (arith, nat_tests)

above : (a : ℕ) → nat_lt 0 a ≡ true → a ≡ 0 → ⊥
above a is none = (let bad : nat_lt 0 a ≡ false = grind (arith, nat_tests) in cc)

pub loop-i-init : goal.loop-i-init
loop-i-init c = (λ is. cc, λ is k none. absurd (omega (arith, none)))

pub loop-i-preserved : goal.loop-i-preserved
loop-i-preserved c =
    let inv = c.loop-i.invariant in
    let i = c.loop-i.i in
    let a = get_or c.args.first.now i 0 in
    let b = get_or c.args.second.now i 0 in (
      (λ is. step c.loop-i.found (nat_lt 0 a) (nat_lt 0 b) refl refl refl is),
      (λ is k below. (let both = or_parts (c.loop-i.found || nat_lt 0 a) (nat_lt 0 b) is in let one = or_parts c.loop-i.found (nat_lt 0 a) both.0 in
          ⊎_elim (λ same. (subst (λ n. get_or c.args.first.now n 0 ≡ 0) (sym same) (not_above a one.1), subst (λ n. get_or c.args.second.now n 0 ≡ 0) (sym same) (not_above b both.1)))
          (λ other. inv.1 one.0 k (omega (arith, below, other))) (cases_eq k i))),
    )
  where
    step : (f x y : Bool) → c.loop-i.found ≡ f → nat_lt 0 (get_or c.args.first.now c.loop-i.i 0) ≡ x → nat_lt 0 (get_or c.args.second.now c.loop-i.i 0) ≡ y → ((f || x) || y) ≡ true
        → (k : ℕ) × (k < length c.args.first.now) × ((get_or c.args.first.now k 0 ≡ 0) × (get_or c.args.second.now k 0 ≡ 0) → ⊥)
    step true x y found one two is = c.loop-i.invariant.0 found
    step false true y found one two is = (c.loop-i.i, c.loop-i-test.true, λ none. above (get_or c.args.first.now c.loop-i.i 0) one none.0)
    step false false true found one two is = (c.loop-i.i, c.loop-i-test.true, λ none. above (get_or c.args.second.now c.loop-i.i 0) two none.1)
    step false false false found one two is = absurd (cc)
