use Rattle.lifecycle.proofs.{FreeNumbers.{some_number, least-here, least-next, least-none}, Names.{◌≡◌, ◌+◌, ◌-◌, inl, inr, Some, true, false, refl, sym, ap, ◌∙◌, arith, cases_lt, false≢true, is_some, least_free_from, picture_of, is_live}}
use Rattle.lifecycle.proofs.numbers.free_pid.Goals as goal

pub loop-pid-init : goal.loop-pid-init
loop-pid-init g c = (omega arith, omega arith, refl)

pub returns-then-is_none-clause-least : goal.returns-then-is_none-clause-least
returns-then-is_none-clause-least g c =
    let number = c.loop-pid.number in
    let live = is_live (picture_of c.args.core.now) in
    let high = (c.new.ensures.known.0 (ap is_some c.in-Some.is)).1 in
    let free : live c.in-Some.pid ≡ false = ap is_some (sym c.root.ensures) ∙ some_number c.root.result ∙ c.if-is_none.ensures in
    ap (λ n. Some n) c.in-Some.ensures.found
    ∙ sym (c.loop-pid.invariant.2 ∙ least-here live number (65 - number) (omega (arith, high)) (ap live (sym c.in-Some.ensures.found) ∙ free))

pub loop-pid-preserved : goal.loop-pid-preserved
loop-pid-preserved g c =
    let number = c.loop-pid.number in
    let live = is_live (picture_of c.args.core.now) in
    let high = (c.new.ensures.known.0 (ap is_some c.in-Some.is)).1 in
    let taken : live c.in-Some.pid ≡ true = ap is_some (sym c.root.ensures) ∙ some_number c.root.result ∙ c.if-is_none.ensures in
    let rest : 65 - number - 1 ≡ 65 - (number + 1) = omega arith in (
      omega arith,
      omega (arith, high),
      c.loop-pid.invariant.2 ∙ least-next live number (65 - number) (omega (arith, high)) (ap live (sym c.in-Some.ensures.found) ∙ taken)
          ∙ ap (least_free_from live (number + 1)) rest,
    )

pub returns-clause-least : goal.returns-clause-least
returns-clause-least g c =
    let number = c.loop-pid.number in
    let past : 65 - number ≡ 0 = elim (cases_lt number 65) [
      | inl low ↦ absurd (false≢true (ap is_some (sym c.in_default.is) ∙ c.new.ensures.known.1 (c.loop-pid.invariant.0, omega (arith, low))))
      | inr high ↦ omega (arith, high)
    ] in
    sym (c.loop-pid.invariant.2 ∙ least-none (is_live (picture_of c.args.core.now)) number (65 - number) past)
