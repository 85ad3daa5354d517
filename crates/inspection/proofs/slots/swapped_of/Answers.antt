use Rattle.inspection.proofs.{Entries.{both, dead_in_none, in_none, not_both}, Mappers.{only_first}, Trees.{if_none}}
use Rattle.inspection.proofs.Names.{top_level, ◌≡◌, ℕ, ◌==◌, true, inl, inr, sym, ap, subst, ◌∙◌, arith, cases_lt, nat_tests, frame_of, IsPage, picture_of}
use Rattle.{inspection.specs.Slots.{IsInSlot}, std.proofs.Common.{eqb-true}, sv39_walk.specs.Entry.{is_swapped}}
use Rattle.inspection.proofs.slots.swapped_of.Goals as goal

pub returns-in_err-pid-clause-none : goal.returns-in_err-pid-clause-none
returns-in_err-pid-clause-none g c =
    if_none c.from_residual.result (λ k from inside lies. dead_in_none (picture_of c.args.core.now) c.args.n.0 c.args.number k (sym c.in_err-pid.ensures.known) lies)

pub returns-then-names_slot-clause-some : goal.returns-then-names_slot-clause-some
returns-then-names_slot-clause-some g c =
    let p = picture_of c.args.core.now in
    let inv = c.loop-found.invariant in
    let found = c.in-Some.ensures.some in
    let is = c.in_ok-pid.ensures.found.0 in
    let names = both _ _ (sym c.names_slot.ensures ∙ c.if-names_slot.true) in
    let Has : ℕ → ℕ → Type 0 = λ q j. IsPage (top_level g.M.Levels.mode) j × IsInSlot p c.args.n.0 q j in (
      record {
        from = inl (is, (let low = inv.from in let at = found.from in omega (arith, low, at)));
        lies = record { swapped = sym (ap is_swapped found.number) ∙ names.0; slot = sym (ap frame_of found.number) ∙ eqb-true _ _ names.1 };
        entry = found.number;
        none_before = λ q k from before inside lies.
            only_first Has c.args.number c.args.low c.in_ok-pid.pid c.in-Some.found.page is
            (λ j low below has. elim (cases_lt j c.loop-found.at) [
              | inl passed ↦ inv.passed j low passed has.0 has.1
              | inr late ↦ in_none p c.args.n.0 c.in_ok-pid.pid j (found.none_before j late below) has.1
            ])
            q k from before (inside, lies);
      },
      is,
    )

pub loop-found-preserved : goal.loop-found-preserved
loop-found-preserved g c =
    let p = picture_of c.args.core.now in
    let inv = c.loop-found.invariant in
    let found = c.in-Some.ensures.some in
    let number = c.get-at.ensures.number in
    let entry = c.in-Some.found.entry.0 in
    record {
      from = (let low = inv.from in let at = found.from in omega (arith, low, at, number));
      passed = λ k low below inside lies. elim (cases_lt k c.loop-found.at) [
        | inl passed ↦ inv.passed k low passed inside lies
        | inr late ↦ elim (cases_lt k c.in-Some.found.page) [
          | inl before ↦ in_none p c.args.n.0 c.in_ok-pid.pid k (found.none_before k late before) lies
          | inr on ↦
              let same : k ≡ c.in-Some.found.page = omega (arith, on, below, number) in
              let here = subst (IsInSlot p c.args.n.0 c.in_ok-pid.pid) same lies in
              let slot : frame_of entry ≡ c.args.n.0 = ap frame_of found.number ∙ here.slot in
              let test : (frame_of entry == c.args.n.0) ≡ true = grind (arith, nat_tests, slot) in
              not_both _ _ (sym c.names_slot.ensures ∙ c.if-names_slot.false) (ap is_swapped found.number ∙ here.swapped) test
        ]
      ];
    }

pub returns-clause-none : goal.returns-clause-none
returns-clause-none g c k low inside lies =
    let p = picture_of c.args.core.now in
    let is = c.in_ok-pid.ensures.found.0 in
    let here = subst (λ q. IsInSlot p c.args.n.0 q k) (sym is) lies in
    elim (cases_lt k c.loop-found.at) [
      | inl passed ↦ c.loop-found.invariant.passed k low passed inside here
      | inr late ↦ in_none p c.args.n.0 c.in_ok-pid.pid k (c.in_default.ensures.none k late inside) here
    ]
