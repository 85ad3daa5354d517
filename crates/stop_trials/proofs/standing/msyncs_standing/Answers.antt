use Rattle.std.{proofs.{Common.{◌≡◌, ◌<◌, ℕ, zero, suc, List, [], ◌∷◌, get_or, Some, length, sym, ap, ◌∙◌, ⊎_elim, arith}, lemmas.{Bool.{cases_eq, false≢true}, Option.{same_Some}}}, specs.{List.{slice_get}, Option.{option_map}}}
use Rattle.{std.specs.declared.{alloc.Global.{Global}, vec.Vec.{Vec}}, stop_trials.specs.Standing.{state_after}}
use Rattle.stop_trials.proofs.standing.msyncs_standing.Goals as goal

there : (states : List (Vec ℕ Global)) (n : ℕ) (state : Vec ℕ Global) → n < length states → state ≡ get_or states n state → slice_get states n ≡ Some state
there [] n state lt is = absurd (omega (arith, lt))
there (first ∷ states) zero state lt is = ap Some (sym is)
there (first ∷ states) (suc n) state lt is = there states n state (omega (arith, lt)) is

of_state : (states : List (Vec ℕ Global)) (n : ℕ) (state : Vec ℕ Global) → slice_get states n ≡ Some state → state_after states n ≡ Some state.items
of_state states n state is = ap (option_map (λ (v : Vec ℕ Global). v.items)) is

none_past : (states : List (Vec ℕ Global)) (n : ℕ) (bytes : List ℕ) → state_after states n ≡ Some bytes → n < length states
none_past [] n bytes is = absurd (cc)
none_past (first ∷ states) zero bytes is = omega arith
none_past (first ∷ states) (suc n) bytes is = let below = none_past states n bytes is in omega (arith, below)

pub returns-then-has_bytes-clause-found : goal.returns-then-has_bytes-clause-found
returns-then-has_bytes-clause-found c =
    let states = c.args.states.now in
    let state = c.index-states-n.result in
    let same : state.items ≡ c.args.bytes.now = c.has_bytes.ensures.0 c.if-has_bytes.true in
    record {
      whole = c.loop-n.auto.n;
      same = of_state states c.loop-n.n state (there states c.loop-n.n state (omega (arith, c.loop-n-test.true)) c.index-states-n.is) ∙ ap Some same;
      least = c.loop-n.invariant;
    }

pub loop-n-preserved : goal.loop-n-preserved
loop-n-preserved c = λ m le lt at.
    let states = c.args.states.now in
    let state = c.index-states-n.result in
    ⊎_elim
    (λ here.
    let held : state_after states c.loop-n.n ≡ Some state.items = of_state states c.loop-n.n state (there states c.loop-n.n state (omega (arith, c.loop-n-test.true)) c.index-states-n.is) in
    let same : state.items ≡ c.args.bytes.now = same_Some state.items c.args.bytes.now (sym held ∙ ap (state_after states) (sym here) ∙ at) in
    false≢true (sym c.if-has_bytes.false ∙ c.has_bytes.ensures.1 same))
    (λ other. c.loop-n.invariant m le (omega (arith, lt, other)) at)
    (cases_eq m c.loop-n.n)

pub returns-clause-none : goal.returns-clause-none
returns-clause-none c = λ n standing.
    let below = none_past c.args.states.now n c.args.bytes.now standing.same in
    let whole = standing.whole in
    c.loop-n.invariant n whole (omega (arith, below, c.loop-n-test.false)) standing.same
