use Rattle.std.proofs.{Common.{◌≡◌, ◌+◌, ◌*◌, ◌<◌, ◌==◌, if◌then◌else◌, ℕ, ap, ◌∙◌, subst, arith, rules}, lemmas.Nat.{mod_below}}
use Rattle.clock_replace.{specs.{Choice.{place, Passes}, declared.clock.Clock.{Clock}}, proofs.Rounds.{next_place, passes_more, chooses, none_left, full_turn, all_kept}}
use Rattle.clock_replace.proofs.clock.Clock.victim.Goals as goal

-- the hand after a look
on : (hand total i now next : ℕ) → hand < total → i < 2 * total → now ≡ place hand total i → next ≡ (if now + 1 == total then 0 else now + 1) → next ≡ place hand total (i + 1)
on hand total i now next below few at is = is ∙ ap (λ x. if x + 1 == total then 0 else x + 1) at ∙ next_place hand total i below few

pub returns-then-look : goal.returns-then-look
returns-then-look g c =
    let inv = c.loop-i.invariant in
    let hand = c.args.self.now.hand in
    let F = c.frames-frames.result in
    let next = on hand F c.loop-i.i c.loop-i.self.hand c.next-self.result inv.started (omega arith) inv.hand c.next-self.ensures in
    let P : ℕ → Type 0 = λ x. c.loop-i.i < 2 * x in
    let Q : ℕ → Type 0 = λ x. hand < x in
    let R : ℕ → Type 0 = λ x. c.loop-i.self.hand ≡ place hand x c.loop-i.i in
    let S : ℕ → Type 0 = λ x. c.next-self.result ≡ place hand x (c.loop-i.i + 1) in
    record {
      «open» = search rules;
      hand = search rules;
      looks = search rules;
      chooses = chooses g.V.FrameView hand c.loop-i.i c.loop-i.self.hand c.args.view.now c.loop-i.view c.look.new.view inv.passes (subst Q inv.count inv.started) (subst P inv.count (omega arith)) c.look.ensures.looks (subst R inv.count inv.hand) inv.looked g.met.V.FrameView.goes_on c.next-self.result (subst S inv.count next) (c.look.ensures.chosen c.if-look.true);
      none = tt;
      kept = tt;
      still = tt;
    }

pub loop-i-preserved : goal.loop-i-preserved
loop-i-preserved g c =
    let inv = c.loop-i.invariant in
    let hand = c.args.self.now.hand in
    let F = c.frames-frames.result in
    let next = on hand F c.loop-i.i c.loop-i.self.hand c.next-self.result inv.started (omega arith) inv.hand c.next-self.ensures in
    let P : ℕ → Type 0 = λ x. c.loop-i.i < 2 * x in
    let Q : ℕ → Type 0 = λ x. hand < x in
    let R : ℕ → Type 0 = λ x. c.loop-i.self.hand ≡ place hand x c.loop-i.i in
    let looks = c.look.ensures.looks in
    let more = looks.looks in
    let so_far = inv.looked in
    record {
      open_still = c.look.ensures.«open»;
      count = inv.count;
      few = inv.few;
      started = inv.started;
      hand = next;
      below = (let start = inv.started in let low = mod_below (hand + (c.loop-i.i + 1)) F (omega (arith, start)) in omega (arith, low, next));
      looked = omega (arith, more, so_far);
      passes = passes_more g.V.FrameView hand c.loop-i.i c.loop-i.self.hand c.args.view.now c.loop-i.view c.look.new.view inv.passes (subst Q inv.count inv.started) (subst P inv.count (omega arith))
          looks (subst R inv.count inv.hand) so_far g.met.V.FrameView.goes_on (c.look.ensures.passed c.if-look.false);
    }

abbrev at_hand : ℕ → Clock
at_hand h = record { hand = h }

pub returns : goal.returns
returns g c =
    let inv = c.loop-i.invariant in
    let hand = c.args.self.now.hand in
    let Q : ℕ → Type 0 = λ x. hand < x in
    let below = subst Q inv.count inv.started in
    let end : c.loop-i.i ≡ 2 * c.frames-frames.result = (let a = c.loop-i-test.false in let b = c.loop-i.auto.i-end in omega (arith, a, b)) in
    let P : ℕ → Type 0 = λ x. Passes g.V.FrameView c.args.view.now c.loop-i.view hand x in
    let passes = subst P (end ∙ ap (λ x. 2 * x) inv.count) inv.passes in
    let none = none_left g.V.FrameView hand c.args.view.now c.loop-i.view passes below in
    let back : c.loop-i.self.hand ≡ hand = inv.hand ∙ ap (place hand c.frames-frames.result) end ∙ full_turn hand c.frames-frames.result inv.started in
    record {
      «open» = search rules;
      hand = search rules;
      looks = search rules;
      chooses = tt;
      none = none;
      kept = all_kept g.V.FrameView hand _ c.args.view.now c.loop-i.view passes below none;
      still = ap at_hand back;
    }
