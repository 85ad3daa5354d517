use Rattle.{std.{proofs.{Common.{◌≡◌, ◌+◌, ◌-◌, ◌%◌, ◌/◌, ◌++◌, ℕ, List, take, drop, set, false, ap, sym, ◌∙◌, subst, arith}, lemmas.List.{take-set-le}}, specs.Fmt.{digit_glyph}}, trace_lang.proofs.Hex.{PAIRS_at, next_digit, next_pair}}
use Rattle.trace_lang.{proofs.{Hex.{all_digits}, output.push_hex_digits.Goals.{then-place-at, else-place-at}}, specs.Texts.{hex_digits}}
use Rattle.trace_lang.proofs.output.push_hex_digits.Goals as goal

pub loop-place-preserved : goal.loop-place-preserved
loop-place-preserved c =
    let test = c.loop-place-test.true in
    let at = c.args.at in
    let end = c.args.at + c.args.count in
    let out = c.loop-place.out in
    let rest = c.loop-place.rest in
    let last = c.loop-place.place - 2 in
    let whole = hex_digits c.args.count c.args.number in
    let place : c.loop-place.place ≡ last + 1 + 1 = omega arith in
    let two : rest / 256 ≡ rest / 16 / 16 = omega arith in
    let low : rest % 256 % 16 ≡ rest % 16 = omega arith in
    let high : rest % 256 / 16 ≡ rest / 16 % 16 = omega arith in
    let P : ℕ → Type 0 = λ p. hex_digits (p - at) rest ++ drop p (take end out) ≡ whole in
    let written = set (set out (last + 1) (digit_glyph false (rest % 256 % 16))) last (digit_glyph false (rest % 256 / 16)) in
    let K : List ℕ → Type 0 = λ o. take at o ≡ take at c.args.out.now in
    record {
      low = omega arith;
      high = omega (arith, c.loop-place.invariant.high);
      room = c.write_pair.array_long;
      kept = subst K (sym c.write_pair.ensures) (take-set-le at _ last _ (omega arith) ∙ take-set-le at out (last + 1) _ (omega arith) ∙ c.loop-place.invariant.kept);
      written = subst (λ (o : List ℕ). hex_digits (last - at) (rest / 256) ++ drop last (take end o) ≡ whole) (sym c.write_pair.ensures)
          (ap (λ q. hex_digits (last - at) q ++ drop last (take end written)) two
          ∙ next_pair out at last end rest _ _ whole (omega arith) (omega (arith, c.loop-place.invariant.high)) (omega (arith, c.loop-place.invariant.room, c.requires))
          (ap (λ d. digit_glyph false d) low) (ap (λ d. digit_glyph false d) high) (subst P place c.loop-place.invariant.written));
    }

pub returns-clause-text : goal.returns-clause-text
returns-clause-text c =
    let test = c.loop-place-test.false in
    let at = c.args.at in
    let end = c.args.at + c.args.count in
    let out = c.loop-place.out in
    let rest = c.loop-place.rest in
    let whole = hex_digits c.args.count c.args.number in
    let P : ℕ → Type 0 = λ p. hex_digits (p - at) rest ++ drop p (take end out) ≡ whole in
    let R : List ℕ → Type 0 = λ o. take end o ≡ take at c.args.out.now ++ whole in
    let digit : rest % 16 % 16 ≡ rest % 16 = omega arith in
    elim c.if-place-at.branch [
      | then-place-at w ↦
          let more = w.if-place-at in
          let place : c.loop-place.place ≡ at + 1 = omega arith in
          subst R (sym w.out-is)
          (all_digits _ _ at end (rest / 16) whole (omega arith) (take-set-le at out at _ (omega arith) ∙ c.loop-place.invariant.kept)
          (next_digit out at at end rest _ whole (omega arith) (omega (arith, c.loop-place.invariant.high)) (omega (arith, c.loop-place.invariant.room, c.requires))
          ((PAIRS_at (rest % 16) (omega arith)).1 ∙ ap (λ d. digit_glyph false d) digit) (subst P place c.loop-place.invariant.written)))
      | else-place-at w ↦
          let none = w.if-place-at in
          let place : c.loop-place.place ≡ at = omega (arith, c.loop-place.invariant.low) in
          subst R (sym w.out-is) (all_digits out _ at end rest whole (omega arith) c.loop-place.invariant.kept (subst P place c.loop-place.invariant.written))
    ]
