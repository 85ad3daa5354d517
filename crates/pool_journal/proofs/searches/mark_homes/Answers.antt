use Rattle.std.proofs.Common.{◌≡◌, ◌≤◌, ◌<◌, ◌+◌, ◌-◌, ◌*◌, ◌/◌, ◌∙◌, ℕ, Bool, List, drop, take, get_or, length, sym, ap, subst, ⊎_elim, inl, inr, arith}
use Rattle.std.proofs.lemmas.{Bool.{cases_lt}, List.{length-drop, length-take-le}}
use Rattle.pool_journal.{proofs.Bytes.{part_at}, specs.Reading.{MarksHomes}}
use Rattle.pool_journal.proofs.searches.mark_homes.Goals as goal

-- behind the first n numbers those of a part are marked
marks_part : (homes : ℕ) (numbers part : List ℕ) (n k m : ℕ) (old mid new : List Bool) → MarksHomes homes numbers n old mid → MarksHomes homes part k mid new
    → ((i : ℕ) → i < k → get_or part i 0 ≡ get_or numbers (n + i) 0) → n + k ≡ m → MarksHomes homes numbers m old new
marks_part homes numbers part n k m old mid new so_far more same size = record {
  named = λ i h below low is. ⊎_elim
      (λ before. more.kept h (so_far.named i h before low is))
      (λ from. (let at : n + (i - n) ≡ i = omega (arith, from) in let less : i - n < k = omega (arith, from, below, size) in
      more.named (i - n) h less low (same (i - n) less ∙ ap (λ j. get_or numbers j 0) at ∙ is)))
      (cases_lt i n);
  kept = λ h was. more.kept h (so_far.kept h was);
  others = λ h marked. ⊎_elim
      (λ was. ⊎_elim (λ first. inl first) (λ from. inr (from.0, (let below = from.1 in omega (arith, below, size)), from.2)) (so_far.others h was))
      (λ from. inr (n + from.0, (let below = from.1 in omega (arith, below, size)), sym (same from.0 from.1) ∙ from.2))
      (more.others h marked);
}

pub loop-run-preserved : goal.loop-run-preserved
loop-run-preserved c =
    let xs = c.args.numbers.now in
    let at = 96 * c.loop-run.run in
    let inside : at + 96 ≤ length xs = omega (arith, c.loop-run-test.true) in
    let long = length-take-le (at + 96 - at) (drop at xs) (let left = length-drop at xs in omega (arith, left, inside)) in
    marks_part c.args.homes xs _ at _ (96 * (c.loop-run.run + 1)) c.args.given.now c.loop-run.given c.mark_run.new.given c.loop-run.invariant c.mark_run.ensures
    (λ i below. part_at at (at + 96 - at) i xs (omega (arith, below, long))) (omega (arith, long))

pub returns : goal.returns
returns c =
    let xs = c.args.numbers.now in
    let at = 96 * (length xs / 96) in
    let left = length xs - at in
    let end : 96 * c.loop-run.run ≡ at = omega (arith, c.loop-run.auto.run-end, c.loop-run-test.false) in
    let long = length-take-le left (drop at xs) (let rest = length-drop at xs in omega (arith, rest)) in
    marks_part c.args.homes xs (take left (drop at xs)) at _ (length xs) c.args.given.now c.loop-run.given c.mark_run-2.new.given
    (subst (λ n. MarksHomes c.args.homes xs n c.args.given.now c.loop-run.given) end c.loop-run.invariant) c.mark_run-2.ensures
    (λ i below. part_at at left i xs (omega (arith, below, long))) (omega (arith, long))
