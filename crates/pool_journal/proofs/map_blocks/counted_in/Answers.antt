use Rattle.std.proofs.Common.{◌≡◌, ◌<◌, ◌≤◌, ◌+◌, ◌-◌, ◌*◌, ◌∙◌, drop, get_or, length, sym, ap, ⊎_elim, arith}
use Rattle.std.proofs.lemmas.{Bool.{cases_lt}, List.{length-drop, length-take-le}}
use Rattle.pool_journal.proofs.Bytes.{part_at}
use Rattle.pool_journal.proofs.map_blocks.counted_in.Goals as goal

pub loop-q-preserved : goal.loop-q-preserved
loop-q-preserved c = λ r from below.
    let xs = c.args.first.now in
    let ys = c.args.second.now in
    let a = 504 * (c.loop-q.q - 1) in
    let inside : a + 504 ≤ length xs = omega (arith, c.loop-q.auto.q, c.loop-q-test.true) in
    let long = length-take-le (a + 504 - a) (drop a xs) (let left = length-drop a xs in omega (arith, left, inside)) in
    ⊎_elim
    (λ here. (let i = r - a in
    let at : a + i ≡ r = omega (arith, from) in
    let small : i < a + 504 - a = omega (arith, from, here, c.loop-q-test.true) in
    let both = c.are_given.ensures.none c.if-are_given.false i (omega (arith, small, long)) in
    (ap (λ k. get_or xs k 0) (sym at) ∙ sym (part_at a (a + 504 - a) i xs small) ∙ both.0, ap (λ k. get_or ys k 0) (sym at) ∙ sym (part_at a (a + 504 - a) i ys small) ∙ both.1)))
    (λ past. c.loop-q.invariant r past below)
    (cases_lt r (504 * c.loop-q.q))
