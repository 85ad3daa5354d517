use Rattle.std.proofs.Common.{◌≡◌, ◌∷◌, ◌==◌, if◌then◌else◌, ◌∙◌, ◌++◌, ◌+◌, [], get_or, length, take, refl, sym, ap, arith}
use Rattle.std.proofs.lemmas.List.{append_assoc, append-nil, length-append, take_all}
use Rattle.pool_journal.proofs.{AllFree.{one_or_none}, Found.{free_more, one_most, taken_here}, Free.{behind_from, none_behind}}
use Rattle.pool_journal.specs.Maps.{free_among, behind}
use Rattle.pool_journal.proofs.taking.TakenSlots.add.Goals as goal

pub loop-place-init : goal.loop-place-init
loop-place-init c = (
  sym (append-nil c.args.self.now.slots.items)
      ∙ ap (λ l. c.args.self.now.slots.items ++ l) (sym (none_behind c.args.from (λ r. get_or c.args.numbers.now r 0) c.args.second c.args.from (omega arith))),
  c.requires.within.0,
  c.requires.within.1,
  refl,
  omega arith,
)

pub loop-place-preserved : goal.loop-place-preserved
loop-place-preserved c =
    let inv = c.loop-place.invariant in
    let number = get_or c.args.numbers.now c.loop-place.place 0 in
    let e = c.add_free.ensures in
    let few = one_most (number == 0) in (
      e.added ∙ ap (λ l. l ++ (if number == 0 then record { second = c.args.second; place = c.loop-place.place } ∷ [] else [])) inv.0 ∙ append_assoc c.args.self.now.slots.items _ _
          ∙ ap (λ x. c.args.self.now.slots.items ++ (free_among (behind c.args.from (λ r. get_or c.args.numbers.now r 0)) c.args.second c.loop-place.place ++ (if x == 0 then record { second = c.args.second; place = c.loop-place.place } ∷ [] else [])))
          (sym (behind_from c.args.from (λ r. get_or c.args.numbers.now r 0) c.loop-place.place inv.4))
          ∙ ap (λ l. c.args.self.now.slots.items ++ l) (sym (free_more (behind c.args.from (λ r. get_or c.args.numbers.now r 0)) c.args.second c.loop-place.place)),
      (let off = c.if-len-most.false in omega (arith, e.len, few, inv.1, off)),
      ap (λ l. length l) e.added ∙ length-append c.loop-place.self.slots.items _ ∙ ap (λ k. length c.loop-place.self.slots.items + k) (one_or_none (λ r. r) c.args.second (number == 0) _) ∙ ap (λ k. k + (if number == 0 then 1 else 0)) inv.2 ∙ sym e.len,
      e.capacity ∙ inv.3,
      (let from = inv.4 in omega (arith, from)),
    )

pub returns-then-len-most-clause-added : goal.returns-then-len-most-clause-added
returns-then-len-most-clause-added c =
    let inv = c.loop-place.invariant in
    let full = c.if-len-most.true in
    taken_here c.args.most c.args.self.now.slots.items c.loop-place.self.slots.items (behind c.args.from (λ r. get_or c.args.numbers.now r 0)) c.args.second c.loop-place.place (length c.args.numbers.now) inv.0
    (omega (arith, inv.2, c.len.ensures, full)) (omega (arith, c.loop-place-test.true))

pub returns-clause-added : goal.returns-clause-added
returns-clause-added c =
    let inv = c.loop-place.invariant in
    let end : c.loop-place.place ≡ length c.args.numbers.now = omega (arith, c.loop-place.auto.place-end, c.loop-place-test.false) in
    sym (take_all c.args.most c.loop-place.self.slots.items (omega (arith, inv.1, inv.2)))
    ∙ ap (take c.args.most) (inv.0 ∙ ap (λ n. c.args.self.now.slots.items ++ free_among (behind c.args.from (λ r. get_or c.args.numbers.now r 0)) c.args.second n) end)
