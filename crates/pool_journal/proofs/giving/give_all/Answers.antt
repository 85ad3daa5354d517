use Rattle.std.proofs.Common.{◌≡◌, ◌+◌, ◌∙◌, suc, get_or, sym, subst, ⊎_elim, refl, arith}
use Rattle.std.proofs.lemmas.Bool.{cases_eq}
use Rattle.pool_journal.specs.{Giving.{slot_at}, Maps.{entries_of}}
use Rattle.pool_journal.proofs.giving.give_all.Goals as goal

pub loop-j-init : goal.loop-j-init
loop-j-init c = record { given = λ j below. absurd (omega (arith, below)); others = λ body r out. refl; size = λ blocks is. is }

pub give-requires : goal.give-requires
give-requires c =
    let has = c.requires.inside in
    let is = c.loop-j.invariant.size has.0 has.1 in
    let below = has.2 c.loop-j.j c.loop-j-test.true in
    (omega (arith, is.0, below), omega (arith, is.1, below))

pub loop-j-preserved : goal.loop-j-preserved
loop-j-preserved c =
    let inv = c.loop-j.invariant in
    let j = c.loop-j.j in
    let slots = c.args.slots.now in
    record {
      given = λ k below. ⊎_elim
          (λ same. (let one : suc (get_or c.args.homes.now j 0) ≡ get_or c.args.homes.now j 0 + 1 = omega arith in
          subst (λ n. entries_of c.give.new.self (slot_at slots n).second (slot_at slots n).place ≡ suc (get_or c.args.homes.now n 0)) (sym same)
          (c.give.ensures.here ∙ sym one)))
          (λ other. c.give.ensures.others (slot_at slots k).second (slot_at slots k).place (c.requires.apart k j (omega
          (arith, below, other)) c.loop-j-test.true) ∙ inv.given k (omega (arith, below, other)))
          (cases_eq k j);
      others = λ body r out. c.give.ensures.others body r (out j (omega arith)) ∙ inv.others body r (λ k below. out k (omega (arith, below)));
      size = λ blocks is. c.give.ensures.size blocks (inv.size blocks is);
    }
