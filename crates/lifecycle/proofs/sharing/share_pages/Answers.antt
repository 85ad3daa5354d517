use Rattle.lifecycle.specs.ChildShares.{GivesShares, IsReadyForShares}
use Rattle.lifecycle.proofs.{Names.{sizes, user_end, ◌≤◌, ℕ, refl, sym, subst, arith, picture_of}, ShareSteps.{awaits_rest, gives_no_row, gives_then, gives_bare, ready_rest}}
use Rattle.lifecycle.proofs.sharing.share_pages.Goals as goal

pub loop-part-init : goal.loop-part-init
loop-part-init g c =
    let end = user_end g.M.Levels.mode in
    let some : 16 ≤ end = (let least = (sizes g.M.Levels.mode).least in omega (arith, least)) in
    record { from = omega arith; most = some; gives = gives_no_row c.args.core.now c.args.parent c.args.child 16 end 16 c.requires.awaits refl some }

pub share_table-requires-clause-ready : goal.share_table-requires-clause-ready
share_table-requires-clause-ready g c =
    let k = c.loop-part.invariant in
    let part = c.in-Some.ensures.some in
    let least = part.from in
    subst (λ (q : ℕ). IsReadyForShares (picture_of c.loop-part.core) q c.args.child c.in-Some.part.first c.in-Some.part.end) (sym part.of)
    (ready_rest c.args.core.now c.loop-part.core c.args.parent c.args.child 16 c.loop-part.page (user_end g.M.Levels.mode) c.in-Some.part.first c.in-Some.part.end c.requires k.gives
    (omega (arith, least, k.from)) least part.high)

pub loop-part-preserved : goal.loop-part-preserved
loop-part-preserved g c =
    let first = c.args.core.now in
    let mid = c.loop-part.core in
    let new = c.share_table.new.core in
    let part = c.in-Some.part in
    let next = c.in-Some.ensures.some in
    let k = c.loop-part.invariant in
    let q = c.requires.awaits in
    let end = user_end g.M.Levels.mode in
    let from = k.from in
    let least = next.from in
    let order = next.further in
    let high = next.high in
    let gap = gives_bare mid c.args.parent c.args.child c.loop-part.page part.first
    (awaits_rest first mid c.args.parent c.args.child 16 c.loop-part.page end c.loop-part.page part.first q k.gives from (omega arith) (omega (arith, order, high)))
    (λ p h past under. next.gap p past under) in
    record {
      from = omega (arith, from, least, order);
      most = high;
      gives = gives_then first mid new c.args.parent c.args.child 16 part.first part.end q.fit q.apart (omega (arith, from, least)) (omega (arith, order))
          (gives_then first mid mid c.args.parent c.args.child 16 c.loop-part.page part.first q.fit q.apart from least k.gives gap)
          (subst (λ (q : ℕ). GivesShares mid new q c.args.child part.first part.end) next.of c.share_table.ensures);
    }

pub returns : goal.returns
returns g c =
    let first = c.args.core.now in
    let mid = c.loop-part.core in
    let k = c.loop-part.invariant in
    let q = c.requires.awaits in
    let end = user_end g.M.Levels.mode in
    gives_then first mid mid c.args.parent c.args.child 16 c.loop-part.page end q.fit q.apart k.from k.most k.gives
    (gives_bare mid c.args.parent c.args.child c.loop-part.page end
    (awaits_rest first mid c.args.parent c.args.child 16 c.loop-part.page end c.loop-part.page end q k.gives k.from (omega arith) (omega arith))
    (λ p h past under. c.in_default.ensures.none p h past))
