use Rattle.residency.proofs.Names.{slice_index_or, ◌≢◌, sym, ap, ◌∙◌, arith, rules, false≢true, count_of, slots_of}
use Rattle.residency.{specs.Picture.{Picture, picture_of, entry}, proofs.{Passing.{all_passed, slot_no_seat}, Putting.{with_slots}, Sparing.{spares_then}}}
use Rattle.residency.proofs.shares.pass_share.Goals as goal

pub returns-then-alone : goal.returns-then-alone
unfolding entry
returns-then-alone g c =
    let done = c.give_share.ensures in
    record {
      moved = λ is. slot_no_seat c.args.slot.0 c.args.frame.0 (sym done.moved ∙ is);
      fit = λ t. done.fit;
      free = λ t. done.freed (omega (arith, c.count-alone.ensures, c.if-alone.true));
      handing = λ f. absurd (false≢true (sym f));
      others = done.others;
      hands = record { spares = done.spares; ready = search rules; pages = search rules; plain = done.plain };
    }

pub returns : goal.returns
unfolding entry
returns g c =
    let old : Picture g.M.Levels.mode = picture_of c.args.core.now in
    let mid : Picture g.M.Levels.mode = picture_of c.give_share.new.core in
    let new : Picture g.M.Levels.mode = record mid { slots = slots_of c.share.new.self } in
    let done = c.give_share.ensures in
    let v = c.args.frame.0 in
    let another : count_of c.args.core.now.frames v ≢ 1 = (let a = c.count-alone.ensures in let b = c.if-alone.false in omega (arith, a, b)) in
    let passed = all_passed old mid new c.args.process.pid c.args.page v c.args.slot.0 c.requires.hands.handing done.fit done.moved (ap slots_of done.swap) done.lowered done.kept (ap (λ ps. slice_index_or ps.items v 0) done.noted) another
    (with_slots mid (slots_of c.share.new.self)) c.share.ensures.shares in
    record {
      moved = λ is. slot_no_seat c.args.slot.0 v (sym done.moved ∙ is);
      fit = λ t. absurd (false≢true t);
      free = λ t. absurd (false≢true t);
      handing = λ f. passed.0;
      others = done.others;
      hands = record { spares = spares_then v c.args.slot.0 old mid new done.spares passed.1; ready = search rules; pages = search rules; plain = record { store = done.plain.store; roots = done.plain.roots; regions = done.plain.regions; clock = done.plain.clock; refused = done.plain.refused; looks = done.plain.looks } };
    }
