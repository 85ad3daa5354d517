use Rattle.machine.proofs.Names.{◌≡◌, ◌+◌, ◌++◌, ◌∷◌, [], ◌<◌, List, length, take, set, refl, sym, ◌∙◌, ap, subst, arith, length-set, take_all, take_more, take_more_set, Command, Reply}
use Rattle.machine.{specs.{Chain.{Caused}, Commands.{DoesEachAsTold}}, proofs.{Counts.{counts}, Face.{readable}, Runs.{all_ran, caused_more, ran_more, room_then, RanSoFar}}}
use Rattle.machine.proofs.machine.Machine.run.Goals as goal

pub loop-i-init : goal.loop-i-init
loop-i-init g c = record {
  sound = c.requires.sound;
  lengths = c.requires.lengths;
  keeps = record { kept = λ k. k; swap_kept = λ k. k; room = record { frames = refl; slots = refl; mode = refl } };
  caused = refl;
  ran = λ s shows keeps swap_keeps. record { last = s; events = []; chain = (refl, refl); shows = shows };
}

pub loop-i-preserved : goal.loop-i-preserved
loop-i-preserved g c =
    let inv = c.loop-i.invariant in
    let i = c.loop-i.i in
    let commands = c.args.commands.now in
    let replies = c.loop-i.replies in
    let x = c.index-commands-i.result in
    let r = c.step.result in
    let less : i < length replies = omega (arith, inv.lengths, c.loop-i-test.true) in
    let read = c.index-commands-i.is in
    let xs : take (i + 1) commands ≡ take i commands ++ x ∷ [] =
    take_more commands i x c.loop-i-test.true ∙ ap (λ (y : Command). take i commands ++ y ∷ []) (sym c.index-commands-i.is) in
    let ys : take (i + 1) (set replies i r) ≡ take i replies ++ r ∷ [] = take_more_set replies i r less in
    record {
      sound = c.step.ensures.sound;
      lengths = length-set _ _ _ ∙ inv.lengths;
      keeps = record {
        kept = λ k. inv.keeps.kept (c.step.ensures.keeps.kept k);
        swap_kept = λ k. inv.keeps.swap_kept (c.step.ensures.keeps.swap_kept k);
        room = room_then c.args.self.now c.loop-i.self c.step.new.self inv.keeps.room c.step.ensures.keeps.room;
      };
      caused =
          let old = c.args.self.now in
          subst (λ (zs : List Reply). Caused g.D.SectorDisk g.E.SectorDisk old zs c.step.new.self) (sym ys)
          (caused_more g.D.SectorDisk g.E.SectorDisk old c.loop-i.self c.step.new.self (take i replies) r inv.caused c.step.ensures.does.caused);
      ran = λ s shows keeps swap_keeps.
          let old = c.args.self.now in
          let one = ran_more g.D.SectorDisk g.E.SectorDisk old c.loop-i.self c.step.new.self s (take i commands) (take i replies) x r (inv.ran s shows (c.step.ensures.keeps.kept keeps) (c.step.ensures.keeps.swap_kept swap_keeps))
          (λ u at. c.step.ensures.meets u at (readable g.D.SectorDisk g.E.SectorDisk c.step.new.self u x keeps swap_keeps)) in
          subst (λ (zs : List Command). RanSoFar g.D.SectorDisk g.E.SectorDisk old c.step.new.self s zs (take (i + 1) (set replies i r))) (sym xs)
          (subst (λ (zs : List Reply). RanSoFar g.D.SectorDisk g.E.SectorDisk old c.step.new.self s (take i commands ++ x ∷ []) zs) (sym ys) one);
    }

pub returns-clause-does : goal.returns-clause-does
returns-clause-does g c =
    let every : take c.loop-i.i c.loop-i.replies ≡ c.loop-i.replies = take_all c.loop-i.i c.loop-i.replies (omega (arith, c.loop-i.invariant.lengths)) in
    let kept = c.loop-i.invariant in
    subst (λ (zs : List Reply). DoesEachAsTold g.D.SectorDisk g.E.SectorDisk c.args.self.now c.loop-i.self zs) every (record {
      sound = kept.sound;
      keeps = kept.keeps;
      caused = kept.caused;
      counts = counts g.D.SectorDisk g.E.SectorDisk c.args.self.now (take c.loop-i.i c.loop-i.replies) c.loop-i.self kept.caused;
    })

pub returns-clause-run : goal.returns-clause-run
returns-clause-run g c = λ s shows keeps swap_keeps.
    let commands = c.args.commands.now in
    let replies = c.loop-i.replies in
    let all : take c.loop-i.i commands ≡ commands = take_all c.loop-i.i commands (omega arith) in
    let every : take c.loop-i.i replies ≡ replies = take_all c.loop-i.i replies (omega (arith, c.loop-i.invariant.lengths)) in
    let ran = c.loop-i.invariant.ran s shows keeps swap_keeps in
    all_ran g.D.SectorDisk g.E.SectorDisk c.args.self.now c.loop-i.self s commands replies (λ d i k left. g.met.D.SectorDisk.only_now d i k left) shows
    (subst (λ (xs : List Command). RanSoFar g.D.SectorDisk g.E.SectorDisk c.args.self.now c.loop-i.self s xs replies) all
    (subst (λ (ys : List Reply). RanSoFar g.D.SectorDisk g.E.SectorDisk c.args.self.now c.loop-i.self s (take c.loop-i.i commands) ys) every ran))
