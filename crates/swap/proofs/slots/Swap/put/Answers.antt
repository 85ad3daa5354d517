use Rattle.{std.proofs.{Common.{◌≡◌, ℕ, List, length, refl, ap, ◌∙◌, arith, rules}, lemmas.List.{get_or-set_same, get_or-set_other, length-set}}, disk_model.proofs.{Moments.{asks_none, asks_wider}, Naming.{once_none, once_wider}}}
use Rattle.swap.{proofs.Sound.{sound_slots, put_back}, specs.{Counts.{count_at}, Slots.{or_none}}}
use Rattle.swap.proofs.slots.Swap.put.Goals as goal

pub returns-in_default : goal.returns-in_default
returns-in_default g c =
    let same : c.take.new.self ≡ c.args.self.now.counts = c.in_default.ensures.same in let size = ap (λ (l : List ℕ). length l) same in let ready = c.requires.ready in
    record {
      puts = tt;
      calm = tt;
      asks = tt;
      sectors = λ _. tt;
      sound = sound_slots _ _ c.take.ensures.sound;
      keeps = record { ready = record { room = omega (arith, size, ready.room); as_written = ready.as_written }; size = refl; kept = λ k. k };
      asks_free = asks_none g.D.SectorDisk _ _ _ (λ k. refl);
      once = once_none _ _ _ (λ k. refl);
      later = omega arith;
      same = record { total = size; bytes = λ m _. refl; counts = λ m. ap (λ l. count_at l m) same };
      full = (λ _. c.in_default.ensures.none, λ _. refl);
      unasked = λ _. refl;
      device = λ e. (cc);
    }

pub invariant_of-self-in-Ok : goal.invariant_of-self-in-Ok
invariant_of-self-in-Ok g c = search rules

pub returns-in-Ok : goal.returns-in-Ok
returns-in-Ok g c =
    let old = c.args.self.now.counts in let n = c.in-Some.n in let taken = c.in-Some.ensures.taken in let below = c.in-Some.ensures.inside in let free = c.in-Some.ensures.was_free in
    let w = c.put.ensures in let size = ap (λ (l : List ℕ). length l) taken ∙ length-set old n 1 in
    record {
      puts = record {
        others = record { total = size; bytes = λ m ne _. ap or_none (w.others m ne); counts = λ m ne. ap (λ l. count_at l m) taken ∙ get_or-set_other old n m 1 0 ne };
        inside = below;
        was_free = free;
        holds = ap or_none c.in-Ok.ensures.written;
        counted = ap (λ l. count_at l n) taken ∙ get_or-set_same old n 1 0 below;
      };
      calm = c.in-Ok.ensures.cause.calm;
      asks = w.asks;
      sectors = w.sectors;
      sound = sound_slots _ _ c.take.ensures.sound;
      keeps = record { ready = record { room = omega (arith, size, w.size, c.requires.ready.room); as_written = w.as_written }; size = w.size; kept = w.kept };
      asks_free = asks_wider g.D.SectorDisk _ _ _ _ (λ k inside. (n, below, free, inside)) w.asks;
      once = once_wider _ _ _ _ (λ k inside. (n, below, free, inside)) w.once;
      later = w.cause.later;
      same = tt;
      full = (λ e. (cc), λ full. absurd (omega (arith, full n below, free)));
      unasked = λ e. (cc);
      device = λ e. (cc);
    }

pub invariant_of-self-in-Err : goal.invariant_of-self-in-Err
invariant_of-self-in-Err g c = search rules

pub returns-in-Err : goal.returns-in-Err
returns-in-Err g c =
    let old = c.args.self.now.counts in let n = c.in-Some.n in let below = c.in-Some.ensures.inside in let free = c.in-Some.ensures.was_free in let w = c.put.ensures in
    let back = put_back old c.take.new.self c.lower.new.self n below free c.in-Some.ensures.taken c.lower.ensures.lowered in let size = ap (λ (l : List ℕ). length l) back in
    record {
      puts = tt;
      calm = tt;
      asks = tt;
      sectors = λ _. tt;
      sound = sound_slots _ _ c.lower.ensures.sound;
      keeps = record { ready = record { room = omega (arith, size, w.size, c.requires.ready.room); as_written = w.as_written }; size = w.size; kept = w.kept };
      asks_free = asks_wider g.D.SectorDisk _ _ _ _ (λ k inside. (n, below, free, inside)) w.asks;
      once = once_wider _ _ _ _ (λ k inside. (n, below, free, inside)) w.once;
      later = w.cause.later;
      same = record { total = size; bytes = λ m in_use. ap or_none (w.others m (λ e. omega (arith, in_use, free, ap (count_at old) e))); counts = λ m. ap (λ l. count_at l m) back };
      full = (λ e. (cc), λ full. absurd (omega (arith, full n below, free)));
      unasked = λ e. (cc);
      device = λ _. c.in-Err.ensures.cause.failed refl;
    }
