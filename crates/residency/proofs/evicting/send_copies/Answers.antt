use Rattle.residency.proofs.{Asking.{asks_put, one_put}, Names.{inl, inr, refl, ◌∙◌, subst, arith, rules, Role, IsCountFor, count_of, slots_of}, Puts.{fit_put, put_noted}, Putting.{put_spares, fit_unput, with_slots, kept_by, owned_by}}
use Rattle.residency.{proofs.Sparing.{spares_then, past_unused}, specs.{Evictions.{GivesUp}, Picture.{Picture, picture_of}, Seats.{InFrame}}}
use Rattle.residency.proofs.evicting.send_copies.Goals as goal

pub hand_over-requires : goal.hand_over-requires
hand_over-requires g c =
    let old : Picture g.M.Levels.mode = picture_of c.args.core.now in
    let t = slots_of c.put.new.self in
    let put : Picture g.M.Levels.mode = record old { slots = t } in
    let k = c.in-Ok.slot.0 in
    let v = c.args.victim.0 in
    let page = old.page_of v in
    let puts = c.in-Ok.ensures.puts in
    let h = c.requires.goes.fit.counted.1.pages (InFrame v) c.requires.role in
    let P : Role → Type 0 = λ r. IsCountFor r (count_of old.frames v) in
    let count = subst P c.requires.role (c.args.core.now.sound.counted v c.requires.goes.inside) in
    rw (← c.requires.noted) (record {
      ready = search rules;
      handing = record {
        share = record {
          fit = fit_put old put k page 0 _ c.requires.goes.fit (with_slots old t) puts h;
          owned = owned_by old t k _ c.requires.goes.fit puts;
          noted = put_noted old put k page 0 _ c.requires.goes.fit (with_slots old t) puts h;
        };
        role = c.requires.role;
        noted = refl;
        alike = puts.holds ∙ c.bytes.ensures;
        some = count.0;
        few = (let one = puts.counted in let most = count.1 in omega (arith, one, most));
      };
    })

pub returns-in-Ok : goal.returns-in-Ok
returns-in-Ok g c =
    let old : Picture g.M.Levels.mode = picture_of c.args.core.now in
    let t = slots_of c.put.new.self in
    let put : Picture g.M.Levels.mode = record old { slots = t } in
    let new : Picture g.M.Levels.mode = picture_of c.hand_over.new.core in
    let k = c.in-Ok.slot.0 in
    let v = c.args.victim.0 in
    let puts = c.in-Ok.ensures.puts in
    let gives : GivesUp v old new = (
      k,
      (λ used. (let none = puts.was_free in omega (arith, used, none))),
      spares_then v k old put new (put_spares old put c.requires.goes.fit (with_slots old t) (λ j used. (kept_by old.slots t k _ puts j used).0) v k puts.others.total (λ j ne used. (kept_by old.slots t k _ puts j used).1)) c.hand_over.ensures.spares,
    ) in
    let asks = asks_put g.E.SectorDisk c.args.core.now.swap c.args.core.now.swap c.put.new.self c.hand_over.new.core.swap refl c.hand_over.ensures.pages c.put.ensures.asks_free in
    let one = one_put g.E.SectorDisk c.args.core.now.swap c.args.core.now.swap c.put.new.self c.hand_over.new.core.swap c.in-Ok.slot.0 refl c.hand_over.ensures.pages c.in-Ok.ensures.asks in
    search (rules, inl, inr, gives, asks, one)

pub returns-in-Err-Device : goal.returns-in-Err-Device
returns-in-Err-Device g c =
    let old : Picture g.M.Levels.mode = picture_of c.args.core.now in
    let t = slots_of c.put.new.self in
    let v = c.args.victim.0 in
    let same = c.in-Err-Device.ensures.same in
    let gives : GivesUp v old (record old { slots = t }) = (
      old.slots.total,
      past_unused c.args.core.now.swap,
      put_spares old (record old { slots = t }) c.requires.goes.fit (with_slots old t) (λ j used. same.bytes j used) v old.slots.total same.total (λ j ne used. same.counts j),
    ) in
    search (rules, inl, inr, gives, c.put.ensures.asks_free, fit_unput old (record old { slots = t }) c.requires.goes.fit (with_slots old t) c.in-Err-Device.ensures.same)
