use Rattle.residency.proofs.Names.{sizes, user_pages_fit, ◌≡◌, ◌≢◌, ℕ, inl, inr, Some, refl, sym, ap, ◌∙◌, subst, arith, rules, Private, Cache, bytes_of, PageKey, SlotTable, slots_of, IsInUse, Frame, Slot, place_of, is_touched}
use Rattle.residency.{specs.{Calls.{NeedsSlot}, Evictions.{GivesUp}, Seats.{InSlot}, Picture.{Picture, picture_of, entry, held, bytes_at}}, proofs.{Asking.{asks_put, one_put}, Leaving.{leaves_frame, fit_slot, left_spares, unnamed_of}, Puts.{fit_put}}}
use Rattle.residency.proofs.{Putting.{put_spares, fit_unput, with_slots, kept_by, owned_by}, Sparing.{forgotten_spares, spares_then, past_unused}}
use Rattle.residency.proofs.evicting.send_away.Goals as goal

held_there : {mode : ℕ} (old new : Picture mode) (p : PageKey) (v k : ℕ) → old.place p ≡ Frame (record { 0 = v }) → new.place p ≡ Slot (record { 0 = k }) → new.slots.bytes k ≡ bytes_of old.frames v → held new p ≡ held old p
unfolding held
held_there old new p v k at now same = ap (λ x. bytes_at new.frames new.slots x) now ∙ ap (λ b. Some b) same ∙ sym (ap (λ x. bytes_at old.frames old.slots x) at)

pub returns-in-Ok : goal.returns-in-Ok
unfolding entry
returns-in-Ok g c =
    let old : Picture g.M.Levels.mode = picture_of c.args.core.now in
    let mid : Picture g.M.Levels.mode = picture_of c.forget_leaves.new.core in
    let t = slots_of c.put.new.self in
    let put : Picture g.M.Levels.mode = record mid { slots = t } in
    let new : Picture g.M.Levels.mode = record mid { slots = t; frames = c.release.new.self; place = place_of c.set_place.new.self; touched = is_touched c.set_place.new.self } in
    let page = c.args.page in
    let v = c.args.victim.0 in
    let k = c.in-Ok.slot.0 in
    let puts = c.in-Ok.ensures.puts in
    let fit = c.forget_leaves.ensures.fit in
    let ch = c.forget_leaves.ensures.changes in
    let clear = unnamed_of mid v c.forget_leaves.ensures.clear in
    let was = ch.beside.place page ∙ c.requires.placed in
    let cache = fit.places.cached page v was in
    let free = c.release.ensures.alone (λ own. (let bad : Private ≡ Cache = sym own ∙ cache in (cc))) in
    let above : v ≢ 0 = λ zero. (let a = c.forget_leaves.ensures.above in omega (arith, a, zero)) in
    let leaves = leaves_frame put c.release.new.self c.forget_leaves.new.core.cache c.set_place.new.self page v (Slot (record { 0 = k })) was above c.set_place.ensures.placed c.set_place.ensures.others c.set_place.ensures.touched c.release.ensures.change.others free in
    let filled = fit_put mid put k 0 0 _ fit (with_slots mid t) puts (omega (arith, user_pages_fit g.M.Levels.mode, (sizes g.M.Levels.mode).least)) in
    let first = forgotten_spares v k old mid c.requires.goes.fit (c.requires.goes.fit.places.cached page v c.requires.placed) ch in
    let puts_counts : (j : ℕ) → j ≢ k → IsInUse mid.slots j → t.count j ≡ mid.slots.count j = λ j ne used. (kept_by mid.slots t k _ puts j used).1 in
    let second = put_spares mid put fit (with_slots mid t) (λ j used. (kept_by mid.slots t k _ puts j used).0) v k puts.others.total puts_counts in
    let third = left_spares put new page v (Slot (record { 0 = k })) (InSlot k) 1 filled leaves clear k (inl (held_there put new page v k was c.set_place.ensures.placed (puts.holds ∙ c.bytes.ensures))) in
    let unused : IsInUse old.slots k → ⊥ = λ used. (let P : SlotTable → Type 0 = λ s. IsInUse s k in let there = subst P (sym ch.beside.slots) used in let none = puts.was_free in omega (arith, there, none)) in
    let gives : GivesUp v old new = (k, unused, spares_then v k old put new (spares_then v k old mid put first second) third) in
    let asked : NeedsSlot old v = inr (page, c.requires.placed, c.requires.touched) in
    let asks = asks_put g.E.SectorDisk c.args.core.now.swap c.forget_leaves.new.core.swap c.put.new.self c.put.new.self c.forget_leaves.ensures.beside.swap refl c.put.ensures.asks_free in
    let one = one_put g.E.SectorDisk c.args.core.now.swap c.forget_leaves.new.core.swap c.put.new.self c.put.new.self k c.forget_leaves.ensures.beside.swap refl c.in-Ok.ensures.asks in
    search (rules, inr, free, gives, asked, asks, one, fit_slot put new page v k filled (owned_by mid t k _ fit puts) puts.counted leaves (ch.beside.touched page ∙ c.requires.touched) clear)

pub returns-in-Err-Device : goal.returns-in-Err-Device
returns-in-Err-Device g c =
    let mid : Picture g.M.Levels.mode = picture_of c.forget_leaves.new.core in
    let t = slots_of c.put.new.self in
    let old : Picture g.M.Levels.mode = picture_of c.args.core.now in
    let put : Picture g.M.Levels.mode = record mid { slots = t } in
    let v = c.args.victim.0 in
    let k = old.slots.total in
    let same = c.in-Err-Device.ensures.same in
    let gives : GivesUp v old put = (
      k,
      past_unused c.args.core.now.swap,
      spares_then v k old mid put (forgotten_spares v k old mid c.requires.goes.fit (c.requires.goes.fit.places.cached c.args.page v c.requires.placed) c.forget_leaves.ensures.changes)
          (put_spares mid put c.forget_leaves.ensures.fit (with_slots mid t) (λ j used. same.bytes j used) v k same.total (λ j ne used. same.counts j)),
    ) in
    let asked : NeedsSlot old v = inr (c.args.page, c.requires.placed, c.requires.touched) in
    let asks = asks_put g.E.SectorDisk c.args.core.now.swap c.forget_leaves.new.core.swap c.put.new.self c.put.new.self c.forget_leaves.ensures.beside.swap refl c.put.ensures.asks_free in
    search (rules, inr, gives, asked, asks, c.forget_leaves.ensures.changes.roles, fit_unput mid put c.forget_leaves.ensures.fit (with_slots mid t) c.in-Err-Device.ensures.same)

pub set_place-requires-clause-free : goal.set_place-requires-clause-free
set_place-requires-clause-free g c = λ p ne at.
    let one = c.forget_leaves.ensures.fit.places.slotted p c.in-Ok.slot.0 at in
    let none = c.in-Ok.ensures.puts.was_free in
    absurd (omega (arith, one, none))

pub release-requires : goal.release-requires
release-requires g c =
    let ch = c.forget_leaves.ensures.changes in
    let cache = c.forget_leaves.ensures.fit.places.cached c.args.page c.args.victim.0 (ch.beside.place c.args.page ∙ c.requires.placed) in
    record { inside = (let e = ch.frames in let inside = c.requires.goes.inside in omega (arith, e, inside)); handed_out = rw cache refl }
