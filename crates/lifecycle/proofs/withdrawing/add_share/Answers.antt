use Rattle.lifecycle.proofs.{Copies.{framed_own, slot_seat}, Names.{◌≡◌, ◌<◌, ℕ, sym, ◌∙◌, subst, arith, rules, same_Some, Private, IsFrame, role_of, count_of, Shares, slots_of, frame_of, number_of, Seat, InFrame, InSlot, Picture}}
use Rattle.lifecycle.{proofs.{Names.{picture_of, IsFitBut, seat_own, used_inside, private_used}, Raised.{fit_frame, raises_frame, fit_slot, raises_slot}}, specs.Shares.{RaisesSeat}}
use Rattle.lifecycle.proofs.withdrawing.add_share.Goals as goal

pub share-requires-clause-in_use : goal.share-requires-clause-in_use
share-requires-clause-in_use g c = (c.requires.may (InSlot c.in-Swapped.slot.0) (slot_seat c.args.shared c.in-Swapped.slot c.in-Swapped.is c.requires.own.form)).owned.0

pub share-requires-clause-few : goal.share-requires-clause-few
share-requires-clause-few g c = (c.requires.may (InSlot c.in-Swapped.slot.0) (slot_seat c.args.shared c.in-Swapped.slot c.in-Swapped.is c.requires.own.form)).few

pub returns-in-Swapped : goal.returns-in-Swapped
returns-in-Swapped g c =
    let old : Picture g.M.Levels.mode = picture_of c.args.core.now in
    let k = c.in-Swapped.slot.0 in
    let t = slots_of c.share.new.self in
    let is = slot_seat c.args.shared c.in-Swapped.slot c.in-Swapped.is c.requires.own.form in
    let owned = (c.requires.may (InSlot k) is).owned in
    record {
      fit = λ y at. subst (λ (z : Seat). IsFitBut (record old { slots = t }) z 1 0) (same_Some (InSlot k) y (sym is ∙ at)) (fit_slot old k c.requires.fit owned t c.share.ensures.shares);
      raises = λ y at. subst (λ (z : Seat). RaisesSeat old (record old { slots = t }) z) (same_Some (InSlot k) y (sym is ∙ at)) (raises_slot old k c.requires.fit owned t c.share.ensures.shares);
      rest = search rules;
      refused = search rules;
    }

pub frame_of-requires : goal.frame_of-requires
frame_of-requires g c =
    let n = frame_of (number_of c.args.shared) in
    let own = framed_own c.args.shared c.requires.own.form c.in_default.not-Swapped c.requires.own.own in
    let role = (c.requires.may (InFrame n) (seat_own (number_of c.args.shared) own)).owned in
    let inside = used_inside c.args.core.now.frames n c.args.core.now.sound (private_used _ role) in
    record { form = c.requires.own.form; own = own; small = omega (arith, inside, c.args.core.now.sound.most) }

pub share-requires-2 : goal.share-requires-2
share-requires-2 g c =
    let n = frame_of (number_of c.args.shared) in
    let t = c.args.core.now.frames in
    let own = framed_own c.args.shared c.requires.own.form c.in_default.not-Swapped c.requires.own.own in
    let may = c.requires.may (InFrame n) (seat_own (number_of c.args.shared) own) in
    let at = sym c.frame_of.ensures in
    record {
      inside = subst (λ (x : ℕ). IsFrame t x) at (used_inside t n c.args.core.now.sound (private_used _ may.owned));
      private = subst (λ (x : ℕ). role_of t x ≡ Private) at may.owned;
      room = subst (λ (x : ℕ). count_of t x < 64) at may.few;
    }

pub returns : goal.returns
returns g c =
    let old : Picture g.M.Levels.mode = picture_of c.args.core.now in
    let n = frame_of (number_of c.args.shared) in
    let t = c.share-2.new.self in
    let is = seat_own (number_of c.args.shared) (framed_own c.args.shared c.requires.own.form c.in_default.not-Swapped c.requires.own.own) in
    let may = c.requires.may (InFrame n) is in
    let S : ℕ → Type 0 = λ x. Shares c.args.core.now.frames t x in
    let F : Seat → Type 0 = λ z. IsFitBut (record old { frames = t }) z 1 0 in
    let R : Seat → Type 0 = λ z. RaisesSeat old (record old { frames = t }) z in
    record {
      fit = λ y at. subst F (same_Some (InFrame n) y (sym is ∙ at)) (fit_frame old n c.requires.fit may.owned may.unwritten t (subst S c.frame_of.ensures c.share-2.ensures.change));
      raises = λ y at. subst R (same_Some (InFrame n) y (sym is ∙ at)) (raises_frame old n c.requires.fit may.owned may.unwritten t (subst S c.frame_of.ensures c.share-2.ensures.change));
      rest = search rules;
      refused = search rules;
    }
