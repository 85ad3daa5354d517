use Rattle.fault.proofs.{Asking.{asks_slots_same}, Forms.{seat_zero, none_common}, Names.{on_err, ◌≡◌, ◌≢◌, ℕ, Bool, true, false, Some, inl, inr, get_or, refl, sym, ap, ◌∙◌, subst, arith, rules, cases_Bool, false≢true}}
use Rattle.fault.proofs.{Names.{IsFull, Nothing, bytes_of, count_of, role_of, frame_of, Picture, picture_of, entry, IsEntryOver}, OwnSteps.{frame_shown, shown_inside, shown_datum, shown_own, full_own, own_view}}
use Rattle.fault.{proofs.{Steps.{no_table_calm, slotted_calm, moves_entered}, owning.own_frame.Goals.{else-is_private-via-then-is_private+else-count-eq1, else-is_private-via-else-is_private}}, specs.Changes.{KeepsOtherBare, shown_frame, copied_frame}}
use Rattle.{fault.specs.{Changes.{is_sole}, Leaves.{IsFullEntry}, OwnFrames.{CopiesPage}}, residency.specs.Picture.{is_private}}
use Rattle.std.proofs.{Common.{ne_eqb}, lemmas.Bool.{and_left, and_right, both_ways}}
use Rattle.fault.proofs.{Chances.{others_same}, Names.{AreAllMarked}}
use Rattle.fault.proofs.owning.own_frame.Goals as goal

pub shown_frame-shown-requires-clause-number : goal.shown_frame-shown-requires-clause-number
shown_frame-shown-requires-clause-number g c private =
    let is = ap frame_of c.number_at-was.ensures in
    let shows = frame_shown c.requires.page c.requires.in_memory c.number_at-was.ensures refl in
    let low = shown_inside shows in
    let at = shows.own (sym (ap is_private c.number_at-was.ensures) ∙ private) in
    let most = c.args.core.now.sound.most in
    omega (arith, low, at, is, most)

pub shown_frame-shown-requires-clause-in_memory : goal.shown_frame-shown-requires-clause-in_memory
shown_frame-shown-requires-clause-in_memory g c common = c.requires.in_memory (sym (ap is_private c.number_at-was.ensures) ∙ common)

pub count-requires : goal.count-requires
count-requires g c = shown_inside (frame_shown c.requires.page c.requires.in_memory c.number_at-was.ensures c.shown_frame-shown.ensures)

pub regrant-requires : goal.regrant-requires
regrant-requires g c =
    let was = entry (picture_of c.args.core.now) c.args.spot.now.pid c.args.spot.now.page in
    let own = sym (ap is_private c.number_at-was.ensures) ∙ sym c.is_private.ensures ∙ c.if-is_private.true in
    record {
      spot = c.requires.page.stands;
      attr = c.requires.page.mapped;
      resident = λ none. false≢true (sym (none_common was (seat_zero was none)) ∙ own);
      here = c.requires.page.resident;
    }

pub returns-then-count-eq1 : goal.returns-then-count-eq1
returns-then-count-eq1 g c =
    let old : Picture g.M.Levels.mode = picture_of c.args.core.now in
    let pid = c.args.spot.now.pid in
    let page = c.args.spot.now.page in
    let attr = c.args.attr.now in
    let was = entry old pid page in
    let now = entry (picture_of c.regrant.new.core) pid page in
    let shows = frame_shown c.requires.page c.requires.in_memory c.number_at-was.ensures c.shown_frame-shown.ensures in
    let own = sym (ap is_private c.number_at-was.ensures) ∙ sym c.is_private.ensures ∙ c.if-is_private.true in
    let frame = shows.own own in
    let here = shown_own old was attr.backing own in
    let one = ap (count_of old.frames) frame ∙ sym c.count.ensures ∙ c.if-count-eq1.true in
    let enters = c.regrant.ensures.enters in
    let P : Bool → Type 0 = λ x. IsFullEntry old attr (frame_of was) x now in
    let Q : ℕ → Type 0 = λ x. IsEntryOver now attr.prot x true true true in
    let its = enters.views pid page ∙ own_view old pid page attr c.requires.page.mapped own ∙ ap (λ k. Some (record { attr = attr; own = Some (bytes_of old.frames k) })) (sym here) in
    let bytes = ap (bytes_of c.regrant.new.core.frames) (sym frame) ∙ enters.calm.frames.bytes (frame_of was) (λ table. shown_datum shows (ap (role_of old.frames) (sym frame) ∙ table))
    ∙ ap (bytes_of old.frames) (sym here) in
    let entered = subst Q frame (full_own old attr (frame_of was) now one c.requires.page.writable (subst P own c.regrant.ensures.entry)) in
    let sole = ap (λ cs. get_or cs c.shown_frame-shown.result.0 0) enters.calm.frames.counts ∙ ap (count_of old.frames) (sym frame) ∙ one in
    let moves = moves_entered g.E.SectorDisk c.args.core.now c.regrant.new.core pid page c.requires.page.swap enters in
    let chance = others_same old (picture_of c.regrant.new.core) pid page (AreAllMarked old (copied_frame old pid page attr)) enters.calm.others in
    let no_table = no_table_calm c.args.core.now c.regrant.new.core pid page enters.calm in
    let bare : KeepsOtherBare old (picture_of c.regrant.new.core) pid page = λ q p h other none. enters.calm.others q p h other ∙ none in
    let slotted = slotted_calm (λ p. ⊥) c.args.core.now c.regrant.new.core pid page enters.calm in
    let asks = asks_slots_same g.E.SectorDisk {full = IsFull c.args.core.now.frames} c.args.core.now c.regrant.new.core (copied_frame old pid page attr) Nothing enters.calm.swap in
    search (rules, both_ways)

pub copy_page-requires-clause-own : goal.copy_page-requires-clause-own
copy_page-requires-clause-own g c = (frame_shown c.requires.page c.requires.in_memory c.number_at-was.ensures c.shown_frame-shown.ensures).own

pub copy_page-requires-clause-common : goal.copy_page-requires-clause-common
copy_page-requires-clause-common g c = (frame_shown c.requires.page c.requires.in_memory c.number_at-was.ensures c.shown_frame-shown.ensures).common

pub returns : goal.returns
returns g c =
    let old : Picture g.M.Levels.mode = picture_of c.args.core.now in
    let e = c.number_at-was.ensures in
    let was = entry old c.args.spot.now.pid c.args.spot.now.page in
    let shows = frame_shown c.requires.page c.requires.in_memory e c.shown_frame-shown.ensures in
    let not_sole : is_sole old was ≡ false = elim (cases_Bool (is_private was)) [
      | inl own ↦ (
          let many : count_of old.frames c.shown_frame-shown.result.0 ≢ 1 = elim c.else-is_private.branch [
            | else-is_private-via-then-is_private+else-count-eq1 w ↦ (λ one. w.if-count-eq1.false (w.count.ensures ∙ one))
            | else-is_private-via-else-is_private w ↦ absurd (false≢true (sym w.if-is_private.false ∙ c.is_private.ensures ∙ ap is_private e ∙ own))
          ] in
          and_right _ _ (ne_eqb _ 1 (λ one. many (ap (count_of old.frames) (sym (shows.own own)) ∙ one))))
      | inr common ↦ and_left _ _ common
    ] in
    let P : ℕ → Type 0 = λ x. CopiesPage g.E.SectorDisk c.args.core.now c.copy_page.new.core c.args.spot.now.pid c.args.spot.now.page c.args.attr.now (record { 0 = x }) c.copy_page.result in
    record {
      copies = subst P (c.shown_frame-shown.ensures ∙ ap (λ x. shown_frame old x c.args.attr.now.backing) e) c.copy_page.ensures;
      calm = λ sole. absurd (false≢true (sym not_sole ∙ sole));
      wanted = on_err c.copy_page.result _ not_sole;
    }
