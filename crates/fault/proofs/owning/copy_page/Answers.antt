use Rattle.fault.proofs.{Asking.{asks_slots_kept}, Forms.{used_inside}, Names.{is_some, IsTrue, ◌≡◌, Some, refl, sym, ap, ◌∙◌, subst, rules, false≢true, Nothing, Role, Free, Private, is_handed_out, Swap, IsReady, UsesDevice, picture_of}}
use Rattle.fault.proofs.{OwnSteps.{ownable_frame, shown_used, shown_datum, shown_inside, copy_frame, copied_given, shared_others, fit_first, behind_freed, behind_first, role_shared, fit_shared, copied_shared}, Settling.{aside_freed, leaves_aside}}
use Rattle.{fault.proofs.{Settling.{forest_mid, root_mid, rows_mid, gives_frame, set_others}, Steps.{same_with}}, residency.specs.Picture.{is_private}}
use Rattle.fault.{specs.OwnFrames.{LeavesOthers}, proofs.Names.{ℕ, false, entry}}
use Rattle.fault.proofs.Chances.{others_on}
use Rattle.fault.proofs.owning.copy_page.Goals as goal

pub take_copy-requires : goal.take_copy-requires
take_copy-requires g c =
    let page = c.requires.page in
    let shows = ownable_frame page c.args.shown.0 c.requires.own c.requires.common in
    record { fit = page.stands.linked.fit; swap = page.swap; source = shown_inside shows; in_use = shown_used shows; datum = shown_datum shows }

pub set_full-requires-clause-forest : goal.set_full-requires-clause-forest
set_full-requires-clause-forest g c =
    let shows = ownable_frame c.requires.page c.args.shown.0 c.requires.own c.requires.common in
    forest_mid (copy_frame shows c.in_ok-own.ensures.taken c.requires.page.stands.root)

pub set_full-requires-clause-root : goal.set_full-requires-clause-root
set_full-requires-clause-root g c =
    let shows = ownable_frame c.requires.page c.args.shown.0 c.requires.own c.requires.common in
    root_mid (copy_frame shows c.in_ok-own.ensures.taken c.requires.page.stands.root)

pub set_full-requires-clause-table : goal.set_full-requires-clause-table
set_full-requires-clause-table g c =
    let stands = c.requires.page.stands in
    let shows = ownable_frame c.requires.page c.args.shown.0 c.requires.own c.requires.common in
    rows_mid (copy_frame shows c.in_ok-own.ensures.taken stands.root) c.args.spot.now.pid c.args.spot.now.root.0 _ c.args.spot.now.table.0 stands.root stands.table

pub set_full-requires-clause-user : goal.set_full-requires-clause-user
set_full-requires-clause-user g c = ((c.requires.page.stands.linked.fit.granting.user c.args.spot.now.pid).user_pages c.args.spot.now.page (ap is_some c.requires.page.mapped)).1

pub returns-then-is_private : goal.returns-then-is_private
returns-then-is_private g c =
    let page = c.requires.page in
    let done = c.in_ok-own.ensures in
    let rest = c.set_full.ensures.rest in
    let shows = ownable_frame page c.args.shown.0 c.requires.own c.requires.common in
    let gives = gives_frame c.set_full.ensures (picture_of c.args.core.now) page.not_shared page.inside in
    let private = sym (ap is_private c.requires.was) ∙ sym c.is_private.ensures ∙ c.if-is_private.true in
    let beside = same_with (picture_of c.set_full.new.core) c.release.new.self in
    let releases = c.release.ensures.change in
    let copied = copied_shared shows done.taken page.stands.root gives private releases beside page.writable in
    let P : Swap _ → Type 0 = λ s. IsReady g.E.SectorDisk s in
    record {
      own = copied.own;
      bytes = copied.bytes;
      entered = copied.entered;
      sole = copied.sole;
      behind = λ x not_own. absurd (false≢true (sym not_own ∙ private));
      keeps = leaves_aside g.E.SectorDisk c.args.core.now _ (fit_shared shows done.taken page.stands.root gives private releases beside) (subst P (sym rest.swap) done.swap) copied.aside
          (rest.store ∙ done.rest.store) (subst (λ (s : Swap _). UsesDevice g.E.SectorDisk c.args.core.now.swap.pages.disk s.pages.disk) (sym rest.swap) done.device);
      chance = others_on (picture_of c.args.core.now) (picture_of c.take_copy.new.core) _ c.args.spot.now.pid c.args.spot.now.page (Some c.args.shown) done.chance
          (shared_others shows done.taken page.stands.root gives private releases beside);
      asks = asks_slots_kept g.E.SectorDisk c.args.core.now c.take_copy.new.core c.set_full.new.core (Some c.args.shown) Nothing (ap (λ (s : Swap _). s.pages) rest.swap) done.asks;
      stalls = record { same = tt; frees = tt; refuses = tt; short = tt; cause = search rules };
    }

pub returns-else-is_private : goal.returns-else-is_private
returns-else-is_private g c =
    let page = c.requires.page in
    let done = c.in_ok-own.ensures in
    let rest = c.set_full.ensures.rest in
    let shows = ownable_frame page c.args.shown.0 c.requires.own c.requires.common in
    let gives = gives_frame c.set_full.ensures (picture_of c.args.core.now) page.not_shared page.inside in
    let common = sym (ap is_private c.requires.was) ∙ sym c.is_private.ensures ∙ c.if-is_private.false in
    let copied = copied_given shows done.taken page.stands.root gives page.writable in
    let P : Swap _ → Type 0 = λ s. IsReady g.E.SectorDisk s in
    record {
      own = copied.own;
      bytes = copied.bytes;
      entered = copied.entered;
      sole = copied.sole;
      behind = λ x not_own. behind_first shows done.taken page.stands.root gives not_own x;
      keeps = leaves_aside g.E.SectorDisk c.args.core.now _ (fit_first shows done.taken page.stands.root gives common) (subst P (sym rest.swap) done.swap) copied.aside
          (rest.store ∙ done.rest.store) (subst (λ (s : Swap _). UsesDevice g.E.SectorDisk c.args.core.now.swap.pages.disk s.pages.disk) (sym rest.swap) done.device);
      chance = others_on (picture_of c.args.core.now) (picture_of c.take_copy.new.core) _ c.args.spot.now.pid c.args.spot.now.page (Some c.args.shown) done.chance
          (set_others (copy_frame shows done.taken page.stands.root) gives);
      asks = asks_slots_kept g.E.SectorDisk c.args.core.now c.take_copy.new.core c.set_full.new.core (Some c.args.shown) Nothing (ap (λ (s : Swap _). s.pages) rest.swap) done.asks;
      stalls = record { same = tt; frees = tt; refuses = tt; short = tt; cause = search rules };
    }

pub returns-in_err-own : goal.returns-in_err-own
returns-in_err-own g c =
    let done = c.in_err-own.ensures in
    let shows = ownable_frame c.requires.page c.args.shown.0 c.requires.own c.requires.common in
    let behind = λ (x : ℕ) (not_own : is_private (entry (picture_of c.args.core.now) c.args.spot.now.pid c.args.spot.now.page) ≡ false). behind_freed _ _ c.args.attr.now.backing c.args.shown.0 done.frees (shown_datum shows) (c.requires.common not_own) x in
    let keeps : LeavesOthers g.E.SectorDisk c.args.core.now c.take_copy.new.core c.args.spot.now.pid c.args.spot.now.page = leaves_aside g.E.SectorDisk c.args.core.now c.take_copy.new.core done.fit done.swap (aside_freed done.frees) done.rest.store done.device in
    search rules

pub set_full-requires-clause-frame : goal.set_full-requires-clause-frame
set_full-requires-clause-frame g c = record { inside = c.in_ok-own.ensures.taken.inside; behind = λ common. absurd (false≢true (sym common)) }

pub release-requires : goal.release-requires
release-requires g c =
    let page = c.requires.page in
    let shows = ownable_frame page c.args.shown.0 c.requires.own c.requires.common in
    let gives = gives_frame c.set_full.ensures (picture_of c.args.core.now) page.not_shared page.inside in
    let private = sym (ap is_private c.requires.was) ∙ sym c.is_private.ensures ∙ c.if-is_private.true in
    let role = role_shared shows c.in_ok-own.ensures.taken page.stands.root gives private in
    record {
      inside = used_inside c.set_full.new.core.frames c.args.shown.0 c.set_full.new.core.sound (λ free. (let bad : Private ≡ Free = sym role ∙ free in (cc)));
      handed_out = (let P : Role → Type 0 = λ x. IsTrue (is_handed_out x) in subst P (sym role) refl);
    }
