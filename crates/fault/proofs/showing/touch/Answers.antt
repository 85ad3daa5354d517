use Rattle.fault.proofs.Names.{is_some, ◌&&◌, ◌≡◌, Bool, true, false, inl, inr, refl, sym, ap, ◌∙◌, subst, false≢true, PageKey, can_write, place_of, is_touched, Table, Cache, Picture, picture_of, entry, is_shared, cases_page, IsEntryOver}
use Rattle.fault.{specs.Leaves.{is_touched_behind}, proofs.Settling.{beside_around, full_entry_now, full_set, full_fit, full_views, full_tables, linked_marked, entry_marked, view_marked, tables_marked}}
use Rattle.fault.proofs.{Forms.{used_inside, behind_of, touched_of, behind_used, mapped_page, shared_none, seat_over_common}, Steps.{tables_then}}
use Rattle.fault.{specs.Changes.{MarksTouched}, proofs.Names.{ℕ, ◌≢◌, ◌⊎◌, IsPage, top_level, rules}}
use Rattle.fault.proofs.showing.touch.Goals as goal

pub set_full-requires-clause-root : goal.set_full-requires-clause-root
set_full-requires-clause-root g c = c.requires.spot.linked.fit.rooted.roots c.args.spot.now.pid c.args.spot.now.root.0 c.requires.spot.root

pub set_full-requires-clause-frame : goal.set_full-requires-clause-frame
set_full-requires-clause-frame g c =
    record {
      inside = (let old : Picture g.M.Levels.mode = picture_of c.args.core.now in
          used_inside old.frames c.args.frame.0 c.args.core.now.sound
          (behind_used old c.args.attr.now.backing c.args.frame.0 c.args.core.now.sound c.requires.spot.linked.fit.places (behind_of old c.args.attr.now.backing c.args.stored.now c.args.frame.0 c.requires.stands c.requires.cached)));
      behind = λ _.
          let old : Picture g.M.Levels.mode = picture_of c.args.core.now in
          let mid : Picture g.M.Levels.mode = record old { place = place_of c.mark_dirty.new.self; touched = is_touched c.mark_dirty.new.self } in
          behind_of mid c.args.attr.now.backing c.args.stored.now c.args.frame.0 c.requires.stands (c.mark_dirty.ensures.placed ∙ c.requires.cached);
    }

pub set_full-requires-clause-user : goal.set_full-requires-clause-user
set_full-requires-clause-user g c = ((c.requires.spot.linked.fit.granting.user c.args.spot.now.pid).user_pages c.args.spot.now.page (ap is_some c.requires.allowed.mapped)).1

pub returns : goal.returns
returns g c =
    let old : Picture g.M.Levels.mode = picture_of c.args.core.now in
    let mid : Picture g.M.Levels.mode = record old { place = place_of c.mark_dirty.new.self; touched = is_touched c.mark_dirty.new.self } in
    let new : Picture g.M.Levels.mode = picture_of c.set_full.new.core in
    let place : (p : PageKey) → mid.place p ≡ old.place p = λ p. elim (cases_page p c.args.stored.now) [ inl is ↦ ap mid.place is ∙ c.mark_dirty.ensures.placed ∙ sym (ap old.place is) | inr ne ↦ c.mark_dirty.ensures.others.places p ne ] in
    let linked = linked_marked old mid c.args.stored.now c.args.frame.0 refl refl (λ q. refl) (λ q k. refl) (λ x. refl) place c.mark_dirty.ensures.touched c.mark_dirty.ensures.others.touched (λ f. refl) c.requires.cached c.args.spot.now.pid c.args.spot.now.page c.requires.spot.linked in
    let beside = beside_around _ c.set_full.new.core c.set_full.ensures.rest in
    let sets = c.set_full.ensures.sets in
    let r = c.args.spot.now.root.0 in
    let rest = c.set_full.ensures.rest in
    let none = shared_none mid c.args.spot.now.pid c.args.spot.now.page c.args.attr.now linked.fit.granting c.requires.allowed.mapped (mapped_page mid c.args.spot.now.pid c.args.spot.now.page c.args.attr.now linked.fit.granting c.requires.allowed.mapped) c.requires.shared in
    let same = seat_over_common sets.0 c.args.attr.now c.args.frame.0 _ _ sets.1 ∙ sym none in
    let full = full_entry_now mid new c.args.spot.now.pid c.args.spot.now.page r c.args.attr.now c.args.frame.0 false linked c.requires.spot.root c.requires.allowed.mapped sets beside in
    let cw = can_write c.args.attr.now.prot in
    let write : (is_shared c.args.attr.now.backing && cw) ≡ true = ap (λ t. t && cw) c.requires.shared ∙ c.requires.allowed.lets in
    let stored : (is_touched_behind mid c.args.attr.now.backing && cw) ≡ true = ap (λ t. t && cw) (touched_of mid c.args.attr.now.backing c.args.stored.now c.requires.shared c.requires.stands) ∙ ap (λ t. t && cw) c.mark_dirty.ensures.touched ∙ c.requires.allowed.lets in
    let now = entry new c.args.spot.now.pid c.args.spot.now.page in
    let P : Bool → Type 0 = λ x. IsEntryOver now c.args.attr.now.prot c.args.frame.0 false x (is_touched_behind mid c.args.attr.now.backing && cw) in
    let fit = full_fit mid new c.args.spot.now.pid c.args.spot.now.page r c.args.attr.now c.args.frame.0 false linked c.requires.spot.root c.requires.allowed.mapped sets beside same
    (λ own. absurd (false≢true own)) (λ _. behind_of mid c.args.attr.now.backing c.args.stored.now c.args.frame.0 c.requires.stands (place c.args.stored.now ∙ c.requires.cached)) c.requires.allowed.inside in
    let tables = tables_then old mid new (λ q. refl) (tables_marked old mid c.args.stored.now c.args.frame.0 refl refl (λ q. refl) (λ q k. refl) (λ x. refl) place c.mark_dirty.ensures.touched c.mark_dirty.ensures.others.touched (λ f. refl) c.requires.cached)
    (full_tables mid new c.args.spot.now.pid c.args.spot.now.page r c.args.attr.now c.args.frame.0 false linked c.requires.spot.root c.requires.allowed.mapped sets beside) in
    let views = λ (q p : ℕ). full_views mid new c.args.spot.now.pid c.args.spot.now.page r c.args.attr.now c.args.frame.0 false linked c.requires.spot.root c.requires.allowed.mapped sets beside same q p
    ∙ view_marked old mid c.args.stored.now c.args.frame.0 refl refl (λ q. refl) (λ q k. refl) (λ x. refl) place c.mark_dirty.ensures.touched c.mark_dirty.ensures.others.touched (λ f. refl) c.requires.cached q p in
    let pointers = λ (n i m : ℕ). (sets.2.pointers n i m).0 in
    let placed = λ (p : PageKey). beside.place p ∙ place p in
    let others = λ (q p : ℕ) (h : IsPage (top_level g.M.Levels.mode) p) (other : (q ≢ c.args.spot.now.pid) ⊎ (p ≢ c.args.spot.now.page)). (full_set mid new c.args.spot.now.pid c.args.spot.now.page r c.args.attr.now c.args.frame.0 false linked c.requires.spot.root c.requires.allowed.mapped sets beside).others q p h other
    ∙ entry_marked old mid c.args.stored.now c.args.frame.0 refl refl (λ q. refl) (λ q k. refl) (λ x. refl) place c.mark_dirty.ensures.touched c.mark_dirty.ensures.others.touched (λ f. refl) c.requires.cached q p in
    let touches : MarksTouched old new c.args.stored.now = record {
      place = placed;
      bytes = λ p n at. sets.2.kept.bytes n.0 (λ t. (let bad : Cache ≡ Table = sym (c.requires.spot.linked.fit.places.cached p n.0 at) ∙ t in (cc)));
      touched = beside.touched c.args.stored.now ∙ c.mark_dirty.ensures.touched;
      others = λ p ne. beside.touched p ∙ c.mark_dirty.ensures.others.touched p ne;
      files = beside.files;
    } in
    let over = subst (λ (x : Bool). IsEntryOver now c.args.attr.now.prot c.args.frame.0 false true x) stored (subst P write full) in
    search rules
