use Rattle.fault.proofs.Names.{top_level, FrameNo, Phys, byte_count, Faults, page_verdict, IsErr, IfSome, MatchOption, WalkFault, translated, ◌≡◌, ◌%◌, Option, Some, None, Result, Ok, refl, sym, ap, ◌∙◌, subst, ◌<◌, length, false≢true}
use Rattle.fault.proofs.Names.{same_Some, props, picture_of, view, Core, IsSound-prop, AreBounded-prop, FrameTable, IsSound, frame_count, files_of, AreBounded, slots_of}
use Rattle.fault.{specs.Found.{IsOpenTo}, proofs.{Ready.{grants_found, finds_fine, finds_fault, verdict-outside}, Wanted.{root_lives}}}
use Rattle.vm_types.specs.declared.mode.Levels as Levels
use Rattle.page_cache.specs.CacheTable as CacheTable
use Rattle.fault.proofs.finding.find.Goals as goal

-- Memory is the same where its frames are.
module _ {M : Type 0} {m : Levels.Ghosts M} {D E : Type 0} (c : Core D E M m) where
  -- what is always so of it
  abbrev Always : FrameTable → Type 0
  Always t =
      IsSound t × (length c.roots.items ≡ 65) × (length c.regions.items ≡ 65) × (length c.page_of.items ≡ frame_count t) × (CacheTable.cache_frames c.cache ≡ frame_count t)
      × (CacheTable.slot_count c.cache ≡ (slots_of c.swap).total) × (c.clock.hand < frame_count t) × AreBounded (files_of c.store)

  always_prop : (t : FrameTable) → IsProp (Always t)
  always_prop t = hlevel (IsSound-prop, AreBounded-prop, props)

  abbrev with_frames : (t : FrameTable) → Always t → Core D E M m
  with_frames t is = record c {
    frames = t;
    sound = is.0;
    root_count = is.1;
    region_count = is.2;
    page_count = is.3;
    node_count = is.4;
    slot_count = is.5;
    hand_inside = is.6;
    bounded = is.7;
  }

  same_frames : (t : FrameTable) → t ≡ c.frames → (is : Always t) → with_frames t is ≡ c
  same_frames t e =
      let now : Always c.frames = (c.sound, c.root_count, c.region_count, c.page_count, c.node_count, c.slot_count, c.hand_inside, c.bounded) in
      subst (λ (x : FrameTable). (is : Always x) → with_frames x is ≡ c) (sym e) (λ is. ap (with_frames c.frames) (always_prop c.frames is now))

err_not_ok : (r : Result Phys WalkFault) (p : Phys) → IsErr r → r ≡ Ok p → ⊥
err_not_ok r p err is = false≢true (subst (λ (x : Result Phys WalkFault). IsErr x) is err)

named : (Q : Type 0) (P : FrameNo → Type 0) (o : Option FrameNo) → MatchOption o Q P → IfSome o P
named Q P None is = tt
named Q P (Some n) is = is

pub returns-in_default-clause-found : goal.returns-in_default-clause-found
returns-in_default-clause-found g c =
    let aligned : c.args.addr % byte_count c.args.width ≡ 0 = ap (λ w. c.args.addr % w) (sym (c.from.ensures ∙ c.bytes.ensures)) ∙ c.if-addr-from-ne0.false in
    verdict-outside (picture_of c.args.core.now) c.args.pid c.args.addr c.args.width c.args.access c.requires.fit aligned
    (λ user. false≢true (c.in_default.ensures.known.1 user))

pub returns-in-Frame-clause-found : goal.returns-in-Frame-clause-found
returns-in-Frame-clause-found g c =
    let aligned : c.args.addr % byte_count c.args.width ≡ 0 = ap (λ w. c.args.addr % w) (sym (c.from.ensures ∙ c.bytes.ensures)) ∙ c.if-addr-from-ne0.false in
    grants_found (picture_of c.args.core.now) c.args.pid c.root_of-root.result.0 c.args.addr c.args.width c.args.access c.place_in.result c.requires.fit c.args.core.now.sound
    c.root_of-root.ensures ((c.in-Some.ensures.known.0 refl).1) aligned (c.in-Frame.ensures.walked c.args.addr (sym c.in-Some.ensures.found) ∙ ap (λ p. Ok p) (sym c.place_in.ensures))

pub root_of-root-requires : goal.root_of-root-requires
root_of-root-requires g c = record { live = root_lives ((picture_of c.args.core.now).root c.args.pid) c.requires.lives }

pub walk_page-requires-clause-root : goal.walk_page-requires-clause-root
walk_page-requires-clause-root g c = c.requires.fit.rooted.roots c.args.pid c.root_of-root.result.0 c.root_of-root.ensures

pub returns-in-Ok-clause-found : goal.returns-in-Ok-clause-found
returns-in-Ok-clause-found g c =
    let aligned : c.args.addr % byte_count c.args.width ≡ 0 = ap (λ w. c.args.addr % w) (sym (c.from.ensures ∙ c.bytes.ensures)) ∙ c.if-addr-from-ne0.false in
    let old = picture_of c.args.core.now in
    finds_fine old c.args.pid c.args.addr c.args.width c.args.access (record { page = c.in-Some.page; root = c.root_of-root.result; table = c.in-Fault.table }) c.in-Some.ensures.found aligned c.in-Ok.attr
    (λ root phys lives walked. err_not_ok _ phys (c.in-Fault.ensures.walked.0 c.args.addr (sym c.in-Some.ensures.found))
    (ap (λ r. translated (top_level g.M.Levels.mode) c.args.core.now.frames r c.args.addr c.args.access) (same_Some c.root_of-root.result.0 root (sym c.root_of-root.ensures ∙ lives)) ∙ walked))
    (record { root = c.root_of-root.ensures; table = named _ _ c.in-Fault.table c.in-Fault.ensures.walked.1 })
    (subst (λ (t : FrameTable). IsOpenTo (record old { frames = t }) c.args.pid c.in-Some.page c.args.access c.in-Ok.attr) c.walk_page.ensures.same c.in-Ok.ensures.open)

pub returns-in-Frame-clause-same : goal.returns-in-Frame-clause-same
returns-in-Frame-clause-same g c = same_frames c.args.core.now c.walk_page.new.memory c.walk_page.ensures.same (_, _, _, _, _, _, _, _)

pub returns-in-Ok-clause-same : goal.returns-in-Ok-clause-same
returns-in-Ok-clause-same g c = same_frames c.args.core.now c.walk_page.new.memory c.walk_page.ensures.same (_, _, _, _, _, _, _, _)

pub returns-in-Err-clause-same : goal.returns-in-Err-clause-same
returns-in-Err-clause-same g c = same_frames c.args.core.now c.walk_page.new.memory c.walk_page.ensures.same (_, _, _, _, _, _, _, _)

pub returns-in-Err-clause-found : goal.returns-in-Err-clause-found
returns-in-Err-clause-found g c =
    let aligned : c.args.addr % byte_count c.args.width ≡ 0 = ap (λ w. c.args.addr % w) (sym (c.from.ensures ∙ c.bytes.ensures)) ∙ c.if-addr-from-ne0.false in
    let old = picture_of c.args.core.now in
    let P : FrameTable → Type 0 = λ t. page_verdict old.files (view (record old { frames = t }) c.args.pid c.in-Some.page) c.args.access ≡ Faults c.in-Err.code in
    finds_fault old c.args.pid c.args.addr c.args.width c.args.access c.in-Some.page c.in-Some.ensures.found aligned c.in-Err.code (subst P c.walk_page.ensures.same c.in-Err.ensures.faults)
