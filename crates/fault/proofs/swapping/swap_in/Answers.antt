use Rattle.fault.proofs.{AccessSteps.{asks_read}, Asking.{asks_swap}, Names.{top_level, is_some, ◌≡◌, ◌≢◌, ℕ, None, get_or, refl, sym, ap, ◌∙◌, subst, rules, false≢true, Free, Table, IsFull, role_of, with_bytes, with_bytes-others, Swap, Pages, slots_of}}
use Rattle.fault.proofs.{Names.{IsPageEntry, page_is_entry, Picture, picture_of, entry, UsesDevice, IsShort, ChangesFrame, asks_between, entry-of, frees_spent, swapped_form, frees_then, fit_spent}, Settling.{aside_freed}}
use Rattle.fault.proofs.{Settling.{leaves_aside, forest_mid, root_mid, rows_mid, gives_frame, entry_given, count_given}, Steps.{frees_any, device_then}, SwapSteps.{slot_seat, swapped_here, slot_used, slot_frame, slot_bytes, slot_set}}
use Rattle.{fault.{proofs.SwapSteps.{fit_in, aside_in, seen_in, own_spent, changes_further, full_count, ready_released}, specs.Asking.{MayAsk, IsSectorOfCopy}}, residency.specs.Picture.{is_swapped}}
use Rattle.fault.proofs.{Names.{◌<◌, IsFrame, arith}, Taken.{sound_taken}}
use Rattle.fault.{proofs.Wanted.{err_is}, specs.OwnFrames.{SwapsIn}}
use Rattle.fault.proofs.{Chances.{chance_written, others_on}, Names.{Private}, Settling.{set_others, slots_aside}}
use Rattle.fault.proofs.swapping.swap_in.Goals as goal

pub decode-requires : goal.decode-requires
decode-requires g c =
    let old : Picture g.M.Levels.mode = picture_of c.args.core.now in
    let r = c.args.spot.now.root.0 in
    let fit = c.requires.spot.linked.fit in
    subst (λ (x : ℕ). IsPageEntry x) (sym (c.number_at.ensures ∙ entry-of old c.args.spot.now.pid r c.args.spot.now.page c.requires.spot.root))
    (page_is_entry old.frames (top_level g.M.Levels.mode) r c.args.spot.now.page fit.rooted.forest (fit.rooted.roots c.args.spot.now.pid r c.requires.spot.root))

pub unreachable-requires : goal.unreachable-requires
unreachable-requires g c =
    let form = swapped_form c.decode.result c.decode.ensures.form (ap is_swapped (c.decode.ensures.number ∙ c.number_at.ensures) ∙ c.requires.away) in
    c.in_default.not-Swapped form.0 form.1

pub get-requires-clause-in_use : goal.get-requires-clause-in_use
get-requires-clause-in_use g c =
    let from = slot_seat c.number_at.ensures c.decode.ensures.number c.decode.ensures.form c.in-Swapped.is in
    slot_used c.requires c.in_ok-frame.ensures.taken c.in-Swapped.slot.0 from

pub set_full-requires-clause-forest : goal.set_full-requires-clause-forest
set_full-requires-clause-forest g c = forest_mid (slot_frame c.requires c.in_ok-frame.ensures.taken (slots_of c.get.new.self) c.get.ensures.same c.get.new.to)

pub set_full-requires-clause-root : goal.set_full-requires-clause-root
set_full-requires-clause-root g c = root_mid (slot_frame c.requires c.in_ok-frame.ensures.taken (slots_of c.get.new.self) c.get.ensures.same c.get.new.to)

pub set_full-requires-clause-table : goal.set_full-requires-clause-table
set_full-requires-clause-table g c =
    let spot = c.args.spot.now in
    rows_mid (slot_frame c.requires c.in_ok-frame.ensures.taken (slots_of c.get.new.self) c.get.ensures.same c.get.new.to) spot.pid spot.root.0 _ spot.table.0 c.requires.spot.root c.requires.spot.table

pub set_full-requires-clause-frame : goal.set_full-requires-clause-frame
set_full-requires-clause-frame g c = record { inside = search rules; behind = λ common. absurd (false≢true (sym common)) }

pub set_full-requires-clause-user : goal.set_full-requires-clause-user
set_full-requires-clause-user g c = ((c.requires.spot.linked.fit.granting.user c.args.spot.now.pid).user_pages c.args.spot.now.page (ap is_some c.requires.attr)).1

pub release-requires : goal.release-requires
release-requires g c =
    let its = swapped_here c.requires in
    let from = slot_seat c.number_at.ensures c.decode.ensures.number c.decode.ensures.form c.in-Swapped.is in
    slot_set (slot_frame c.requires c.in_ok-frame.ensures.taken (slots_of c.get.new.self) c.get.ensures.same c.get.new.to) c.in-Swapped.slot.0 from
    (gives_frame c.set_full.ensures (picture_of c.args.core.now) its.not_shared its.inside)

pub returns-in-Ok : goal.returns-in-Ok
unfolding entry
returns-in-Ok g c =
    let old : Picture g.M.Levels.mode = picture_of c.args.core.now in
    let taken : Picture g.M.Levels.mode = picture_of c.take_own.new.self in
    let set : Picture g.M.Levels.mode = picture_of c.set_full.new.core in
    let done = c.in_ok-frame.ensures in
    let rest = c.set_full.ensures.rest in
    let n = c.in_ok-frame.frame.0 in
    let k = c.in-Swapped.slot.0 in
    let t = slots_of c.release.new.self in
    let its = swapped_here c.requires in
    let from = slot_seat c.number_at.ensures c.decode.ensures.number c.decode.ensures.form c.in-Swapped.is in
    let has = slot_frame c.requires done.taken (slots_of c.get.new.self) c.get.ensures.same c.get.new.to in
    let gives = gives_frame c.set_full.ensures old its.not_shared its.inside in
    let written : Picture g.M.Levels.mode = record taken { slots = slots_of c.get.new.self; frames = with_bytes c.take_own.new.self.frames n c.get.new.to } in
    let also : ℕ → Type 0 = λ j. IsSectorOfCopy old c.args.spot.now.pid c.args.spot.now.page j in
    let read = asks_read g.E.SectorDisk c.args.core.now c.take_own.new.self c.get.new.self None also k (λ j is. (k, from, is)) done.asked c.get.ensures.asks in
    let N : Swap _ → Type 0 = λ x. g.E.SectorDisk.keeps_model x.pages.disk in
    let Q : Pages _ → Type 0 = λ x. UsesDevice g.E.SectorDisk c.args.core.now.swap.pages.disk x.disk in
    record {
      entered = full_count written (record set { slots = t }) c.args.attr.now n (entry set c.args.spot.now.pid c.args.spot.now.page) (ap (λ cs. get_or cs n 0) gives.sets.2.kept.counts) (entry_given has gives);
      sole = count_given has gives;
      seen = λ model.
          let got = c.in-Ok.ensures.gives (subst N rest.swap (subst (λ (x : Pages _). g.E.SectorDisk.keeps_model x.disk) c.release.ensures.pages model)) in
          seen_in has k from gives t c.release.ensures.releases (slot_bytes c.requires done.taken (slots_of c.get.new.self) c.get.ensures.same c.get.new.to k got);
      keeps = leaves_aside g.E.SectorDisk c.args.core.now _ (fit_in has k from gives t c.release.ensures.releases)
          (ready_released g.E.SectorDisk c.get.new.self c.set_full.new.core.swap c.release.new.self rest.swap c.release.ensures.pages c.release.ensures.releases.others.total c.get.ensures.ready)
          (aside_in has k from gives t c.release.ensures.releases) (rest.store ∙ done.rest.store)
          (subst Q (sym c.release.ensures.pages) (subst (λ (x : Swap _). UsesDevice g.E.SectorDisk c.args.core.now.swap.pages.disk x.pages.disk) (sym rest.swap)
          (device_then g.E.SectorDisk c.args.core.now.swap.pages.disk c.take_own.new.self.swap.pages.disk c.get.new.self.pages.disk done.device
          (record { size = c.get.ensures.size; kept = c.get.ensures.kept; later = c.get.ensures.cause.later }))));
      chance = others_on old written (record set { slots = t }) c.args.spot.now.pid c.args.spot.now.page None
          (chance_written done written has.changes (λ table. (let bad : Private ≡ Table = sym has.role ∙ table in (cc))))
          (λ q p inside other. slots_aside set t q p ∙ set_others has gives q p inside other);
      asks = asks_between g.E.SectorDisk (MayAsk old (IsFull old.frames) None also) c.args.core.now.swap c.args.core.now.swap c.get.new.self c.release.new.self refl
          (c.release.ensures.pages ∙ ap (λ (s : Swap _). s.pages) rest.swap) read;
      stalls = record { same = tt; frees = tt; refuses = tt; short = tt; cause = search rules };
    }

pub returns-in-Err : goal.returns-in-Err
unfolding IsShort
returns-in-Err g c =
    let old : Picture g.M.Levels.mode = picture_of c.args.core.now in
    let taken : Picture g.M.Levels.mode = picture_of c.take_own.new.self in
    let done = c.in_ok-frame.ensures in
    let took = done.taken in
    let n = c.in_ok-frame.frame.0 in
    let k = c.in-Swapped.slot.0 in
    let from = slot_seat c.number_at.ensures c.decode.ensures.number c.decode.ensures.form c.in-Swapped.is in
    let new : Picture g.M.Levels.mode = record taken { slots = slots_of c.get.new.self; frames = c.release-in-Err.new.self } in
    let spent = own_spent took.found.frames taken.frames c.release-in-Err.new.self n c.get.new.to took.own.takes c.release-in-Err.ensures.change in
    let changes : ChangesFrame took.found new n = changes_further took.own (slots_of c.get.new.self) c.get.ensures.same c.release-in-Err.new.self spent in
    let free : role_of c.release-in-Err.new.self n ≡ Free = c.release-in-Err.ensures.change.freed took.own.takes.counted in
    let datum : role_of c.release-in-Err.new.self n ≢ Table = λ table. (let bad : Free ≡ Table = sym free ∙ table in (cc)) in
    let frees = frees_then old took.found new None (frees_any old took.found _ took.frees) (frees_spent took.found new n took.fit changes free) in
    let also : ℕ → Type 0 = λ j. IsSectorOfCopy old c.args.spot.now.pid c.args.spot.now.page j in
    record {
      entered = search rules;
      sole = search rules;
      seen = λ model. frees.pages.views;
      chance = tt;
      keeps = leaves_aside g.E.SectorDisk c.args.core.now _ (fit_spent took.found new n took.fit changes datum free) c.get.ensures.ready (aside_freed frees) done.rest.store
          (device_then g.E.SectorDisk c.args.core.now.swap.pages.disk c.take_own.new.self.swap.pages.disk c.get.new.self.pages.disk done.device
          (record { size = c.get.ensures.size; kept = c.get.ensures.kept; later = c.get.ensures.cause.later }));
      asks = asks_read g.E.SectorDisk c.args.core.now c.take_own.new.self c.get.new.self None also k (λ j is. (k, from, is)) done.asked c.get.ensures.asks;
      stalls = record { same = frees.pages.views; frees = frees; refuses = search rules; short = tt; cause = search rules };
    }

pub returns-in_err-frame : goal.returns-in_err-frame
returns-in_err-frame g c =
    let before = c.args.core.now in
    let after = c.take_own.new.self in
    let pid = c.args.spot.now.pid in
    let page = c.args.spot.now.page in
    let done = c.in_err-frame.ensures in
    let frees = frees_any (picture_of before) (picture_of after) _ done.frees in
    subst (SwapsIn g.E.SectorDisk before after pid page c.args.attr.now) (err_is c.from_residual.result c.in_err-frame.field-0.0 c.from_residual.ensures.1)
    (record {
      entered = tt;
      sole = tt;
      seen = λ model. frees.pages.views;
      keeps = leaves_aside g.E.SectorDisk before after done.fit done.swap (aside_freed frees) done.rest.store done.device;
      chance = tt;
      asks = asks_swap g.E.SectorDisk before after None (IsSectorOfCopy (picture_of before) pid page) done.asked;
      stalls = record { same = frees.pages.views; frees = frees; refuses = done.refuses; short = done.short; cause = done.cause };
    })

pub invariant_of-core-clause-page_count : goal.invariant_of-core-clause-page_count
invariant_of-core-clause-page_count g c = c.take_own.new.self.page_count ∙ sym (with_bytes-others c.take_own.new.self.frames c.in_ok-frame.frame.0 c.get.new.to).frames

pub invariant_of-core-clause-node_count : goal.invariant_of-core-clause-node_count
invariant_of-core-clause-node_count g c = c.take_own.new.self.node_count ∙ sym (with_bytes-others c.take_own.new.self.frames c.in_ok-frame.frame.0 c.get.new.to).frames

pub invariant_of-core-clause-hand_inside : goal.invariant_of-core-clause-hand_inside
invariant_of-core-clause-hand_inside g c =
    subst (λ (k : ℕ). c.take_own.new.self.clock.hand < k) (sym (with_bytes-others c.take_own.new.self.frames c.in_ok-frame.frame.0 c.get.new.to).frames) c.take_own.new.self.hand_inside

pub invariant_of-core-clause-sound : goal.invariant_of-core-clause-sound
invariant_of-core-clause-sound g c =
    let taken = c.take_own.new.self.frames in
    let takes = c.in_ok-frame.ensures.taken.own.takes in
    let n = c.in_ok-frame.frame.0 in
    let inside : IsFrame taken n = (let same = takes.others.frames in let low = takes.inside in omega (arith, same, low)) in
    sound_taken taken n c.get.new.to inside takes.kind_set c.take_own.new.self.sound
