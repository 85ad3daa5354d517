use Rattle.fault.proofs.{AccessSteps.{counts_then, counts_calm}, Entered.{read_ready, read_entered}, Forms.{mapped_page, used_inside, resident_used, seat_zero, behind_of}, Names.{◌≢◌, ℕ, Ok, sym, ap, ◌∙◌, subst, arith, rules, frame_of}}
use Rattle.fault.{proofs.{Names.{Picture, picture_of, entry}, Serving.{may_bring, shows_at, serves_entered, serves_away, stands_brought, open_brought, none_brought, tends_shown}, Steps.{seen_then}}, specs.Serving.{Serves}}
use Rattle.fault.{proofs.{Names.{◌≡◌, ◌&&◌, Attr, Backing, Bool, Core, IsEntryOver, false, is_shared}, Settled.{full_same}}, specs.{FramesShown.{ShowsFully}, Leaves.{IsFullEntry, is_touched_behind}, declared.spot.Spot.{Spot}}}
use Rattle.std.proofs.Common.{List, slice_index_or}
use Rattle.vm_types.specs.declared.region.Backing.TheVariants.{Anon}
use Rattle.vm_types.specs.declared.mode.Levels as Levels
use Rattle.vm_types.specs.Permission as Permission
use Rattle.fault.proofs.{Chances.{others_for, others_on}, Kept.{all_marked_for, read_keeps}, Names.{None}}
use Rattle.fault.proofs.granting.grant_read.Goals as goal

full_shown : {M : Type 0} {m : Levels.Ghosts M} {D E : Type 0} {old new : Core D E M m} {spot : Spot} {a : Attr} {frame : ℕ} {private : Bool} → ShowsFully old new spot a frame private
    → IsFullEntry (picture_of new) a frame private (entry (picture_of new) spot.pid spot.page)
full_shown {old = old} {new = new} {spot = spot} {a = a} {frame = frame} {private = private} shows =
    full_same (picture_of old) (picture_of new) a frame private _ (ap (λ (counts : List ℕ). slice_index_or counts frame 0) shows.enters.calm.frames.counts) shows.files.touched shows.entry

pub regrant-requires : goal.regrant-requires
regrant-requires g c =
    record {
      spot = c.requires.may.1.spot;
      attr = c.requires.may.1.allowed.mapped;
      resident = λ none. c.if-to_u64-ne0.true (c.to_u64.ensures ∙ c.requires.was ∙ none);
      here = c.requires.here;
    }

pub frame_number-requires : goal.frame_number-requires
frame_number-requires g c =
    let old : Picture g.M.Levels.mode = picture_of c.args.core.now in
    let is = ap frame_of c.requires.was in
    let some : entry old c.args.spot.now.pid c.args.spot.now.page ≢ 0 = λ none. c.if-to_u64-ne0.true (c.to_u64.ensures ∙ c.requires.was ∙ none) in
    let low = used_inside old.frames (frame_of (entry old c.args.spot.now.pid c.args.spot.now.page)) c.args.core.now.sound
    (resident_used old c.args.spot.now.pid c.args.spot.now.page c.args.attr.now c.args.core.now.sound c.requires.may.1.spot.linked.fit
    (mapped_page old c.args.spot.now.pid c.args.spot.now.page c.args.attr.now c.requires.may.1.spot.linked.fit.granting c.requires.may.1.allowed.mapped) c.requires.may.1.allowed.mapped some c.requires.here) in
    let most = c.args.core.now.sound.most in
    omega (arith, is, low, most)

pub show_zero-requires : goal.show_zero-requires
show_zero-requires g c =
    record {
      spot = c.requires.may.1.spot;
      attr = c.requires.may.1.allowed.mapped;
      anonymous = search rules;
      none = sym c.requires.was ∙ sym c.to_u64.ensures ∙ c.if-to_u64-ne0.false;
    }

pub cached-requires : goal.cached-requires
cached-requires g c = may_bring c.requires.may.1 (sym c.stands_on.ensures ∙ c.in-Some.is)

pub show_cached-requires-clause-spot : goal.show_cached-requires-clause-spot
show_cached-requires-clause-spot g c = stands_brought c.requires.may.1 c.in_ok-frame-in-Some.ensures.pages_in

pub show_cached-requires-clause-behind : goal.show_cached-requires-clause-behind
show_cached-requires-clause-behind g c =
    behind_of (picture_of c.cached.new.core) c.args.attr.now.backing c.in-Some.stored c.in_ok-frame-in-Some.frame.0 (sym c.stands_on.ensures ∙ c.in-Some.is) c.in_ok-frame-in-Some.ensures.pages_in.placed

pub show_cached-requires-clause-inside : goal.show_cached-requires-clause-inside
show_cached-requires-clause-inside g c = (open_brought c.requires.may.1 c.in_ok-frame-in-Some.ensures.pages_in).inside

pub show_cached-requires-clause-none : goal.show_cached-requires-clause-none
show_cached-requires-clause-none g c =
    none_brought c.requires.may.1 c.in_ok-frame-in-Some.ensures.pages_in (seat_zero _ (sym c.requires.was ∙ sym c.to_u64.ensures ∙ c.if-to_u64-ne0.false))

pub returns-then-to_u64-ne0 : goal.returns-then-to_u64-ne0
returns-then-to_u64-ne0 g c access reads lets =
    let P : ℕ → Type 0 = λ x. Serves g.D.SectorDisk g.E.SectorDisk c.args.core.now c.regrant.new.core c.args.spot.now.pid c.args.spot.now.page c.args.attr.now access (Ok (record { 0 = x })) in
    subst P (sym (c.frame_number.ensures ∙ ap frame_of c.requires.was)) (serves_entered c.requires.may.1 c.regrant.ensures (full_shown c.regrant.ensures) access reads lets)

pub returns-in-None : goal.returns-in-None
returns-in-None g c access reads lets =
    let a = c.args.attr.now in
    let cw = Permission.can_write a.prot in
    let new = picture_of c.show_zero.new.core in
    let anon : a.backing ≡ Anon = search rules in
    let P : Backing → Type 0 = λ b. IsEntryOver (entry new c.args.spot.now.pid c.args.spot.now.page) a.prot 0 false (is_shared b && cw) (is_touched_behind new b && cw) in
    serves_entered c.requires.may.1 c.show_zero.ensures (subst P (sym anon) c.show_zero.ensures.entry) access reads lets

pub returns-in_err-frame-in-Some : goal.returns-in_err-frame-in-Some
returns-in_err-frame-in-Some g c access reads lets =
    let shows = shows_at c.requires.may.1 (sym c.stands_on.ensures ∙ c.in-Some.is) (seat_zero _ (sym c.requires.was ∙ sym c.to_u64.ensures ∙ c.if-to_u64-ne0.false)) in
    let done = c.in_err-frame-in-Some.ensures in
    serves_away c.requires.may.1 shows c.in_err-frame-in-Some.field-0.0 done.pages_in done.idle access c.from_residual.result c.from_residual.ensures.1

pub returns-in_ok-frame-in-Some : goal.returns-in_ok-frame-in-Some
returns-in_ok-frame-in-Some g c access reads lets =
    let pid = c.args.spot.now.pid in
    let page = c.args.spot.now.page in
    let before = c.args.core.now in
    let between = c.cached.new.core in
    let after = c.show_cached.new.core in
    let old = picture_of before in
    let mid = picture_of between in
    let new = picture_of after in
    let stored = c.in-Some.stored in
    let mapped = c.requires.may.1.allowed.mapped in
    let shows = shows_at c.requires.may.1 (sym c.stands_on.ensures ∙ c.in-Some.is) (seat_zero _ (sym c.requires.was ∙ sym c.to_u64.ensures ∙ c.if-to_u64-ne0.false)) in
    let idle = c.in_ok-frame-in-Some.ensures.idle in
    let first = c.in_ok-frame-in-Some.ensures.pages_in in
    let enters = c.show_cached.ensures.enters in
    let files = c.show_cached.ensures.files in
    let frame = c.in_ok-frame-in-Some.frame.0 in
    let now = enters.spaces.at pid page ∙ first.proceeds.spaces.at pid page ∙ mapped in
    let seen = seen_then old mid new first.keeps (record { views = enters.views; touched = files.touched }) in
    record {
      tends = tends_shown g.D.SectorDisk g.E.SectorDisk before between pid page access stored shows c.requires.may.1.spot.linked.fit after _ first (λ n at. (idle n at).0) enters files.held files.files (λ q touched. files.touched q ∙ touched);
      entered = read_entered old new pid page c.args.attr.now access frame _ _ _ enters.fit after.sound mapped now seen c.show_cached.ensures.entry reads lets (full_shown c.show_cached.ensures);
      ready = λ trusted. read_ready old new pid page c.args.attr.now access frame _ _ _ enters.fit after.sound mapped now seen c.show_cached.ensures.entry reads lets;
      chance = λ one. others_for old new pid page _ _ (all_marked_for old pid page (read_keeps old pid page access reads)) (others_on old mid new pid page None first.chance enters.calm.others);
      counts = counts_then g.D.SectorDisk g.E.SectorDisk before between after first.cause (counts_calm g.D.SectorDisk g.E.SectorDisk between after pid page enters.calm);
      stalled = tt;
    }
