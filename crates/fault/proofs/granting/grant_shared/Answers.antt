use Rattle.fault.proofs.{Forms.{mapped_page, shared_none}, Settled.{full_touched, reads_too, entered_store, entered_ready, ready_shared, touched_entry, touches_after}, Serving.{may_bring, shows_at, serves_away, stands_brought, open_brought, tends_shown}}
use Rattle.fault.proofs.{Names.{false, inl, ap, ◌∙◌, Store, slots_of, picture_of, entry}, AccessSteps.{held_marked, still_touched, counts_then, counts_calm}}
use Rattle.fault.proofs.{Chances.{others_for, others_on}, Kept.{all_marked_for, shared_keeps}, Names.{None}}
use Rattle.fault.proofs.granting.grant_shared.Goals as goal

pub cached-requires : goal.cached-requires
cached-requires g c = may_bring c.requires.may c.requires.stands

pub returns : goal.returns
returns g c =
    let pid = c.args.spot.now.pid in
    let page = c.args.spot.now.page in
    let attr = c.args.attr.now in
    let stored = c.args.stored.now in
    let before = c.args.core.now in
    let between = c.cached.new.core in
    let after = c.touch.new.core in
    let old = picture_of before in
    let mid = picture_of between in
    let new = picture_of after in
    let fit = c.requires.may.spot.linked.fit in
    let mapped = c.requires.may.allowed.mapped in
    let none = shared_none old pid page attr fit.granting mapped (mapped_page old pid page attr fit.granting mapped) c.requires.shared in
    let shows = shows_at c.requires.may c.requires.stands none in
    let idle = c.in_ok-frame.ensures.idle in
    let first = c.in_ok-frame.ensures.pages_in in
    let enters = c.touch.ensures.enters in
    let marks = c.touch.ensures.touches in
    let frame = c.in_ok-frame.frame.0 in
    let now = enters.spaces.at pid page ∙ first.proceeds.spaces.at pid page ∙ mapped in
    let readable = reads_too new pid page attr enters.fit now c.requires.may.allowed.lets in
    let touched = touched_entry mid new pid page attr stored frame enters.fit after.sound now c.requires.shared c.requires.stands readable c.touch.ensures.entry enters.views marks.others in
    record {
      tends = tends_shown g.D.SectorDisk g.E.SectorDisk before between pid page Store stored shows fit after _ first (λ n at. (idle n at).0) enters
          (λ q. inl (held_marked mid new stored marks (ap slots_of enters.calm.swap) q)) marks.files (still_touched mid new stored marks);
      entered = entered_store new pid page attr frame false readable c.touch.ensures.entry
          (full_touched new attr stored frame (entry new pid page) c.requires.shared c.requires.stands marks.touched c.requires.may.allowed.lets c.touch.ensures.entry) (entered_ready Store mid new pid page attr frame (ready_shared mid new pid page attr stored frame c.requires.shared c.requires.stands touched));
      ready = λ trusted. ready_shared old new pid page attr stored frame c.requires.shared c.requires.stands (touches_after old mid new stored frame first.keeps touched);
      chance = λ one. others_for old new pid page _ _ (all_marked_for old pid page (shared_keeps old pid page attr Store mapped c.requires.shared)) (others_on old mid new pid page None first.chance enters.calm.others);
      counts = counts_then g.D.SectorDisk g.E.SectorDisk before between after first.cause (counts_calm g.D.SectorDisk g.E.SectorDisk between after pid page enters.calm);
      stalled = tt;
    }

pub touch-requires-clause-spot : goal.touch-requires-clause-spot
touch-requires-clause-spot g c = stands_brought c.requires.may c.in_ok-frame.ensures.pages_in

pub touch-requires-clause-allowed : goal.touch-requires-clause-allowed
touch-requires-clause-allowed g c = open_brought c.requires.may c.in_ok-frame.ensures.pages_in

pub returns-in_err-frame : goal.returns-in_err-frame
returns-in_err-frame g c =
    let granting = c.requires.may.spot.linked.fit.granting in
    let mapped = c.requires.may.allowed.mapped in
    let pid = c.args.spot.now.pid in
    let page = c.args.spot.now.page in
    let old = picture_of c.args.core.now in
    let none = shared_none old pid page c.args.attr.now granting mapped (mapped_page old pid page c.args.attr.now granting mapped) c.requires.shared in
    let done = c.in_err-frame.ensures in
    serves_away c.requires.may (shows_at c.requires.may c.requires.stands none) c.in_err-frame.field-0.0 done.pages_in done.idle Store c.from_residual.result c.from_residual.ensures.1
