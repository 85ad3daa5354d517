use Rattle.fault.{specs.{Changes.{copied_frame}, Granted.{IsReadyAt}}, proofs.{Forms.{none_here, behind_of}, Steps.{no_table_then, linked_kept}, WaySteps.{links_no_table}, AccessAsking.{asks_copied, brought_out, copies_cached}}}
use Rattle.fault.proofs.{Linked.{read_then, calm_then, brings_on, stalled_on}, Entered.{owned_ready, owned_entered, owned_calm, owned_stalled}, Serving.{may_bring, shows_at, serves_away, stands_brought, open_brought, none_brought}}
use Rattle.fault.proofs.{Names.{ap, ◌∙◌, rules, Store, File, stands_on, Core, picture_of, is_shared}, Settled.{ready_after}, AccessSlotted.{slotted_on}, AccessSteps.{proceeds_then, ok_then, on_ok_then, counts_then, counts_done}}
use Rattle.fault.{proofs.{Kept.{own_others}, Names.{Attr, OnOk, refl, same_Some, subst, sym}}, specs.Chances.{AreAllMarkedFor, GivesOthersChance}}
use Rattle.fault.proofs.granting.grant_copy.Goals as goal

pub cached-requires : goal.cached-requires
cached-requires g c = may_bring c.requires.may (ap stands_on c.requires.private)

pub own_frame-requires-clause-page : goal.own_frame-requires-clause-page
own_frame-requires-clause-page g c =
    let done = c.in_ok-cached.ensures.pages_in in
    let its = open_brought c.requires.may done in
    record {
      stands = stands_brought c.requires.may done;
      mapped = its.mapped;
      writable = search rules;
      not_shared = ap is_shared c.requires.private;
      inside = its.inside;
      resident = none_here _ (none_brought c.requires.may done c.requires.none);
      swap = search rules;
    }

pub own_frame-requires-clause-in_memory : goal.own_frame-requires-clause-in_memory
own_frame-requires-clause-in_memory g c common =
    (c.in_ok-cached.field-0.0, behind_of (picture_of c.cached.new.core) c.args.attr.now.backing (File c.args.file_page) c.in_ok-cached.field-0.0 (ap stands_on c.requires.private) c.in_ok-cached.ensures.pages_in.placed)

pub returns-in_err-cached : goal.returns-in_err-cached
returns-in_err-cached g c =
    let shows = shows_at c.requires.may (ap stands_on c.requires.private) c.requires.none in
    let done = c.in_err-cached.ensures in
    serves_away c.requires.may shows c.in_err-cached.field-0.0 done.pages_in done.idle Store c.from_residual.result c.from_residual.ensures.1

pub returns : goal.returns
returns g c =
    let pid = c.args.spot.now.pid in
    let page = c.args.spot.now.page in
    let attr = c.args.attr.now in
    let file = File c.args.file_page in
    let before = c.args.core.now in
    let between = c.cached.new.core in
    let after = c.own_frame.new.core in
    let old = picture_of before in
    let mid = picture_of between in
    let new = picture_of after in
    let asked = c.requires in
    let mapped = asked.may.allowed.mapped in
    let alone = ap is_shared asked.private in
    let backs = ap stands_on asked.private in
    let shows = shows_at asked.may backs asked.none in
    let idle = c.in_ok-cached.ensures.idle in
    let first = c.in_ok-cached.ensures.pages_in in
    let done = c.own_frame.ensures in
    let r = c.own_frame.result in
    let at = first.proceeds.spaces.at pid page ∙ mapped in
    let none = none_brought asked.may first asked.none in
    let here = none_here _ none in
    let now = done.moves.spaces.at pid page ∙ at in
    let made = no_table_then old mid new first.no_table done.no_table in
    record {
      tends = record {
        proceeds = proceeds_then g.D.SectorDisk g.E.SectorDisk before between after first.proceeds done.moves;
        brings = brings_on before between pid page file shows g.D.SectorDisk g.E.SectorDisk after first.brings first.keeps done.moves.store done.moves.device done.files.held done.files.files;
        touches = λ p touched. done.files.touched p ∙ first.keeps.touched p ∙ touched;
        others = λ q k other. done.others q k other ∙ first.keeps.views q k;
        slotted = slotted_on old mid pid page new file shows first.slotted done.slotted;
        calm = calm_then before between pid page file shows (λ n is. (idle n is).0) after Store (owned_calm between after pid page attr at alone done.calm);
        read = read_then before between pid page file shows after.store asked.may.spot.linked.fit done.moves.store first.read;
        tables = links_no_table old new pid page made;
        pointers = made.pointers;
        asks = asks_copied g.D.SectorDisk g.E.SectorDisk before between pid page Store file shows first.asks first.once_store after c.in_ok-cached.field-0 (copied_frame mid pid page attr)
            (copies_cached mid pid page attr c.args.file_page c.in_ok-cached.field-0 asked.private none first.placed) first.asks_later
            (brought_out old mid pid page file c.in_ok-cached.field-0 shows first.proceeds.room.frames first.only (λ n is. ap (λ (k : Core _ _ _ _). picture_of k) (idle n is).0)) done.moves.store done.asks;
      };
      entered = owned_entered mid new pid page attr between.sound done.moves.fit after.sound now alone asked.may.allowed.lets here
          (λ common. (c.in_ok-cached.field-0.0, behind_of mid attr.backing file c.in_ok-cached.field-0.0 backs first.placed)) done.behind done.others done.files r done.bytes done.entered done.sole;
      ready = λ trusted. ok_then (λ n. IsReadyAt mid new pid page attr Store n.0) (λ n. IsReadyAt old new pid page attr Store n.0) r (λ n. ready_after old mid new pid page attr Store n.0 mapped at first.keeps)
          (owned_ready mid new pid page attr between.sound done.moves.fit after.sound now alone asked.may.allowed.lets here
          (λ common. (c.in_ok-cached.field-0.0, behind_of mid attr.backing file c.in_ok-cached.field-0.0 backs first.placed)) done.behind done.others done.files r done.bytes done.entered);
      chance = λ one.
          let there = one.here file shows refl (ap (λ (a : Attr). is_shared a.backing) (same_Some shows.attr attr (sym shows.mapped ∙ mapped)) ∙ alone) in
          subst (λ (k : Core _ _ _ _). OnOk r (GivesOthersChance (picture_of k) new pid page (AreAllMarkedFor (picture_of k) pid page Store))) (idle there.0 there.1).0
          (own_others mid pid page new attr r (linked_kept old mid pid page asked.may.spot.linked first.proceeds.fit first.proceeds.spaces first.proceeds.tables) at alone here
          (λ common. (c.in_ok-cached.field-0.0, behind_of mid attr.backing file c.in_ok-cached.field-0.0 backs first.placed)) done.chance);
      counts = on_ok_then _ _ r (counts_then g.D.SectorDisk g.E.SectorDisk before between after first.cause) (counts_done g.D.SectorDisk g.E.SectorDisk between after r done.moves.store done.cause);
      stalled = stalled_on before between pid page file shows g.D.SectorDisk g.E.SectorDisk after Store r (λ n is. (idle n is).0) first.keeps first.cause.2 first.cause.0 first.cause.1 done.cause
          (owned_stalled between after pid page attr at alone g.D.SectorDisk g.E.SectorDisk r (linked_kept old mid pid page asked.may.spot.linked first.proceeds.fit first.proceeds.spaces first.proceeds.tables) here
          (λ common. (c.in_ok-cached.field-0.0, behind_of mid attr.backing file c.in_ok-cached.field-0.0 backs first.placed)) done.behind done.moves done.files done.same done.frees done.wanted done.cause done.short
          done.refuses);
    }
