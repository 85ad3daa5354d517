use Rattle.fault.proofs.{AccessAsking.{asks_less, asks_back, tables_out}, AccessSlotted.{slotted_none, slotted_back}, AccessSteps.{proceeds_moves, proceeds_after, brings_none, on_ok_then, counts_then}, Forms.{mapped_page}}
use Rattle.fault.proofs.{Linked.{open_still, calm_back, read_back, away_back, ready_back, brings_back, stalled_back, stalled_tables}, Names.{◌≢◌, inl, Option, None, refl, sym, ap, ◌∙◌, subst, rules, IsSome, Attr, Nothing, IsFull}}
use Rattle.fault.{proofs.{Names.{otherwise, picture_of, IsWhole}, Serving.{serves_stall}, Wanted.{root_live, root_lives, whole_or}, WaySteps.{links_on}}, specs.Wants.{ForTable, ShowsFile}}
use Rattle.fault.{proofs.Names.{AnyStore, Core, OnOk}, specs.Chances.{AreAllMarkedFor, GivesOthersChance, WantsOneFrame}}
use Rattle.fault.proofs.granting.grant_unlinked.Goals as goal
use Rattle.sized_stores.specs.Store.{disk_of}

pub link_tables-requires-clause-live : goal.link_tables-requires-clause-live
link_tables-requires-clause-live g c = root_lives ((picture_of c.args.core.now).root c.args.pid) c.requires.may.lives

pub link_tables-requires-clause-mapped : goal.link_tables-requires-clause-mapped
link_tables-requires-clause-mapped g c = let P : Option Attr → Type 0 = λ x. IsSome x in subst P (sym c.requires.may.allowed.mapped) refl

pub root_of-root-requires : goal.root_of-root-requires
root_of-root-requires g c =
    let done = c.in_ok-table.ensures in
    record { live = λ none. root_lives ((picture_of c.args.core.now).root c.args.pid) c.requires.may.lives (sym (done.moves.spaces.root c.args.pid) ∙ none) }

pub grant_linked-requires : goal.grant_linked-requires
grant_linked-requires g c =
    let done = c.in_ok-table.ensures in
    let lives : (picture_of c.link_tables.new.core).root c.args.pid ≢ None = λ none. root_lives ((picture_of c.args.core.now).root c.args.pid) c.requires.may.lives (sym (done.moves.spaces.root c.args.pid) ∙ none) in
    let table = done.table c.root_of-root.result.0 c.root_of-root.ensures in
    let allowed = open_still (picture_of c.args.core.now) (picture_of c.link_tables.new.core) c.args.pid c.args.page c.args.access c.args.attr.now done.pages.at done.pages.files.files c.requires.may.allowed in
    search rules

pub returns-in_err-table : goal.returns-in_err-table
returns-in_err-table g c =
    let pid = c.args.pid in
    let page = c.args.page in
    let before = c.args.core.now in
    let after = c.link_tables.new.core in
    let old = picture_of before in
    let new = picture_of after in
    let lives = root_live old pid c.requires.may.lives in
    let done = c.in_err-table.ensures in
    let lacks = otherwise (whole_or old pid page lives) (λ whole. (done.idle whole).1) in
    serves_stall g.D.SectorDisk g.E.SectorDisk before after pid page c.args.attr.now c.args.access c.from_residual.result c.in_err-table.field-0.0 c.from_residual.ensures.1
    (record {
      proceeds = proceeds_moves g.D.SectorDisk g.E.SectorDisk before after c.requires.may.store done.moves;
      brings = λ kept. brings_none g.D.SectorDisk before.store after.store (ShowsFile old pid page) old new done.pages.files;
      touches = λ p touched. done.pages.files.touched p ∙ touched;
      others = λ q k other. done.pages.views q k;
      slotted = slotted_none old new pid page done.slotted;
      calm = λ unwanted. absurd (unwanted (ForTable lacks));
      tables = done.tables;
      pointers = done.tried.1.pointers;
      read = inl done.moves.store;
      asks = asks_less g.D.SectorDisk g.E.SectorDisk before after pid page c.args.access (IsFull after.frames) None Nothing done.moves.store (λ k none. absurd none)
          (tables_out old new pid page c.args.access done.tried.0 lacks done.tried.1 done.tables) done.asks;
    })
    (stalled_tables before after pid page lives done.pages (λ whole. (done.idle whole).0) g.D.SectorDisk g.E.SectorDisk done.moves c.args.access c.in_err-table.field-0.0 done.cause done.short done.refuses
    done.wanted lacks)

pub returns : goal.returns
returns g c =
    let pid = c.args.pid in
    let page = c.args.page in
    let attr = c.args.attr.now in
    let access = c.args.access in
    let before = c.args.core.now in
    let between = c.link_tables.new.core in
    let after = c.grant_linked.new.core in
    let old = picture_of before in
    let lives = root_live old pid c.requires.may.lives in
    let at = c.requires.may.allowed.mapped in
    let inside = mapped_page old pid page attr c.requires.may.fit.granting at in
    let first = c.in_ok-table.ensures in
    let idle = λ (whole : IsWhole old pid page). (first.idle whole).0 in
    let then = c.grant_linked.ensures in
    let r = c.grant_linked.result in
    record {
      tends = record {
        proceeds = proceeds_after g.D.SectorDisk g.E.SectorDisk before between after first.moves then.proceeds;
        brings = brings_back before between pid page lives first.pages idle g.D.SectorDisk g.E.SectorDisk first.moves after then.brings;
        touches = λ p touched. then.touches p (first.pages.files.touched p ∙ touched);
        others = λ q k other. then.others q k other ∙ first.pages.views q k;
        slotted = slotted_back old (picture_of between) pid page (picture_of after) first.pages first.slotted then.slotted;
        calm = calm_back before between pid page lives first.pages idle after access then.calm;
        read = read_back before between pid page lives first.pages idle first.whole first.gives first.tables after.store first.moves.store then.read;
        tables = links_on old (picture_of between) (picture_of after) pid page (then.proceeds.spaces.root pid) then.pointers first.tables then.tables;
        pointers = λ n i m points. then.pointers n i m (first.gives.pointers n i m points);
        asks = asks_back g.D.SectorDisk g.E.SectorDisk before between after pid page access c.requires.may.fit lives inside idle first.moves first.pages first.bare first.slotted first.whole first.gives first.tables
            first.asks_later first.asks then.asks;
      };
      entered = then.entered;
      ready = λ trusted. ready_back before between pid page lives first.pages idle (picture_of after) attr access r at
          (then.ready (λ away. trusted (away_back before between pid page lives first.pages idle inside first.bare away)));
      chance = λ one.
          subst (λ (k : Core _ _ _ _). WantsOneFrame (picture_of k) pid page access → OnOk r (GivesOthersChance (picture_of k) (picture_of after) pid page (AreAllMarkedFor (picture_of k) pid page access)))
          (idle one.whole) then.chance one;
      counts = on_ok_then _ _ r (counts_then g.D.SectorDisk g.E.SectorDisk before between after (first.cause.0, ap (λ (s : AnyStore _). g.D.SectorDisk.failures (disk_of s)) first.moves.store, first.cause.1)) then.counts;
      stalled = stalled_back before between pid page lives first.pages idle g.D.SectorDisk g.E.SectorDisk first.moves first.whole first.gives first.tables after access r first.cause.0 first.cause.1 then.stalled;
    }
