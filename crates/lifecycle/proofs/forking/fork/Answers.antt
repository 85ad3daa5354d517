use Rattle.lifecycle.proofs.{Asking.{asks_forked}, Copying.{readied, short_readied, unmade, copied, copies_shared, bare_shared, tables_kept, as_stall}, Ending.{ready_ended}, Keeping.{dead_root, live_same}, Live.{live_root}}
use Rattle.lifecycle.proofs.Names.{user_end, PageKey, ◌≡◌, true, ◌≢◌, ℕ, inl, [], None, refl, sym, ap, ◌∙◌, subst, rules, false≢true, slice_index_or, frame_count, role_of, place_of, Swap, Pages, slots_of, Picture, picture_of, attr_where}
use Rattle.lifecycle.proofs.{Names.{keeps_files_then, is_live, UsesDevice, gives_then, device_then, ready_released, stall_then}, Returned.{no_copy_taken}, Shortage.{short_before}}
use Rattle.lifecycle.proofs.{Stalling.{stall_before, stalls_first, stalls_later}, Taking.{gives_mapped, tables_mid, entries_forked}}
use Rattle.lifecycle.{proofs.{Taking.{tables_taken}, Unchanged.{files_unchanged, places_unchanged}}, specs.Changes.{IsShortToFork, KeepsBareOfOthers, StallsToFork, TakesNoCopy}}
use Rattle.lifecycle.proofs.forking.fork.Goals as goal

pub returns-in_err-spawn : goal.returns-in_err-spawn
returns-in_err-spawn g c =
    let old : Picture g.M.Levels.mode = picture_of c.args.core.now in
    let done = c.in_err-spawn.ensures in
    let bare : KeepsBareOfOthers old (picture_of c.spawn.new.core) c.args.child = λ q page h ne none. done.bare q page h none in
    let stalls = as_stall c.from_residual.result (StallsToFork old (picture_of c.spawn.new.core) c.args.parent c.args.child) c.in_err-spawn.field-0.0 c.from_residual.ensures.1
    (stalls_first old (picture_of c.spawn.new.core) c.args.parent c.args.child c.in_err-spawn.field-0.0 (dead_root (old.root c.args.child) c.requires.dead) done.fit done.frees done.tried done.still done.full done.refuses) in
    let short = as_stall c.from_residual.result (IsShortToFork old c.args.parent) c.in_err-spawn.field-0.0 c.from_residual.ensures.1
    (short_before old (picture_of c.spawn.new.core) c.args.parent c.in_err-spawn.field-0.0 done.err done.room done.files.touched done.short) in
    search rules

pub returns-in-Err : goal.returns-in-Err
returns-in-Err g c =
    let h = g.E.SectorDisk in
    let old : Picture g.M.Levels.mode = picture_of c.args.core.now in
    let spawned : Picture g.M.Levels.mode = picture_of c.spawn.new.core in
    let mapped : Picture g.M.Levels.mode = picture_of c.map_alike.new.core in
    let mid : Picture g.M.Levels.mode = picture_of c.link_copies.new.core in
    let apart : c.args.parent ≢ c.args.child = λ is. false≢true (sym c.requires.dead ∙ ap (is_live old) (sym is) ∙ c.requires.live) in
    let unmapped : (page : ℕ) → old.at c.args.child page ≡ None = λ page. ap (λ r. attr_where r (slice_index_or c.args.core.now.regions.items c.args.child []) page) (dead_root (old.root c.args.child) c.requires.dead) in
    let first = c.in_ok-spawn.ensures in
    let done = c.in-Err.ensures in
    let rest = c.map_alike.ensures.rest in
    let maps = c.map_alike.ensures.mapped in
    let ready = readied old spawned mapped mid c.args.parent c.args.child apart c.requires.dead unmapped first.ok first.bare first.files first.room maps (record { frames = ap frame_count rest.frames; slots = ap (λ s. (slots_of s).total) rest.swap }) done.moves.fit done.pages done.bare done.moves.room in
    let parent_lives : is_live mid c.args.parent ≡ true = ready.others_live c.args.parent apart ∙ c.requires.live in
    let new : Picture g.M.Levels.mode = picture_of c.exit.new.core in
    let frames = c.map_alike.ensures.rest.frames in
    let places : (p : PageKey) → mapped.place p ≡ spawned.place p = λ p. ap (λ x. place_of x p) c.map_alike.ensures.rest.cache in
    let roots = done.moves.spaces.root in
    let gives = gives_mapped old spawned mapped mid c.args.parent c.args.child first.taken.0 first.gives first.taken.1 frames places maps roots done.tables in
    let alone : (page : ℕ) → mid.at c.args.child page ≡ mid.at c.args.parent page = λ page. done.moves.spaces.at c.args.child page ∙ maps.same page ∙ sym (done.moves.spaces.at c.args.parent page) in
    let root = live_root (mid.root c.args.parent) parent_lives in
    let cause_between = stall_then h c.args.core.now c.map_alike.new.core c.link_copies.new.core c.in-Err.stall (ap (λ r. r.number) rest.refused ∙ first.cause.0)
    (ap (λ s. h.failures s.pages.disk) rest.swap ∙ first.cause.1) done.cause in
    let unchanged = files_unchanged mid new c.args.parent c.args.child root.0 apart root.1 done.moves.fit c.exit.ensures.fit alone c.exit.ensures.files in
    record {
      ok = tt;
      shared = tt;
      entries = tt;
      takes = tt;
      tables = tt;
      bare = λ q page h ne none. (let before = maps.entries q page ∙ c.in_ok-spawn.ensures.bare q page h none in c.exit.ensures.others q page h ne ∙ c.in-Err.ensures.bare q page h before);
      keeps = record {
        fit = c.exit.ensures.fit;
        room = search rules;
        swap = ready_ended g.E.SectorDisk c.link_copies.new.core c.exit.new.core c.args.child 0 (user_end g.M.Levels.mode) c.exit.ensures.devices c.exit.ensures.slots c.in-Err.ensures.moves.swap;
        device = subst (λ (x : Pages _). UsesDevice h c.args.core.now.swap.pages.disk x.disk) (sym c.exit.ensures.devices.pages)
            (device_then h c.args.core.now.swap.pages.disk c.spawn.new.core.swap.pages.disk c.link_copies.new.core.swap.pages.disk c.in_ok-spawn.ensures.device
            (subst (λ (s : Swap _). UsesDevice h s.pages.disk c.link_copies.new.core.swap.pages.disk) c.map_alike.ensures.rest.swap c.in-Err.ensures.moves.device));
        store = search rules;
        files = keeps_files_then old mid new ready.files unchanged;
        copies = λ n is. (let mapped = c.in-Err.ensures.no_copy n (no_copy_taken c.link_copies.new.core.frames c.exit.new.core.frames c.exit.ensures.frames n is) in c.in_ok-spawn.ensures.copies n (sym (ap (λ t. role_of t n) c.map_alike.ensures.rest.frames) ∙ mapped));
        err = unmade old mid c.args.parent c.args.child ready (picture_of c.exit.new.core) c.exit.ensures.removed;
        cause = stall_before h c.args.core.now c.link_copies.new.core c.exit.new.core c.in-Err.stall c.exit.ensures.refused c.exit.ensures.devices.pages cause_between;
      };
      asks = asks_forked g.E.SectorDisk c.args.core.now c.spawn.new.core c.map_alike.new.core c.link_copies.new.core c.exit.new.core first.asks first.asks_later c.map_alike.ensures.rest
          c.in-Err.ensures.asks c.exit.ensures.devices.pages;
      stalls = stalls_later mid new c.args.child done.moves.fit c.exit.ensures.fit c.link_copies.new.core.sound c.exit.new.core.sound c.exit.ensures.tables c.exit.ensures.others
          (λ page h. done.bare c.args.child page h (maps.bare page h))
          (places_unchanged mid new c.args.parent c.args.child root.0 apart root.1 done.moves.fit c.exit.ensures.fit alone c.exit.ensures.files)
          unchanged.touched c.exit.ensures.slots c.exit.ensures.room old c.args.parent
          (tables_mid old spawned mapped mid c.args.parent c.args.child first.taken.0 first.gives first.taken.1 frames places maps roots done.tables)
          done.tried.0 (gives_then old mapped mid done.tried.0 gives done.tried.1) done.full done.lacks c.in-Err.stall done.refuses;
      short = short_readied old mid c.args.parent c.args.child ready c.in-Err.stall c.in-Err.ensures.short;
    }

pub returns : goal.returns
returns g c =
    let old : Picture g.M.Levels.mode = picture_of c.args.core.now in
    let spawned : Picture g.M.Levels.mode = picture_of c.spawn.new.core in
    let mapped : Picture g.M.Levels.mode = picture_of c.map_alike.new.core in
    let mid : Picture g.M.Levels.mode = picture_of c.link_copies.new.core in
    let apart : c.args.parent ≢ c.args.child = λ is. false≢true (sym c.requires.dead ∙ ap (is_live old) (sym is) ∙ c.requires.live) in
    let unmapped : (page : ℕ) → old.at c.args.child page ≡ None = λ page. ap (λ r. attr_where r (slice_index_or c.args.core.now.regions.items c.args.child []) page) (dead_root (old.root c.args.child) c.requires.dead) in
    let first = c.in_ok-spawn.ensures in
    let done = c.in_default.ensures in
    let rest = c.map_alike.ensures.rest in
    let maps = c.map_alike.ensures.mapped in
    let ready = readied old spawned mapped mid c.args.parent c.args.child apart c.requires.dead unmapped first.ok first.bare first.files first.room maps (record { frames = ap frame_count rest.frames; slots = ap (λ s. (slots_of s).total) rest.swap }) done.moves.fit done.pages done.bare done.moves.room in
    let frames = c.map_alike.ensures.rest.frames in
    let places : (p : PageKey) → mapped.place p ≡ spawned.place p = λ p. ap (λ x. place_of x p) c.map_alike.ensures.rest.cache in
    let roots = done.moves.spaces.root in
    let gives = gives_mapped old spawned mapped mid c.args.parent c.args.child first.taken.0 first.gives first.taken.1 frames places maps roots done.tables in
    let given = c.share_pages.ensures.shares in
    let ok = copied old mid c.args.parent c.args.child ready (picture_of c.share_pages.new.core) given in
    let shared = copies_shared old mid c.args.parent c.args.child ready (picture_of c.share_pages.new.core) given in
    let entries = entries_forked old mid (picture_of c.share_pages.new.core) c.args.parent c.args.child (gives_then old mapped mid None gives done.gives) given ready in
    let takes = tables_taken old mid (picture_of c.share_pages.new.core) c.args.parent c.args.child (gives_then old mapped mid None gives done.gives) given
    (tables_mid old spawned mapped mid c.args.parent c.args.child first.taken.0 first.gives first.taken.1 frames places maps roots done.tables) in
    let tables = tables_kept old spawned mapped mid (picture_of c.share_pages.new.core) c.args.child first.taken.0 c.requires.dead first.taken.1 frames maps.root roots done.moves.tables
    given.tables in
    let bare = bare_shared old mid c.args.parent c.args.child ready (picture_of c.share_pages.new.core) given in
    let swap = ready_released g.E.SectorDisk c.link_copies.new.core.swap c.link_copies.new.core.swap c.share_pages.new.core.swap refl c.share_pages.ensures.rest.pages
    given.room.slots c.in_default.ensures.moves.swap in
    let files = keeps_files_then old mid (picture_of c.share_pages.new.core) ready.files
    (record { held = λ p. inl (given.held p); touched = given.beside.touched; files = given.beside.files }) in
    let copies : TakesNoCopy c.args.core.now.frames c.share_pages.new.core.frames = λ n is. first.copies n (sym (ap (λ t. role_of t n) frames) ∙ done.no_copy n (sym (given.roles n) ∙ is)) in
    let number = ap (λ r. r.number) c.share_pages.ensures.refused ∙ done.cause.0 ∙ ap (λ r. r.number) rest.refused ∙ first.cause.0 in
    let failures = ap (λ p. g.E.SectorDisk.failures p.disk) c.share_pages.ensures.rest.pages ∙ done.cause.1 ∙ ap (λ s. g.E.SectorDisk.failures s.pages.disk) rest.swap ∙ first.cause.1 in
    let asks = asks_forked g.E.SectorDisk c.args.core.now c.spawn.new.core c.map_alike.new.core c.link_copies.new.core c.share_pages.new.core first.asks first.asks_later c.map_alike.ensures.rest
    c.in_default.ensures.asks c.share_pages.ensures.rest.pages in
    search rules

pub exit-requires-clause-live : goal.exit-requires-clause-live
exit-requires-clause-live g c =
    live_same (picture_of c.map_alike.new.core) (picture_of c.link_copies.new.core) c.args.child (c.in-Err.ensures.moves.spaces.root c.args.child)
    ∙ live_same (picture_of c.spawn.new.core) (picture_of c.map_alike.new.core) c.args.child (c.map_alike.ensures.mapped.root c.args.child) ∙ c.in_ok-spawn.ensures.ok.lives

pub share_pages-requires : goal.share_pages-requires
share_pages-requires g c =
    let mapped : Picture g.M.Levels.mode = picture_of c.map_alike.new.core in
    let mid : Picture g.M.Levels.mode = picture_of c.link_copies.new.core in
    let apart : c.args.parent ≢ c.args.child = λ is. false≢true (sym c.requires.dead ∙ ap (is_live (picture_of c.args.core.now)) (sym is) ∙ c.requires.live) in
    let first = c.in_ok-spawn.ensures in
    let done = c.in_default.ensures in
    let maps = c.map_alike.ensures.mapped in
    let roots = done.moves.spaces.root in
    let at = done.moves.spaces.at in
    record {
      awaits = record {
        forking = record {
          fit = done.moves.fit;
          parent_lives = live_same mapped mid c.args.parent (roots c.args.parent) ∙ live_same (picture_of c.spawn.new.core) mapped c.args.parent (maps.root c.args.parent) ∙ first.ok.others_live c.args.parent apart ∙ c.requires.live;
          child_lives = live_same mapped mid c.args.child (roots c.args.child) ∙ live_same (picture_of c.spawn.new.core) mapped c.args.child (maps.root c.args.child) ∙ first.ok.lives;
          same = λ page. at c.args.child page ∙ maps.same page ∙ sym (at c.args.parent page);
        };
        apart = apart;
        bare = λ page h least below. done.bare c.args.child page h (maps.bare page h);
      };
      linked = done.linked;
    }
