use Rattle.msync.proofs.{Names.{◌≡◌, ◌+◌, ◌-◌, ◌/◌, ◌∙◌, ap, sym, arith, Async, page_count, is_covered, attr_at, picture_of, user_map-same}, Rulings.{the_process, ruled_missing, ruled_row, ruled_sync, listed_of, taken_of, touched_within, numbered}}
use Rattle.msync.specs.{Choice.{of_files}, Judging.{is_resized_by}, Shows.{RoomSize}}
use Rattle.sized_stores.specs.Store as Sized
use Rattle.msync.proofs.choosing.rule.Goals as goal

pub returns-then-not-covers-clause-same : goal.returns-then-not-covers-clause-same
returns-then-not-covers-clause-same g c = λ s shows most.
    let core = c.args.core.now in
    let a = c.args.call in
    let map = attr_at c.regions-regions.result.now in
    let found = c.in-Some.ensures.found in
    let count : c.div_ceil-count.result ≡ page_count a.len = omega (arith, c.div_ceil-count.ensures) in
    let p = the_process (picture_of core) (is_resized_by core) map s c.in-Some.process shows.pages shows.resized found.1 c.regions-regions.ensures in
    rw (← found.0) (ruled_missing (of_files (picture_of core).touched) (is_resized_by core) map s c.in-Some.process p a.addr a.len a.mode (omega arith) c.if-len-eq0.false
    (ap (is_covered map (a.addr / 4096)) (sym count) ∙ sym c.covers.ensures ∙ c.if-not-covers.true))

pub choose-requires : goal.choose-requires
choose-requires g c =
    let core = c.args.core.now in
    let pid = c.in-Some.process in
    record {
      order = omega arith;
      pages = record {
        user = user_map-same g.M.Levels.mode ((picture_of core).at pid) (attr_at c.regions-regions.result.now) c.regions-regions.ensures (c.requires.fit.granting.user pid);
        inside = (touched_within (picture_of core) c.requires.fit core.bounded).page;
      };
      numbers = numbered (Sized.directory_of core.store) (picture_of core).touched c.requires.ends;
      ranks = omega (arith, c.requires.ranks, core.node_count, core.slot_count);
      files = c.requires.files;
    }

pub returns-in-Async-clause-same : goal.returns-in-Async-clause-same
returns-in-Async-clause-same g c = λ s shows most.
    let core = c.args.core.now in
    let a = c.args.call in
    let map = attr_at c.regions-regions.result.now in
    let found = c.in-Some.ensures.found in
    let count : c.div_ceil-count.result ≡ page_count a.len = omega (arith, c.div_ceil-count.ensures) in
    let p = the_process (picture_of core) (is_resized_by core) map s c.in-Some.process shows.pages shows.resized found.1 c.regions-regions.ensures in
    rw (← found.0) (rw c.in-Async.is (ruled_row (of_files (picture_of core).touched) (is_resized_by core) map s c.in-Some.process p a.addr a.len Async (omega arith) c.if-len-eq0.false
    (ap (is_covered map (a.addr / 4096)) (sym count) ∙ sym c.covers.ensures ∙ c.if-not-covers.false)))

pub returns-in-Sync-clause-same : goal.returns-in-Sync-clause-same
returns-in-Sync-clause-same g c = λ s shows most.
    let core = c.args.core.now in
    let a = c.args.call in
    let map = attr_at c.regions-regions.result.now in
    let found = c.in-Some.ensures.found in
    let count : c.div_ceil-count.result ≡ page_count a.len = omega (arith, c.div_ceil-count.ensures) in
    let row : (a.addr / 4096 + c.div_ceil-count.result) - a.addr / 4096 ≡ page_count a.len = omega (arith, c.div_ceil-count.ensures) in
    let p = the_process (picture_of core) (is_resized_by core) map s c.in-Some.process shows.pages shows.resized found.1 c.regions-regions.ensures in
    rw (← found.0) (rw c.in-Sync.is (ruled_sync (of_files (picture_of core).touched) (is_resized_by core) map s c.in-Some.process p a.addr a.len c.choose.new.lists.pages.items c.choose.new.lists.files.items c.choose.result
    (most ∙ sym (ap (λ (r : RoomSize). r.most) c.choose.ensures.size)) (touched_within (picture_of core) c.requires.fit core.bounded)
    (numbered (Sized.directory_of core.store) (picture_of core).touched c.requires.ends) (omega arith) c.if-len-eq0.false
    (ap (is_covered map (a.addr / 4096)) (sym count) ∙ sym c.covers.ensures ∙ c.if-not-covers.false)
    (rw (← row) c.choose.ensures.ruling)))

pub returns-in-Sync-clause-listed : goal.returns-in-Sync-clause-listed
returns-in-Sync-clause-listed g c =
    listed_of (picture_of c.args.core.now) (is_resized_by c.args.core.now) (attr_at c.regions-regions.result.now) (c.args.call.addr / 4096) _ c.choose.new.lists.pages.items c.choose.new.lists.files.items
    c.choose.result c.choose.ensures.ruling

pub returns-in-Sync-clause-taken : goal.returns-in-Sync-clause-taken
returns-in-Sync-clause-taken g c =
    let core = c.args.core.now in
    let a = c.args.call in
    let map = attr_at c.regions-regions.result.now in
    let row : (a.addr / 4096 + c.div_ceil-count.result) - a.addr / 4096 ≡ page_count a.len = omega (arith, c.div_ceil-count.ensures) in
    rw (← c.in-Some.ensures.found.0) (taken_of (picture_of core) core.store.sizes.items map c.in-Some.process a.addr a.len c.choose.new.lists.pages.items c.choose.new.lists.files.items c.choose.result c.regions-regions.ensures
    (rw (← row) c.choose.ensures.ruling))
