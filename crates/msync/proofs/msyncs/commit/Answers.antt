use Rattle.msync.proofs.{Asking.{asks_listed}, CommitEnds.{err_is, device_failed, source_failed, store_same, may_commit, files_taken, sizes_after, either_then, now_then, unread_now, unread_moments, commit_done, commit_failed}}
use Rattle.msync.proofs.{CommitEnds.{commit_unread, commit_lacking, StoreCommits, ShowsSizes}, Committing.{front_few, front_lists, changes, synced_shows, memory_synced, are_spots, taken_long, away_of, left_touched}, Names.{◌≡◌, ◌≢◌, ◌⊎◌}}
use Rattle.msync.proofs.Names.{inl, inr, length, take, refl, sym, ap, ◌∙◌, subst, rules, LeavesNow, AsksOnly, StandsForContents, slots_of, committed, synced, Stall, HasRoom, Store, always_free_in, holds_now, SwapDevice, Stalled, picture_of}
use Rattle.msync.{proofs.{Names.{IsFit, ShowsPages}, SettledPages.{ready_shared, settles_nothing}, StoreSizes.{knows_lengths, marks_after}}, specs.{Asking.{IsAskedFor, IsSectorListed, are_some}, Choice.{chosen_of, IsAway}, Core.{KeepsAll}}}
use Rattle.{msync.specs.{Judging.{is_resized_by}, Settling.{Settles, SettlesMemory}, Shows.{IsSoundCore, MarksEnds}, Spots.{AreSpots, HasSlot}}, sized_stores.specs.Store.{directory_of, disk_of, files_of, kept_of, IsReadySized}}
use Rattle.{sized_stores.specs.{Store.{SizedDirectory}, declared.{faults.SizeFault.TheVariants.{Source, NoRoom}, store.SizedStore.{SizedStore}}}, swap.specs.declared.pages.Pages.{Pages as Swap_pages}}
use Rattle.stores.specs.Store as Durable
use Rattle.msync.proofs.msyncs.commit.Goals as goal

pub commit_to-requires-clause-taken : goal.commit_to-requires-clause-taken
commit_to-requires-clause-taken g c =
    may_commit g.D.SectorDisk g.E.SectorDisk c.args.core.now c.requires.sound (chosen_of c.args.list.now c.args.count c.args.files.now) c.requires.listed c.requires.few

pub fill_spots-requires-clause-room : goal.fill_spots-requires-clause-room
fill_spots-requires-clause-room g c =
    front_few (picture_of c.args.core.now) (is_resized_by c.args.core.now) (chosen_of c.args.list.now c.args.count c.args.files.now) (length c.args.spots.now) c.requires.listed c.requires.room

pub settle-requires-clause-fit : goal.settle-requires-clause-fit
settle-requires-clause-fit g c =
    let old = c.args.core.now in
    store_same IsFit (picture_of old) (slots_of old.swap) (slots_of c.commit_to.new.source.swap.now) (files_of old.store) (files_of c.commit_to.new.store)
    c.in-Ok.ensures.asks.follows.2.slots c.in-Ok.ensures.files c.requires.sound.fit

pub settle-requires-clause-spots : goal.settle-requires-clause-spots
settle-requires-clause-spots g c =
    let old = c.args.core.now in
    let ch = chosen_of c.args.list.now c.args.count c.args.files.now in
    let list = take (length (take ch.count ch.list)) c.fill_spots.new.spots in
    store_same (λ x. AreSpots x list) (picture_of old) (slots_of old.swap) (slots_of c.commit_to.new.source.swap.now) (files_of old.store) (files_of c.commit_to.new.store)
    c.in-Ok.ensures.asks.follows.2.slots c.in-Ok.ensures.files (are_spots (picture_of old) (is_resized_by old) ch list c.requires.listed c.fill_spots.ensures)

pub returns-in-Ok : goal.returns-in-Ok
returns-in-Ok g c =
    let old = c.args.core.now in
    let ch = chosen_of c.args.list.now c.args.count c.args.files.now in
    let front = take ch.count ch.list in
    let list = take (length front) c.fill_spots.new.spots in
    let spots = c.fill_spots.ensures in
    let few = c.requires.listed.few in
    let done = c.in-Ok.ensures in
    let reads = done.asks.follows.2 in
    let source = c.commit_to.new.source.swap.now in
    let mid = c.commit_to.new.store in
    let away : HasSlot list → IsAway (picture_of old) ch = λ has. away_of (picture_of old) ch list few spots has in
    let new = c.settle.new.core in
    let beside = c.settle.ensures.beside in
    let settles = store_same (λ x. Settles x (picture_of new) list (length list)) (picture_of old) (slots_of source) (slots_of old.swap) (files_of mid) (files_of old.store)
    (sym reads.slots) (λ f. sym (done.files f)) c.settle.ensures.settles in
    let marks = marks_after old.store mid ch.files done.settled done.durable (picture_of old).touched (picture_of new).touched c.requires.sound.ends done.files
    (left_touched (picture_of old) (picture_of new) (is_resized_by old) ch list c.requires.listed spots settles) in
    let sound : IsSoundCore g.D.SectorDisk g.E.SectorDisk new = record {
      ready = subst (λ (x : SizedStore g.row.D.Denot). IsReadySized g.D.SectorDisk x) (sym beside.store) done.ready;
      room = subst (λ (x : SizedStore g.row.D.Denot). HasRoom (kept_of x)) (sym beside.store) done.room;
      swap = ready_shared g.E.SectorDisk source new.swap (reads.ready c.requires.sound.swap) beside.pages c.settle.ensures.settles.slots;
      fit = c.settle.ensures.fit;
      ends = subst (λ (x : SizedStore g.row.D.Denot). MarksEnds (directory_of x) (picture_of new).touched) (sym beside.store) marks;
    } in
    let memory = memory_synced (picture_of old) (picture_of new) (is_resized_by old) ch list c.requires.sound.fit c.requires.listed spots settles in
    let always : always_free_in (kept_of new.store) ≡ always_free_in (kept_of old.store) =
    subst (λ (x : SizedStore g.row.D.Denot). always_free_in (kept_of x) ≡ always_free_in (kept_of old.store)) (sym beside.store) done.always in
    let places : length new.store.sizes.items ≡ length old.store.sizes.items =
    subst (λ (x : SizedStore g.row.D.Denot). length x.sizes.items ≡ length old.store.sizes.items) (sym beside.store) done.places in
    let apart : (new.swap ≡ old.swap) ⊎ IsAway (picture_of old) ch = elim c.settle.ensures.swap [
      | inl same ↦ elim reads.only [ inl was ↦ inl (same ∙ was) | inr has ↦ inr (away has) ]
      | inr has ↦ inr (away has)
    ] in
    record {
      commits = λ s after pid addr len mode shows takes same.
          let taken = committed s pid same.first same.count s.durable in
          let lists = front_lists s pid same.first same.count ch few same.lists in
          let knows = knows_lengths g.D.SectorDisk g.E.SectorDisk old s c.requires.sound shows in
          let change = changes (picture_of old) s pid same.first same.count front list c.requires.sound.fit shows.pages spots lists old.store ch.files knows (λ f. refl) shows.shortest same.files in
          let long = taken_long (picture_of old) s pid same.first same.count front list c.requires.sound.fit shows.pages spots lists in
          let files = files_taken g.D.SectorDisk g.E.SectorDisk old c.requires.sound s shows pid same.first same.count ch.files same.files in
          let sizes = sizes_after g.D.SectorDisk g.E.SectorDisk old c.requires.sound s shows pid same.first same.count ch.files same.files mid long done.settled done.durable done.resizes in
          let n = g.D.SectorDisk.sector_count (disk_of old.store) in
          let M : Type 0 = IsAway (picture_of old) ch → g.E.SectorDisk.keeps_model new.swap.pages.disk in
          let model : M → HasSlot c.commit_to.new.source.spots.now → g.E.SectorDisk.keeps_model source.pages.disk =
          λ m has. subst (λ (p : Swap_pages g.row.E.Denot). g.E.SectorDisk.keeps_model p.disk) beside.pages (m (away (subst (λ l. HasSlot l) done.asks.follows.1 has))) in
          let commits_to : StoreCommits g.D.SectorDisk M n s.durable taken old.store mid = record {
            files = done.files;
            always = done.always;
            size = done.size;
            kept = done.kept;
            either = λ k m now. either_then g.D.SectorDisk _ old.store mid ch.files front _ _ s.durable taken shows.files files change done k (model m) now;
            most_moment = done.most_moment;
            most_now = λ k. holds_now g.D.SectorDisk (disk_of old.store) (disk_of mid) _ (λ t image le may. g.met.D.SectorDisk.counts_now _ t image k le may) (done.most_moment k);
          } in
          let Q : SizedStore g.row.D.Denot → Type 0 = λ x. g.D.SectorDisk.keeps_model (disk_of x) → M → LeavesNow g.D.SectorDisk (disk_of old.store) (StandsForContents n s.durable)
          → LeavesNow g.D.SectorDisk (disk_of x) (StandsForContents n taken) in
          commit_done g.D.SectorDisk g.E.SectorDisk M _ old new s after pid addr len mode ch shows same takes
          (subst (λ (x : SizedStore g.row.D.Denot). StoreCommits g.D.SectorDisk M n s.durable taken old.store x) (sym beside.store) commits_to)
          (subst Q (sym beside.store) (λ k m now. now_then g.D.SectorDisk _ old.store mid ch.files front _ _ s.durable taken shows.files files change done k (model m) now))
          (synced_shows (picture_of old) s pid same.first same.count front list c.requires.sound.fit shows.pages spots lists (picture_of new) settles knows)
          (subst (λ (x : SizedStore g.row.D.Denot). ShowsSizes x (synced s pid same.first same.count)) (sym beside.store) sizes) sound;
      ends = search rules;
      asks_store = subst (λ (x : SizedStore g.row.D.Denot). AsksOnly g.D.SectorDisk (IsAskedFor (kept_of old.store) (are_some ch.files)) (disk_of old.store) (disk_of x)) (sym beside.store) done.asks_device;
      asks_slots =
          let P : Swap_pages g.row.E.Denot → Type 0 = λ x. AsksOnly g.E.SectorDisk (IsSectorListed (picture_of old) ch) old.swap.pages.disk x.disk in
          subst P (sym beside.pages) (asks_listed g.E.SectorDisk (picture_of old) ch list old.swap.pages.disk source.pages.disk few spots reads.asks);
      answers = search rules;
    }

pub returns-in-Err-Device : goal.returns-in-Err-Device
returns-in-Err-Device g c =
    let old = c.args.core.now in
    let ch = chosen_of c.args.list.now c.args.count c.args.files.now in
    let front = take ch.count ch.list in
    let list = take (length front) c.fill_spots.new.spots in
    let spots = c.fill_spots.ensures in
    let few = c.requires.listed.few in
    let done = c.in-Err-Device.ensures in
    let reads = done.asks.follows.2 in
    let source = c.commit_to.new.source.swap.now in
    let mid = c.commit_to.new.store in
    let away : HasSlot list → IsAway (picture_of old) ch = λ has. away_of (picture_of old) ch list few spots has in
    let memory : SettlesMemory (picture_of old) _ = store_same (λ x. SettlesMemory (picture_of old) x) (picture_of old) (slots_of old.swap) (slots_of source) (files_of old.store) (files_of mid)
    reads.slots done.files (settles_nothing (picture_of old)) in
    let apart : (source ≡ old.swap) ⊎ IsAway (picture_of old) ch = elim reads.only [ inl same ↦ inl same | inr has ↦ inr (away has) ] in
    let fit : IsFit _ = store_same IsFit (picture_of old) (slots_of old.swap) (slots_of source) (files_of old.store) (files_of mid) reads.slots done.files c.requires.sound.fit in
    record {
      commits = λ s after pid addr len mode shows takes same.
          let taken = committed s pid same.first same.count s.durable in
          let lists = front_lists s pid same.first same.count ch few same.lists in
          let knows = knows_lengths g.D.SectorDisk g.E.SectorDisk old s c.requires.sound shows in
          let change = changes (picture_of old) s pid same.first same.count front list c.requires.sound.fit shows.pages spots lists old.store ch.files knows (λ f. refl) shows.shortest same.files in
          let files = files_taken g.D.SectorDisk g.E.SectorDisk old c.requires.sound s shows pid same.first same.count ch.files same.files in
          let M : Type 0 = IsAway (picture_of old) ch → g.E.SectorDisk.keeps_model source.pages.disk in
          let model : M → HasSlot c.commit_to.new.source.spots.now → g.E.SectorDisk.keeps_model source.pages.disk =
          λ m has. m (away (subst (λ l. HasSlot l) done.asks.follows.1 has)) in
          commit_failed g.D.SectorDisk g.E.SectorDisk M _ old _ s after pid addr len mode ch shows same takes
          (record {
            files = done.files;
            always = done.always;
            size = done.size;
            kept = done.kept;
            either = λ k m now. either_then g.D.SectorDisk _ old.store mid ch.files front _ _ s.durable taken shows.files files change done k (model m) now;
            most_moment = done.most_moment;
            most_now = λ k. holds_now g.D.SectorDisk (disk_of old.store) (disk_of mid) _ (λ t image le may. g.met.D.SectorDisk.counts_now _ t image k le may) (done.most_moment k);
          })
          (record { directory = done.after_error refl; slots = reads.slots; frames = refl; cache = refl; roots = refl; regions = refl; page_of = refl; clock = refl; refused = refl })
          (device_failed _ _ _ _ c.in-Err-Device.field-0 c.in-Err-Device.field-0-is done.causes);
      ends = search rules;
      asks_store = done.asks_device;
      asks_slots = asks_listed g.E.SectorDisk (picture_of old) ch list old.swap.pages.disk source.pages.disk few spots reads.asks;
      answers = search rules;
    }

pub returns-in-Err-Source : goal.returns-in-Err-Source
returns-in-Err-Source g c =
    let old = c.args.core.now in
    let ch = chosen_of c.args.list.now c.args.count c.args.files.now in
    let front = take ch.count ch.list in
    let list = take (length front) c.fill_spots.new.spots in
    let spots = c.fill_spots.ensures in
    let few = c.requires.listed.few in
    let done = c.in-Err-Source.ensures in
    let reads = done.asks.follows.2 in
    let source = c.commit_to.new.source.swap.now in
    let mid = c.commit_to.new.store in
    let away : HasSlot list → IsAway (picture_of old) ch = λ has. away_of (picture_of old) ch list few spots has in
    let memory : SettlesMemory (picture_of old) _ = store_same (λ x. SettlesMemory (picture_of old) x) (picture_of old) (slots_of old.swap) (slots_of source) (files_of old.store) (files_of mid)
    reads.slots done.files (settles_nothing (picture_of old)) in
    let apart : (source ≡ old.swap) ⊎ IsAway (picture_of old) ch = elim reads.only [ inl same ↦ inl same | inr has ↦ inr (away has) ] in
    let fit : IsFit _ = store_same IsFit (picture_of old) (slots_of old.swap) (slots_of source) (files_of old.store) (files_of mid) reads.slots done.files c.requires.sound.fit in
    let still : ((stall : Stall) → Stalled SwapDevice ≢ Stalled stall) → g.E.SectorDisk.failures source.pages.disk ≡ g.E.SectorDisk.failures old.swap.pages.disk = λ none. absurd (none SwapDevice refl) in
    let failed = err_is c.in-Err-Source.field-0 Source c.in-Err-Source.field-0-is in
    let directory : directory_of mid ≡ directory_of old.store = done.after_error refl in
    let sound : IsSoundCore g.D.SectorDisk g.E.SectorDisk _ = record {
      ready = done.ready_after_source failed;
      room = done.room_after_source failed;
      swap = reads.ready c.requires.sound.swap;
      fit = fit;
      ends = subst (λ (d : SizedDirectory). MarksEnds d (picture_of old).touched) (sym directory) c.requires.sound.ends;
    } in
    record {
      commits = λ s after pid addr len mode shows takes same.
          let taken = committed s pid same.first same.count s.durable in
          let lists = front_lists s pid same.first same.count ch few same.lists in
          let knows = knows_lengths g.D.SectorDisk g.E.SectorDisk old s c.requires.sound shows in
          let change = changes (picture_of old) s pid same.first same.count front list c.requires.sound.fit shows.pages spots lists old.store ch.files knows (λ f. refl) shows.shortest same.files in
          let files = files_taken g.D.SectorDisk g.E.SectorDisk old c.requires.sound s shows pid same.first same.count ch.files same.files in
          let M : Type 0 = IsAway (picture_of old) ch → g.E.SectorDisk.keeps_model source.pages.disk in
          let model : M → HasSlot c.commit_to.new.source.spots.now → g.E.SectorDisk.keeps_model source.pages.disk =
          λ m has. m (away (subst (λ l. HasSlot l) done.asks.follows.1 has)) in
          commit_unread g.D.SectorDisk g.E.SectorDisk M _ old _ s after pid addr len mode ch shows same takes
          (record {
            files = done.files;
            always = done.always;
            size = done.size;
            kept = done.kept;
            either = λ k m now. either_then g.D.SectorDisk _ old.store mid ch.files front _ _ s.durable taken shows.files files change done k (model m) now;
            most_moment = done.most_moment;
            most_now = λ k. holds_now g.D.SectorDisk (disk_of old.store) (disk_of mid) _ (λ t image le may. g.met.D.SectorDisk.counts_now _ t image k le may) (done.most_moment k);
          })
          (record { directory = directory; slots = reads.slots; frames = refl; cache = refl; roots = refl; regions = refl; page_of = refl; clock = refl; refused = refl })
          (source_failed _ _ _ _ c.in-Err-Source.field-0 c.in-Err-Source.field-0-is done.causes)
          done.resizes
          (store_same (λ x. ShowsPages x s) (picture_of old) (slots_of old.swap) (slots_of source) (files_of old.store) (files_of mid) reads.slots done.files shows.pages) sound
          (λ k now. unread_now g.D.SectorDisk _ old.store mid ch.files front _ _ s.durable taken shows.files files change c.in-Err-Source.field-0 done failed k now)
          (λ k now. unread_moments g.D.SectorDisk _ old.store mid ch.files front _ _ s.durable taken shows.files files change c.in-Err-Source.field-0 done failed k now);
      ends = search rules;
      asks_store = done.asks_device;
      asks_slots = asks_listed g.E.SectorDisk (picture_of old) ch list old.swap.pages.disk source.pages.disk few spots reads.asks;
      answers = search rules;
    }

pub returns-in-Err-NoRoom : goal.returns-in-Err-NoRoom
returns-in-Err-NoRoom g c =
    let old = c.args.core.now in
    let ch = chosen_of c.args.list.now c.args.count c.args.files.now in
    let front = take ch.count ch.list in
    let list = take (length front) c.fill_spots.new.spots in
    let spots = c.fill_spots.ensures in
    let few = c.requires.listed.few in
    let done = c.in-Err-NoRoom.ensures in
    let reads = done.asks.follows.2 in
    let source = c.commit_to.new.source.swap.now in
    let mid = c.commit_to.new.store in
    let failed = err_is c.in-Err-NoRoom.field-0 NoRoom c.in-Err-NoRoom.field-0-is in
    let undone = done.undone failed in
    let swap : source ≡ old.swap = ap (λ s. s.swap.now) undone.1 in
    let directory : directory_of mid ≡ directory_of old.store = done.after_error refl in
    let memory : SettlesMemory (picture_of old) _ = store_same (λ x. SettlesMemory (picture_of old) x) (picture_of old) (slots_of old.swap) (slots_of source) (files_of old.store) (files_of mid)
    reads.slots done.files (settles_nothing (picture_of old)) in
    let fit : IsFit _ = store_same IsFit (picture_of old) (slots_of old.swap) (slots_of source) (files_of old.store) (files_of mid) reads.slots done.files c.requires.sound.fit in
    let calm : g.D.SectorDisk.failures (disk_of mid) ≡ g.D.SectorDisk.failures (disk_of old.store) = ap (λ (x : Store g.row.D.Denot). g.D.SectorDisk.failures (Durable.disk_of x)) undone.0 in
    let still : g.E.SectorDisk.failures source.pages.disk ≡ g.E.SectorDisk.failures old.swap.pages.disk = ap (λ s. g.E.SectorDisk.failures s.pages.disk) swap in
    let sound : IsSoundCore g.D.SectorDisk g.E.SectorDisk _ = record {
      ready = done.ready_still failed;
      room = subst (λ (x : Store g.row.D.Denot). HasRoom (Durable.kept_of x)) (sym undone.0) c.requires.sound.room;
      swap = reads.ready c.requires.sound.swap;
      fit = fit;
      ends = subst (λ (d : SizedDirectory). MarksEnds d (picture_of old).touched) (sym directory) c.requires.sound.ends;
    } in
    let keeps : KeepsAll old _ = record {
      store = undone.0;
      sizes = ap (λ (d : SizedDirectory). d.sizes) directory;
      swap = swap;
      frames = refl;
      cache = refl;
      roots = refl;
      regions = refl;
      page_of = refl;
      clock = refl;
      keep = refl;
      looks = refl;
      refused = refl;
    } in
    record {
      commits = λ s after pid addr len mode shows takes same.
          let taken = committed s pid same.first same.count s.durable in
          let lists = front_lists s pid same.first same.count ch few same.lists in
          let knows = knows_lengths g.D.SectorDisk g.E.SectorDisk old s c.requires.sound shows in
          let change = changes (picture_of old) s pid same.first same.count front list c.requires.sound.fit shows.pages spots lists old.store ch.files knows (λ f. refl) shows.shortest same.files in
          let files = files_taken g.D.SectorDisk g.E.SectorDisk old c.requires.sound s shows pid same.first same.count ch.files same.files in
          let M : Type 0 = IsAway (picture_of old) ch → g.E.SectorDisk.keeps_model source.pages.disk in
          let model : M → HasSlot c.commit_to.new.source.spots.now → g.E.SectorDisk.keeps_model source.pages.disk =
          λ m has. m (away_of (picture_of old) ch list few spots (subst (λ l. HasSlot l) done.asks.follows.1 has)) in
          commit_lacking g.D.SectorDisk g.E.SectorDisk M _ old _ s after pid addr len mode ch shows same takes
          (record {
            files = done.files;
            always = done.always;
            size = done.size;
            kept = done.kept;
            either = λ k m now. either_then g.D.SectorDisk _ old.store mid ch.files front _ _ s.durable taken shows.files files change done k (model m) now;
            most_moment = done.most_moment;
            most_now = λ k. holds_now g.D.SectorDisk (disk_of old.store) (disk_of mid) _ (λ t image le may. g.met.D.SectorDisk.counts_now _ t image k le may) (done.most_moment k);
          })
          keeps c.requires.sound (done.some failed) (done.lacks failed)
          (store_same (λ x. ShowsPages x s) (picture_of old) (slots_of old.swap) (slots_of source) (files_of old.store) (files_of mid) reads.slots done.files shows.pages) sound;
      ends = search rules;
      asks_store = done.asks_device;
      asks_slots = asks_listed g.E.SectorDisk (picture_of old) ch list old.swap.pages.disk source.pages.disk few spots reads.asks;
      answers = search rules;
    }

pub invariant_of-core-clause-bounded : goal.invariant_of-core-clause-bounded
invariant_of-core-clause-bounded g c =
    let same = c.commit_to.ensures.files in
    record { each = λ f k inside. c.args.core.now.bounded.each f k (inside.0, sym (same f) ∙ inside.1, inside.2) }
