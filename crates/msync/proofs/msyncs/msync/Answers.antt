use Rattle.msync.proofs.{Asking.{asks_taken}, CommitEnds.{takes_some, commits_under}, Ends.{ends_nothing, ends_under}, Names.{ℕ, Bool, inl, inr, rules, arith, List, take, ap, subst, FilePage, AsksOnly, picture_of}, Rooms.{ranks_for}}
use Rattle.msync.{proofs.{Rooms.{files_for, most_for, few_for}, StoreSizes.{taken_some}}, specs.{Asking.{IsAskedFor}, Choice.{chosen_in, chosen_of, chosen_page, IsAway, TakesAway}, Shows.{RoomSize}, SyncEnds.{CommitsListed}}}
use Rattle.sized_stores.specs.Store.{disk_of, kept_of}
use Rattle.msync.proofs.msyncs.msync.Goals as goal

pub rule-requires : goal.rule-requires
rule-requires g c = record {
  fit = c.requires.sound.fit;
  ends = c.requires.sound.ends;
  ranks = ranks_for g.D.SectorDisk c.args.core.now c.room.inside.lists c.args.room.now c.room.view_is c.requires.room;
  files = files_for g.D.SectorDisk c.args.core.now c.room.inside.lists c.args.room.now c.room.view_is c.requires.room;
}

pub commit-requires-clause-few : goal.commit-requires-clause-few
commit-requires-clause-few g c =
    few_for g.D.SectorDisk c.args.core.now c.room.inside.lists c.args.room.now c.room.view_is c.requires.room c.rule.new.lists c.in-Takes.taken.pages c.rule.ensures.size c.in-Takes.ensures.listed.1.few

pub commit-requires-clause-room : goal.commit-requires-clause-room
commit-requires-clause-room g c =
    omega (arith, c.in-Takes.ensures.listed.1.few, ap (λ (r : RoomSize). r.most) c.rule.ensures.size, c.room.invariant)

pub returns-in-Refuses-clause-syncs : goal.returns-in-Refuses-clause-syncs
returns-in-Refuses-clause-syncs g c =
    let most = most_for g.D.SectorDisk c.args.core.now c.room.inside.lists c.args.room.now c.room.view_is c.requires.room in
    search (rules, ends_nothing)

pub returns-in-Passes-clause-syncs : goal.returns-in-Passes-clause-syncs
returns-in-Passes-clause-syncs g c =
    let most = most_for g.D.SectorDisk c.args.core.now c.room.inside.lists c.args.room.now c.room.view_is c.requires.room in
    search (rules, ends_nothing)

pub returns-in-Takes-clause-syncs : goal.returns-in-Takes-clause-syncs
returns-in-Takes-clause-syncs g c =
    let old = c.args.core.now in
    let a = c.args.call in
    let sizes = old.store.sizes.items in
    let ch = chosen_in c.rule.new.lists.pages.items c.rule.new.lists.files.items c.in-Takes.taken in
    let n = c.in-Takes.taken.pages in
    let few = c.in-Takes.taken.files in
    let done = subst (λ (list : List FilePage). CommitsListed g.D.SectorDisk g.E.SectorDisk old c.commit.new.core (chosen_of list n (take few c.rule.new.lists.files.items)) c.commit.result) c.deref-in-Takes.ensures.value
    (subst (λ (files : List ℕ). CommitsListed g.D.SectorDisk g.E.SectorDisk old c.commit.new.core (chosen_of c.deref-in-Takes.result.now n (take few files)) c.commit.result) c.deref.ensures.value c.commit.ensures) in
    let most = most_for g.D.SectorDisk old c.room.inside.lists c.args.room.now c.room.view_is c.requires.room in
    let taken = c.in-Takes.ensures.taken in
    let away : IsAway (picture_of old) ch → TakesAway (picture_of old) sizes a.pid a.addr a.len =
    λ one. record { page = chosen_page ch.list one.number; slot = one.slot; taken = taken.pages.each one.number one.below; placed = one.placed } in
    record {
      passes = λ s shows none. absurd (takes_some s a.pid a.addr a.len a.mode ch (c.in-Takes.ensures.same s shows (most s shows)) none);
      commits = λ s after shows takes. commits_under g.D.SectorDisk g.E.SectorDisk _ _ _ _ old c.commit.new.core s after a.pid a.addr a.len a.mode _ (λ m one. m (away one)) (λ lack. (ch, taken, lack))
          (done.commits s after a.pid a.addr a.len a.mode shows takes (c.in-Takes.ensures.same s shows (most s shows)));
      ends = ends_under g.D.SectorDisk g.E.SectorDisk _ _ old c.commit.new.core _ away done.ends;
      asks = record {
        store = (
            let some = taken_some old c.requires.sound.ends a.pid a.addr a.len ch.files taken.files in
            subst (λ (b : Bool). AsksOnly g.D.SectorDisk (IsAskedFor (kept_of old.store) b) (disk_of old.store) (disk_of c.commit.new.core.store)) some done.asks_store);
        swap = asks_taken g.E.SectorDisk (picture_of old) sizes a.pid a.addr a.len ch old.swap.pages.disk c.commit.new.core.swap.pages.disk taken done.asks_slots;
      };
      unasked = λ errno is other. elim (done.answers errno is) [ inl fault ↦ absurd (other fault) | inr lacks ↦ inr lacks ];
    }
