-- What a commit of pages and lengths comes to, whatever becomes of it.
use Rattle.vm_types.specs.declared.mode.Levels as Levels
use Rattle.msync.proofs.{Committing.{front_length, front_same, front_once, front_touched, front_few, some_get}, Names.{ℕ, inl, inr, ◌≡◌, ◌<◌, ◌≤◌, ◌&&◌, not, Bool, true, false, if◌then◌else◌, List, length, take, slice_get, Option, Some}}
use Rattle.msync.proofs.Names.{None, Result, Err, Ok, IsErrOf, refl, sym, ap, ◌∙◌, subst, arith, rules, cases_Bool, and-true, and-false, get_or_from_slice_get, slice_get-get_or, slice_get_within, LeavesNow, LeavesOnly, Ghosts}
use Rattle.msync.proofs.Names.{StandsForContents, StandsForEitherContents, SaysMostOf, Image, weaker, always_free_in, FileInfo, FilePage, File, Files, Contents, SlotTable, Core, Picture, picture_of, ShowsPages, State, committed, synced}
use Rattle.msync.proofs.{Names.{touched_in, commits, commit_of, msync_outcome, Msync, MsyncMode, EIO, SwapDevice, Reply, Done, Refused, Store}, Sizing.{resized_of, still_whole}, StoreSizes.{knows_lengths, shown_some, resized_one}}
use Rattle.msync.{proofs.StoreSizes.{resized_other, shortest_one, shortest_other}, specs.{Asking.{are_some}, Choice.{Chosen, chosen_page, first_page, IsListed, TakesSame}, Core.{KeepsAll, KeepsMemory, IsEnd, Acknowledged, Failed, Unread}}}
use Rattle.{msync.specs.{Core.{Lacking, Commits}, Judging.{is_resized_by}, Shows.{IsSoundCore, CoreShows, SaysMost, cut_off_page}, Storing.{MayCommit, CommitsTaken}}, sized_stores.{proofs.TakenLengths.{one_there}, specs.Commit.{is_one_of}}}
use Rattle.sized_stores.specs.{Commit.{files_then, AreSettled, HasSizeCauses, StandsForOneOf, TakesSizes}, Store.{can_resize, can_resize_in, directory_in, directory_of, disk_of, durable_files_of, durable_in, files_of, is_resized_in}}
use Rattle.sized_stores.specs.{Store.{kept_of, length_of, shortest_in, SizedDirectory}, declared.{faults.SizeFault.{SizeFault, TheVariants.{Device, Source}}, sizes.Size.{Size}, store.SizedStore.{SizedStore}}}
use Rattle.{std.proofs.Math.Path.{fun_ext}, stores.specs.Images.{StandsFor}, sync_journal.specs.declared.source.PageSource.{Ghosts as SourceGhosts}, vm_types.specs.{Msync.{resized_in}, Step.{commits_lengths, takes_lengths}}}
use Rattle.vm_types.specs.{Truncation.{length_in}, declared.{refusal.Errno.TheVariants.{ENOSPC}, reply.Reply.TheVariants.{Stalled}}}
use Rattle.stores.specs.Store as Durable
use Rattle.vm_types.specs.Msync as Flat

-- what a fault comes from
pub err_is : (f e : SizeFault) → f ≡ e → IsErrOf {T = Unit {0}} (Err f) e
err_is f e is = let P : SizeFault → Result (Unit {0}) SizeFault = λ x. Err x in ap P is

pub device_failed : (before now a b : ℕ) (f : SizeFault) → f ≡ Device → HasSizeCauses before now a b (Err f) → before < now
device_failed before now a b f is causes = causes.device (err_is f Device is)

pub source_failed : (before now a b : ℕ) (f : SizeFault) → f ≡ Source → HasSizeCauses before now a b (Err f) → a < b
source_failed before now a b f is causes = causes.source (err_is f Source is)

-- what a commit would leave is what the flat model takes
after_is : (s : State) (after : Contents) (pid addr len : ℕ) (mode : MsyncMode) (chosen : Chosen) → (same : TakesSame s pid addr len mode chosen)
    → commits s (Msync pid addr len mode) ≡ Some after → committed s pid same.first same.count s.durable ≡ after
after_is s after pid addr len mode chosen same e = let taken : Some (committed s pid same.first same.count s.durable) ≡ Some after = sym (ap (commit_of s) same.ruling) ∙ e in cc

-- and it leaves something
pub takes_some : (s : State) (pid addr len : ℕ) (mode : MsyncMode) (chosen : Chosen) → TakesSame s pid addr len mode chosen → commits s (Msync pid addr len mode) ≡ None → ⊥
takes_some s pid addr len mode chosen same none = let bad : Some (committed s pid same.first same.count s.durable) ≡ None = sym (ap (commit_of s) same.ruling) ∙ none in (cc)

-- memory with other slots and files
module _ {mode : ℕ} where
  abbrev pub with_store : Picture mode → SlotTable → Files → Picture mode
  with_store c t files = record c { slots = t; files = files }

-- what holds of memory holds of it with the same slots and files
pub store_same : {mode : ℕ} (P : Picture mode → Type 0) (c : Picture mode) (t t' : SlotTable) (a b : Files) → t' ≡ t → ((f : ℕ) → b f ≡ a f) → P (with_store c t a) → P (with_store c t' b)
store_same P c t t' a b slots files p = subst (λ (x : Files). P (with_store c t' x)) (sym (fun_ext files)) (subst (λ (x : SlotTable). P (with_store c x a)) (sym slots) p)

either_same : (b : Bool) (x x' y y' : Option FileInfo) → x ≡ x' → y ≡ y' → (if b then x else y) ≡ (if b then x' else y')
either_same true x x' y y' a e = a
either_same false x x' y y' a e = e

same_long : (a b : Option FileInfo) → a ≡ b → length_in a ≡ length_of b
same_long a b is = long b a is
  where
    as_long : (o : Option FileInfo) → length_in o ≡ length_of o
    as_long None = refl
    as_long (Some info) = refl

    long : (b a : Option FileInfo) → a ≡ b → length_in a ≡ length_of b
    long b a is = as_long a ∙ ap length_of is

-- A state says of all files what a store keeps of them:
pub record ShowsSizes {D : Type 0} (store : SizedStore D) (s : State) : Type 0 where
  -- which there are durably, with 4,096 bytes in each page, and whether they can get other lengths,
  pub files : (f : ℕ) → s.durable.files f ≡ durable_files_of store f
  pub whole : (f k : ℕ) → length (s.durable.pages f k) ≡ 4096
  pub resizes : s.resizes ≡ can_resize store
  -- and which have got one, and how short they have been.
  pub resized : (f : ℕ) → s.resized f ≡ is_resized_in store.sizes.items f
  pub shortest : (f : ℕ) → s.shortest f ≡ shortest_in (directory_of store) f

sizes_same : {D : Type 0} (old new : SizedStore D) (s : State) → directory_of new ≡ directory_of old → can_resize new ≡ can_resize old → ShowsSizes old s → ShowsSizes new s
sizes_same old new s same resizes shows = record {
  files = λ f. shows.files f ∙ sym (ap (λ d. durable_in d f) same);
  whole = shows.whole;
  resizes = shows.resizes ∙ sym resizes;
  resized = λ f. shows.resized f ∙ sym (ap (λ (d : SizedDirectory). is_resized_in d.sizes f) same);
  shortest = λ f. shows.shortest f ∙ sym (ap (λ d. shortest_in d f) same);
}

-- where nothing is done, what is kept in memory of files is what it was
same_directory : {M : Type 0} {m : Levels.Ghosts M} {D E : Type 0} {old new : Core D E M m} → KeepsAll old new → directory_of new.store ≡ directory_of old.store
same_directory {D = D} {old = old} {new = new} keeps =
    let kept : kept_of new.store ≡ kept_of old.store = ap (λ (x : Store D). Durable.kept_of x) keeps.store in
    ap (λ k. directory_in k new.store.sizes.items) kept ∙ ap (λ (l : List Size). directory_in (kept_of old.store) l) keeps.sizes

module _ {D S : Type 0} (g : Ghosts D) (z : SourceGhosts S) (old new : SizedStore D) (lengths : List ℕ) (list : List FilePage) (given given' : S) (before after : Contents)
    (durable : (f : ℕ) → before.files f ≡ durable_files_of old f) (then_is : (f : ℕ) → after.files f ≡ files_then old lengths f)
    (change : TakesSizes old lengths list (z.pages given) before.pages after.pages) where
  abbrev n : ℕ
  n = g.sector_count (disk_of old)

  before_is : before.files ≡ durable_files_of old
  before_is = fun_ext durable

  after_then : after.files ≡ files_then old lengths
  after_then = fun_ext then_is

  stands_before : LeavesNow g (disk_of old) (StandsForContents n before) → LeavesNow g (disk_of old) (StandsFor n (durable_files_of old) before.pages)
  stands_before now = subst (λ (x : Files). LeavesNow g (disk_of old) (StandsFor n x before.pages)) before_is now

  pub either_then : {result : Result (Unit {0}) SizeFault} → CommitsTaken g z old new lengths list given given' result → g.keeps_model (disk_of new) → z.keeps_model given'
      → LeavesNow g (disk_of old) (StandsForContents n before) → LeavesOnly g (disk_of old) (disk_of new) (StandsForEitherContents n before after)
  either_then done k m now =
      let both = done.any_moment k m before.pages after.pages (stands_before now) change in
      let P : Files → Type 0 = λ x. LeavesOnly g (disk_of old) (disk_of new) (StandsForOneOf n (durable_files_of old) before.pages x after.pages) in
      let Q : Files → Type 0 = λ x. LeavesOnly g (disk_of old) (disk_of new) (StandsForOneOf n x before.pages after.files after.pages) in
      subst Q (sym before_is) (subst P (sym after_then) both)

  pub now_then : CommitsTaken g z old new lengths list given given' (Ok tt) → g.keeps_model (disk_of new) → z.keeps_model given'
      → LeavesNow g (disk_of old) (StandsForContents n before) → LeavesNow g (disk_of new) (StandsForContents n after)
  now_then done k m now =
      let P : Files → Type 0 = λ x. LeavesNow g (disk_of new) (StandsFor n x after.pages) in
      subst P (sym after_then) (done.ok k m before.pages after.pages (stands_before now) change)

  module _ (f : SizeFault) (done : CommitsTaken g z old new lengths list given given' (Err f)) (failed : IsErrOf {T = Unit {0}} (Err f) Source) (k : g.keeps_model (disk_of new))
      (now : LeavesNow g (disk_of old) (StandsForContents n before)) where
    pub unread_now : LeavesNow g (disk_of new) (StandsForContents n before)
    unread_now =
        let P : Files → Type 0 = λ x. LeavesNow g (disk_of new) (StandsFor n x before.pages) in
        subst P (sym before_is) (done.source_now k failed before.pages (stands_before now))

    pub unread_moments : LeavesOnly g (disk_of old) (disk_of new) (StandsForContents n before)
    unread_moments =
        let P : Files → Type 0 = λ x. LeavesOnly g (disk_of old) (disk_of new) (StandsFor n x before.pages) in
        subst P (sym before_is) (done.source k failed before.pages (stands_before now))

module _ {D : Type 0} (g : Ghosts D) where
  -- what the store's commit says of these contents, as long as its source kept its model
  pub record StoreCommits (model : Type 0) (n : ℕ) (before after : Contents) (old new : SizedStore D) : Type 0 where
    pub files : (f : ℕ) → files_of new f ≡ files_of old f
    pub always : always_free_in (kept_of new) ≡ always_free_in (kept_of old)
    pub size : g.sector_count (disk_of new) ≡ g.sector_count (disk_of old)
    pub kept : g.keeps_model (disk_of new) → g.keeps_model (disk_of old)
    pub either : g.keeps_model (disk_of new) → model → LeavesNow g (disk_of old) (StandsForContents n before) → LeavesOnly g (disk_of old) (disk_of new) (StandsForEitherContents n before after)
    pub most_moment : g.keeps_model (disk_of new) → LeavesOnly g (disk_of old) (disk_of new) (SaysMostOf n (g.content (disk_of old)))
    pub most_now : g.keeps_model (disk_of new) → LeavesNow g (disk_of new) (SaysMostOf n (g.content (disk_of old)))

module _ {M : Type 0} {m : Levels.Ghosts M} {D E : Type 0} (g : Ghosts D) (h : Ghosts E) (old : Core D E M m) (sound : IsSoundCore g h old) where
  -- what is listed may be committed
  pub may_commit : (chosen : Chosen) → IsListed (picture_of old) (is_resized_by old) chosen → chosen.count ≤ always_free_in (kept_of old.store)
      → MayCommit old.store chosen.files (take chosen.count chosen.list)
  may_commit chosen listed few =
      let front = take chosen.count chosen.list in
      let c = picture_of old in
      let resized = is_resized_by old in
      let resized_at : (i f : ℕ) → slice_get chosen.files i ≡ Some f → is_resized_in old.store.sizes.items f ≡ true =
      λ i f at. ap resized (sym (get_or_from_slice_get chosen.files i f 0 at)) ∙ listed.lengths i (slice_get_within chosen.files i f at) in
      record {
        room = sound.room;
        some = (let some = listed.some in omega (arith, some, front_length chosen listed.few));
        rising = listed.rising;
        there = λ i f at. sound.ends.there f (resized_at i f at);
        resized = resized_at;
        pages = record {
          few = front_few c resized chosen (always_free_in (kept_of old.store)) listed few;
          distinct = λ i j p less at_i at_j. let b = some_get front j p at_j in front_once c resized chosen listed i j less b.0 (sym (some_get front i p at_i).1 ∙ b.1);
          inside = λ i p e.
              let r = some_get front i p e in
              sound.fit.places.inside (File p) (sound.fit.dirty.held (File p) (ap (λ q. c.touched (File q)) r.1 ∙ front_touched c resized chosen listed i r.0));
          durable = λ i p e none.
              let r = some_get front i p e in
              let low : i < chosen.count = (let less = r.0 in omega (arith, less, front_length chosen listed.few)) in
              let is : p ≡ chosen_page chosen.list i = r.1 ∙ front_same chosen i low in
              ap (λ (q : FilePage). resized q.file) is ∙ listed.others i low (sym (ap (λ (q : FilePage). is_one_of chosen.files q.file) is) ∙ none);
          ends = λ f one longer within.
              let p : FilePage = cut_off_page (directory_of old.store) f in
              let place = one_there chosen.files f one in
              let was = resized_at place.0 f place.1 in
              let at = listed.whole p one (sound.ends.ends f was longer within) in
              let i = at.0 in
              let low : i < length front = (let less = at.1 in omega (arith, less, front_length chosen listed.few)) in
              let is : chosen_page front i ≡ p = front_same chosen i at.1 ∙ at.2 in
              (i, chosen_page front i, slice_get-get_or front i first_page low, ap (λ (q : FilePage). q.file) is, ap (λ (q : FilePage). q.page) is);
        };
      }

  -- a file that is taken whole is one of these, and got another length
  module _ (s : State) (shows : CoreShows g old s) (pid first count : ℕ) (lengths : List ℕ) (same : (f : ℕ) → is_one_of lengths f ≡ resized_in s pid first count f) where
    was_resized : (f : ℕ) → is_one_of lengths f ≡ true → is_resized_in old.store.sizes.items f ≡ true
    was_resized f one = sym (shows.resized f) ∙ resized_of s pid first count f 0 (sym (same f) ∙ one)

    -- the files that are durable then
    pub files_taken : (f : ℕ) → (committed s pid first count s.durable).files f ≡ files_then old.store lengths f
    files_taken f =
        ap (λ (b : Bool). if b then s.files f else s.durable.files f) (sym (same f))
        ∙ either_same (is_one_of lengths f) (s.files f) (files_of old.store f) (s.durable.files f) (durable_files_of old.store f) (shows.pages.files f) (shows.files f)

    -- and the lengths that are known then
    pub sizes_after : (new : SizedStore D) → ((f k : ℕ) → touched_in s pid first count f k ≡ true → length (s.volatile f k) ≡ 4096) → AreSettled lengths old.store.sizes.items new.sizes.items
        → ((f : ℕ) → durable_files_of new f ≡ files_then old.store lengths f) → can_resize new ≡ can_resize old.store → ShowsSizes new (synced s pid first count)
    sizes_after new long settles durable resizes = record {
      files = λ f. files_taken f ∙ sym (durable f);
      whole = still_whole (picture_of old) s pid first count shows.pages (knows_lengths g h old s sound shows) long;
      resizes = shows.resizes ∙ sym resizes;
      resized = λ f. elim (cases_Bool (is_one_of lengths f)) [
        | inl one ↦ ap (λ (b : Bool). s.resized f && not b) (sym (same f) ∙ one) ∙ and-false (s.resized f) ∙ sym (resized_one old.store new lengths settles durable f one)
        | inr none ↦ ap (λ (b : Bool). s.resized f && not b) (sym (same f) ∙ none) ∙ and-true (s.resized f) ∙ shows.resized f ∙ sym (resized_other old.store new lengths settles durable f none)
      ];
      shortest = λ f. elim (cases_Bool (is_one_of lengths f)) [
        | inl one ↦ (
            let there = sound.ends.there f (was_resized f one) in
            ap (λ (b : Bool). if b then length_in (s.files f) else s.shortest f) (sym (same f) ∙ one) ∙ same_long (s.files f) (files_of old.store f) (shows.pages.files f)
            ∙ sym (shortest_one old.store new lengths settles durable f there.0 one (was_resized f one) there.1))
        | inr none ↦ ap (λ (b : Bool). if b then length_in (s.files f) else s.shortest f) (sym (same f) ∙ none) ∙ shows.shortest f ∙ sym (shortest_other old.store new lengths settles durable f none)
      ];
    }

module _ {M : Type 0} {m : Levels.Ghosts M} {D E : Type 0} (g : Ghosts D) (h : Ghosts E) where
  module _ (model lacks : Type 0) (old new : Core D E M m) (s : State) (after : Contents) (pid addr len : ℕ) (mode : MsyncMode) (chosen : Chosen) (shows : CoreShows g old s)
      (same : TakesSame s pid addr len mode chosen) (takes : commits s (Msync pid addr len mode) ≡ Some after)
      (store : StoreCommits g model (g.sector_count (disk_of old.store)) s.durable (committed s pid same.first same.count s.durable) old.store new.store) where
    abbrev size : ℕ
    size = g.sector_count (disk_of old.store)

    -- what says the pages of an msync that the old image says says those of the state
    says_most : g.keeps_model (disk_of new.store) → (c : Image) → SaysMostOf size (g.content (disk_of old.store)) c → SaysMost size s.most c
    says_most k c says = says ∙ shows.most_stands (store.kept k) (g.content (disk_of old.store)) (record { kept = λ i. inr refl })

    most_stands : g.keeps_model (disk_of new.store) → LeavesNow g (disk_of new.store) (SaysMost (g.sector_count (disk_of new.store)) s.most)
    most_stands k c may = subst (λ (x : ℕ). SaysMost x s.most c) (sym store.size) (says_most k c (store.most_now k c may))

    -- a commit that came to some end
    commit_ended : (reply : Reply) → IsEnd g h model lacks old new s (Msync pid addr len mode) reply → Commits g h model lacks old new s after (Msync pid addr len mode) reply
    commit_ended reply end =
        let done : Commits g h model lacks old new s (committed s pid same.first same.count s.durable) (Msync pid addr len mode) reply = record {
          end = end;
          files = store.files;
          size = store.size;
          kept = store.kept;
          either = λ k m. store.either k m (shows.stands (store.kept k));
          most_moments = λ k. weaker g (disk_of old.store) (disk_of new.store) (SaysMostOf size (g.content (disk_of old.store))) (SaysMost size s.most) (says_most k) (store.most_moment k);
        } in
        subst (λ (x : Contents). Commits g h model lacks old new s x (Msync pid addr len mode) reply) (after_is s after pid addr len mode chosen same takes) done

    pub commit_done : (g.keeps_model (disk_of new.store) → model → LeavesNow g (disk_of old.store) (StandsForContents (g.sector_count (disk_of old.store)) s.durable)
        → LeavesNow g (disk_of new.store) (StandsForContents (g.sector_count (disk_of old.store)) (committed s pid same.first same.count s.durable)))
        → ShowsPages (picture_of new) (synced s pid same.first same.count) → ShowsSizes new.store (synced s pid same.first same.count) → IsSoundCore g h new
        → Commits g h model lacks old new s after (Msync pid addr len mode) Done
    commit_done ok pages sizes sound =
        let t = synced s pid same.first same.count in
        let t_is : t ≡ (msync_outcome s (Flat.msync_ruling s pid addr len mode)).state = sym (ap (λ (r : Flat.Ruling). (msync_outcome s r).state) same.ruling) in
        let now : model → CoreShows g new t = λ m. record {
          pages = pages;
          files = sizes.files;
          whole = sizes.whole;
          resizes = sizes.resizes;
          resized = sizes.resized;
          shortest = sizes.shortest;
          most = shows.most ∙ sym store.always;
          stands = λ k c may. subst (λ (x : ℕ). StandsForContents x t.durable c) (sym store.size) (ok k m (shows.stands (store.kept k)) c may);
          most_stands = most_stands;
        } in
        commit_ended Done (Acknowledged refl (subst (λ (x : State). ShowsPages (picture_of new) x) t_is pages) (subst (λ (x : State). model → CoreShows g new x) t_is now) sound)

    pub commit_failed : KeepsMemory old new → g.failures (disk_of old.store) < g.failures (disk_of new.store) → Commits g h model lacks old new s after (Msync pid addr len mode) (Refused EIO)
    commit_failed memory grew = commit_ended (Refused EIO) (Failed refl grew memory)

    -- the state is shown still where nothing became durable
    still_shows : directory_of new.store ≡ directory_of old.store → can_resize new.store ≡ can_resize old.store → ShowsPages (picture_of new) s
        → (g.keeps_model (disk_of new.store) → LeavesNow g (disk_of new.store) (StandsForContents (g.sector_count (disk_of old.store)) s.durable)) → CoreShows g new s
    still_shows directory resizes pages now =
        let was : ShowsSizes old.store s = search rules in
        let sizes = sizes_same old.store new.store s directory resizes was in
        record {
          pages = pages;
          files = sizes.files;
          whole = sizes.whole;
          resizes = sizes.resizes;
          resized = sizes.resized;
          shortest = sizes.shortest;
          most = shows.most ∙ sym store.always;
          stands = λ k c may. subst (λ (x : ℕ). StandsForContents x s.durable c) (sym store.size) (now k c may);
          most_stands = most_stands;
        }

    pub commit_unread : KeepsMemory old new → h.failures old.swap.pages.disk < h.failures new.swap.pages.disk → can_resize new.store ≡ can_resize old.store → ShowsPages (picture_of new) s → IsSoundCore g h new
        → (g.keeps_model (disk_of new.store) → LeavesNow g (disk_of old.store) (StandsForContents (g.sector_count (disk_of old.store)) s.durable)
        → LeavesNow g (disk_of new.store) (StandsForContents (g.sector_count (disk_of old.store)) s.durable))
        → (g.keeps_model (disk_of new.store) → LeavesNow g (disk_of old.store) (StandsForContents (g.sector_count (disk_of old.store)) s.durable)
        → LeavesOnly g (disk_of old.store) (disk_of new.store) (StandsForContents (g.sector_count (disk_of old.store)) s.durable))
        → Commits g h model lacks old new s after (Msync pid addr len mode) (Stalled SwapDevice)
    commit_unread memory grew resizes pages sound now moments =
        let still = still_shows memory.directory resizes pages (λ k. now k (shows.stands (store.kept k))) in
        commit_ended (Stalled SwapDevice) (Unread refl grew memory still sound (λ k. moments k (shows.stands (store.kept k))))

    -- where the store has no room
    pub commit_lacking : KeepsAll old new → IsSoundCore g h old → are_some chosen.files ≡ true → lacks → ShowsPages (picture_of new) s → IsSoundCore g h new
        → Commits g h model lacks old new s after (Msync pid addr len mode) (Refused ENOSPC)
    commit_lacking keeps before some lack pages sound =
        let kept : kept_of new.store ≡ kept_of old.store = ap (λ (x : Store D). Durable.kept_of x) keeps.store in
        let still = still_shows (same_directory keeps) (ap can_resize_in kept) pages
        (subst (λ (x : Store D). g.keeps_model (Durable.disk_of x) → LeavesNow g (Durable.disk_of x) (StandsForContents size s.durable)) (sym keeps.store) shows.stands) in
        let taken : commits_lengths s (Msync pid addr len mode) ≡ true =
        ap (takes_lengths s) same.ruling ∙ sym (shown_some old before.ends s pid same.first same.count chosen.files shows.resized same.files (λ f is. resized_of s pid same.first same.count f 0 is)) ∙ some in
        commit_ended (Refused ENOSPC) (Lacking refl taken lack keeps still sound)

  -- the same under a stronger premise, and with less room lacking
  end_under : (model more lacks less : Type 0) (old new : Core D E M m) (s : State) (pid addr len : ℕ) (mode : MsyncMode) (reply : Reply) → (more → model) → (lacks → less)
      → IsEnd g h model lacks old new s (Msync pid addr len mode) reply → IsEnd g h more less old new s (Msync pid addr len mode) reply
  end_under model more lacks less old new s pid addr len mode reply from lack (Acknowledged is pages shows sound) = Acknowledged is pages (λ m. shows (from m)) sound
  end_under model more lacks less old new s pid addr len mode reply from lack (Failed is grew memory) = Failed is grew memory
  end_under model more lacks less old new s pid addr len mode reply from lack (Unread is grew memory shows sound moments) = Unread is grew memory shows sound moments
  end_under model more lacks less old new s pid addr len mode reply from lack (Lacking is taken lacking keeps shows sound) = Lacking is taken (lack lacking) keeps shows sound

  pub commits_under : (model more lacks less : Type 0) (old new : Core D E M m) (s : State) (after : Contents) (pid addr len : ℕ) (mode : MsyncMode) (reply : Reply) → (more → model) → (lacks → less)
      → Commits g h model lacks old new s after (Msync pid addr len mode) reply → Commits g h more less old new s after (Msync pid addr len mode) reply
  commits_under model more lacks less old new s after pid addr len mode reply from lack c = let end = end_under model more lacks less old new s pid addr len mode reply from lack c.end in search rules
