-- A commit of changes: new pages where they are to stand, and then what goes into slots.
use Rattle.std.proofs.Common.{◌≡◌, ◌⊎◌, ◌≤◌, ◌<◌, ◌+◌, ◌-◌, ◌*◌, ◌&&◌, ◌++◌, ◌∷◌, [], ℕ, zero, suc, Bool, true, false, List, Option, Some, None, Result, Ok, Err, OnOk, IsErr, IsErrAnd, IsErrOf, length, map, get_or, vec_capacity, refl, sym, ap, subst, ◌∙◌, ⊎_elim, inl, inr, arith, if◌then◌else◌}
use Rattle.std.proofs.lemmas.{Bool.{cases_Bool, cond-true, le-leb, ltb-false}, List.{get_or_append_left, length-append}, Option.{slice_get_within}, Result.{on_ok_weaker}}
use Rattle.std.specs.{List.Sorted.{IsPermutation, IsNonDecreasingBy}, Prelude.{nat_le}}
use Rattle.vm_types.specs.declared.{file.FileInfo.{FileInfo}, file.FilePage.{FilePage}}
use Rattle.disk_model.{proofs.Moments.{asks_then, asks_wider, holds_now, joined, then, weaker, wider}, specs.{Moments.{AsksOnly, LeavesNow, LeavesOnly, Touches}, Sectors.{part_of}, Stop.{Image, MayLeave}, declared.sector_disk.SectorDisk.{Ghosts}}}
use Rattle.directories.{proofs.Owned.{gives_homes}, specs.{Kinds.{IsDirectorySize, IsKind}, declared.entry.Entry.{Entry}}}
use Rattle.file_store.{proofs.Reading.{has_content}, specs.Asking.{asks_more}}
use Rattle.growth.specs.declared.changes.Change.{Change}
use Rattle.pool_growth.proofs.{After.{late_front, says_then, stands_after, stands_before}, Directory.{are_changed}, New.{front_not_new}, Numbered.{all_fresh}, Ordering.{are_placed_then, ArePlacedThen}, Settled.{is_error_of, ready_once_synced, settles}, Slotted.{both_rise, each_of_both, late_staged}}
use Rattle.pool_growth.specs.{Asked.{changed_pages, entries_then, is_changed, AreFileChanges, AreKeptPages, AreNewPages}, Commit.{ChangesInBlocks, CommitsPutting, IsChangeAsked, IsChangedSector, StandsForOneOf}, Files.{added_count, files_after, ChangesFiles}, Front.{AreChangedPages}, Late.{take_slots, given_places, late_homes, late_page, put_count, slot_count, HasSlotsForAll, IsGiven, MayPut}, declared.front.ChangeRoom.{ChangeRoom}}
use Rattle.pool_growth.specs.Putting.{home_then, is_sparse, IsBroughtSector, IsNewHome, IsNewSector, LeavesOtherHomes, OthersAreBlank, PutsNewPages}
use Rattle.pool_journal.{proofs.Free.{free_most}, specs.{Committing.{CommitsInPool, IsPoolStaged}, Gates.{IsPoolGate}, Giving.{AreRising}, Journal.{free_count, IsPoolJournal}, Maps.{entries_of}, Pools.{pool, pool_gate, pool_home, pool_home_count, pool_standing, IsLoose, IsPoolRest}, Sizes.{HasPool}}}
use Rattle.pool_journal.specs.declared.{map.SlotMap.{SlotMap}, pool.PoolJournal.{PoolJournal}, sizes.PoolSizes.{PoolSizes}}
use Rattle.pool_store.{proofs.{Ordered.{page_is}, Ready.{in_blocks_weaker, ready_with}}, specs.{Files.{StandsFor}, Places.{index_at, number_of}, Pools.{AreEntries, AreSaid, files_in_pool, pool_mark}, Store.{HasCommitRoom, IsDirectoryOn, IsReadyPool, info_by}}}
use Rattle.pool_store.specs.declared.{directory.Directory.{Directory}, room.{CommitRoom.{CommitRoom}, Place.{Place}}, store.PoolStore.{PoolStore}}
use Rattle.sync_journal.proofs.{Causes.{told_on, told_was}, Shared.{blocks_weaker}}
use Rattle.sync_journal.specs.{Blocks.{LeavesInBlocks}, Commit.{changed}, Committing.{HomesStandOr}, Layouts.{HomesStandAs, IsKept, StandsForPages}, Map.{home_rank}, Source.{Asks, HasCauses}}
use Rattle.sync_journal.specs.declared.{faults.CommitFault.{CommitFault, TheVariants.{Source}}, source.PageSource.{Ghosts as SourceGhosts}}

-- the changed pages of a directory rise
changed_rise : (changes : List Change) (n : ℕ) → AreRising (changed_pages changes n)
unfolding changed_pages
changed_rise changes zero = λ i j less none. absurd (omega (arith, none))
changed_rise changes (suc n) = by_case (changed_rise changes n) (is_changed changes n)
  where
    low : (j : ℕ) → j < length (changed_pages changes n) → get_or (changed_pages changes n) j 0 < n
    low j below = (are_changed changes n j below).0

    last_at : (j : ℕ) → j < length (n ∷ []) → n ≤ get_or (n ∷ []) j 0
    last_at j below = let first : j ≡ 0 = omega (arith, below) in let at : get_or (n ∷ []) j 0 ≡ n = ap (λ k. get_or (n ∷ []) k 0) first in omega (arith, at)

    by_case : AreRising (changed_pages changes n) → (b : Bool) → AreRising (changed_pages changes n ++ (if b then n ∷ [] else []))
    by_case rises true = both_rise (changed_pages changes n) (n ∷ []) n low last_at rises (λ i j less below. absurd (omega (arith, less, below)))
    by_case rises false = both_rise (changed_pages changes n) [] n low (λ j none. absurd (omega (arith, none))) rises (λ i j less none. absurd (omega (arith, none)))

-- nothing is asked of a fault
pub at_fault : (P : Type 0) (result : Result (Unit {0}) CommitFault) → IsErr result → OnOk result P
at_fault P (Ok done) is = let none : false ≡ true = is in cc
at_fault P (Err fault) is = tt

-- a fault is told as it came
pub told_as : (fault : CommitFault) (result : Result (Unit {0}) CommitFault) → IsErrAnd result (λ e. e ≡ fault) → ◌≡◌ {A = Result (Unit {0}) CommitFault} (Err fault) result
told_as fault (Ok done) is = absurd is
told_as fault (Err e) is = ap Err (sym is)

-- How many new pages are put where they are to stand:
module _ {D : Type 0} (store : PoolStore D) (changes : List Change) (fresh list : List FilePage) where
  abbrev free : ℕ
  free = free_count store.journal.sizes.blocks (entries_of store.journal.map)

  abbrev added : ℕ
  added = length fresh

  abbrev all : ℕ
  all = slot_count store.directory changes fresh list 0

  abbrev takes : Bool
  takes = take_slots store changes fresh list

  -- they are new ones,
  pub put_low : (put : ℕ) → MayPut store changes fresh list put → put ≤ length fresh
  put_low put may = ⊎_elim (λ all. omega (arith, all)) (λ none. (let nothing = none.0 in omega (arith, nothing))) may

  -- and what goes into slots has them;
  pub put_fits : (put : ℕ) → MayPut store changes fresh list put → AreKeptPages store changes list → slot_count store.directory changes fresh list put ≤ free
  put_fits put may kept = ⊎_elim
      (λ all. (let few = kept.few in omega (arith, all, few)))
      (λ none. subst (λ n. slot_count store.directory changes fresh list n ≤ free) (sym none.0) none.1)
      may

  -- and none is, where they are few, and slots are free for all of it.
  pub put_none : length fresh ≤ 128 → HasSlotsForAll store changes fresh list → put_count store changes fresh list ≡ 0
  put_none few fit = cond-true takes 0 added (ap (λ b. b && nat_le all free) (le-leb added 128 few) ∙ le-leb all free fit)

  pub late_few : (put : ℕ) → MayPut store changes fresh list put → AreKeptPages store changes list → slot_count store.directory changes fresh list put ≤ 1008 * store.journal.sizes.blocks
  late_few put may kept = let most = free_most store.journal.sizes.blocks (entries_of store.journal.map) in let few = put_fits put may kept in omega (arith, most, few)

  pub list_few : AreKeptPages store changes list → length list ≤ 1008 * store.journal.sizes.blocks
  list_few kept = let most = free_most store.journal.sizes.blocks (entries_of store.journal.map) in let few = kept.few in omega (arith, most, few)

-- what a stop may leave now it might have left since any earlier moment
abbrev CountsNow : {D : Type 0} → Ghosts D → Type 0
CountsNow {D} g = (d : D) (t : ℕ) (image : Image) → g.keeps_model d → t ≤ g.moment d → MayLeave (g.content d) (g.unsynced d) image → g.left_since d t image

-- there is room where there is as much as there was
pub room_stays : {D : Type 0} (store : PoolStore D) (room : CommitRoom) → HasCommitRoom store.journal.sizes.blocks store.room
    → (vec_capacity room.places ≡ vec_capacity store.room.places) × (vec_capacity room.homes ≡ vec_capacity store.room.homes) → HasCommitRoom store.journal.sizes.blocks room
room_stays store room has same = (omega (arith, has.0, same.0), omega (arith, has.1, same.1))

-- What a commit lists for slots:
pub record AreLate (directory : Directory) (changes : List Change) (fresh list : List FilePage) (put : ℕ) (places : List Place) (front : List (List ℕ)) (homes : List ℕ) : Type 0 where
  -- pages of files, by their homes,
  pub placed : ArePlacedThen directory changes fresh list put places (map (λ place. place.home) places)
  -- the changed pages of the directory,
  pub fronts : AreChangedPages directory changes front
  -- and the homes of both.
  pub homes_are : homes ≡ late_homes directory changes places

-- places in order, and the lists of a room
pub are_late : {D : Type 0} (store : PoolStore D) (changes : List Change) (fresh list : List FilePage) → IsDirectoryOn store.journal.sizes.homes store.directory
    → AreFileChanges store.journal.sizes.homes store.directory changes → AreNewPages (info_by store.directory) changes fresh → AreKeptPages store changes list
    → (put : ℕ) (firsts : List Place) → IsPermutation (given_places store.directory changes fresh list put) firsts → IsNonDecreasingBy (λ (place : Place). place.home) firsts
    → (places : List Place) → places ≡ firsts
    → (listed room : ChangeRoom) → listed.homes.items ≡ changed_pages changes store.directory.pages → AreChangedPages store.directory changes listed.pages.items
    → room.homes.items ≡ listed.homes.items ++ map (λ place. place.home) places → room.pages ≡ listed.pages
    → (front : List (List ℕ)) (homes : List ℕ) → front ≡ room.pages.items → homes ≡ room.homes.items → AreLate store.directory changes fresh list put places front homes
are_late store changes fresh list on are given kept put firsts order rising places is listed room changed pages all same front homes front_is homes_are =
    let directory = store.directory in
    record {
      placed = subst (λ (xs : List Place). ArePlacedThen directory changes fresh list put xs (map (λ (place : Place). place.home) xs)) (sym is)
          (are_placed_then store.journal.sizes.homes directory on changes are fresh given list kept.before kept.after kept.distinct put firsts order rising);
      fronts = subst (λ (pages : List (List ℕ)). AreChangedPages directory changes pages) (sym (front_is ∙ ap (λ pages. pages.items) same)) pages;
      homes_are = homes_are ∙ all ∙ ap (λ (own : List ℕ). own ++ map (λ (place : Place). place.home) places) changed;
    }

module _ (n : ℕ) (directory : Directory) (on : IsDirectoryOn n directory) (changes : List Change) (are : AreFileChanges n directory changes) (fresh list : List FilePage) (put : ℕ)
    (places : List Place) (front : List (List ℕ)) (homes : List ℕ) (late : AreLate directory changes fresh list put places front homes) where
  abbrev own : List ℕ
  own = changed_pages changes directory.pages

  abbrev others : List ℕ
  others = map (λ place. place.home) places

  behind : (j : ℕ) → j < length others → (directory.pages ≤ get_or others j 0) × (get_or others j 0 < n)
  behind j below =
      let each = late.placed.each j below in
      (gives_homes directory.pages n (entries_then directory changes) are.may.good).within each.0.file each.0.page (get_or others j 0) each.2

  -- The homes rise,
  pub late_rise : AreRising homes
  late_rise = subst (λ (xs : List ℕ). AreRising xs) (sym late.homes_are)
      (both_rise own others directory.pages (λ j below. (are_changed changes directory.pages j below).0) (λ j below. (behind j below).0) (changed_rise changes directory.pages) late.placed.rising)

  -- the device has them,
  pub late_inside : (j : ℕ) → j < length homes → get_or homes j 0 < n
  late_inside = subst (λ (xs : List ℕ). (j : ℕ) → j < length xs → get_or xs j 0 < n) (sym late.homes_are) (each_of_both own others (λ h. h < n)
      (λ j below. (let less = (are_changed changes directory.pages j below).0 in let inside = on.inside in omega (arith, less, inside))) (λ j below. (behind j below).1))

  -- and there are so many.
  pub late_long : length homes ≡ slot_count directory changes fresh list put
  late_long = let both = ap (λ (xs : List ℕ). length xs) late.homes_are in let long = length-append own others in let size = late.placed.size in omega (arith, both, long, size)

  -- a source that gives its pages from `put` on gives all of it
  pub late_gives : put ≤ length fresh → (Gives : ℕ → Type 0) → ((i : ℕ) → i < length fresh + length list → Gives i)
      → (j : ℕ) → j < length homes → (j < length front + length places) × (length front ≤ j → IsGiven directory changes fresh list (put + index_at places (j - length front)) × Gives (put + index_at places (j - length front)))
  late_gives low Gives gives j below =
      let long = late_long in
      let as_many = late.fronts.long in
      let count = late.placed.count in
      let size = late.placed.size in (
        omega (arith, long, as_many, count, below),
        λ from. (
            let k : ℕ = j - length front in
            let inside = late.placed.inside k (omega (arith, long, as_many, size, below, from)) in
            let within : put + index_at places k < length fresh + length list = omega (arith, inside, low) in
            (((n, are), within), gives (put + index_at places k) within)),
      )

-- The store is ready again, with another directory.
module _ {D : Type 0} (g : Ghosts D) (store : PoolStore D) (disk : D) (journal : PoolJournal) (directory : Directory) (room : CommitRoom) where
  ready_then : IsReadyPool g store → IsPoolJournal journal → journal.sizes ≡ store.journal.sizes → g.sector_count disk ≡ g.sector_count store.disk → HasCommitRoom store.journal.sizes.blocks room
      → (entries : List (Option Entry)) → directory.pages ≡ store.directory.pages → directory.entries.items ≡ entries → AreEntries store.directory.pages store.journal.sizes.homes entries
      → (g.keeps_model disk → IsPoolRest g store.journal.sizes.blocks store.journal.sizes.homes journal.second (entries_of journal.map) disk)
      → (g.keeps_model disk → (g.content disk 0 ≡ pool_mark) × IsKind store.journal.sizes.blocks store.directory.pages (g.content disk 1))
      → (g.keeps_model disk → AreSaid store.directory.pages (pool_standing store.journal.sizes.blocks store.journal.sizes.homes (g.content disk)) entries)
      → IsReadyPool g (record { disk = disk; journal = journal; directory = directory; room = room })
  ready_then ready is same size has entries pages items may rest head said = record {
    is = record {
      is_journal = is;
      pool = subst (λ (sizes : PoolSizes). HasPool g sizes disk) (sym same) (record {
        sized = ready.pool.sized;
        room = subst (λ count. pool_home store.journal.sizes.blocks 0 ≤ count) (sym size) ready.pool.room;
        homes = ready.pool.homes ∙ ap (pool_home_count store.journal.sizes.blocks) (sym size);
      });
      is_directory = subst (λ (sizes : PoolSizes). IsDirectoryOn sizes.homes directory) (sym same) (record {
        sized = subst IsDirectorySize (sym pages) ready.is_directory.sized;
        inside = subst (λ p. p ≤ store.journal.sizes.homes) (sym pages) ready.is_directory.inside;
        may = subst (λ p. AreEntries p store.journal.sizes.homes directory.entries.items) (sym pages) (subst (λ (es : List (Option Entry)). AreEntries store.directory.pages store.journal.sizes.homes es) (sym items) may);
      });
      at_rest = λ keeps. record {
        rest = subst (λ (sizes : PoolSizes). IsPoolRest g sizes.blocks sizes.homes journal.second (entries_of journal.map) disk) (sym same) (rest keeps);
        mark = (head keeps).0;
        kind = subst (λ (sizes : PoolSizes). IsKind sizes.blocks directory.pages (g.content disk 1)) (sym same) (subst (λ p. IsKind store.journal.sizes.blocks p (g.content disk 1)) (sym pages) (head keeps).1);
        said = subst (λ (sizes : PoolSizes). AreSaid directory.pages (pool_standing sizes.blocks sizes.homes (g.content disk)) directory.entries.items) (sym same)
            (subst (λ p. AreSaid p (pool_standing store.journal.sizes.blocks store.journal.sizes.homes (g.content disk)) directory.entries.items) (sym pages)
            (subst (λ (es : List (Option Entry)). AreSaid store.directory.pages (pool_standing store.journal.sizes.blocks store.journal.sizes.homes (g.content disk)) es) (sym items) (said keeps)));
      };
    };
    room = subst (λ (sizes : PoolSizes). HasCommitRoom sizes.blocks room) (sym same) has;
  }

-- A source gives what goes into slots, from another one:
pub record GivesLate {S L : Type 0} (s : SourceGhosts S) (l : SourceGhosts L) (front : ℕ) (pages : (ℕ → List ℕ) → ℕ → List ℕ) (from left : S) (late spent : L) : Type 0 where
  -- these pages, out of the other's,
  pub pages_are : l.pages late ≡ pages (s.pages from)
  -- sure of those in front, which it has itself,
  pub sure : (j : ℕ) → j < front → l.sure late j
  -- with the other's model and failures,
  pub keeps : s.keeps_model left → l.keeps_model spent
  pub failed : l.failures late ≡ s.failures from
  pub fails : l.failures spent ≡ s.failures left
  -- and asks that one for pages alone.
  pub asks : Asks s from left

module _ {D S : Type 0} (g : Ghosts D) (s : SourceGhosts S) (store : PoolStore D) (changes : List Change) (fresh list : List FilePage) (from : S)
    (ready : IsReadyPool g store) (are : AreFileChanges store.journal.sizes.homes store.directory changes) (new_ones : AreNewPages (info_by store.directory) changes fresh) (put : ℕ) (may_put : MayPut store changes fresh list put) where
  abbrev m : ℕ
  m = store.journal.sizes.blocks

  abbrev n : ℕ
  n = store.journal.sizes.homes

  abbrev sectors : ℕ
  sectors = g.sector_count store.disk

  abbrev old : Image
  old = g.content store.disk

  -- an image whose other homes are as they were
  abbrev Others : Image → Type 0
  Others = LeavesOtherHomes m n (IsNewHome store.directory changes) old

  abbrev IsNew : ℕ → Type 0
  IsNew = IsNewSector store.journal store.directory changes

  abbrev IsBrought : ℕ → Type 0
  IsBrought = IsBroughtSector store.journal store.directory changes fresh put

  low : put ≤ length fresh
  low = put_low store changes fresh list put may_put

  abbrev IsAsked : ℕ → Type 0
  IsAsked = IsChangeAsked store changes fresh list put

  abbrev Stands : (ℕ → Option FileInfo) → (ℕ → ℕ → List ℕ) → Image → Type 0
  Stands = StandsFor (files_in_pool m store.directory.pages n) sectors

  abbrev OneOf : (ℕ → Option FileInfo) → (ℕ → ℕ → List ℕ) → (ℕ → ℕ → List ℕ) → Image → Type 0
  OneOf files before after = StandsForOneOf (files_in_pool m store.directory.pages n) sectors files before (files_after files changes) after

  said : g.keeps_model store.disk → AreSaid store.directory.pages (pool_standing m n old) store.directory.entries.items
  said keeps = (ready.at_rest keeps).said

  as_before : g.keeps_model store.disk → (files : ℕ → Option FileInfo) (before : ℕ → ℕ → List ℕ) → LeavesNow g store.disk (Stands files before) → (image : Image) → Others image → Stands files before image
  as_before keeps files before left image others = stands_before n store.directory ready.is_directory changes are m sectors old (said keeps) image others files before (has_content g store.disk (Stands files before) left)

  -- New pages are put.
  module _ (mid : D) (between : S) (told : Result (Unit {0}) CommitFault) (puts : PutsNewPages g s store.journal store.directory changes fresh put store.disk mid from between told) where
    put_moments : g.keeps_model mid → (files : ℕ → Option FileInfo) (before : ℕ → ℕ → List ℕ) → LeavesNow g store.disk (Stands files before) → LeavesOnly g store.disk mid (Stands files before)
    put_moments keeps files before left = weaker g store.disk mid Others (Stands files before) (as_before (puts.kept keeps) files before left) (puts.any_moment keeps)

    put_blocks : g.keeps_model mid → (files : ℕ → Option FileInfo) (before after : ℕ → ℕ → List ℕ) → LeavesNow g store.disk (Stands files before) → LeavesInBlocks g IsNew (OneOf files before after) store.disk mid
    put_blocks keeps files before after left = blocks_weaker g IsNew Others (OneOf files before after) store.disk mid (λ image others. inl (as_before (puts.kept keeps) files before left image others)) (puts.blocks keeps)

    beside : g.keeps_model mid → Others (g.content mid)
    beside keeps = let run = puts.blocks keeps in run.each mid run.writes (g.content mid) (record { kept = λ k. inr refl })

  -- A fault was told.
  pub not_put : CountsNow g → (mid : D) (between : S) (fault : CommitFault) → PutsNewPages g s store.journal store.directory changes fresh put store.disk mid from between (Err fault)
      → (result : Result (Unit {0}) CommitFault) → IsErrAnd result (λ e. e ≡ fault) → CommitsPutting g s put store (record { disk = mid; journal = store.journal; directory = store.directory; room = store.room }) changes fresh list from between result
  not_put now mid between fault puts (Ok done) is = absurd is
  not_put now mid between fault puts (Err e) is = record {
    ok = λ keeps given files before after left change. tt;
    synced = λ keeps. tt;
    ready = tt;
    files = tt;
    room = tt;
    any_moment = λ keeps given files before after left change. weaker g store.disk mid (Stands files before) (OneOf files before after) (λ image was. inl was) (put_moments mid between (Err fault) puts keeps files before left);
    blocks = λ keeps given files before after left change. inl (put_blocks mid between (Err fault) puts keeps files before after left);
    source = λ keeps told files before left. put_moments mid between (Err fault) puts keeps files before left;
    source_now = λ keeps told files before left. holds_now g store.disk mid (Stands files before) (λ t image le may. now mid t image keeps le may) (put_moments mid between (Err fault) puts keeps files before left);
    room_after_source = λ told. refl;
    settles_after_source = λ told. settles g store ready changes are mid puts.size puts.kept (beside mid between (Err fault) puts) puts.rest_once_synced;
    ready_after_source = λ told none. absurd (puts.some (told_was fault Source (Err e) is told) none);
    files_after_error = λ told. refl;
    sizes = refl;
    pages = refl;
    size = puts.size;
    kept = puts.kept;
    asks = puts.asks;
    asks_device = asks_wider g IsBrought IsAsked store.disk mid (λ k at. inl at) puts.asks_device;
    touches = λ keeps. wider g IsNew (IsChangedSector store changes) store.disk mid (λ k at. inl at) (puts.touches keeps);
    causes = told_on (g.failures store.disk) (g.failures mid) (s.failures from) (s.failures between) fault (Err e) is puts.causes;
  }

  -- They are, and the rest is committed.
  module _ (kept : AreKeptPages store changes list) (mid : D) (between : S) (puts : PutsNewPages g s store.journal store.directory changes fresh put store.disk mid from between (Ok (tt {0})))
      (places : List Place) (front : List (List ℕ)) (homes : List ℕ) (lists : AreLate store.directory changes fresh list put places front homes)
      {L : Type 0} (l : SourceGhosts L) (left : S) (late spent : L)
      (gives : GivesLate s l (length front) (late_page store.directory changes fresh list front places put) between left late spent) where
    abbrev Pages : (ℕ → List ℕ) → ℕ → List ℕ
    Pages = late_page store.directory changes fresh list front places put

    abbrev all_homes : List ℕ
    all_homes = late_homes store.directory changes places

    abbrev After : (ℕ → List ℕ) → ℕ → ℕ → List ℕ
    After pages = changed (pool_standing m n (g.content mid)) all_homes pages

    all_long : length all_homes ≡ slot_count store.directory changes fresh list put
    all_long = sym (ap (λ (hs : List ℕ). length hs) lists.homes_are) ∙ late_long n store.directory ready.is_directory changes are fresh list put places front homes lists

    mid_beside : g.keeps_model mid → Others (g.content mid)
    mid_beside = beside mid between (Ok (tt {0})) puts

    -- New pages that are not given are zeros, where there are some.
    are_blank : g.keeps_model mid → OthersAreBlank m n store.directory changes fresh (length fresh) (g.content mid)
    are_blank keeps h j its other small = ⊎_elim
        (λ sparse. puts.blanks keeps sparse h j its (λ i below. other i (omega (arith, below, low))) small)
        (λ none.
        let all : added_count (info_by store.directory) changes ≤ length fresh = ltb-false (length fresh) (added_count (info_by store.directory) changes) none in
        let at = all_fresh (info_by store.directory) changes fresh new_ones all its.0.file its.0.page its.1 in
        absurd (other at.0 (slice_get_within fresh at.0 at.1 at.2)
        (ap (λ (o : Option FilePage). number_of (home_then store.directory changes o)) (at.2 ∙ ap Some (page_is at.1 its.0.file its.0.page at.3 at.4)) ∙ ap number_of its.2)))
        (cases_Bool (is_sparse store.directory changes fresh))

    -- what the source gives it gave from the beginning
    pages_are : s.keeps_model left → l.pages late ≡ Pages (s.pages from)
    pages_are given = gives.pages_are ∙ ap Pages (λ t k. puts.asks.same (gives.asks.kept given) k t)

    -- what stands as it did then,
    still : g.keeps_model mid → (count : ℕ) (image : Image) → HomesStandAs (pool m n) count (g.content mid) image → Others image
    still keeps count image alike = let was = mid_beside keeps in record { stands = λ h i other below. alike.stands.each h i below ∙ was.stands h i other below; outside = λ k out. alike.outside k out ∙ was.outside k out }

    -- and what has the rest
    has_rest : s.keeps_model left → (count : ℕ) (image : Image) → IsKept (pool m n) count (g.content mid) (StandsForPages (pool m n) (After (l.pages late))) image
        → IsKept (pool m n) sectors (g.content mid) (StandsForPages (pool m n) (After (Pages (s.pages from)))) image
    has_rest given count image alike = record { stands = record { each = λ h i below. alike.stands.each h i below ∙ ap (λ pages. After pages h i) (pages_are given) }; journal = λ bad. bad; outside = alike.outside }

    as_after : g.keeps_model mid → s.keeps_model left → (files : ℕ → Option FileInfo) (before after : ℕ → ℕ → List ℕ) → LeavesNow g store.disk (Stands files before) → ChangesFiles files changes fresh list (s.pages from) before after
        → (count : ℕ) (image : Image) → IsKept (pool m n) count (g.content mid) (StandsForPages (pool m n) (After (l.pages late))) image → Stands (files_after files changes) after image
    as_after keeps given files before after now change count image alike = stands_after n store.directory ready.is_directory changes are m sectors old (said (puts.kept keeps)) fresh new_ones list kept.ends put low
        places (map (λ place. place.home) places) lists.placed front lists.fronts (s.pages from) (g.content mid) (mid_beside keeps) (puts.puts keeps (gives.asks.kept given)) (are_blank keeps) image
        (has_rest given count image alike) files before after (has_content g store.disk (Stands files before) now) change

    -- The directory is said where its changed pages stand as they are in memory, and the others as they did.
    says_after : g.keeps_model mid → (image : Image)
        → ((j i : ℕ) → j < length all_homes → i < 8 → l.sure late j → pool_standing m n image (get_or all_homes j 0) i ≡ part_of (l.pages late j) i)
        → ((h i : ℕ) → home_rank all_homes h ≡ None → i < 8 → pool_standing m n image h i ≡ pool_standing m n (g.content mid) h i)
        → AreSaid store.directory.pages (pool_standing m n image) (entries_then store.directory changes)
    says_after keeps image sure others = says_then n store.directory ready.is_directory changes are m sectors old (said (puts.kept keeps)) fresh new_ones list kept.ends put low
        places (map (λ place. place.home) places) lists.placed front lists.fronts (s.pages from) (g.content mid) (mid_beside keeps) image
        (λ h j i at below is small.
        let own : List ℕ = changed_pages changes store.directory.pages in
        let first : j < length front = omega (arith, below, lists.fronts.long) in
        let inside : j < length all_homes = omega (arith, below, length-append own (map (λ place. place.home) places)) in
        let home : get_or all_homes j 0 ≡ h = get_or_append_left own (map (λ place. place.home) places) 0 j below ∙ is in
        let page : l.pages late j ≡ get_or front j [] = ap (λ (pages : ℕ → List ℕ). pages j) gives.pages_are ∙ late_front store.directory changes fresh list front places put (s.pages between) j first in
        ap (λ (k : ℕ). pool_standing m n image k i) (sym home) ∙ sure j i inside small (gives.sure j first) ∙ ap (λ (bytes : List ℕ). part_of bytes i) page)
        (λ h i none inside small. others h i none small ∙ (mid_beside keeps).stands h i (front_not_new n store.directory ready.is_directory changes are h inside) small)

    as_one : g.keeps_model mid → s.keeps_model left → (files : ℕ → Option FileInfo) (before after : ℕ → ℕ → List ℕ) → LeavesNow g store.disk (Stands files before) → ChangesFiles files changes fresh list (s.pages from) before after
        → (image : Image) → HomesStandOr (pool m n) (g.sector_count mid) all_homes (l.pages late) (g.content mid) image → OneOf files before after image
    as_one keeps given files before after now change image alike = ⊎_elim
        (λ stands. inl (as_before (puts.kept keeps) files before now image (still keeps (g.sector_count mid) image (record { stands = stands; journal = alike.journal; outside = alike.outside }))))
        (λ stands. inr (as_after keeps given files before after now change (g.sector_count mid) image (record { stands = stands; journal = alike.journal; outside = alike.outside })))
        alike.stands

    module _ (new : D) (journal : PoolJournal) (directory : Directory) (room : CommitRoom) (result : Result (Unit {0}) CommitFault)
        (commits : CommitsInPool g l store.journal journal all_homes mid new late spent result) where
      abbrev Either : Image → Type 0
      Either = HomesStandOr (pool m n) (g.sector_count mid) all_homes (l.pages late) (g.content mid)

      causes : HasCauses (g.failures store.disk) (g.failures new) (s.failures from) (s.failures left) result
      causes = subst (λ a. HasCauses a (g.failures new) (s.failures from) (s.failures left) result) puts.causes.device_calm
          (subst (λ x. HasCauses (g.failures mid) (g.failures new) x (s.failures left) result) (gives.failed ∙ puts.causes.source_calm)
          (subst (λ y. HasCauses (g.failures mid) (g.failures new) (l.failures late) y result) gives.fails commits.causes))

      touches : g.keeps_model new → Touches g (IsChangedSector store changes) store.disk new
      touches keeps = (then) g (IsChangedSector store changes) store.disk mid new
          (wider g IsNew (IsChangedSector store changes) store.disk mid (λ k at. inl at) (puts.touches (commits.kept keeps)))
          (wider g (λ k. IsPoolGate k ⊎ IsLoose m store.journal.second (entries_of store.journal.map) k) (IsChangedSector store changes) mid new (λ k loose. inr loose) (commits.touches keeps))

      asks_device : AsksOnly g IsAsked store.disk new
      asks_device = asks_then g IsAsked store.disk mid new (asks_wider g IsBrought IsAsked store.disk mid (λ k at. inl at) puts.asks_device)
          (asks_wider g (λ k. IsPoolGate k ⊎ IsPoolStaged m store.journal.second (entries_of store.journal.map) all_homes k) IsAsked mid new
          (λ k. ⊎_elim (λ gate. inr (inl gate)) (λ staged. inr (inr (late_staged n store.directory changes are fresh list put places lists.placed m store.journal.second (entries_of store.journal.map) k staged)))) commits.asks_device)

      leaves_room : OnOk result (slot_count store.directory changes fresh list put ≤ 504 * m → 504 * m ≤ free_count m (entries_of journal.map))
      leaves_room = on_ok_weaker result (λ enough few. enough (omega (arith, few, all_long))) commits.room

      moments : g.keeps_model new → s.keeps_model left → (files : ℕ → Option FileInfo) (before after : ℕ → ℕ → List ℕ) → LeavesNow g store.disk (Stands files before) → ChangesFiles files changes fresh list (s.pages from) before after
          → LeavesOnly g store.disk new (OneOf files before after)
      moments keeps given files before after now change = joined g store.disk mid new (OneOf files before after)
          (weaker g store.disk mid (Stands files before) (OneOf files before after) (λ image was. inl was) (put_moments mid between (Ok (tt {0})) puts (commits.kept keeps) files before now))
          (weaker g mid new Either (OneOf files before after) (as_one (commits.kept keeps) given files before after now change) (commits.any_moment keeps (gives.keeps given)))

      in_blocks : g.keeps_model new → s.keeps_model left → (files : ℕ → Option FileInfo) (before after : ℕ → ℕ → List ℕ) → LeavesNow g store.disk (Stands files before) → ChangesFiles files changes fresh list (s.pages from) before after
          → ChangesInBlocks g store changes (OneOf files before after) store.disk new
      in_blocks keeps given files before after now change = inr (
        mid,
        put_blocks mid between (Ok (tt {0})) puts (commits.kept keeps) files before after now,
        in_blocks_weaker g m store.journal.second (entries_of store.journal.map) Either (OneOf files before after) mid new (as_one (commits.kept keeps) given files before after now change) (commits.blocks keeps (gives.keeps given)),
      )

      -- the store, where all went well
      is_ready : HasCommitRoom m room → directory.pages ≡ store.directory.pages → OnOk result (directory.entries.items ≡ entries_then store.directory changes)
          → OnOk result (IsReadyPool g (record { disk = new; journal = journal; directory = directory; room = room }))
      is_ready has pages items = each_way result commits items
        where
          outside : g.keeps_model new → (k : ℕ) → k < pool_gate → (r : Result (Unit {0}) CommitFault) → CommitsInPool g l store.journal journal all_homes mid new late spent r → OnOk r (g.content new k ≡ old k)
          outside keeps k front (Err fault) c = tt
          outside keeps k front (Ok done) c = c.outside keeps k (inl front) ∙ (mid_beside (c.kept keeps)).outside k (inl front)

          each_way : (r : Result (Unit {0}) CommitFault) → CommitsInPool g l store.journal journal all_homes mid new late spent r → OnOk r (directory.entries.items ≡ entries_then store.directory changes)
              → OnOk r (IsReadyPool g (record { disk = new; journal = journal; directory = directory; room = room }))
          each_way (Err fault) c at = tt
          each_way (Ok done) c at = ready_then g store new journal directory room ready c.is c.sizes (c.size ∙ puts.size) has (entries_then store.directory changes) pages at are.may
              (λ keeps. subst (λ b. IsPoolRest g m n b (entries_of journal.map) new) (sym c.second) (c.rest keeps))
              (λ keeps. (let was = ready.at_rest (puts.kept (c.kept keeps)) in (
                outside keeps 0 (omega arith) (Ok done) c ∙ was.mark,
                subst (λ (sector : List ℕ). IsKind m store.directory.pages sector) (sym (outside keeps 1 (omega arith) (Ok done) c)) was.kind,
              )))
              (λ keeps. says_after (c.kept keeps) (g.content new) (c.sure keeps) (c.others keeps))

      -- and where the source failed, with as much room
      ready_still : HasCommitRoom m room → (IsErr result → directory ≡ store.directory) → IsErrOf result Source → IsReadyPool g (record { disk = new; journal = journal; directory = directory; room = room })
      ready_still has same told = subst (λ (there : Directory). IsReadyPool g (record { disk = new; journal = journal; directory = there; room = room })) (sym (same (is_error_of result told)))
          (ready_with g store new journal room ready commits.is commits.sizes (commits.size ∙ puts.size) (λ keeps. puts.kept (commits.kept keeps)) has
          (λ keeps. subst (λ b. IsPoolRest g m n b (entries_of journal.map) new) (sym (commits.second_stays told))
          (subst (λ (map : SlotMap). IsPoolRest g m n store.journal.second (entries_of map) new) (sym (commits.map told)) (commits.source keeps told).rest))
          (λ keeps k out. (commits.source keeps told).outside k out ∙ (mid_beside (commits.kept keeps)).outside k out)
          (λ keeps h below i small. (commits.source keeps told).stands.each h i small
          ∙ (mid_beside (commits.kept keeps)).stands h i (front_not_new n store.directory ready.is_directory changes are h below) small))

      source_moments : g.keeps_model new → IsErrOf result Source → (files : ℕ → Option FileInfo) (before : ℕ → ℕ → List ℕ) → LeavesNow g store.disk (Stands files before) → LeavesOnly g store.disk new (Stands files before)
      source_moments keeps told files before now = joined g store.disk mid new (Stands files before) (put_moments mid between (Ok (tt {0})) puts (commits.kept keeps) files before now)
          (weaker g mid new (HomesStandAs (pool m n) (g.sector_count mid) (g.content mid)) (Stands files before)
          (λ image alike. as_before (puts.kept (commits.kept keeps)) files before now image (still (commits.kept keeps) (g.sector_count mid) image alike)) (commits.source_moments keeps told))

      are_committed : CountsNow g → (s.follows from between → s.follows between left → s.follows from left) → HasCommitRoom m room → directory.pages ≡ store.directory.pages
          → OnOk result (directory.entries.items ≡ entries_then store.directory changes) → (IsErr result → directory ≡ store.directory)
          → CommitsPutting g s put store (record { disk = new; journal = journal; directory = directory; room = room }) changes fresh list from left result
      are_committed counts goes_on has pages items same = record {
        ok = λ keeps given files before after now change. on_ok_weaker result
            (λ settled image may. as_after (commits.kept keeps) given files before after now change (g.sector_count mid) image (settled.left image may)) (commits.ok keeps (gives.keeps given));
        synced = commits.synced;
        ready = is_ready has pages items;
        files = items;
        room = leaves_room;
        any_moment = moments;
        blocks = in_blocks;
        source = source_moments;
        source_now = λ keeps told files before now. holds_now g store.disk new (Stands files before) (λ t image le may. counts new t image keeps le may) (source_moments keeps told files before now);
        room_after_source = λ told. ap (λ (map : SlotMap). free_count m (entries_of map)) (commits.map told);
        settles_after_source = λ told. ready_once_synced g (record { disk = new; journal = journal; directory = directory; room = room }) (ready_still has same told);
        ready_after_source = λ told none. ready_still has same told;
        files_after_error = same;
        sizes = commits.sizes;
        pages = pages;
        size = commits.size ∙ puts.size;
        kept = λ keeps. puts.kept (commits.kept keeps);
        asks = asks_more from between left goes_on puts.asks gives.asks;
        asks_device = asks_device;
        touches = touches;
        causes = causes;
      }

    pub is_committed : CountsNow g → (new : D) (journal : PoolJournal) → (told result : Result (Unit {0}) CommitFault) → told ≡ result → CommitsInPool g l store.journal journal homes mid new late spent told
        → (s.follows from between → s.follows between left → s.follows from left) → (room : CommitRoom) → HasCommitRoom m room → (directory : Directory) → directory.pages ≡ store.directory.pages
        → OnOk result (directory.entries.items ≡ entries_then store.directory changes) → (IsErr result → directory ≡ store.directory) → (end : S) → end ≡ left
        → CommitsPutting g s put store (record { disk = new; journal = journal; directory = directory; room = room }) changes fresh list from end result
    is_committed counts new journal told result same commits goes_on room has directory pages items still_there end ends =
        let listed : CommitsInPool g l store.journal journal all_homes mid new late spent told = subst (λ (hs : List ℕ). CommitsInPool g l store.journal journal hs mid new late spent told) lists.homes_are commits in
        let answered : CommitsInPool g l store.journal journal all_homes mid new late spent result = subst (λ (r : Result (Unit {0}) CommitFault). CommitsInPool g l store.journal journal all_homes mid new late spent r) same listed in
        subst (λ (left : S). CommitsPutting g s put store (record { disk = new; journal = journal; directory = directory; room = room }) changes fresh list from left result) (sym ends)
        (are_committed new journal directory room result answered counts goes_on has pages items still_there)
