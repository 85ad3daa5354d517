-- A commit of lengths, by what is listed for it.
use Rattle.std.proofs.Common.{ℕ, ◌*◌, ◌≤◌, ◌≡◌, true, false, List, length, slice_get, Option, Some, Result, Ok, Err, OnOk, IsErr, IsErrAnd, IsErrOf, inl, inr, ⊎_elim, refl, sym, ap, subst, ◌∙◌, arith, if◌then◌else◌}
use Rattle.std.proofs.lemmas.{Bool.{cases_Bool}, Option.{same_Some}, Result.{on_ok_weaker}}
use Rattle.std.specs.Option.{option_map}
use Rattle.vm_types.specs.declared.{file.FileInfo.{FileInfo}, file.FilePage.{FilePage}}
use Rattle.disk_model.{proofs.Moments.{asks_none, started, stays}, specs.{Moments.{LeavesNow, LeavesOnly, Nothing}, Stop.{Image, MayLeave}, declared.sector_disk.SectorDisk.{Ghosts}}}
use Rattle.directories.specs.{Layouts.{entry_in}, declared.entry.Entry.{Entry}}
use Rattle.file_store.specs.Asking.{asks_nothing}
use Rattle.growth.proofs.Changed.{length_after}
use Rattle.pool_growth.proofs.New.{info_later}
use Rattle.pool_growth.specs.{Asked.{entries_then}, Commit.{CommitsInSlots}}
use Rattle.pool_journal.specs.{Journal.{free_count}, Maps.{entries_of}, Pools.{pool_gate}}
use Rattle.pool_journal.specs.declared.sizes.PoolSizes.{PoolSizes}
use Rattle.pool_store.specs.{Files.{info_of}, Store.{info_by, IsReadyPool}}
use Rattle.pool_store.specs.declared.{directory.Directory.{Directory}, store.PoolStore.{PoolStore}}
use Rattle.stores.{proofs.{Front.{most_stays}, Says.{front_synced}}, specs.{Store.{StoreKept.{OfPool}}, declared.store.{Store.{Store}, Store.TheVariants.{Pool}}}}
use Rattle.sync_journal.specs.Source.{Asks, HasCauses}
use Rattle.sync_journal.specs.declared.{faults.CommitFault.{CommitFault}, source.PageSource.{Ghosts as SourceGhosts}}
use Rattle.sync_journal.specs.declared.faults.CommitFault.TheVariants as Commit
use Rattle.sized_stores.proofs.{TakenLengths.{has_now, has_size, one_there, sized_then}, TakenMoments.{asks_high, few_slots, most_taken, then_failed, then_taken, while_failed, while_taken}}
use Rattle.sized_stores.specs.{Commit.{files_then, is_one_of, settled, AreResized, ArePagesNow, AreSettled, CommitsSizes, HasRoom, HasSizeCauses, LacksRoomIn}, Faults.{told_of}, Listed.{listed_in, CommitsListed, ListsCommit}}
use Rattle.sized_stores.specs.{Room.{HasSizeRoom}, Store.{files_of, IsReadySized, IsSizeOf}}
use Rattle.sized_stores.specs.declared.{faults.SizeFault.{SizeFault}, faults.SizeFault.TheVariants.{Device, Source, NoRoom}, room.SizeRoom.{SizeRoom}, sizes.Size.{Size}, store.SizedStore.{SizedStore}}

-- What was told of a commit of changes, told of one of lengths.
ok_told : (P : Type 0) (outcome : Result (Unit {0}) CommitFault) → OnOk outcome P → OnOk (told_of outcome) P
ok_told P (Ok done) is = is
ok_told P (Err fault) is = tt

err_told : (outcome : Result (Unit {0}) CommitFault) → IsErr (told_of outcome) → IsErr outcome
err_told (Ok done) is = is
err_told (Err fault) is = refl

source_told : (outcome : Result (Unit {0}) CommitFault) → IsErrOf (told_of outcome) Source → IsErrOf outcome Commit.Source
source_told (Ok done) is = cc
source_told (Err Commit.Device) is = cc
source_told (Err Commit.Source) is = refl

device_told : (outcome : Result (Unit {0}) CommitFault) → IsErrOf (told_of outcome) Device → IsErrOf outcome Commit.Device
device_told (Ok done) is = cc
device_told (Err Commit.Device) is = refl
device_told (Err Commit.Source) is = cc

never_told : (outcome : Result (Unit {0}) CommitFault) → IsErrOf (told_of outcome) NoRoom → ⊥
never_told (Ok done) is = cc
never_told (Err Commit.Device) is = cc
never_told (Err Commit.Source) is = cc

causes_told : (a b c d : ℕ) (outcome : Result (Unit {0}) CommitFault) → HasCauses a b c d outcome → HasSizeCauses a b c d (told_of outcome)
causes_told a b c d outcome has = record {
  device_later = has.device_later;
  source_later = has.source_later;
  device = λ is. has.device (device_told outcome is);
  source = λ is. has.source (source_told outcome is);
  device_calm = ok_told _ outcome has.device_calm;
  device_still = λ is. has.device_still (source_told outcome is);
  source_calm = ok_told _ outcome has.source_calm;
  source_still = λ is. has.source_still (device_told outcome is);
}

source_error : (outcome : Result (Unit {0}) CommitFault) → IsErrOf outcome Commit.Source → IsErr outcome
source_error (Ok done) is = cc
source_error (Err fault) is = refl

-- A fault is told as it came, and nothing is so after Ok then.
pub told_again : (fault : SizeFault) (result : Result (Unit {0}) SizeFault) → IsErrAnd result (λ e. e ≡ fault) → result ≡ Err fault
told_again fault (Ok done) is = absurd is
told_again fault (Err e) is = ap Err is

pub not_ok : (P : Type 0) (result : Result (Unit {0}) SizeFault) → IsErr result → OnOk result P
not_ok P (Ok done) is = cc
not_ok P (Err fault) is = tt

-- what follows from two things that are so after Ok
both_ok : {T E P Q R : Type 0} (r : Result T E) → (P → Q → R) → OnOk r P → OnOk r Q → OnOk r R
both_ok (Ok value) from p q = from p q
both_ok (Err fault) from p q = tt

-- a settled length is one of its file, which has it durably then
is_settled : (info : FileInfo) (size : Size) → IsSizeOf info size → IsSizeOf (record { length = size.length; read_only = info.read_only }) (settled size)
is_settled info size is = record { most = is.most; is = omega arith; was = omega arith; same = λ _. (refl, refl) }

-- Lengths and pages are committed to a store with a pool.
module _ {D S : Type 0} (g : Ghosts D) (s : SourceGhosts S) (only_now : (d : D) (image : Image) → g.keeps_model d → g.left_since d (g.moment d) image → MayLeave (g.content d) (g.unsynced d) image)
    (sized : SizedStore D) (store : PoolStore D) (ready : IsReadySized g (record sized { store = Pool store })) (roomy : HasRoom (record sized { store = Pool store })) (files : List ℕ) (list : List FilePage)
    (are : AreResized (record sized { store = Pool store }) files) (now : ArePagesNow (record sized { store = Pool store }) files list) where
  abbrev old : SizedStore D
  old = record sized { store = Pool store }

  abbrev was : ℕ → Option FileInfo
  was = info_by store.directory

  abbrev m : ℕ
  m = store.journal.sizes.blocks

  -- There is no room for them.
  module _ (room : SizeRoom) (space : HasSizeRoom store.journal.sizes.blocks store.directory.pages room) (from : S) (follows : s.follows from from)
      (lacks : LacksRoomIn (OfPool store.directory store.journal) sized.sizes.items files list) where
    abbrev refused : SizedStore D
    refused = record sized { store = Pool store; room = Some room }

    still_ready : IsReadySized g refused
    still_ready = record { ready = ready.ready; have = ready.have; each = ready.each; space = space }

    still : (P : Image → Type 0) → g.keeps_model store.disk → LeavesNow g store.disk P → LeavesOnly g store.disk store.disk P
    still P keeps is = started g store.disk P (λ image since. only_now store.disk image keeps since) is

    pub lacks_sizes : CommitsSizes g s (record sized { store = Pool store }) (record sized { store = Pool store; room = Some room }) files list from from (Err NoRoom)
    lacks_sizes = record {
      ok = λ keeps gives before after stands takes. tt;
      durable = tt;
      settled = tt;
      ready = tt;
      room = tt;
      any_moment = λ keeps gives before after stands takes. still _ keeps (λ image may. inl (stands image may));
      source = λ keeps told before stands. still _ keeps stands;
      source_now = λ keeps told before stands. stands;
      ready_after_source = λ told. still_ready;
      room_after_source = λ told. roomy;
      refused = λ told. (lacks, refl, still_ready);
      unasked = λ told. refl;
      after_error = λ told. refl;
      most_moment = λ keeps. most_stays g Nothing store.disk store.disk (λ image since. only_now store.disk image keeps since) (front_synced g (Pool store) ready.ready keeps) (λ k low none. none)
          (stays g Nothing store.disk);
      always = refl;
      size = refl;
      kept = λ keeps. keeps;
      asks = asks_nothing from follows;
      asks_device = asks_none g (λ k. pool_gate ≤ k) store.disk store.disk (λ k. refl);
      causes = record {
        device_later = omega arith;
        source_later = omega arith;
        device = λ told. cc;
        source = λ told. cc;
        device_calm = tt;
        device_still = λ told. refl;
        source_calm = tt;
        source_still = λ told. refl;
      };
    }

  -- They are listed, and committed.
  module _ (lists_room room : SizeRoom) (lists : ListsCommit store sized.sizes.items files list lists_room) (space : HasSizeRoom store.journal.sizes.blocks store.directory.pages room)
      (new : PoolStore D) (to : SizedStore D) (from left : S) (outcome : Result (Unit {0}) CommitFault) (asks : Asks s from left)
      (e : CommitsInSlots g (listed_in lists_room s) store new lists_room.changes.items lists_room.fresh.pages.items lists_room.kept.pages.items from left outcome)
      (sizes_then : OnOk outcome (AreSettled files sized.sizes.items to.sizes.items)) (sizes_still : IsErr outcome → to.sizes ≡ sized.sizes) where
    abbrev result : SizedStore D
    result = record { store = Pool new; sizes = to.sizes; room = Some room }

    abbrev then_files : ℕ → Option FileInfo
    then_files = files_then old files

    -- A room for one is one for the other.
    has_room : HasSizeRoom new.journal.sizes.blocks new.directory.pages room
    has_room = subst (λ d. HasSizeRoom new.journal.sizes.blocks d room) (sym e.pages) (subst (λ (z : PoolSizes). HasSizeRoom z.blocks store.directory.pages room) (sym e.sizes) space)

    -- After Ok the files are those of these lengths,
    info_then : new.directory.entries.items ≡ entries_then store.directory lists_room.changes.items → (f : ℕ) → info_by new.directory f ≡ then_files f
    info_then same f = ap (λ (es : List (Option Entry)). option_map info_of (entry_in es f)) same
        ∙ sym (info_later store.journal.sizes.homes store.directory lists_room.changes.items lists.changes.good f)
        ∙ sized_then sized store ready files are lists_room.changes.items lists.changes.says f

    -- which have them durably,
    size_then : new.directory.entries.items ≡ entries_then store.directory lists_room.changes.items → AreSettled files sized.sizes.items to.sizes.items
        → (f : ℕ) (info : FileInfo) (size : Size) → info_by new.directory f ≡ Some info → slice_get to.sizes.items f ≡ Some size → IsSizeOf info size
    size_then same settle f info size is at = ⊎_elim of_one of_none (cases_Bool (is_one_of files f))
      where
        of_one : is_one_of files f ≡ true → IsSizeOf info size
        of_one one =
            let place = one_there files f one in
            let there = are.there place.0 f place.1 in
            let has = has_size sized store ready f there.0 there.1 in
            let there_is : settled has.size ≡ size = same_Some (settled has.size) size (sym (settle.these f one ∙ ap (option_map settled) has.at) ∙ at) in
            let info_is : record { length = has.size.length; read_only = there.0.read_only } ≡ info = same_Some _ info (sym (has_now sized store ready f there.0 there.1 has)
            ∙ ap (λ b. if b then files_of old f else was f) (sym one) ∙ sym (info_then same f) ∙ is) in
            subst (λ (i : FileInfo). IsSizeOf i size) info_is (subst (λ (z : Size). IsSizeOf (record { length = has.size.length; read_only = there.0.read_only }) z) there_is (is_settled there.0 has.size has.is))

        of_none : is_one_of files f ≡ false → IsSizeOf info size
        of_none none = ready.each f info size (ap (λ b. if b then files_of old f else was f) (sym none) ∙ sym (info_then same f) ∙ is) (sym (settle.others f none) ∙ at)

    -- and the store is ready.
    ready_then : IsReadyPool g new → (new.directory.entries.items ≡ entries_then store.directory lists_room.changes.items) × AreSettled files sized.sizes.items to.sizes.items → IsReadySized g result
    ready_then is both = record {
      ready = is;
      have = both.1.long ∙ ready.have ∙ sym (ap length both.0 ∙ length_after store.directory.entries.items lists_room.changes.items);
      each = size_then both.0 both.1;
      space = has_room;
    }

    -- After a source's fault it is, with the files and lengths that there were.
    ready_still : IsReadyPool g new → IsErr outcome → IsReadySized g result
    ready_still is told = record {
      ready = is;
      have = subst (λ (d : Directory). length to.sizes.items ≡ length d.entries.items) (sym (e.files_after_error told)) (ap (λ v. length v.items) (sizes_still told) ∙ ready.have);
      each = λ f info size info_is at. ready.each f info size (ap (λ (d : Directory). info_by d f) (sym (e.files_after_error told)) ∙ info_is) (ap (λ v. slice_get v.items f) (sym (sizes_still told)) ∙ at);
      space = has_room;
    }

    roomy_with : 504 * m ≤ free_count m (entries_of new.journal.map) → HasRoom result
    roomy_with = subst (λ (z : PoolSizes). 504 * z.blocks ≤ free_count z.blocks (entries_of new.journal.map)) (sym e.sizes)

    is_error : IsErrOf (told_of outcome) Source → IsErr outcome
    is_error told = source_error outcome (source_told outcome told)

    takes_sizes : CommitsSizes g s old result files list from left (told_of outcome)
    takes_sizes = record {
      ok = λ keeps gives before after stands takes. ok_told _ outcome (then_taken g s only_now sized store ready roomy files list are now lists_room lists new from left outcome e keeps gives before after stands takes);
      durable = ok_told _ outcome (on_ok_weaker outcome info_then e.files);
      settled = ok_told _ outcome sizes_then;
      ready = ok_told _ outcome (both_ok outcome ready_then e.ready (both_ok outcome (λ same settle. (same, settle)) e.files sizes_then));
      room = ok_told _ outcome (on_ok_weaker outcome (λ enough. roomy_with (enough (few_slots g s only_now sized store ready roomy files list are now lists_room lists new from left outcome e))) e.room);
      any_moment = λ keeps gives before after stands takes. while_taken g s only_now sized store ready roomy files list are now lists_room lists new from left outcome e keeps gives before after stands takes;
      source = λ keeps told before stands. while_failed g s only_now sized store ready roomy files list are now lists_room lists new from left outcome e keeps (source_told outcome told) before stands;
      source_now = λ keeps told before stands. then_failed g s only_now sized store ready roomy files list are now lists_room lists new from left outcome e keeps (source_told outcome told) before stands;
      ready_after_source = λ told. ready_still (e.ready_after_source (source_told outcome told) refl) (is_error told);
      room_after_source = λ told. roomy_with (subst (λ n. 504 * m ≤ n) (sym (e.room_after_source (source_told outcome told))) roomy);
      refused = λ told. absurd (never_told outcome told);
      unasked = λ told. absurd (never_told outcome told);
      after_error = λ told. ap (λ (d : Directory). record { durable = inr d; sizes = to.sizes.items }) (e.files_after_error (err_told outcome told))
          ∙ ap (λ v. record { durable = inr store.directory; sizes = v.items }) (sizes_still (err_told outcome told));
      most_moment = most_taken g s only_now sized store ready roomy files list are now lists_room lists new from left outcome e;
      always = ap (λ (z : PoolSizes). 504 * z.blocks) e.sizes;
      size = e.size;
      kept = e.kept;
      asks = asks;
      asks_device = asks_high g s only_now sized store ready roomy files list are now lists_room lists new from left outcome e;
      causes = causes_told _ _ _ _ outcome e.causes;
    }

    pub commits_sizes : (end : Result (Unit {0}) SizeFault) → end ≡ told_of outcome
        → CommitsSizes g s (record sized { store = Pool store }) (record { store = Pool new; sizes = to.sizes; room = Some room }) files list from left end
    commits_sizes end told = subst (λ (r : Result (Unit {0}) SizeFault). CommitsSizes g s old result files list from left r) (sym told) takes_sizes

-- A store of which `store` is the part that is durable, with a pool:
module _ {D S : Type 0} (g : Ghosts D) (s : SourceGhosts S) (only_now : (d : D) (image : Image) → g.keeps_model d → g.left_since d (g.moment d) image → MayLeave (g.content d) (g.unsynced d) image)
    (self : SizedStore D) (store : PoolStore D) (is : self.store ≡ Pool store) (ready : IsReadySized g self) (roomy : HasRoom self) (files : List ℕ) (list : List FilePage)
    (are : AreResized self files) (now : ArePagesNow self files list) where
  pub ready_pool : IsReadySized g (record self { store = Pool store })
  ready_pool = subst (λ x. IsReadySized g (record self { store = x })) is ready

  pub roomy_pool : HasRoom (record self { store = Pool store })
  roomy_pool = subst (λ x. HasRoom (record self { store = x })) is roomy

  pub are_pool : AreResized (record self { store = Pool store }) files
  are_pool = subst (λ x. AreResized (record self { store = x }) files) is are

  pub now_pool : ArePagesNow (record self { store = Pool store }) files list
  now_pool = subst (λ x. ArePagesNow (record self { store = x }) files list) is now

  -- there is no room,
  pub refuses_all : (sizes : List Size) → sizes ≡ self.sizes.items → (room : SizeRoom) → HasSizeRoom store.journal.sizes.blocks store.directory.pages room → (from : S) → s.follows from from
      → LacksRoomIn (OfPool store.directory store.journal) sizes files list → (stays : Store D) → stays ≡ Pool store → (there : Option SizeRoom) → there ≡ Some room
      → (result : Result (Unit {0}) SizeFault) → result ≡ Err NoRoom → CommitsSizes g s self (record { store = stays; sizes = self.sizes; room = there }) files list from from result
  refuses_all sizes same room space from follows lacks stays stays_is there there_is result told =
      subst (λ x. CommitsSizes g s (record self { store = x }) (record { store = stays; sizes = self.sizes; room = there }) files list from from result) (sym is)
      (subst (λ x. CommitsSizes g s (record self { store = Pool store }) (record { store = x; sizes = self.sizes; room = there }) files list from from result) (sym stays_is)
      (subst (λ x. CommitsSizes g s (record self { store = Pool store }) (record { store = Pool store; sizes = self.sizes; room = x }) files list from from result) (sym there_is)
      (subst (λ x. CommitsSizes g s (record self { store = Pool store }) (record { store = Pool store; sizes = self.sizes; room = Some room }) files list from from x) (sym told)
      (lacks_sizes g s only_now self store ready_pool roomy_pool files list are_pool now_pool room space from follows
      (subst (λ (xs : List Size). LacksRoomIn (OfPool store.directory store.journal) xs files list) same lacks)))))

  -- or lengths and pages are committed.
  pub commits_all : (sizes : List Size) → sizes ≡ self.sizes.items → (lists_room room : SizeRoom) → ListsCommit store sizes files list lists_room → HasSizeRoom store.journal.sizes.blocks store.directory.pages room
      → (new : PoolStore D) (to : SizedStore D) (from left : S) (result : Result (Unit {0}) SizeFault) → CommitsListed g s store new lists_room from left result
      → (settle : OnOk result (AreSettled files self.sizes.items to.sizes.items)) → (IsErr result → to.sizes ≡ self.sizes)
      → (stands : Store D) → stands ≡ Pool new → (there : Option SizeRoom) → there ≡ Some room
      → CommitsSizes g s self (record { store = stands; sizes = to.sizes; room = there }) files list from left result
  commits_all sizes same lists_room room lists space new to from left result e settle still stands stands_is there there_is =
      subst (λ x. CommitsSizes g s (record self { store = x }) (record { store = stands; sizes = to.sizes; room = there }) files list from left result) (sym is)
      (subst (λ x. CommitsSizes g s (record self { store = Pool store }) (record { store = x; sizes = to.sizes; room = there }) files list from left result) (sym stands_is)
      (subst (λ x. CommitsSizes g s (record self { store = Pool store }) (record { store = Pool new; sizes = to.sizes; room = x }) files list from left result) (sym there_is)
      (commits_sizes g s only_now self store ready_pool roomy_pool files list are_pool now_pool lists_room room
      (subst (λ (xs : List Size). ListsCommit store xs files list lists_room) same lists) space new to from left e.outcome e.asks e.commits
      (settle_told e.outcome (subst (λ (r : Result (Unit {0}) SizeFault). OnOk r (AreSettled files self.sizes.items to.sizes.items)) e.told settle))
      (λ err. still (subst (λ (r : Result (Unit {0}) SizeFault). IsErr r) (sym e.told) (told_err e.outcome err))) result e.told)))
    where
      settle_told : (outcome : Result (Unit {0}) CommitFault) → OnOk (told_of outcome) (AreSettled files self.sizes.items to.sizes.items) → OnOk outcome (AreSettled files self.sizes.items to.sizes.items)
      settle_told (Ok done) is = is
      settle_told (Err fault) is = tt

      told_err : (outcome : Result (Unit {0}) CommitFault) → IsErr outcome → IsErr (told_of outcome)
      told_err (Ok done) is = is
      told_err (Err fault) is = refl
