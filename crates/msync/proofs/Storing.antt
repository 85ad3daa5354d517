-- A commit to the store, of pages alone, or of lengths of files with them.
use Rattle.std.proofs.Common.{ℕ, ◌<◌, ◌≤◌, ◌≡◌, ⊎_elim, inl, inr, Bool, true, false, List, [], ◌∷◌, length, slice_get, Option, Some, None, Result, Ok, Err, OnOk, IsErr, IsErrOf, refl, sym, ap, subst, ◌∙◌, arith, if◌then◌else◌}
use Rattle.std.proofs.lemmas.Bool.{cases_Bool, false≢true}
use Rattle.std.specs.Option.{option_map}
use Rattle.vm_types.specs.declared.{file.FileInfo.{FileInfo}, file.FilePage.{FilePage}}
use Rattle.disk_model.specs.declared.sector_disk.SectorDisk.{Ghosts}
use Rattle.file_store.specs.{Commit.{cut_page, Changes}}
use Rattle.stores.specs.{Commit.{ArePages, CommitsPages}, Store.{StoreKept, StoreKept.{OfJournal, OfPool}, AnyDirectory, always_free_in, directory_in}, declared.store.Store.{Store}}
use Rattle.stores.specs.Store as Durable
use Rattle.sync_journal.specs.Source.{HasCauses}
use Rattle.sync_journal.specs.declared.{faults.CommitFault.{CommitFault}, source.PageSource.{Ghosts as SourceGhosts}}
use Rattle.sync_journal.specs.declared.faults.CommitFault.TheVariants as Commit
use Rattle.sized_stores.specs.{Commit.{files_then, is_one_of, settled, AreSettled, CommitsSizes, HasSizeCauses, TakesSizes}, Faults.{told_of}, Room.{HasSizeRoom, IsRoomFor}}
use Rattle.sized_stores.specs.Store.{can_resize, can_resize_in, directory_of, durable_files_of, files_in, files_of, is_resized, is_resized_in, kept_of, with_length, HaveSizes, IsReadySized, SizedDirectory}
use Rattle.sized_stores.specs.declared.{faults.SizeFault.{SizeFault}, faults.SizeFault.TheVariants.{Device, Source, NoRoom}, room.SizeRoom.{SizeRoom}, sizes.Size.{Size}, store.SizedStore.{SizedStore}}
use Rattle.msync.specs.Storing.{CommitsTaken, MayCommit}

-- What was told of a commit of pages, told of one of lengths too.
ok_told : {P Q : Type 0} (outcome : Result (Unit {0}) CommitFault) → (P → Q) → OnOk outcome P → OnOk (told_of outcome) Q
ok_told (Ok done) from is = from is
ok_told (Err fault) from is = tt

source_told : (outcome : Result (Unit {0}) CommitFault) → IsErrOf (told_of outcome) Source → IsErrOf outcome Commit.Source
source_told (Ok done) is = cc
source_told (Err Commit.Device) is = cc
source_told (Err Commit.Source) is = refl

device_told : (outcome : Result (Unit {0}) CommitFault) → IsErrOf (told_of outcome) Device → IsErrOf outcome Commit.Device
device_told (Ok done) is = cc
device_told (Err Commit.Device) is = refl
device_told (Err Commit.Source) is = cc

never_told : (outcome : Result (Unit {0}) CommitFault) → IsErrOf (told_of outcome) NoRoom → ⊥
never_told (Ok done) is = cc
never_told (Err Commit.Device) is = cc
never_told (Err Commit.Source) is = cc

causes_told : (a b c d : ℕ) (outcome : Result (Unit {0}) CommitFault) → HasCauses a b c d outcome → HasSizeCauses a b c d (told_of outcome)
causes_told a b c d outcome has = record {
  device_later = has.device_later;
  source_later = has.source_later;
  device = λ is. has.device (device_told outcome is);
  source = λ is. has.source (source_told outcome is);
  device_calm = ok_told outcome (λ is. is) has.device_calm;
  device_still = λ is. has.device_still (source_told outcome is);
  source_calm = ok_told outcome (λ is. is) has.source_calm;
  source_still = λ is. has.source_still (device_told outcome is);
}

-- What a store keeps, by its directory: the lengths that its files have, whether they may get others, and how many pages it takes.
abbrev have_by : AnyDirectory → List Size → Type 0
have_by (inl directory) sizes = sizes ≡ []
have_by (inr directory) sizes = length sizes ≡ length directory.entries.items

abbrev can_by : AnyDirectory → Bool
can_by (inl directory) = false
can_by (inr directory) = true

abbrev pages_by : AnyDirectory → ℕ
pages_by (inl directory) = 0
pages_by (inr directory) = directory.pages

have_from : (kept : StoreKept) (sizes : List Size) → HaveSizes kept sizes → have_by (directory_in kept) sizes
have_from (OfJournal directory journal) sizes have = have
have_from (OfPool directory journal) sizes have = have

have_to : (kept : StoreKept) (sizes : List Size) → have_by (directory_in kept) sizes → HaveSizes kept sizes
have_to (OfJournal directory journal) sizes have = have
have_to (OfPool directory journal) sizes have = have

have_same : (a b : StoreKept) (sizes : List Size) → directory_in b ≡ directory_in a → HaveSizes a sizes → HaveSizes b sizes
have_same a b sizes same have = have_to b sizes (subst (λ (d : AnyDirectory). have_by d sizes) (sym same) (have_from a sizes have))

can_is : (kept : StoreKept) → can_resize_in kept ≡ can_by (directory_in kept)
can_is (OfJournal directory journal) = refl
can_is (OfPool directory journal) = refl

can_same : (a b : StoreKept) → directory_in b ≡ directory_in a → can_resize_in b ≡ can_resize_in a
can_same a b same = can_is b ∙ ap can_by same ∙ sym (can_is a)

space_same : (a b : StoreKept) (room : Option SizeRoom) → directory_in b ≡ directory_in a → always_free_in b ≡ always_free_in a → IsRoomFor a room → IsRoomFor b room
space_same a (OfJournal directory journal) room same always space = tt
space_same (OfJournal was before) (OfPool directory journal) room same always space = absurd (false≢true (sym (ap can_by same)))
space_same (OfPool was before) (OfPool directory journal) None same always space = space
space_same (OfPool was before) (OfPool directory journal) (Some room) same always space =
    let blocks : before.sizes.blocks ≡ journal.sizes.blocks = omega (arith, always) in
    subst (λ (d : ℕ). HasSizeRoom journal.sizes.blocks d room) (sym (ap pages_by same)) (subst (λ (n : ℕ). HasSizeRoom n was.pages room) blocks space)

-- of layout 2 no file has got another length, so a store of which one has is of layout 4
can_where : (kept : StoreKept) (sizes : List Size) → HaveSizes kept sizes → 0 < length sizes → can_resize_in kept ≡ true
can_where (OfJournal directory journal) sizes none some = absurd (let long : length sizes ≡ 0 = ap length none in omega (arith, long, some))
can_where (OfPool directory journal) sizes have some = refl

-- No lengths are committed:
module _ {D S : Type 0} (g : Ghosts D) (s : SourceGhosts S) (old : SizedStore D) (ready : IsReadySized g old) (list : List FilePage) where
  -- a file that has got no other length has the one that it has durably.
  unresized : (f : ℕ) → is_resized_in old.sizes.items f ≡ false → files_of old f ≡ durable_files_of old f
  unresized f same = from (durable_files_of old f) (slice_get old.sizes.items f) refl refl
    where
      from : (info : Option FileInfo) (size : Option Size) → durable_files_of old f ≡ info → slice_get old.sizes.items f ≡ size → with_length info size ≡ info
      from None size is at = refl
      from (Some info) None is at = refl
      from (Some info) (Some size) is at = ap (λ n. Some (record { length = n; read_only = info.read_only })) ((ready.each f info size is at).same (ap is_resized (sym at) ∙ same)).0

  module _ (may : MayCommit old [] list) where
    listed_same : (i : ℕ) (p : FilePage) → slice_get list i ≡ Some p → files_of old p.file ≡ durable_files_of old p.file
    listed_same i p is = unresized p.file (may.pages.durable i p is refl)

    pub are_durable_pages : ArePages (Durable.files_of old.store) (Durable.free_of old.store) list
    are_durable_pages = record {
      some = (let some = may.some in omega (arith, some));
      few = (let few = may.pages.few in let room = may.room in omega (arith, few, room));
      inside = λ i p is. let at = may.pages.inside i p is in (at.0, sym (listed_same i p is) ∙ at.1, at.2);
      distinct = may.pages.distinct;
    }

    -- The pages that it takes are those of a commit of pages alone.
    changes : (given : ℕ → List ℕ) (before after : ℕ → ℕ → List ℕ) → TakesSizes old [] list given before after → Changes (durable_files_of old) list given before after
    changes given before after takes = record {
      listed = λ i p is. subst (λ o. after p.file p.page ≡ cut_page o p.page (given i)) (listed_same i p is) (takes.listed i p is);
      others = λ f k none. takes.others f k refl (λ at. none at.0 at.1 at.2 at.3 at.4);
    }

    module _ (new : Store D) (from left : S) (outcome : Result (Unit {0}) CommitFault) (e : CommitsPages g s old.store new list from left outcome) where
      abbrev stored : SizedStore D
      stored = record old { store = new }

      ready_with : Durable.IsReadyStore g new → IsReadySized g stored
      ready_with is = record {
        ready = is;
        have = have_same (kept_of old) (Durable.kept_of new) old.sizes.items e.files ready.have;
        each = λ f info size info_is at. ready.each f info size (ap (λ d. Durable.files_in d f) (sym e.files) ∙ info_is) at;
        space = space_same (kept_of old) (Durable.kept_of new) old.room e.files e.always ready.space;
      }

      roomy_after : length list ≤ always_free_in (kept_of old) → (length list ≤ always_free_in (kept_of old) → always_free_in (kept_of old) ≤ Durable.free_of new)
          → always_free_in (Durable.kept_of new) ≤ Durable.free_of new
      roomy_after few enough = (let room = enough few in let always = e.always in omega (arith, room, always))

      sized_same : directory_of stored ≡ directory_of old
      sized_same = ap (λ (d : AnyDirectory). record { durable = d; sizes = old.sizes.items }) e.files

      takes_pages : CommitsTaken g s old stored [] list from left (told_of outcome)
      takes_pages = record {
        ok = λ keeps gives before after stands takes. ok_told outcome (λ is. is) (e.ok keeps gives (durable_files_of old) before after stands (changes (s.pages from) before after takes));
        durable = ok_told outcome (λ is f. ap (λ d. Durable.files_in d f) e.files) e.ready;
        settled = ok_told outcome (λ is. record { long = refl; these = λ f one. absurd (false≢true one); others = λ f none. refl }) e.ready;
        ready = ok_told outcome ready_with e.ready;
        room = ok_told outcome (roomy_after may.pages.few) e.room;
        any_moment = λ keeps gives before after stands takes. e.any_moment keeps gives (durable_files_of old) before after stands (changes (s.pages from) before after takes);
        source = λ keeps told before stands. e.source keeps (source_told outcome told) (durable_files_of old) before stands;
        source_now = λ keeps told before stands. e.source_now keeps (source_told outcome told) (durable_files_of old) before stands;
        ready_after_source = λ told. ready_with (e.ready_after_source (source_told outcome told));
        room_after_source = λ told. (let free = e.room_after_source (source_told outcome told) in let always = e.always in let room = may.room in omega (arith, free, always, room));
        some = λ told. absurd (never_told outcome told);
        lacks = λ told. absurd (never_told outcome told);
        undone = λ told. absurd (never_told outcome told);
        ready_still = λ told. absurd (never_told outcome told);
        after_error = λ err. sized_same;
        files = λ f. ap (λ (d : SizedDirectory). files_in d f) sized_same;
        resizes = can_same (kept_of old) (Durable.kept_of new) e.files;
        places = refl;
        most_moment = e.most_moment;
        always = e.always;
        size = e.size;
        kept = e.kept;
        asks = e.asks;
        asks_device = e.asks_device;
        causes = causes_told _ _ _ _ outcome e.causes;
      }

-- The list of files is empty.
module _ {D S : Type 0} (g : Ghosts D) (s : SourceGhosts S) (old : SizedStore D) (ready : IsReadySized g old) (files : List ℕ) (list : List FilePage) (may : MayCommit old files list) (none : length files ≡ 0) where
  no_files : (l : List ℕ) → length l ≡ 0 → l ≡ []
  no_files [] is = refl
  no_files (f ∷ l) is = absurd (omega (arith, is))

  may_pages : MayCommit old [] list
  may_pages = subst (λ (l : List ℕ). MayCommit old l list) (no_files files none) may

  pub are_pages_alone : ArePages (Durable.files_of old.store) (Durable.free_of old.store) list
  are_pages_alone = are_durable_pages g s old ready list may_pages

  pub commits_pages : (new : Store D) (from left : S) (outcome : Result (Unit {0}) CommitFault) → CommitsPages g s old.store new list from left outcome
      → (end : Result (Unit {0}) SizeFault) → end ≡ told_of outcome → CommitsTaken g s old (record old { store = new }) files list from left end
  commits_pages new from left outcome e end told =
      subst (λ (l : List ℕ). CommitsTaken g s old (record old { store = new }) l list from left end) (sym (no_files files none))
      (subst (λ (r : Result (Unit {0}) SizeFault). CommitsTaken g s old (record old { store = new }) [] list from left r) (sym told)
      (takes_pages g s old ready list may_pages new from left outcome e))

-- A length that is durable is the one that the file had.
settled_keeps : (info : Option FileInfo) (size : Option Size) → with_length (with_length info size) (option_map settled size) ≡ with_length info size
settled_keeps None size = refl
settled_keeps (Some info) None = refl
settled_keeps (Some info) (Some size) = refl

-- Lengths are committed:
module _ {D S : Type 0} (g : Ghosts D) (s : SourceGhosts S) (old : SizedStore D) (ready : IsReadySized g old) (list : List FilePage) where
  has_length : (sizes : List Size) (f : ℕ) → is_resized_in sizes f ≡ true → 0 < length sizes
  has_length [] f is = absurd (false≢true is)
  has_length (size ∷ sizes) f is = omega arith

  module _ (file : ℕ) (more : List ℕ) (may : MayCommit old (file ∷ more) list) (new : SizedStore D) where
    -- All files have the lengths that they had,
    files_settled : ((f : ℕ) → durable_files_of new f ≡ files_then old (file ∷ more) f) → AreSettled (file ∷ more) old.sizes.items new.sizes.items → (f : ℕ) → files_of new f ≡ files_of old f
    files_settled durable settle f = ⊎_elim
        (λ (one : is_one_of (file ∷ more) f ≡ true).
        ap (λ o. with_length o (slice_get new.sizes.items f)) (durable f ∙ ap (λ b. if b then files_of old f else durable_files_of old f) one)
        ∙ ap (with_length (files_of old f)) (settle.these f one) ∙ settled_keeps (durable_files_of old f) (slice_get old.sizes.items f))
        (λ (none : is_one_of (file ∷ more) f ≡ false).
        ap (λ o. with_length o (slice_get new.sizes.items f)) (durable f ∙ ap (λ b. if b then files_of old f else durable_files_of old f) none)
        ∙ ap (with_length (durable_files_of old f)) (settle.others f none))
        (cases_Bool (is_one_of (file ∷ more) f))

    some_sizes : 0 < length old.sizes.items
    some_sizes = has_length old.sizes.items file (may.resized 0 file refl)

    -- and may get others.
    can_then : IsReadySized g new → AreSettled (file ∷ more) old.sizes.items new.sizes.items → can_resize new ≡ can_resize old
    can_then is settle =
        can_where (kept_of new) new.sizes.items is.have (let long = settle.long in let some = some_sizes in omega (arith, long, some))
        ∙ sym (can_where (kept_of old) old.sizes.items ready.have some_sizes)

    files_end : (result : Result (Unit {0}) SizeFault) → OnOk result ((f : ℕ) → durable_files_of new f ≡ files_then old (file ∷ more) f) → OnOk result (AreSettled (file ∷ more) old.sizes.items new.sizes.items)
        → (IsErr result → directory_of new ≡ directory_of old) → (f : ℕ) → files_of new f ≡ files_of old f
    files_end (Ok done) durable settle same f = files_settled durable settle f
    files_end (Err fault) durable settle same f = ap (λ (d : SizedDirectory). files_in d f) (same refl)

    can_end : (result : Result (Unit {0}) SizeFault) → OnOk result (IsReadySized g new) → OnOk result (AreSettled (file ∷ more) old.sizes.items new.sizes.items)
        → (IsErr result → directory_of new ≡ directory_of old) → can_resize new ≡ can_resize old
    can_end (Ok done) is settle same = can_then is settle
    can_end (Err fault) is settle same = can_same (kept_of old) (kept_of new) (ap (λ (d : SizedDirectory). d.durable) (same refl))

    places_end : (result : Result (Unit {0}) SizeFault) → OnOk result (AreSettled (file ∷ more) old.sizes.items new.sizes.items)
        → (IsErr result → directory_of new ≡ directory_of old) → length new.sizes.items ≡ length old.sizes.items
    places_end (Ok done) settle same = settle.long
    places_end (Err fault) settle same = ap (λ (d : SizedDirectory). length d.sizes) (same refl)

    takes_lengths : (from left : S) (result : Result (Unit {0}) SizeFault) → CommitsSizes g s old new (file ∷ more) list from left result → CommitsTaken g s old new (file ∷ more) list from left result
    takes_lengths from left result e = record {
      ok = e.ok;
      durable = e.durable;
      settled = e.settled;
      ready = e.ready;
      room = e.room;
      any_moment = e.any_moment;
      source = e.source;
      source_now = e.source_now;
      ready_after_source = e.ready_after_source;
      room_after_source = e.room_after_source;
      some = λ told. refl;
      lacks = λ told. (e.refused told).0;
      undone = λ told. ((e.refused told).1, e.unasked told);
      ready_still = λ told. (e.refused told).2;
      after_error = e.after_error;
      files = files_end result e.durable e.settled e.after_error;
      resizes = can_end result e.ready e.settled e.after_error;
      places = places_end result e.settled e.after_error;
      most_moment = e.most_moment;
      always = e.always;
      size = e.size;
      kept = e.kept;
      asks = e.asks;
      asks_device = e.asks_device;
      causes = e.causes;
    }

  pub commits_lengths : (files : List ℕ) → MayCommit old files list → (length files ≡ 0 → ⊥) → (new : SizedStore D) (from left : S) (result : Result (Unit {0}) SizeFault)
      → CommitsSizes g s old new files list from left result → CommitsTaken g s old new files list from left result
  commits_lengths [] may some new from left result e = absurd (some refl)
  commits_lengths (file ∷ more) may some new from left result e = takes_lengths file more may new from left result e
