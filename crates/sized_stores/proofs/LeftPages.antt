-- Pages read as they are now.
use Rattle.std.proofs.Common.{ℕ, ◌≡◌, ◌<◌, ◌≤◌, ◌-◌, ◌*◌, min, Bool, List, [], ◌++◌, length, replicate, get_or, slice_get, Option, Some, None, Result, Ok, Err, refl, sym, ap, subst, ◌∙◌, arith}
use Rattle.std.proofs.lemmas.{Bool.{false≢true}, List.{append-nil, take_all}, Option.{none-some, same_Some, slice_get-get_or}}
use Rattle.std.specs.Prelude.{IsErr, OnOk}
use Rattle.std.specs.Option.{option_map}
use Rattle.vm_types.specs.{Files.{bytes_inside, cut}, declared.file.{FileInfo.{FileInfo}, FilePage.{FilePage}}}
use Rattle.disk_model.specs.{Moments.{Nothing}, Stop.{HasCause}}
use Rattle.disk_model.specs.declared.sector_disk.SectorDisk.{Ghosts}
use Rattle.disk_model.proofs.{Moments.{asks_none, stays}, Naming.{once_named, once_none}}
use Rattle.file_store.specs.{Layout.{padded_page}, Standing.{directory_entry, page_standing_in, standing, IsPageOf}}
use Rattle.file_store.specs.declared.directory.Entry.{Entry}
use Rattle.file_store.proofs.{Pieces.{length-trimmed, trimmed_fill, trimmed-trimmed}}
use Rattle.stores.specs.{Images.{says_by, standing_page}, Store.{StoreKept, directory_in, IsSectorOf}}
use Rattle.stores.specs.Store as Durable
use Rattle.stores.specs.declared.store.Store.{Store}
use Rattle.stores.specs.declared.store.Store.TheVariants.{Journal, Pool}
use Rattle.sized_stores.specs.Reading.{bytes_left, left_page, ReadsSizedPage}
use Rattle.sized_stores.specs.{Listing.{no_size}, Room.{IsRoomFor}}
use Rattle.sized_stores.proofs.Resized.{sized_in}
use Rattle.sized_stores.specs.Store.{directory_of, disk_of, durable_files_of, files_of, kept_of, length_of, shortest_in, shortest_of, with_length, HaveSizes, IsReadySized, IsSizeOf}
use Rattle.sized_stores.specs.declared.{sizes.Size.{Size}, store.SizedStore.{SizedStore}}

-- a page of 4,096 bytes that is padded from a byte on is cut there, and one that was padded is cut already
cut_same : (n : ℕ) (page : List ℕ) → length page ≡ 4096 → n ≤ 4096 → padded_page n page ≡ cut n page
cut_same n page size small = sym (trimmed_fill n page size small)

cut_padded : (n : ℕ) (page : List ℕ) → n ≤ 4096 → cut n (padded_page n page) ≡ padded_page n page
cut_padded n page small = trimmed_fill n (padded_page n page) (length-trimmed n page small) small ∙ trimmed-trimmed n page small

-- one that nothing is cut off of
cut_all : (page : List ℕ) → length page ≡ 4096 → cut 4096 page ≡ page
cut_all page size = ap (λ (l : List ℕ). l ++ []) (take_all 4096 page (omega (arith, size))) ∙ append-nil page

-- a page that nothing is left of
cut_whole : (n : ℕ) (page : List ℕ) → n ≡ 0 → cut n page ≡ replicate 4096 0
cut_whole n page none = ap (λ (m : ℕ). cut m page) none

-- as a directory of layout 2 has it, a page is cut at the end of its file
cut_standing : (stands : ℕ → ℕ → List ℕ) (k : ℕ) (entry : Option Entry) (info : FileInfo) → option_map (λ e. e.info) entry ≡ Some info
    → cut (bytes_inside info.length k) (page_standing_in stands k entry) ≡ page_standing_in stands k entry
cut_standing stands k None info is = absurd (none-some info is)
cut_standing stands k (Some e) info is =
    subst (λ (i : FileInfo). cut (bytes_inside i.length k) (page_standing_in stands k (Some e)) ≡ page_standing_in stands k (Some e)) (same_Some e.info info is)
    (cut_padded (bytes_inside e.info.length k) _ (omega arith))

-- what is said of an error's value
on_err : {T E : Type 0} (result : Result T E) (P : Type 0) → IsErr result → OnOk result P
on_err (Ok done) P failed = absurd (false≢true failed)
on_err (Err fault) P failed = tt

-- What a file is durably, and what it is now:
now_of : (info : Option FileInfo) (size : Option Size) (now : FileInfo) → with_length info size ≡ Some now → (i : FileInfo) × (info ≡ Some i) × ((size ≡ None) → i ≡ now)
now_of None size now is = absurd (none-some now is)
now_of (Some info) None now is = (info, refl, λ _. same_Some info now is)
now_of (Some info) (Some size) now is = (info, refl, λ none. absurd (none-some size (sym none)))

module _ {D : Type 0} (g : Ghosts D) (old : SizedStore D) (ready : IsReadySized g old) (p : FilePage) where
  -- a page of which something is left is one of its file durably
  left_inside : (size : Option Size) → slice_get old.sizes.items p.file ≡ size → (info now : FileInfo) → durable_files_of old p.file ≡ Some info → ((size ≡ None) → info ≡ now)
      → 4096 * p.page < now.length → (bytes_left size p.page ≡ 0 → ⊥) → 4096 * p.page < info.length
  left_inside None at info now is same inside left = subst (λ (i : FileInfo). 4096 * p.page < i.length) (sym (same refl)) inside
  left_inside (Some size) at info now is same inside left =
      let some : (size.shortest - 4096 * p.page ≡ 0) → ⊥ = (λ none. left (let e : min 4096 (size.shortest - 4096 * p.page) ≡ 0 = omega (arith, none) in e)) in
      let was : size.shortest ≤ info.length = (ready.each p.file info size is at).was in
      omega (arith, some, was)

  pub durably_inside : (left : ℕ) → left ≡ bytes_left (slice_get old.sizes.items p.file) p.page → (left ≡ 0 → ⊥) → IsPageOf (files_of old) p.file p.page
      → IsPageOf (Durable.files_of old.store) p.file p.page
  durably_inside left is some page =
      let size : Option Size = slice_get old.sizes.items p.file in
      let durable = now_of (durable_files_of old p.file) size page.0 page.1 in
      (durable.0, durable.1, left_inside size refl durable.0 page.0 durable.1 durable.2 page.2 (λ none. some (is ∙ none)))

  -- a page of which nothing is left is zeros
  zeros_left : (size : Option Size) → slice_get old.sizes.items p.file ≡ size → bytes_left size p.page ≡ 0 → (bytes : List ℕ) → replicate 4096 0 ≡ left_page (shortest_of (durable_files_of old p.file) size) p.page bytes
  zeros_left None at none bytes = absurd (omega (arith, none))
  zeros_left (Some size) at none bytes = sym (cut_whole (bytes_inside size.shortest p.page) bytes none)

  -- where files keep their lengths, pages stand cut at the ends of their files
  cut_durable : (store : Store D) → Durable.IsReadyStore g store → HaveSizes (Durable.kept_of store) old.sizes.items → slice_get old.sizes.items p.file ≡ None
      → (info : FileInfo) → Durable.files_of store p.file ≡ Some info → g.keeps_model (Durable.disk_of store)
      → cut (bytes_inside info.length p.page) (standing_page (g.sector_count (Durable.disk_of store)) (g.content (Durable.disk_of store)) p.file p.page)
      ≡ standing_page (g.sector_count (Durable.disk_of store)) (g.content (Durable.disk_of store)) p.file p.page
  cut_durable (Journal store) ready_store have none info is keeps =
      let image = g.content store.disk in
      let sectors = g.sector_count store.disk in
      subst (λ (pool : Bool). cut (bytes_inside info.length p.page) ((says_by pool sectors image).page p.file p.page) ≡ (says_by pool sectors image).page p.file p.page) (sym (ready_store.1 keeps))
      (cut_standing (standing image) p.page (directory_entry image p.file) info (ap (option_map (λ e. e.info)) (sym ((ready_store.0.at_rest keeps).directory p.file)) ∙ is))
  cut_durable (Pool store) ready_store have none info is keeps =
      let inside : p.file < length old.sizes.items = sized_in (Durable.kept_of (Pool store)) old.sizes.items p.file info refl have is in
      absurd (none-some (get_or old.sizes.items p.file no_size) (sym none ∙ slice_get-get_or old.sizes.items p.file no_size inside))

  -- what is left of a page that was read
  rest_left : (size : Option Size) → slice_get old.sizes.items p.file ≡ size → (info : FileInfo) → durable_files_of old p.file ≡ Some info → g.keeps_model (disk_of old) → (given : List ℕ)
      → length given ≡ 4096 → given ≡ standing_page (g.sector_count (disk_of old)) (g.content (disk_of old)) p.file p.page
      → padded_page (bytes_left size p.page) given ≡ left_page (shortest_of (durable_files_of old p.file) size) p.page
      (standing_page (g.sector_count (disk_of old)) (g.content (disk_of old)) p.file p.page)
  rest_left None at info is keeps given size stands =
      cut_same 4096 given size (omega arith) ∙ cut_all given size ∙ stands
      ∙ sym (ap (λ (i : Option FileInfo). left_page (length_of i) p.page (standing_page (g.sector_count (disk_of old)) (g.content (disk_of old)) p.file p.page)) is
      ∙ cut_durable old.store ready.ready ready.have at info is keeps)
  rest_left (Some z) at info is keeps given size stands =
      cut_same (bytes_inside z.shortest p.page) given size (omega arith) ∙ ap (cut (bytes_inside z.shortest p.page)) stands

  -- a store that was read is as ready as it was
  ready_still : (store : Store D) → Durable.IsReadyStore g store → Durable.kept_of store ≡ kept_of old → IsReadySized g (record old { store = store })
  ready_still store still same = record {
    ready = still;
    have = subst (λ (k : StoreKept). HaveSizes k old.sizes.items) (sym same) ready.have;
    each = subst (λ (k : StoreKept). (f : ℕ) (info : FileInfo) (size : Size) → Durable.files_in (directory_in k) f ≡ Some info → slice_get old.sizes.items f ≡ Some size → IsSizeOf info size) (sym same)
        ready.each;
    space = subst (λ (k : StoreKept). IsRoomFor k old.room) (sym same) ready.space;
  }

module _ {D T E : Type 0} (g : Ghosts D) (old : SizedStore D) (ready : IsReadySized g old) (p : FilePage) where
  pub reads_zeros : (left : ℕ) (done : T) → left ≡ bytes_left (slice_get old.sizes.items p.file) p.page → left ≡ 0 → ReadsSizedPage {T = T} {E = E} g old old p (replicate 4096 0) (Ok done)
  reads_zeros left done is none = record {
    page = λ keeps. zeros_left g old ready p (slice_get old.sizes.items p.file) refl (sym is ∙ none) (standing_page (g.sector_count (disk_of old)) (g.content (disk_of old)) p.file p.page);
    ready = ready;
    same = (refl, refl);
    size = refl;
    kept = λ keeps. keeps;
    touches = λ keeps. stays g Nothing (disk_of old);
    asks = asks_none g (IsSectorOf old.store p) (disk_of old) (disk_of old) (λ k. refl);
    once = once_none (IsSectorOf old.store p) (g.asked (disk_of old)) (g.asked (disk_of old)) (λ k. refl);
    cause = record { later = omega arith; failed = λ err. absurd (false≢true err); calm = refl };
  }

  -- a page that the store reads
  pub reads_kept : (store : Store D) (given to : List ℕ) (result told : Result T E) → Durable.ReadsFilePage g old.store store p given result
      → (g.keeps_model (Durable.disk_of store) → OnOk told (to ≡ left_page (shortest_in (directory_of old) p.file) p.page
      (standing_page (g.sector_count (disk_of old)) (g.content (disk_of old)) p.file p.page)))
      → HasCause (g.failures (disk_of old)) (g.failures (Durable.disk_of store)) told → ReadsSizedPage g old (record old { store = store }) p to told
  reads_kept store given to result told reads page cause = record {
    page = page;
    ready = ready_still g old ready p store reads.ready reads.same;
    same = (reads.same, refl);
    size = reads.size;
    kept = reads.kept;
    touches = reads.touches;
    asks = reads.asks;
    once = once_named (IsSectorOf old.store p) (IsSectorOf old.store p) (g.asked (disk_of old)) (g.asked (Durable.disk_of store)) (λ k at. at) reads.once;
    cause = cause;
  }

  -- and one that it fails to read
  pub reads_failed : (store : Store D) (given : List ℕ) (fault : E) (told : Result T E) → Durable.ReadsFilePage {T = T} {E = E} g old.store store p given (Err fault) → IsErr told
      → ReadsSizedPage g old (record old { store = store }) p given told
  reads_failed store given fault told reads failed = reads_kept store given given (Err fault) told reads (λ keeps. on_err told _ failed) (record {
    later = reads.cause.later;
    failed = λ err. reads.cause.failed refl;
    calm = on_err told _ failed;
  })

  pub reads_left : (left : ℕ) (store : Store D) (given to : List ℕ) (done : T) → left ≡ bytes_left (slice_get old.sizes.items p.file) p.page → (left ≡ 0 → ⊥) → IsPageOf (files_of old) p.file p.page
      → Durable.ReadsFilePage {T = T} {E = E} g old.store store p given (Ok done) → length given ≡ 4096 → to ≡ padded_page left given
      → ReadsSizedPage {T = T} {E = E} g old (record old { store = store }) p to (Ok done)
  reads_left left store given to done is some page reads size cut =
      let durable = durably_inside g old ready p left is some page in
      reads_kept store given to (Ok done) (Ok done) reads (λ keeps. cut ∙ ap (λ (n : ℕ). padded_page n given) is
      ∙ rest_left g old ready p (slice_get old.sizes.items p.file) refl durable.0 durable.1 (reads.kept keeps) given size (reads.page keeps)) reads.cause
