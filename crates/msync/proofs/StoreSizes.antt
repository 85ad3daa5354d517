-- What a store keeps of the lengths of files, before a commit and after it.
use Rattle.vm_types.specs.declared.mode.Levels as Levels
use Rattle.msync.proofs.Names.{ℕ, ◌+◌, ◌/◌, ◌%◌, ◌≡◌, ◌≢◌, ◌<◌, ◌≤◌, Bool, true, false, if◌then◌else◌, List, [], ◌∷◌, slice_get, Option, Some, None, inl, inr, refl, sym, ap, ◌∙◌, subst, arith, cases_Bool, and_parts, false≢true, same_Some}
use Rattle.msync.proofs.Names.{Ghosts, Core, PageKey, File, FileInfo, FilePage, State, AnyDirectory, Directory, Entry, entry_of, PoolDirectory, PoolEntry, pool_entry_of, info_of, option_map, any-at, any-where, any_below, page_count}
use Rattle.msync.{proofs.{Names.{picture_of}, Sizing.{KnowsLengths}}, specs.{Asking.{are_some}, Choice.{shares_file, takes_file, takes_files}, Shows.{CoreShows, IsSoundCore, MarksEnds, cut_off_page}}}
use Rattle.sized_stores.specs.{Commit.{is_one_of, files_then, settled, AreSettled}, Store.{with_length, length_of, shortest_of, is_resized, is_resized_in, shortest_in, directory_of, files_of, durable_files_of, IsSizeOf, IsReadySized}}
use Rattle.{sized_stores.specs.declared.{sizes.Size.{Size}, store.SizedStore.{SizedStore}}, std.proofs.Common.{eq-eqb}, vm_types.specs.{Limits.{file_limit}, Msync.{resized_in, shows_resized}}}
use Rattle.stores.specs.Store as Durable

most_there : (d : Option FileInfo) (z : Option Size) (info : FileInfo) → with_length d z ≡ Some info → ((i : FileInfo) (x : Size) → d ≡ Some i → z ≡ Some x → IsSizeOf i x) → shortest_of d z ≤ info.length
most_there None z info is each = let bad : None ≡ Some info = is in (cc)
most_there (Some i) None info is each = let e : i.length ≡ info.length = ap (λ (x : FileInfo). x.length) (same_Some i info is) in omega (arith, e)
most_there (Some i) (Some x) info is each =
    let e : x.length ≡ info.length = ap (λ (y : FileInfo). y.length) (same_Some (record { length = x.length; read_only = i.read_only }) info is) in
    let low = (each i x refl refl).is in
    omega (arith, e, low)

kept_there : (d : Option FileInfo) (z : Option Size) (info : FileInfo) → with_length d z ≡ Some info → is_resized z ≡ false → ((i : FileInfo) (x : Size) → d ≡ Some i → z ≡ Some x → IsSizeOf i x)
    → shortest_of d z ≡ info.length
kept_there None z info is same each = let bad : None ≡ Some info = is in (cc)
kept_there (Some i) None info is same each = ap (λ (x : FileInfo). x.length) (same_Some i info is)
kept_there (Some i) (Some x) info is same each =
    let e : x.length ≡ info.length = ap (λ (y : FileInfo). y.length) (same_Some (record { length = x.length; read_only = i.read_only }) info is) in
    let had = (each i x refl refl).same same in
    had.1 ∙ sym had.0 ∙ e

now_there : (d : Option FileInfo) (z : Option Size) (i : FileInfo) → d ≡ Some i → (info : FileInfo) × (with_length d z ≡ Some info)
now_there None z i is = let bad : None ≡ Some i = is in (cc)
now_there (Some x) None i is = (x, refl)
now_there (Some x) (Some z) i is = (record { length = z.length; read_only = x.read_only }, refl)

none_resized : (z : Option Size) → is_resized (option_map settled z) ≡ false
none_resized None = refl
none_resized (Some z) = refl

short_settled : (x d : Option FileInfo) (z : Option Size) (i : FileInfo) → is_resized z ≡ true → d ≡ Some i → shortest_of x (option_map settled z) ≡ length_of (with_length d z)
short_settled x d None i is there = absurd (false≢true is)
short_settled x None (Some z) i is there = let bad : None ≡ Some i = there in (cc)
short_settled x (Some d) (Some z) i is there = refl

module _ {D : Type 0} (g : Ghosts D) (store : SizedStore D) (ready : IsReadySized g store) where
  shortest_most : (f : ℕ) (info : FileInfo) → files_of store f ≡ Some info → shortest_in (directory_of store) f ≤ info.length
  shortest_most f info is = most_there (durable_files_of store f) (slice_get store.sizes.items f) info is (λ i x. ready.each f i x)

  shortest_kept : (f : ℕ) (info : FileInfo) → files_of store f ≡ Some info → is_resized_in store.sizes.items f ≡ false → shortest_in (directory_of store) f ≡ info.length
  shortest_kept f info is same = kept_there (durable_files_of store f) (slice_get store.sizes.items f) info is same (λ i x. ready.each f i x)

module _ {M : Type 0} {m : Levels.Ghosts M} {D E : Type 0} (g : Ghosts D) (h : Ghosts E) where
  -- the state knows them as the store does
  pub knows_lengths : (core : Core D E M m) (s : State) → IsSoundCore g h core → CoreShows g core s → KnowsLengths s
  knows_lengths core s sound shows = record {
    whole = shows.whole;
    there = λ f resized.
        let was = sound.ends.there f (sym (shows.resized f) ∙ resized) in
        let now = now_there (durable_files_of core.store f) (slice_get core.store.sizes.items f) was.0 was.1 in
        (now.0, shows.pages.files f ∙ now.1);
    most = λ f info is.
        let short = shows.shortest f in
        let most = shortest_most g core.store sound.ready f info (sym (shows.pages.files f) ∙ is) in
        omega (arith, short, most);
    kept = λ f info is same. shows.shortest f ∙ shortest_kept g core.store sound.ready f info (sym (shows.pages.files f) ∙ is) (sym (shows.resized f) ∙ same);
  }

-- files have numbers below the limit
in_journals : (d : Directory) (f : ℕ) (o : Option Entry) (info : FileInfo) → entry_of d f ≡ o → option_map (λ e. e.info) o ≡ Some info → f < file_limit
in_journals d f None info is e = let bad : None ≡ Some info = e in (cc)
in_journals d f (Some x) info is e = let few = d.numbers f x is in omega (arith, few)

in_pool : (d : PoolDirectory) (f : ℕ) (o : Option PoolEntry) (info : FileInfo) → pool_entry_of d f ≡ o → option_map info_of o ≡ Some info → f < file_limit
in_pool d f None info is e = let bad : None ≡ Some info = e in (cc)
in_pool d f (Some x) info is e = let few = d.numbers f x is in omega (arith, few)

numbered : (d : AnyDirectory) (f : ℕ) (info : FileInfo) → Durable.files_in d f ≡ Some info → f < file_limit
numbered (inl d) f info is = in_journals d f (entry_of d f) info refl is
numbered (inr d) f info is = in_pool d f (pool_entry_of d f) info refl is

-- where there are files, there is a first one
some_file : (files : List ℕ) → are_some files ≡ true → (f : ℕ) × (is_one_of files f ≡ true)
some_file [] some = absurd (false≢true some)
some_file (f ∷ files) some = (f, first f files)
  where
    first : (f : ℕ) (files : List ℕ) → is_one_of (f ∷ files) f ≡ true
    first f files = rw (eq-eqb f f refl) refl

none_file : (files : List ℕ) (f : ℕ) → is_one_of files f ≡ true → are_some files ≡ true
none_file [] f is = absurd (false≢true is)
none_file (x ∷ files) f is = refl

-- some file of a list is as some file below the limit is
some_below : (files : List ℕ) (P : ℕ → Bool) → ((f : ℕ) → is_one_of files f ≡ P f) → ((f : ℕ) → P f ≡ true → f < file_limit) → are_some files ≡ any_below P file_limit
some_below files P same below = elim (cases_Bool (are_some files)) [
  | inl some ↦ (let one = some_file files some in let is = sym (same one.0) ∙ one.1 in some ∙ sym (any-at P file_limit one.0 (below one.0 is) is))
  | inr none ↦ elim (cases_Bool (any_below P file_limit)) [
    | inl any ↦ (let at = any-where P file_limit any in absurd (false≢true (sym none ∙ none_file files at.0 (same at.0 ∙ at.2))))
    | inr no_one ↦ none ∙ sym no_one
  ]
]

-- a store after a commit of lengths, once it is made
module _ {D : Type 0} (old new : SizedStore D) (files : List ℕ) (settles : AreSettled files old.sizes.items new.sizes.items) (durable : (f : ℕ) → durable_files_of new f ≡ files_then old files f) where
  then_one : (f : ℕ) → is_one_of files f ≡ true → files_then old files f ≡ files_of old f
  then_one f one = ap (λ (b : Bool). if b then files_of old f else durable_files_of old f) one

  then_other : (f : ℕ) → is_one_of files f ≡ false → files_then old files f ≡ durable_files_of old f
  then_other f none = ap (λ (b : Bool). if b then files_of old f else durable_files_of old f) none

  pub resized_one : (f : ℕ) → is_one_of files f ≡ true → is_resized_in new.sizes.items f ≡ false
  resized_one f one = ap is_resized (settles.these f one) ∙ none_resized (slice_get old.sizes.items f)

  pub resized_other : (f : ℕ) → is_one_of files f ≡ false → is_resized_in new.sizes.items f ≡ is_resized_in old.sizes.items f
  resized_other f none = ap is_resized (settles.others f none)

  pub shortest_one : (f : ℕ) (i : FileInfo) → is_one_of files f ≡ true → is_resized_in old.sizes.items f ≡ true → durable_files_of old f ≡ Some i
      → shortest_in (directory_of new) f ≡ length_of (files_of old f)
  shortest_one f i one resized there =
      ap (λ z. shortest_of (durable_files_of new f) z) (settles.these f one) ∙ short_settled (durable_files_of new f) (durable_files_of old f) (slice_get old.sizes.items f) i resized there

  pub shortest_other : (f : ℕ) → is_one_of files f ≡ false → shortest_in (directory_of new) f ≡ shortest_in (directory_of old) f
  shortest_other f none =
      ap (λ o. shortest_of o (slice_get new.sizes.items f)) (durable f ∙ then_other f none) ∙ ap (λ z. shortest_of (durable_files_of old f) z) (settles.others f none)

  -- pages within which files have got longer again are touched still
  module _ (touched touched' : PageKey → Bool) (marks : MarksEnds (directory_of old) touched) (same : (f : ℕ) → files_of new f ≡ files_of old f)
      (left : (p : FilePage) → is_one_of files p.file ≡ false → is_resized_in old.sizes.items p.file ≡ true → touched' (File p) ≡ touched (File p)) where
    -- none of those that got another length since is one of these
    none_of : (f : ℕ) → is_resized_in new.sizes.items f ≡ true → is_one_of files f ≡ false
    none_of f resized = elim (cases_Bool (is_one_of files f)) [
      | inl one ↦ absurd (false≢true (sym (resized_one f one) ∙ resized))
      | inr none ↦ none
    ]

    pub marks_after : MarksEnds (directory_of new) touched'
    marks_after = record {
      there = λ f resized.
          let none = none_of f resized in
          let was = marks.there f (sym (resized_other f none) ∙ resized) in
          (was.0, durable f ∙ then_other f none ∙ was.1);
      ends = λ f resized longer within.
          let none = none_of f resized in
          let was = sym (resized_other f none) ∙ resized in
          let short = shortest_other f none in
          let long = ap length_of (same f) in
          let before : shortest_in (directory_of old) f < length_of (files_of old f) = omega (arith, longer, short, long) in
          let apart : shortest_in (directory_of old) f % 4096 ≢ 0 = λ e. within (ap (λ n. n % 4096) short ∙ e) in
          let P : ℕ → Type 0 = λ n. (let p : FilePage = record { file = f; page = n / 4096 } in touched' (File p) ≡ true) in
          subst P (sym short) (left (cut_off_page (directory_of old) f) none was ∙ marks.ends f was before apart);
    }

-- an msync takes lengths where it takes a file whole
module _ {M : Type 0} {m : Levels.Ghosts M} {D E : Type 0} (core : Core D E M m) (marks : MarksEnds (directory_of core.store) (picture_of core).touched) where
  resized_below : (f : ℕ) → is_resized_in core.store.sizes.items f ≡ true → f < file_limit
  resized_below f resized = let was = marks.there f resized in numbered (Durable.directory_of core.store.store) f was.0 was.1

  pub shown_some : (s : State) (pid first count : ℕ) (files : List ℕ) → ((f : ℕ) → s.resized f ≡ is_resized_in core.store.sizes.items f)
      → ((f : ℕ) → is_one_of files f ≡ resized_in s pid first count f) → ((f : ℕ) → resized_in s pid first count f ≡ true → s.resized f ≡ true) → are_some files ≡ shows_resized s pid first count
  unfolding shows_resized
  shown_some s pid first count files resized same from = some_below files (resized_in s pid first count) same (λ f is. resized_below f (sym (resized f) ∙ from f is))

  pub taken_some : (pid addr len : ℕ) (files : List ℕ) → ((f : ℕ) → is_one_of files f ≡ takes_file (picture_of core) core.store.sizes.items pid addr len f)
      → are_some files ≡ takes_files (picture_of core) core.store.sizes.items pid addr len
  taken_some pid addr len files same = some_below files (takes_file (picture_of core) core.store.sizes.items pid addr len) same (λ f is. resized_below f
      (and_parts (is_resized_in core.store.sizes.items f) (any_below (λ i. shares_file ((picture_of core).at pid (addr / 4096 + i)) f) (page_count len)) is).0)
