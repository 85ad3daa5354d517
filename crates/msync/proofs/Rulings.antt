-- How an msync is judged, as the flat model sees it.
use Rattle.msync.proofs.{Appending.{lists_same}, Names.{ℕ, zero, suc, ◌+◌, ◌/◌, ◌%◌, ◌≡◌, ◌≢◌, ◌<◌, ◌≤◌, ◌^◌, ◌==◌, ◌&&◌, not, Bool, true, false, nat_lt, List, [], ◌∷◌, length, get_or, ⊎_elim, inl, inr, Option, Some, None, refl, sym, ap, ◌∙◌, arith, both_ways, cases_eq, false_from_ne_true}}
use Rattle.msync.proofs.Names.{nat_tests, option_map, MsyncMode, Sync, FileInfo, FilePage, PageKey, File, ENOMEM, Attr, first_of, page_count, pages_from, any_below, any-at, any-where, shares, touched_in, touched_count, msync_ruling, row_ruling, or_else, is_covered}
use Rattle.msync.{proofs.{Names.{State, View, attrs_of, Picture, entry, is_live, own_in, view_of, view, IsFit, ShowsPages, any-same}, Totals.{total, IsWithin, at_least, exactly}}, specs.Choice.{of_files}}
use Rattle.msync.proofs.Wholes.{front_count, front_at, front_is, front_rising, touched_one, resized_one, whole_one, not_resized, whole_same, chosen_same}
use Rattle.msync.specs.Choice.{chosen_page, shares_page, shares_file, is_shared_in, is_whole, is_chosen, OverflowsRow, ListsTouched, ListsTaken, IsRulingOn, RulesSame, AreListed, AreTaken}
use Rattle.msync.specs.declared.chosen.{Ruling.{Ruling, TheVariants.{Refuses, Passes, Takes}}, Taken.{Taken}}
use Rattle.msync.proofs.Names.{AnyDirectory, files_in, Directory, Entry, entry_of, PoolDirectory, PoolEntry, pool_entry_of, info_of}
use Rattle.std.proofs.{Common.{◌||◌}, lemmas.Bool.{and_left, and_right, not_from_true}}
use Rattle.file_store.specs.Standing.{AreBounded}
use Rattle.sized_stores.specs.Store.{is_resized_in, SizedDirectory}
use Rattle.sized_stores.specs.declared.sizes.Size.{Size}
use Rattle.vm_types.specs.{Limits.{file_limit}, Msync.{resized_in, shows_file, shows_resized}}
use Rattle.msync.specs.Shows.{MarksEnds}
use Rattle.vm_types.specs.Msync as Flat

-- a process, what its pages are, and what is known of files
pub record IsProcess (touched : FilePage → Bool) (resized : ℕ → Bool) (map : ℕ → Option Attr) (s : State) (pid : ℕ) : Type 0 where
  pub live : s.live pid ≡ true
  pub attrs : (page : ℕ) → attrs_of (s.views pid) page ≡ map page
  pub shared : (page : ℕ) (p : FilePage) → shares (s.views pid page) p.file p.page ≡ shares_page (map page) p
  pub files : (page f : ℕ) → shows_file (s.views pid page) f ≡ shares_file (map page) f
  pub marked : (p : FilePage) → s.touched p.file p.page ≡ touched p
  pub lengths : (f : ℕ) → s.resized f ≡ resized f

attr_in_view : (own : Option (List ℕ)) (a : Option Attr) → option_map (λ (v : View). v.attr) (view_of own a) ≡ a
attr_in_view own None = refl
attr_in_view own (Some a) = refl

shares_in_view : (own : Option (List ℕ)) (a : Option Attr) (p : FilePage) → shares (view_of own a) p.file p.page ≡ shares_page a p
shares_in_view own None p = refl
shares_in_view own (Some a) p = refl

file_in_view : (own : Option (List ℕ)) (a : Option Attr) (f : ℕ) → shows_file (view_of own a) f ≡ shares_file a f
file_in_view own None f = refl
file_in_view own (Some a) f = refl

view-attr : {mode : ℕ} (c : Picture mode) (pid page : ℕ) → option_map (λ (v : View). v.attr) (view c pid page) ≡ c.at pid page
unfolding view
view-attr c pid page = attr_in_view (own_in c.frames c.slots (entry c pid page)) (c.at pid page)

view-shares : {mode : ℕ} (c : Picture mode) (pid page : ℕ) (p : FilePage) → shares (view c pid page) p.file p.page ≡ shares_page (c.at pid page) p
unfolding view
view-shares c pid page p = shares_in_view (own_in c.frames c.slots (entry c pid page)) (c.at pid page) p

view-file : {mode : ℕ} (c : Picture mode) (pid page f : ℕ) → shows_file (view c pid page) f ≡ shares_file (c.at pid page) f
unfolding view
view-file c pid page f = file_in_view (own_in c.frames c.slots (entry c pid page)) (c.at pid page) f

pub the_process : {mode : ℕ} (c : Picture mode) (resized : ℕ → Bool) (map : ℕ → Option Attr) (s : State) (pid : ℕ) → ShowsPages c s → ((f : ℕ) → s.resized f ≡ resized f) → is_live c pid ≡ true
    → ((page : ℕ) → map page ≡ c.at pid page) → IsProcess (of_files c.touched) resized map s pid
the_process c resized map s pid shows lengths live at = record {
  live = shows.live pid ∙ live;
  attrs = λ page. ap (λ (o : Option View). option_map (λ (v : View). v.attr) o) (shows.views pid page) ∙ view-attr c pid page ∙ sym (at page);
  shared = λ page p. ap (λ (o : Option View). shares o p.file p.page) (shows.views pid page) ∙ view-shares c pid page p ∙ ap (λ (o : Option Attr). shares_page o p) (sym (at page));
  files = λ page f. ap (λ (o : Option View). shows_file o f) (shows.views pid page) ∙ view-file c pid page f ∙ ap (λ (o : Option Attr). shares_file o f) (sym (at page));
  marked = shows.touched;
  lengths = lengths;
}

-- what the flat model takes
module _ (touched : FilePage → Bool) (resized : ℕ → Bool) (map : ℕ → Option Attr) (s : State) (pid : ℕ) (p : IsProcess touched resized map s pid) where
  whole_is_resized : (first count file : ℕ) → is_whole resized map first count file ≡ resized_in s pid first count file
  whole_is_resized first count file =
      sym (
      ap (λ (t : Bool). t && any_below (λ i. shows_file (s.views pid (first + i)) file) count) (p.lengths file)
      ∙ ap (λ (t : Bool). resized file && t)
      (any-same (λ i. shows_file (s.views pid (first + i)) file) (λ i. shares_file (map (first + i)) file) count (λ k. p.files (first + k) file))
      )

  taken_is_chosen : (first count : ℕ) (page : FilePage) → is_chosen touched resized map first count page ≡ touched_in s pid first count page.file page.page
  taken_is_chosen first count page =
      sym (
      ap (λ (t : Bool). t && (any_below (λ i. shares (s.views pid (first + i)) page.file page.page) count || resized_in s pid first count page.file)) (p.marked page)
      ∙ ap (λ (t : Bool). touched page && (t || resized_in s pid first count page.file))
      (any-same (λ i. shares (s.views pid (first + i)) page.file page.page) (λ i. shares_page (map (first + i)) page) count (λ k. p.shared (first + k) page))
      ∙ ap (λ (t : Bool). touched page && (is_shared_in map first count page || t)) (sym (whole_is_resized first count page.file))
      )

  taken_within : (first count : ℕ) → IsWithin touched 4096 (2 ^ 30) → IsWithin (λ page. touched_in s pid first count page.file page.page) 4096 (2 ^ 30)
  taken_within first count within = record {
    file = λ page e. within.file page (touched_one touched resized map first count page (taken_is_chosen first count page ∙ e));
    page = λ page e. within.page page (touched_one touched resized map first count page (taken_is_chosen first count page ∙ e));
  }

  total_of : (first count : ℕ) → touched_count s pid first count ≡ total (λ page. touched_in s pid first count page.file page.page) 4096 (2 ^ 30)
  unfolding touched_count total
  total_of first count = refl

  too_many : (first count : ℕ) (list : List FilePage) → IsWithin touched 4096 (2 ^ 30) → OverflowsRow (is_chosen touched resized map first count) list 0
      → length list < touched_count s pid first count
  too_many first count list within over =
      let n = at_least (λ page. touched_in s pid first count page.file page.page) 4096 (2 ^ 30) over.at (length list + 1) (taken_within first count within)
      (λ i less. sym (taken_is_chosen first count (over.at i)) ∙ over.each i (omega arith) (omega (arith, less)))
      (λ i j less high. over.once i j less (omega arith) (omega (arith, high))) in
      omega (arith, n, total_of first count)

  same_lists : (first count : ℕ) (list : List FilePage) (n : ℕ) → ListsTouched (is_chosen touched resized map first count) list n
      → ListsTouched (λ page. touched_in s pid first count page.file page.page) list n
  same_lists first count list n f =
      lists_same (is_chosen touched resized map first count) (λ page. touched_in s pid first count page.file page.page) list n
      (λ page. taken_is_chosen first count page) f

  count_of : (first count : ℕ) (list : List FilePage) (n : ℕ) → IsWithin touched 4096 (2 ^ 30) → ListsTouched (is_chosen touched resized map first count) list n
      → touched_count s pid first count ≡ n
  count_of first count list n within f =
      let l = same_lists first count list n f in
      total_of first count
      ∙ exactly (λ page. touched_in s pid first count page.file page.page) 4096 (2 ^ 30) (chosen_page list) n (taken_within first count within) l.each l.once l.all

  -- whether a file of another length is shown
  none_shown : (first count : ℕ) → ((file : ℕ) → is_whole resized map first count file ≡ false) → shows_resized s pid first count ≡ false
  unfolding shows_resized
  none_shown first count none =
      false_from_ne_true (any_below (resized_in s pid first count) file_limit) (λ e.
      let r = any-where (resized_in s pid first count) file_limit e in
      both_ways (is_whole resized map first count r.0) (none r.0) (whole_is_resized first count r.0 ∙ r.2))

  one_shown : (first count file : ℕ) → file < file_limit → is_whole resized map first count file ≡ true → shows_resized s pid first count ≡ true
  unfolding shows_resized
  one_shown first count file below is = any-at (resized_in s pid first count) file_limit file below (sym (whole_is_resized first count file) ∙ is)

  -- covered rows
  covered_of : (first count : ℕ) → is_covered (attrs_of (s.views pid)) first count ≡ is_covered map first count
  unfolding is_covered
  covered_of first zero = refl
  covered_of first (suc count) = rw (p.attrs (first + count)) (rw (covered_of first count) refl)

  -- the checks that pass
  ruling_after : (addr len : ℕ) (mode : MsyncMode) → addr % 4096 ≡ 0 → len ≢ 0
      → msync_ruling s pid addr len mode
      ≡ or_else (first_of ((not (is_covered (attrs_of (s.views pid)) (addr / 4096) (page_count len)), ENOMEM) ∷ []))
      (row_ruling s pid (addr / 4096) (page_count len) mode)
  ruling_after addr len mode aligned some =
      let a : (addr % 4096 == 0) ≡ true = grind (arith, nat_tests) in
      let n : (len == 0) ≡ false = grind (arith, nat_tests) in
      let count : pages_from addr len ≡ page_count len = omega arith in
      rw (p.live, a, n, count) refl

  pub ruled_missing : (addr len : ℕ) (mode : MsyncMode) → addr % 4096 ≡ 0 → len ≢ 0
      → is_covered map (addr / 4096) (page_count len) ≡ false → msync_ruling s pid addr len mode ≡ Flat.Refuses ENOMEM
  ruled_missing addr len mode aligned some hole = ruling_after addr len mode aligned some ∙ rw (covered_of (addr / 4096) (page_count len) ∙ hole) refl

  pub ruled_row : (addr len : ℕ) (mode : MsyncMode) → addr % 4096 ≡ 0 → len ≢ 0
      → is_covered map (addr / 4096) (page_count len) ≡ true
      → msync_ruling s pid addr len mode ≡ row_ruling s pid (addr / 4096) (page_count len) mode
  ruled_row addr len mode aligned some covered = ruling_after addr len mode aligned some ∙ rw (covered_of (addr / 4096) (page_count len) ∙ covered) refl

  -- where some page or file is taken, it isn't passed
  some_taken : (first count : ℕ) (list : List FilePage) (files : List ℕ) (taken : Taken) → ((f : ℕ) → resized f ≡ true → f < file_limit)
      → ListsTaken (is_chosen touched resized map first count) (is_whole resized map first count) list files taken
      → (taken.pages == 0 && not (shows_resized s pid first count)) ≡ false
  some_taken first count list files taken numbers choice =
      ⊎_elim
      (λ (none : taken.pages ≡ 0).
      let some : 0 < taken.files = omega (arith, choice.some) in
      let f : ℕ = get_or files 0 0 in
      let is : is_whole resized map first count f ≡ true = choice.lengths.each 0 some in
      let below : f < file_limit = numbers f (resized_one touched resized map first count f is) in
      and_right (taken.pages == 0) (not (shows_resized s pid first count)) (not_from_true (shows_resized s pid first count) (one_shown first count f below is)))
      (λ (some : taken.pages ≢ 0).
      let other : (taken.pages == 0) ≡ false = grind (arith, nat_tests) in
      and_left (taken.pages == 0) (not (shows_resized s pid first count)) other)
      (cases_eq taken.pages 0)

  pub ruled_sync : (addr len : ℕ) (list : List FilePage) (files : List ℕ) (r : Ruling) → s.most ≡ length list → IsWithin touched 4096 (2 ^ 30) → ((f : ℕ) → resized f ≡ true → f < file_limit)
      → addr % 4096 ≡ 0 → len ≢ 0 → is_covered map (addr / 4096) (page_count len) ≡ true
      → IsRulingOn (is_chosen touched resized map (addr / 4096) (page_count len)) (is_whole resized map (addr / 4096) (page_count len)) list files r
      → RulesSame s pid addr len Sync list files r
  ruled_sync addr len list files (Refuses errno) most within numbers aligned some covered choice =
      let n = too_many (addr / 4096) (page_count len) list within choice.1 in
      let above : s.most < touched_count s pid (addr / 4096) (page_count len) = omega (arith, most, n) in
      let many : nat_lt s.most (touched_count s pid (addr / 4096) (page_count len)) ≡ true = grind (arith, nat_tests, above) in
      ruled_row addr len Sync aligned some covered ∙ rw many (ap Flat.Refuses (sym choice.0))
  ruled_sync addr len list files Passes most within numbers aligned some covered choice =
      let few : nat_lt s.most 0 ≡ false = grind (arith, nat_tests) in
      ruled_row addr len Sync aligned some covered
      ∙ rw (count_of (addr / 4096) (page_count len) [] 0 within choice.0) (rw few (rw (none_shown (addr / 4096) (page_count len) choice.1) refl))
  ruled_sync addr len list files (Takes taken) most within numbers aligned some covered choice =
      let small : taken.pages ≤ s.most = omega (arith, most, choice.few) in
      let few : nat_lt s.most taken.pages ≡ false = grind (arith, nat_tests, small) in
      let any = some_taken (addr / 4096) (page_count len) list files taken numbers choice in
      record {
        first = addr / 4096;
        count = page_count len;
        ruling = ruled_row addr len Sync aligned some covered ∙ rw (count_of (addr / 4096) (page_count len) list taken.pages within choice.pages) (rw few (rw any refl));
        lists = same_lists (addr / 4096) (page_count len) list taken.pages choice.pages;
        files = λ f. front_is (is_whole resized map (addr / 4096) (page_count len)) files taken.files choice.short choice.lengths f ∙ whole_is_resized (addr / 4096) (page_count len) f;
      }

-- what stands in the lists
pub listed_of : {mode : ℕ} (c : Picture mode) (resized : ℕ → Bool) (map : ℕ → Option Attr) (first count : ℕ) (list : List FilePage) (files : List ℕ) (r : Ruling)
    → IsRulingOn (is_chosen (of_files c.touched) resized map first count) (is_whole resized map first count) list files r → AreListed c resized list files r
listed_of c resized map first count list files (Takes taken) choice =
    let touched = of_files c.touched in
    let whole = is_whole resized map first count in
    let size = front_count whole files taken.files choice.short choice.lengths in
    let at = front_at whole files taken.files choice.short choice.lengths in
    let is = front_is whole files taken.files choice.short choice.lengths in (
      choice.short,
      record {
        some = omega (arith, choice.some, size);
        few = choice.few;
        touched = λ i less. touched_one touched resized map first count (chosen_page list i) (choice.pages.each i less);
        once = choice.pages.once;
        lengths = λ i less. (
            let below : i < taken.files = omega (arith, less, size) in
            ap resized (at i below) ∙ resized_one touched resized map first count (get_or files i 0) (choice.lengths.each i below));
        rising = front_rising whole files taken.files choice.short choice.lengths;
        whole = λ p one marked. choice.pages.all p (whole_one touched resized map first count p marked (sym (is p.file) ∙ one));
        others = λ i less other. not_resized touched resized map first count (chosen_page list i) (choice.pages.each i less) (sym (is (chosen_page list i).file) ∙ other);
      },
    )
listed_of c resized map first count list files r choice = tt

-- and that they are taken is told by the process's own pages
pub taken_of : {mode : ℕ} (c : Picture mode) (sizes : List Size) (map : ℕ → Option Attr) (pid addr len : ℕ) (list : List FilePage) (files : List ℕ) (r : Ruling) → ((page : ℕ) → map page ≡ c.at pid page)
    → IsRulingOn (is_chosen (of_files c.touched) (is_resized_in sizes) map (addr / 4096) (page_count len)) (is_whole (is_resized_in sizes) map (addr / 4096) (page_count len)) list files r
    → AreTaken c sizes pid addr len list files r
taken_of c sizes map pid addr len list files (Takes taken) same choice =
    let touched = of_files c.touched in
    let resized = is_resized_in sizes in
    let first = addr / 4096 in
    let count = page_count len in
    record {
      pages = lists_same (is_chosen touched resized map first count) (is_chosen touched resized (c.at pid) first count) list taken.pages
          (chosen_same touched resized map (c.at pid) first count same) choice.pages;
      files = λ f. front_is (is_whole resized map first count) files taken.files choice.short choice.lengths f ∙ whole_same touched resized map (c.at pid) first count same f;
      rising = front_rising (is_whole resized map first count) files taken.files choice.short choice.lengths;
    }
taken_of c sizes map pid addr len list files r same choice = tt

-- touched pages are pages of files, of which there are 4,096, of 2 ^ 30 pages at most
pub touched_within : {mode : ℕ} (c : Picture mode) → IsFit c → AreBounded c.files → IsWithin (of_files c.touched) 4096 (2 ^ 30)
touched_within c fit bounded = record {
  file = λ p e. (bounded.each p.file p.page (fit.places.inside (File p) (fit.dirty.held (File p) e))).0;
  page = λ p e. (bounded.each p.file p.page (fit.places.inside (File p) (fit.dirty.held (File p) e))).1;
}

-- and a directory has no more files than that
in_journals : (d : Directory) (f : ℕ) (o : Option Entry) (info : FileInfo) → entry_of d f ≡ o → option_map (λ e. e.info) o ≡ Some info → f < 4096
in_journals d f None info is e = cc
in_journals d f (Some x) info is e = (let few = d.numbers f x is in omega (arith, few))

in_pool : (d : PoolDirectory) (f : ℕ) (o : Option PoolEntry) (info : FileInfo) → pool_entry_of d f ≡ o → option_map info_of o ≡ Some info → f < 4096
in_pool d f None info is e = cc
in_pool d f (Some x) info is e = d.numbers f x is

in_file : (d : AnyDirectory) (f : ℕ) (info : FileInfo) → files_in d f ≡ Some info → f < 4096
in_file (inl d) f info is = in_journals d f (entry_of d f) info refl is
in_file (inr d) f info is = in_pool d f (pool_entry_of d f) info refl is

-- so files that have got other lengths have such numbers
pub numbered : (d : SizedDirectory) (touched : PageKey → Bool) → MarksEnds d touched → (f : ℕ) → is_resized_in d.sizes f ≡ true → f < file_limit
numbered d touched ends f is = let there = ends.there f is in in_file d.durable f there.0 there.1
