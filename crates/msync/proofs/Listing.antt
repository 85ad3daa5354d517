-- The files that an msync takes whole: the next one from a number on, run by run, and the list of them.
use Rattle.std.{proofs.{Common.{set}, Math.Path.{fun_ext}, lemmas.{Bool.{or_left, or_right, or_cases}, List.{get_or-set_same, get_or-set_other}}}, specs.Prelude.{◌||◌}}
use Rattle.msync.proofs.Names.{ℕ, ◌+◌, ◌-◌, ◌≡◌, ◌<◌, ◌≤◌, ◌&&◌, ◌⊎◌, inl, inr, Bool, true, false, List, length, get_or, slice_get, slice_get_within, Option, Some, None, refl, sym, ap, ◌∙◌, subst, arith, cases_lt, and_parts, and_from, both_ways, false≢true, false_from_ne_true, nat_lt, nat_tests}
use Rattle.msync.proofs.Names.{Run, IsNextRun, Attr, Backing, Shared, backing_after, any_below, any-at, any-where}
use Rattle.vm_types.specs.{Msync.{is_shared_of}, declared.region.Backing.TheVariants.{Anon, Private, Common}}
use Rattle.sized_stores.specs.{Store.{is_resized, is_resized_in}, declared.sizes.Size.{Size}}
use Rattle.msync.specs.Choice.{shows_behind, shares_file, is_whole, ListsFiles, IsNextFile}

-- The next file under another name of what passes
pub next_same : (passes others : ℕ → Bool) (from : ℕ) (least : Option ℕ) → ((file : ℕ) → passes file ≡ others file) → IsNextFile passes from least → IsNextFile others from least
next_same passes others from least same is = subst (λ (p : ℕ → Bool). IsNextFile p from least) (fun_ext same) is

-- a page of a row that shows a file of another length
whole_at : (resized : ℕ → Bool) (map : ℕ → Option Attr) (first n k file : ℕ) → resized file ≡ true → k < n → shares_file (map (first + k)) file ≡ true → is_whole resized map first n file ≡ true
whole_at resized map first n k file e less shares =
    and_from (resized file) (any_below (λ i. shares_file (map (first + i)) file) n) e (any-at (λ i. shares_file (map (first + i)) file) n k less shares)

where_whole : (resized : ℕ → Bool) (map : ℕ → Option Attr) (first n file : ℕ) → is_whole resized map first n file ≡ true
    → (resized file ≡ true) × ((k : ℕ) × (k < n) × (shares_file (map (first + k)) file ≡ true))
where_whole resized map first n file e =
    let parts = and_parts (resized file) (any_below (λ i. shares_file (map (first + i)) file) n) e in
    (parts.0, any-where (λ i. shares_file (map (first + i)) file) n parts.1)

-- a page of a longer row
whole_longer : (resized : ℕ → Bool) (map : ℕ → Option Attr) (first a b file : ℕ) → a ≤ b → is_whole resized map first a file ≡ true → is_whole resized map first b file ≡ true
whole_longer resized map first a b file order e =
    let r = where_whole resized map first a file e in
    whole_at resized map first b r.1.0 file r.0 (omega (arith, r.1.1)) r.1.2

-- the pages behind one of a file are of it
of_after : (b : Backing) (i file : ℕ) → is_shared_of (backing_after b i) file ≡ is_shared_of b file
of_after (Shared p) i file = refl
of_after (Private p) i file = refl
of_after Anon i file = refl
of_after (Common p) i file = refl

either_way : (a b : Bool) → (a ≡ true → b ≡ true) → (b ≡ true → a ≡ true) → a ≡ b
either_way true b to from = sym (to refl)
either_way false true to from = from refl
either_way false false to from = refl

-- the part of a run that lies in the row
module _ (mode : ℕ) (resized : ℕ → Bool) (map : ℕ → Option Attr) (first page stop : ℕ) (run : Run) (next : IsNextRun mode map page run) (from : first ≤ page) (high : stop ≤ run.end) where
  show_in : (k file : ℕ) → run.first ≤ k → k < run.end → shares_file (map k) file ≡ is_shared_of run.attr.backing file
  show_in k file low less = ap (λ (o : Option Attr). shares_file o file) (next.mapped k low less) ∙ of_after run.attr.backing (k - run.first) file

  run_to_row : (file : ℕ) → (resized file && shows_behind run.attr.backing (stop - run.first) file) ≡ true → is_whole resized map first (stop - first) file ≡ true
  run_to_row file e =
      let parts = and_parts (resized file) (shows_behind run.attr.backing (stop - run.first) file) e in
      let shows = and_parts (nat_lt 0 (stop - run.first)) (is_shared_of run.attr.backing file) parts.1 in
      let test = shows.0 in
      let some : 0 < stop - run.first = grind (arith, nat_tests) in
      let at : first + (run.first - first) ≡ run.first = omega (arith, next.from) in
      whole_at resized map first (stop - first) (run.first - first) file parts.0 (omega (arith, some, next.from))
      (ap (λ (k : ℕ). shares_file (map k) file) at ∙ show_in run.first file (omega arith) (omega (arith, some)) ∙ shows.1)

  row_to_run : (file : ℕ) → is_whole resized map first (stop - first) file ≡ true
      → (is_whole resized map first (page - first) file ≡ true) ⊎ ((resized file && shows_behind run.attr.backing (stop - run.first) file) ≡ true)
  row_to_run file e =
      let r = where_whole resized map first (stop - first) file e in
      let k = first + r.1.0 in
      elim (cases_lt k page) [
        | inl early ↦ inl (whole_at resized map first (page - first) r.1.0 file r.0 (omega arith) r.1.2)
        | inr late ↦ elim (cases_lt k run.first) [
          | inl hole ↦ absurd (both_ways (shares_file (map k) file) (ap (λ (o : Option Attr). shares_file o file) (next.none_before k late hole)) r.1.2)
          | inr here ↦
              let less : k < stop = omega (arith, r.1.1) in
              let some : 0 < stop - run.first = omega (arith, less, here) in
              let test : nat_lt 0 (stop - run.first) ≡ true = grind (arith, nat_tests) in
              let is = sym (show_in k file here (omega (arith, less))) ∙ r.1.2 in
              inr (and_from (resized file) (shows_behind run.attr.backing (stop - run.first) file) r.0
              (and_from (nat_lt 0 (stop - run.first)) (is_shared_of run.attr.backing file) test is))
        ]
      ]

  whole_so_far : page ≤ stop → (file : ℕ)
      → (is_whole resized map first (page - first) file || (resized file && shows_behind run.attr.backing (stop - run.first) file)) ≡ is_whole resized map first (stop - first) file
  whole_so_far more file =
      let a = is_whole resized map first (page - first) file in
      let b = resized file && shows_behind run.attr.backing (stop - run.first) file in
      either_way (a || b) (is_whole resized map first (stop - first) file)
      (λ e. elim (or_cases a b e) [ inl was ↦ whole_longer resized map first (page - first) (stop - first) file (omega (arith, more)) was | inr is ↦ run_to_row file is ])
      (λ e. elim (row_to_run file e) [ inl was ↦ or_left a b was | inr is ↦ or_right a b is ])

  -- one run further
  pub next_on : (number : ℕ) (least : Option ℕ) → page ≤ stop
      → IsNextFile (λ file. is_whole resized map first (page - first) file || (resized file && shows_behind run.attr.backing (stop - run.first) file)) number least
      → IsNextFile (is_whole resized map first (stop - first)) number least
  next_on number least more is =
      next_same (λ file. is_whole resized map first (page - first) file || (resized file && shows_behind run.attr.backing (stop - run.first) file)) (is_whole resized map first (stop - first)) number least
      (whole_so_far more) is

-- of no page none is taken
pub next_none : (resized : ℕ → Bool) (map : ℕ → Option Attr) (first from : ℕ) → IsNextFile (is_whole resized map first (first - first)) from None
next_none resized map first from = λ file low. false_from_ne_true (is_whole resized map first (first - first) file)
    (λ e. let less = (where_whole resized map first (first - first) file e).1.1 in omega (arith, less))

-- no page is mapped any more
pub next_end : (resized : ℕ → Bool) (map : ℕ → Option Attr) (first page end number : ℕ) (least : Option ℕ) → ((k : ℕ) → page ≤ k → map k ≡ None) → page ≤ end
    → IsNextFile (is_whole resized map first (page - first)) number least → IsNextFile (is_whole resized map first (end - first)) number least
next_end resized map first page end number least none order is =
    next_same (is_whole resized map first (page - first)) (is_whole resized map first (end - first)) number least
    (λ file. either_way (is_whole resized map first (page - first) file) (is_whole resized map first (end - first) file)
    (whole_longer resized map first (page - first) (end - first) file (omega (arith, order)))
    (λ e.
    let r = where_whole resized map first (end - first) file e in
    elim (cases_lt (first + r.1.0) page) [
      | inl early ↦ whole_at resized map first (page - first) r.1.0 file r.0 (omega (arith, early)) r.1.2
      | inr late ↦ absurd (both_ways (shares_file (map (first + r.1.0)) file) (ap (λ (o : Option Attr). shares_file o file) (none (first + r.1.0) late)) r.1.2)
    ]))
    is

-- what is taken whole has got another length
pub whole_resized : (resized : ℕ → Bool) (map : ℕ → Option Attr) (first n file : ℕ) → is_whole resized map first n file ≡ true → resized file ≡ true
whole_resized resized map first n file e = (where_whole resized map first n file e).0

-- and has a place among the lengths
pub whole_within : (sizes : List Size) (map : ℕ → Option Attr) (first n file : ℕ) → is_whole (is_resized_in sizes) map first n file ≡ true → file < length sizes
whole_within sizes map first n file e = has (slice_get sizes file) refl (whole_resized (is_resized_in sizes) map first n file e)
  where
    has : (size : Option Size) → slice_get sizes file ≡ size → is_resized size ≡ true → file < length sizes
    has None is e = absurd (false≢true e)
    has (Some size) is e = slice_get_within sizes file size is

-- The first files of the list are those below some number that pass, rising.
pub record ListsBelow (passes : ℕ → Bool) (list : List ℕ) (count from : ℕ) : Type 0 where
  pub few : count ≤ from
  pub each : (i : ℕ) → i < count → passes (get_or list i 0) ≡ true
  pub rising : (i j : ℕ) → i < j → j < count → get_or list i 0 < get_or list j 0
  pub below : (i : ℕ) → i < count → get_or list i 0 < from
  pub all : (file : ℕ) → file < from → passes file ≡ true → (i : ℕ) × (i < count) × (get_or list i 0 ≡ file)

pub lists_none : (passes : ℕ → Bool) (list : List ℕ) → ListsBelow passes list 0 0
lists_none passes list = record {
  few = omega arith;
  each = λ i less. absurd (omega (arith, less));
  rising = λ i j less high. absurd (omega (arith, high));
  below = λ i less. absurd (omega (arith, less));
  all = λ file less e. absurd (omega (arith, less));
}

-- one file more
module _ (passes : ℕ → Bool) (list : List ℕ) (count from next : ℕ) (room : count < length list) (is : IsNextFile passes from (Some next)) (f : ListsBelow passes list count from) where
  abbrev longer : List ℕ
  longer = set list count next

  at_end : (i : ℕ) → i ≡ count → get_or longer i 0 ≡ next
  at_end i e = subst (λ (k : ℕ). get_or longer k 0 ≡ next) (sym e) (get_or-set_same list count next 0 room)

  before : (i : ℕ) → i < count → get_or longer i 0 ≡ get_or list i 0
  before i less = get_or-set_other list count i next 0 (λ (e : i ≡ count). let l = less in omega (arith, e, l))

  in_list : (i : ℕ) → i < count + 1 → (i < count) ⊎ (i ≡ count)
  in_list i less = elim (cases_lt i count) [ inl early ↦ inl early | inr late ↦ inr (omega (arith, less, late)) ]

  each_more : (i : ℕ) → i < count + 1 → passes (get_or longer i 0) ≡ true
  each_more i less = elim (in_list i less) [ inl early ↦ ap passes (before i early) ∙ f.each i early | inr last ↦ ap passes (at_end i last) ∙ is.1 ]

  below_more : (i : ℕ) → i < count + 1 → get_or longer i 0 < next + 1
  below_more i less = elim (in_list i less) [
    | inl early ↦ (let same = before i early in let low = f.below i early in let order = is.0 in omega (arith, same, low, order))
    | inr last ↦ (let same = at_end i last in omega (arith, same))
  ]

  rising_more : (i j : ℕ) → i < j → j < count + 1 → get_or longer i 0 < get_or longer j 0
  rising_more i j less high = elim (in_list j high) [
    | inl early ↦
        let a = before i (omega (arith, less, early)) in
        let b = before j early in
        let r = f.rising i j less early in
        omega (arith, a, b, r)
    | inr last ↦
        let inside : i < count = omega (arith, less, last) in
        let a = before i inside in
        let low = f.below i inside in
        let b = at_end j last in
        let order = is.0 in
        omega (arith, a, b, low, order)
  ]

  all_more : (file : ℕ) → file < next + 1 → passes file ≡ true → (i : ℕ) × (i < count + 1) × (get_or longer i 0 ≡ file)
  all_more file less e = elim (cases_lt file from) [
    | inl early ↦ (let r = f.all file early e in let inside = r.1 in (r.0, omega (arith, inside), before r.0 r.1 ∙ r.2))
    | inr late ↦ elim (cases_lt file next) [
      | inl skipped ↦ absurd (both_ways (passes file) (is.2 file late skipped) e)
      | inr here ↦ (let same : next ≡ file = omega (arith, less, here) in (count, omega arith, at_end count refl ∙ same))
    ]
  ]

  pub lists_more : ListsBelow passes longer (count + 1) (next + 1)
  lists_more = record {
    few = (let most = f.few in let order = is.0 in omega (arith, most, order));
    each = each_more;
    rising = rising_more;
    below = below_more;
    all = all_more;
  }

-- none is left
pub lists_all : (passes : ℕ → Bool) (list : List ℕ) (count from : ℕ) → IsNextFile passes from None → ListsBelow passes list count from → ListsFiles passes list count
lists_all passes list count from none f = record {
  each = f.each;
  rising = f.rising;
  all = λ file e. elim (cases_lt file from) [ inl early ↦ f.all file early e | inr late ↦ absurd (both_ways (passes file) (none file late) e) ];
}
