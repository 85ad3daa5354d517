-- Changes and pages that are found good one by one, or bad.
use Rattle.std.proofs.Common.{ℕ, zero, suc, ◌≡◌, ◌<◌, ◌≤◌, ◌+◌, ◌^◌, ◌∷◌, [], ◌++◌, List, length, get_or, slice_get, ⊎_elim, inl, inr, refl, sym, ap, subst, ◌∙◌, arith, eqb, true, false, Option, Some, None, length-append, add-one}
use Rattle.std.specs.Prelude.{IfSome, if◌then◌else◌}
use Rattle.std.proofs.lemmas.{Bool.{cases_eq, cases_lt, cond-true, cond-false, eq-eqb, ne_eqb}, List.{get_or_default, get_or_past}, Option.{none-some, same_Some, get_or_from_slice_get, slice_get-get_or, slice_get_within}}
use Rattle.std.specs.{List.{All, AllPairs}, Option.{option_map}}
use Rattle.vm_types.specs.declared.{file.FileInfo.{FileInfo}, file.FilePage.{FilePage}}
use Rattle.directories.specs.{Homes.{HasHome}, Layouts.{entry_in, IsGoodLayout}, declared.entry.Entry.{Entry}}
use Rattle.growth.specs.{Changes.{change_of, entry_then, AreChanges, TakesFreeHomes}, Refusals.{IsChangeRefused}, declared.changes.Change.{Change}, declared.faults.ChangeFault.{ChangeFault}}
use Rattle.growth.specs.declared.faults.ChangeFault.TheVariants.{Outside, Short, Shared, Taken}
use Rattle.growth.proofs.{Changed.{HasChange, IsChanged, Rise, length_after, entry_there, file_after, change_there, entry_of_change}}
use Rattle.pool_growth.specs.{Asked.{changed_pages, entries_then, is_changed, AreFileChanges, AreKeptPages, AreNewPages}, Files.{files_after, info_then, file_page_count, IsNewPage}}
use Rattle.pool_growth.specs.Checks.{AllKeepHomes, AreAllKept, AreAllNew, HasAllEnds, HasBadChange, HasEnd, HasKeptHomes, IsKeptPage, IsSmallChange, ListsEnd, MovesPage, PrecedesPage}
use Rattle.pool_growth.proofs.Fronts.{keeps_there, has_kept, moves_page}
use Rattle.pool_journal.specs.{Journal.{free_count}, Maps.{entries_of}}
use Rattle.pool_store.specs.{Files.{info_of}, Pools.{HaveBounds}, Store.{entry_of, info_by, IsDirectoryOn}, declared.{directory.Directory.{Directory}, store.PoolStore.{PoolStore}}}

-- a file of a small number and length
abbrev IsSmallFile : ℕ → Entry → Type 0
IsSmallFile f e = (f < 4096) × (e.length ≤ 2 ^ 42)

small_if : (f : ℕ) (entry : Option Entry) → ((e : Entry) → entry ≡ Some e → IsSmallFile f e) → IfSome entry (IsSmallFile f)
small_if f None small = tt
small_if f (Some e) small = small e refl

small_then : (f : ℕ) (e : Entry) (entry : Option Entry) → IfSome entry (IsSmallFile f) → entry ≡ Some e → IsSmallFile f e
small_then f e None small is = absurd (none-some e is)
small_then f e (Some d) small is = subst (λ (x : Entry). IsSmallFile f x) (same_Some d e is) small

few_then : (e : Entry) (entry : Option Entry) → IfSome entry (λ x. x.extent_count ≤ 30) → entry ≡ Some e → e.extent_count ≤ 30
few_then e None few is = absurd (none-some e is)
few_then e (Some d) few is = subst (λ (x : Entry). x.extent_count ≤ 30) (same_Some d e is) few

-- what is fixed of a file by the entry that it has then
pub info_is : (change : Option Change) (was : Option Entry) → option_map info_of (entry_then change was) ≡ info_then change (option_map info_of was)
info_is None was = refl
info_is (Some c) was = refl

change_is : (changes : List Change) (f : ℕ) (c : Change) → change_of changes f ≡ Some c → HasChange changes f c
change_is [] f c is = absurd (none-some c is)
change_is (d ∷ ds) f c is = ⊎_elim
    (λ (same : d.file ≡ f).
    let here : d ≡ c = same_Some d c (sym (cond-true (eqb d.file f) (Some d) (change_of ds f) (eq-eqb d.file f same)) ∙ is) in
    record { place = 0; is = ap Some here; file = ap (λ (e : Change). e.file) (sym here) ∙ same })
    (λ other.
    let rest = change_is ds f c (sym (cond-false (eqb d.file f) (Some d) (change_of ds f) (ne_eqb d.file f other)) ∙ is) in
    record { place = suc rest.place; is = rest.is; file = rest.file })
    (cases_eq d.file f)

-- what holds of each element holds of this one
of_all : {X : Type 0} (P : X → Type 0) (xs : List X) (i : ℕ) (x : X) → All P xs → slice_get xs i ≡ Some x → P x
of_all {X} P xs i x all is = subst (λ (y : X). P y) (get_or_from_slice_get xs i x x is) (all i x (slice_get_within xs i x is))

-- not all are good where one is bad
pub not_all : (Is_good : Change → Type 0) (changes : List Change) (f : ℕ) → HasBadChange Is_good changes f → All Is_good changes → ⊥
not_all Is_good changes f bad all = bad.4 (of_all Is_good changes bad.0 bad.1 all bad.2)

-- what holds of the first n elements, and of the next
pub all_more : {X : Type 0} (P : X → Type 0) (xs : List X) (n : ℕ) (d : X) → n < length xs → ((i : ℕ) (e : X) → i < n → P (get_or xs i e)) → P (get_or xs n d) → (i : ℕ) (e : X) → i < n + 1 → P (get_or xs i e)
all_more {X} P xs n d inside before here i e less = ⊎_elim
    (λ (same : i ≡ n). subst (λ (k : ℕ). P (get_or xs k e)) (sym same) (subst (λ (x : X). P x) (get_or_default xs n d e inside) here))
    (λ other. before i e (omega (arith, less, other)))
    (cases_eq i n)

-- Changes of a directory:
module _ (n : ℕ) (directory : Directory) (on : IsDirectoryOn n directory) (changes : List Change) where
  abbrev entries : List (Option Entry)
  entries = directory.entries.items

  abbrev after : List (Option Entry)
  after = entries_then directory changes

  pub info_there : (f : ℕ) → f < length entries → files_after (info_by directory) changes f ≡ option_map info_of (entry_in after f)
  info_there f inside = sym (ap (option_map info_of) (entry_there entries changes f inside) ∙ info_is (change_of changes f) (entry_in entries f))

  -- a file with an entry has its place
  has_place : (f : ℕ) (e : Entry) → entry_in after f ≡ Some e → f < length entries
  has_place f e is =
      let long = length_after entries changes in
      ⊎_elim (λ less. less) (λ (past : length entries ≤ f). absurd (none-some e (sym (get_or_past after f None (omega (arith, long, past))) ∙ is))) (cases_lt f (length entries))

  pub had_place : (f : ℕ) (e : Entry) → entry_in entries f ≡ Some e → f < length entries
  had_place f e is = ⊎_elim (λ less. less) (λ (past : length entries ≤ f). absurd (none-some e (sym (get_or_past entries f None past) ∙ is))) (cases_lt f (length entries))

  -- numbers and lengths are small
  pub bounded : AreChanges entries changes → All IsSmallChange changes → HaveBounds after
  bounded are small f e is = ⊎_elim
      (λ (ch : IsChanged entries changes f).
      let own = of_all IsSmallChange changes ch.has.place ch.change small ch.has.is in
      let few = of_all (λ (c : Change). IfSome c.entry (λ x. x.extent_count ≤ 30)) changes ch.has.place ch.change are.few ch.has.is in
      let small_file : IsSmallFile f e = subst (λ g. IsSmallFile g e) ch.has.file (small_then ch.change.file e ch.change.entry own (sym ch.entry ∙ is)) in
      (small_file.0, small_file.1, few_then e ch.change.entry few (sym ch.entry ∙ is)))
      (λ same. on.bounded f e (sym same ∙ is))
      (file_after entries changes f (has_place f e is))

  -- pages keep their homes
  kept_by : AllKeepHomes directory changes → (f k h : ℕ) → k < file_page_count (info_by directory f) → k < file_page_count (files_after (info_by directory) changes f) → HasHome entries f k h → HasHome after f k h
  kept_by kept f k h one two has =
      let inside = had_place f has.entry has.file in
      ⊎_elim
      (λ (ch : IsChanged entries changes f).
      let own : HasKeptHomes (entry_of directory ch.change.file) ch.change.entry = of_all (λ (c : Change). HasKeptHomes (entry_of directory c.file) c.entry) changes ch.has.place ch.change kept ch.has.is in
      keeps_there entries after f
      (subst (λ (e : Option Entry). HasKeptHomes (entry_in entries f) e) (sym ch.entry) (subst (λ (g : ℕ). HasKeptHomes (entry_in entries g) ch.change.entry) ch.has.file own))
      k h one (subst (λ o. k < file_page_count o) (info_there f inside) two) has)
      (λ same. record { entry = has.entry; file = same ∙ has.file; home = has.home })
      (file_after entries changes f inside)

  pub are_good : AreChanges entries changes → All IsSmallChange changes → IsGoodLayout directory.pages n after → TakesFreeHomes entries after → AllKeepHomes directory changes → AreFileChanges n directory changes
  are_good are small good free kept = record {
    changes = are;
    may = record { size = length_after entries changes ∙ on.size; bounded = bounded are small; good = good };
    free = free;
    keeps = kept_by kept;
  }

  -- a file that has not the homes of its pages in front moves one
  pub moves : AreChanges entries changes → TakesFreeHomes entries after → (f : ℕ) → HasBadChange (λ c. HasKeptHomes (entry_of directory c.file) c.entry) changes f → MovesPage entries after f
  moves are free f bad = subst (λ (g : ℕ). MovesPage entries after g) bad.3
      (moves_page entries after bad.1.file directory.pages n on.good free
      (λ kept. bad.4 (subst (λ (e : Option Entry). HasKeptHomes (entry_of directory bad.1.file) e) (entry_of_change entries changes bad.0 bad.1 are bad.2) kept)))

  -- Where a store may be changed so, nothing is found bad.
  module _ (are : AreFileChanges n directory changes) where
    pub all_small : All IsSmallChange changes
    all_small k d inside =
        let c = get_or changes k d in
        small_if c.file c.entry (λ e some. let bound = are.may.bounded c.file e (entry_of_change entries changes k c are.changes (slice_get-get_or changes k d inside) ∙ some) in (bound.0, bound.1))

    pub all_kept : AllKeepHomes directory changes
    all_kept k d inside =
        let c = get_or changes k d in
        let is = slice_get-get_or changes k d inside in
        let there : c.file < length entries = are.changes.inside k d inside in
        subst (λ (e : Option Entry). HasKeptHomes (entry_in entries c.file) e) (entry_of_change entries changes k c are.changes is)
        (has_kept entries after c.file directory.pages n on.good are.free
        (λ p h one two has. are.keeps c.file p h one (subst (λ o. p < file_page_count o) (sym (info_there c.file there)) two) has))

    pub not_refused : (fault : ChangeFault) → IsChangeRefused directory.pages n entries after fault → ⊥
    not_refused (Outside f) bad =
        let within = are.may.good.within f bad.place bad.home bad.extent bad.is bad.has in
        ⊎_elim (λ low. omega (arith, low, within)) (λ high. omega (arith, high, within)) bad.outside
    not_refused (Short f) bad = (let enough = are.may.good.enough f bad.entry bad.file in let short = bad.short in omega (arith, enough, short))
    not_refused (Shared f g) bad = bad.two (are.may.good.apart f bad.place g bad.other_place bad.extent bad.other bad.is bad.other_is bad.shared)
    not_refused (Taken f g) bad = are.free.free f bad.place g bad.other_place bad.extent bad.other bad.is bad.fresh bad.had bad.shared

-- Pages rise where each comes before the next.
precedes_then : (p q r : FilePage) → PrecedesPage p q → PrecedesPage q r → PrecedesPage p r
precedes_then p q r one two = ⊎_elim
    (λ less. ⊎_elim (λ also. inl (omega (arith, less, also))) (λ same. inl (let file = same.0 in omega (arith, less, file))) two)
    (λ same.
    let file = same.0 in
    let page = same.1 in
    ⊎_elim (λ less. inl (omega (arith, file, less))) (λ also. let next = also.0 in let on = also.1 in inr (file ∙ next, omega (arith, page, on))) two)
    one

pub precede_on : (list : List FilePage) → ((j : ℕ) (d : FilePage) → j + 1 < length list → PrecedesPage (get_or list j d) (get_or list (j + 1) d)) → AllPairs PrecedesPage list
precede_on list next i zero d less inside = absurd (omega (arith, less))
precede_on list next i (suc j) d less inside =
    let on : j + 1 ≡ suc j = omega arith in
    let step : PrecedesPage (get_or list j d) (get_or list (suc j) d) = subst (λ n. PrecedesPage (get_or list j d) (get_or list n d)) on (next j d (omega (arith, inside))) in
    ⊎_elim
    (λ (same : i ≡ j). subst (λ n. PrecedesPage (get_or list n d) (get_or list (suc j) d)) (sym same) step)
    (λ other. precedes_then (get_or list i d) (get_or list j d) (get_or list (suc j) d) (precede_on list next i j d (omega (arith, less, other)) (omega (arith, inside))) step)
    (cases_eq i j)

not_itself : (p : FilePage) → PrecedesPage p p → ⊥
not_itself p before = ⊎_elim (λ less. omega (arith, less)) (λ same. let page = same.1 in omega (arith, page)) before

-- none stands among them twice
twice : (list : List FilePage) (i j : ℕ) (p : FilePage) → AllPairs PrecedesPage list → i < j → slice_get list i ≡ Some p → slice_get list j ≡ Some p → ⊥
twice list i j p rise less one two =
    not_itself p (subst (λ (q : FilePage). PrecedesPage q p) (get_or_from_slice_get list i p p one)
    (subst (λ (q : FilePage). PrecedesPage (get_or list i p) q) (get_or_from_slice_get list j p p two) (rise i j p less (slice_get_within list j p two))))

-- Pages may be committed with changes where each is kept, they rise, no end is open and they are few.
module _ {D : Type 0} (store : PoolStore D) (changes : List Change) (list : List FilePage) where
  pub are_kept : length list + length (changed_pages changes store.directory.pages) ≤ free_count store.journal.sizes.blocks (entries_of store.journal.map)
      → AreAllKept store.directory changes list → AllPairs PrecedesPage list → HasAllEnds store.directory changes list → AreKeptPages store changes list
  are_kept few kept rise ends = record {
    few = few;
    before = λ i p is. (of_all (IsKeptPage store.directory changes) list i p kept is).0;
    after = λ i p is. (of_all (IsKeptPage store.directory changes) list i p kept is).1;
    distinct = λ i j p less one two. twice list i j p rise less one two;
    ends = ends;
  }

-- New ones where each is new, and they rise.
pub are_new : (directory : Directory) (changes : List Change) (fresh : List FilePage) → AreAllNew directory changes fresh → AllPairs PrecedesPage fresh → AreNewPages (info_by directory) changes fresh
are_new directory changes fresh new rise = record {
  new = λ i p is. of_all (λ (q : FilePage). IsNewPage (info_by directory) changes q.file q.page) fresh i p new is;
  distinct = λ i j p less one two. twice fresh i j p rise less one two;
}

-- Ends of files that are changed:
abbrev pub EndsAt : Directory → List Change → List FilePage → ℕ → Change → Type 0
EndsAt directory changes list i d = (let c = get_or changes i d in ListsEnd list c.file (info_by directory c.file) (option_map info_of c.entry))

-- ends by entries that are the same
pub same_ends : (list : List FilePage) (f : ℕ) (was was' then' now' : Option Entry) → was ≡ was' → then' ≡ now' → ListsEnd list f (option_map info_of was) (option_map info_of then')
    → ListsEnd list f (option_map info_of was') (option_map info_of now')
same_ends list f was was' then' now' before after ends =
    subst (λ (e : Option Entry). ListsEnd list f (option_map info_of e) (option_map info_of now')) before (subst (λ (e : Option Entry). ListsEnd list f (option_map info_of was) (option_map info_of e)) after ends)

module _ (directory : Directory) (changes : List Change) (list : List FilePage) (rise : Rise changes) where
  ends_by : (f : ℕ) (r : Option Change) → change_of changes f ≡ r → ((i : ℕ) (d : Change) → i < length changes → EndsAt directory changes list i d) → ListsEnd list f (info_by directory f) (info_then r (info_by directory f))
  ends_by f None is all = λ was now had then' longer partial.
      let same : was ≡ now = same_Some was now (sym had ∙ then') in
      let length = ap (λ (x : FileInfo). x.length) same in
      absurd (omega (arith, longer, length))
  ends_by f (Some c) is all =
      let has = change_is changes f c is in
      let own : ListsEnd list c.file (info_by directory c.file) (option_map info_of c.entry) =
      subst (λ (e : Change). ListsEnd list e.file (info_by directory e.file) (option_map info_of e.entry)) (get_or_from_slice_get changes has.place c c has.is) (all has.place c (slice_get_within changes has.place c has.is)) in
      subst (λ (g : ℕ). ListsEnd list g (info_by directory g) (option_map info_of c.entry)) has.file own

  -- no end is open where none of theirs is,
  pub all_ends : ((i : ℕ) (d : Change) → i < length changes → EndsAt directory changes list i d) → HasAllEnds directory changes list
  all_ends all f = ends_by f (change_of changes f) refl all

  -- and theirs are among all
  pub one_end : (i : ℕ) (d : Change) → i < length changes → HasEnd directory changes list (get_or changes i d).file → EndsAt directory changes list i d
  one_end i d inside has =
      let c = get_or changes i d in
      subst (λ (r : Option Change). ListsEnd list c.file (info_by directory c.file) (info_then r (info_by directory c.file))) (change_there changes i c rise (slice_get-get_or changes i d inside)) has

-- how many pages of a directory are changed, with one more
pub counted_changed : (changes : List Change) (n : ℕ) → is_changed changes n ≡ true → length (changed_pages changes (n + 1)) ≡ length (changed_pages changes n) + 1
unfolding changed_pages
counted_changed changes n is =
    ap (λ (m : ℕ). length (changed_pages changes m)) (add-one n)
    ∙ ap (λ b. length (changed_pages changes n ++ (if b then n ∷ [] else []))) is
    ∙ length-append (changed_pages changes n) (n ∷ [])

pub counted_same : (changes : List Change) (n : ℕ) → is_changed changes n ≡ false → length (changed_pages changes (n + 1)) ≡ length (changed_pages changes n)
unfolding changed_pages
counted_same changes n is =
    let none = length-append (changed_pages changes n) [] in
    ap (λ (m : ℕ). length (changed_pages changes m)) (add-one n)
    ∙ ap (λ b. length (changed_pages changes n ++ (if b then n ∷ [] else []))) is
    ∙ none ∙ omega arith
