use Rattle.std.proofs.Common.{ℕ, zero, suc, ◌<◌, ◌≤◌, ◌≡◌, ◌==◌, true, false, List, [], ◌∷◌, length, get_or, slice_get, Option, Some, None, ⊎_elim, refl, sym, ap, subst, ◌∙◌, arith}
use Rattle.std.proofs.lemmas.{Bool.{cases_eq, cond-false, cond-true, eq-eqb, false≢true, leb-true, ne_eqb}, Option.{none-some, same_Some, slice_get-get_or}}
use Rattle.std.specs.Option.{is_some}
use Rattle.vm_types.specs.declared.file.{FileInfo.{FileInfo}, FilePage.{FilePage}}
use Rattle.file_store.specs.Standing.{IsPageOf}
use Rattle.stores.specs.Store.{always_free_in}
use Rattle.sized_stores.specs.{Commit.{is_one_of, ArePagesNow, AreResized}, Store.{directory_of, durable_files_of, durable_in, files_of, is_resized, is_resized_in, kept_of, shortest_in, shortest_of}}
use Rattle.sized_stores.specs.declared.{sizes.Size.{Size}, store.SizedStore.{SizedStore}}
use Rattle.stores_tests.proofs.lengths.may_commit.Goals as goal

-- a list of one
only : {X : Type 0} (x y : X) (i : ℕ) → slice_get (x ∷ []) i ≡ Some y → x ≡ y
only {X} x y zero at = same_Some x y at
only {X} x y (suc i) at = absurd (none-some y at)

only_once : {X : Type 0} (x y : X) (i j : ℕ) → i < j → slice_get (x ∷ []) j ≡ Some y → ⊥
only_once {X} x y i zero less at = omega (arith, less)
only_once {X} x y i (suc j) less at = none-some y at

this_one : (f : ℕ) → is_one_of (f ∷ []) f ≡ true
this_one f = cond-true (f == f) true false (eq-eqb f f refl)

one_alone : (f g : ℕ) → is_one_of (f ∷ []) g ≡ true → f ≡ g
one_alone f g is = ⊎_elim (λ same. same) (λ other. absurd (false≢true (sym (cond-false (f == g) true false (ne_eqb f g other)) ∙ is))) (cases_eq f g)

some_info : (o : Option FileInfo) → is_some o ≡ true → (info : FileInfo) × (o ≡ Some info)
some_info None is = absurd (false≢true is)
some_info (Some info) is = (info, refl)

-- a length that was read in one list stands in the same one
read_at : (list sizes : List Size) (n f : ℕ) (size : Size) → list ≡ sizes → n ≡ f → n < length list → size ≡ get_or list n size → slice_get sizes f ≡ Some size
read_at list sizes n f size same here inside is =
    ap (λ (l : List Size). slice_get l f) (sym same) ∙ ap (slice_get list) (sym here) ∙ slice_get-get_or list n size inside ∙ ap Some (sym is)

module _ {D : Type 0} (s : SizedStore D) (f : ℕ) (size : Size) (at : slice_get s.sizes.items f ≡ Some size) where
  file_resized : (info : FileInfo) → durable_files_of s f ≡ Some info → size.resized ≡ true → AreResized s (f ∷ [])
  file_resized info is resized = record {
    some = omega arith;
    rising = λ i j less below. omega (arith, less, below);
    there = λ i g here. (info, ap (durable_files_of s) (sym (only f g i here)) ∙ is);
    resized = λ i g here. ap (is_resized_in s.sizes.items) (sym (only f g i here)) ∙ ap is_resized at ∙ resized;
  }

  abbrev first : FilePage
  first = record { file = f; page = 0 }

  page_now : 1 ≤ always_free_in (kept_of s) → IsPageOf (files_of s) f 0 → size.shortest ≤ 4096 → ArePagesNow s (f ∷ []) (record { file = f; page = 0 } ∷ [])
  page_now few inside short = record {
    few = few;
    distinct = λ i j p less one two. only_once first p i j less two;
    inside = λ i p here. subst (λ (q : FilePage). IsPageOf (files_of s) q.file q.page) (only first p i here) inside;
    durable = λ i p here none. absurd (false≢true (sym none ∙ ap (λ (q : FilePage). is_one_of (f ∷ []) q.file) (sym (only first p i here)) ∙ this_one f));
    ends = λ g one longer part.
        let here : f ≡ g = one_alone f g one in
        let shortest : shortest_in (directory_of s) g ≡ size.shortest = ap (shortest_in (directory_of s)) (sym here) ∙ ap (shortest_of (durable_in (directory_of s) f)) at in
        (0, first, refl, here, omega (arith, shortest, short, part));
  }

pub returns-clause-files : goal.returns-clause-files
returns-clause-files c =
    let s = c.args.store.now in
    let read = c.in-Some.ensures.lookup in
    let at = read_at c.deref.result.now s.sizes.items c.from.result c.args.file c.in-Some.size.now c.deref.ensures.value c.from.ensures read.3.0 read.1 in
    let there = some_info c.file.result c.if-is_none.ensures in
    λ _. file_resized s c.args.file c.in-Some.size.now at there.0 (sym c.file.ensures ∙ there.1) c.if-not-size.false

pub returns-clause-pages : goal.returns-clause-pages
returns-clause-pages c =
    let s = c.args.store.now in
    let read = c.in-Some.ensures.lookup in
    let at = read_at c.deref.result.now s.sizes.items c.from.result c.args.file c.in-Some.size.now c.deref.ensures.value c.from.ensures read.3.0 read.1 in
    λ short. page_now s c.args.file c.in-Some.size.now at (omega (arith, c.always_free_pages-always.ensures, c.if-always-eq0.false)) (c.if-not-has_bytes.ensures refl)
    (leb-true c.in-Some.size.now.shortest 4096 short)
