-- Files after a commit of their lengths.
use Rattle.std.proofs.Common.{ℕ, zero, suc, ◌<◌, ◌≡◌, ◌==◌, Bool, true, false, List, [], ◌∷◌, length, map, get_or, slice_get, Option, Some, None, if◌then◌else◌, ⊎_elim, refl, sym, ap, ◌∙◌, arith, eq-eqb, ne_eqb}
use Rattle.std.proofs.lemmas.{Bool.{cases_eq, cases_lt, cond-true, cond-false, cond_both, false≢true}, List.{get_or_past}, Option.{get_or_from_slice_get, none-some, same_Some, slice_get-get_or}}
use Rattle.std.specs.Option.{option_map}
use Rattle.vm_types.specs.{declared.{file.FileInfo.{FileInfo}}}
use Rattle.disk_model.specs.declared.sector_disk.SectorDisk.{Ghosts}
use Rattle.growth.specs.Changes.{change_of}
use Rattle.growth.specs.declared.changes.Change.{Change}
use Rattle.pool_growth.specs.{Files.{files_after, info_then}, Sizes.{info_to, SaySizes}}
use Rattle.pool_store.specs.{Files.{info_of}, Store.{info_by}}
use Rattle.pool_store.specs.declared.store.PoolStore.{PoolStore}
use Rattle.stores.specs.declared.store.Store.TheVariants.{Pool}
use Rattle.sized_stores.specs.{Commit.{is_one_of, files_then, size_asked, AreResized}, Listing.{no_size}, Store.{directory_of, files_of, is_resized, is_resized_in, shortest_in, shortest_of, with_length, IsReadySized, IsSizeOf}}
use Rattle.sized_stores.specs.declared.{sizes.Size.{Size}, store.SizedStore.{SizedStore}}

-- a number that is one of a list has a place in it
pub one_there : (xs : List ℕ) (f : ℕ) → is_one_of xs f ≡ true → (i : ℕ) × (slice_get xs i ≡ Some f)
one_there [] f is = absurd (false≢true is)
one_there (x ∷ xs) f is = ⊎_elim
    (λ same. (0, ap Some same))
    (λ other. (let rest = one_there xs f (sym (cond-false (x == f) true (is_one_of xs f) (ne_eqb x f other)) ∙ is) in (suc rest.0, rest.1)))
    (cases_eq x f)

pub one_of : (xs : List ℕ) (i f : ℕ) → slice_get xs i ≡ Some f → is_one_of xs f ≡ true
one_of [] i f is = absurd (none-some f is)
one_of (x ∷ xs) zero f is = cond-true (x == f) true (is_one_of xs f) (eq-eqb x f (same_Some x f is))
one_of (x ∷ xs) (suc i) f is = cond_both (x == f) true (is_one_of xs f) (λ b. b ≡ true) (λ _. refl) (λ _. one_of xs i f is)

-- changes that say what lengths say make that of their files
says_rest : (was : ℕ → Option FileInfo) (sizes : List Size) (x : ℕ) (xs : List ℕ) (c : Change) (cs : List Change) → SaySizes was (map (size_asked sizes) (x ∷ xs)) (c ∷ cs)
    → SaySizes was (map (size_asked sizes) xs) cs
says_rest was sizes x xs c cs says = record { all = (let all = says.all in omega (arith, all)); file = λ i. says.file (suc i); info = λ i. says.info (suc i) }

abbrev sized_to : (ℕ → Option FileInfo) → List Size → ℕ → Option FileInfo
sized_to was sizes f = info_to (size_asked sizes f) (was f)

after_sizes : (was : ℕ → Option FileInfo) (sizes : List Size) (files : List ℕ) (changes : List Change) → SaySizes was (map (size_asked sizes) files) changes
    → (f : ℕ) → files_after was changes f ≡ (if is_one_of files f then sized_to was sizes f else was f)
after_sizes was sizes [] [] says f = refl
after_sizes was sizes [] (c ∷ cs) says f = absurd (let all = says.all in omega (arith, all))
after_sizes was sizes (x ∷ xs) [] says f = absurd (let all = says.all in omega (arith, all))
after_sizes was sizes (x ∷ xs) (c ∷ cs) says f =
    let file : c.file ≡ x = says.file 0 (size_asked sizes x) c refl refl in
    ⊎_elim
    (λ (same : x ≡ f). ap (λ o. info_then o (was f)) (cond-true (c.file == f) (Some c) (change_of cs f) (eq-eqb c.file f (file ∙ same)))
    ∙ says.info 0 (size_asked sizes x) c refl refl
    ∙ ap (λ n. sized_to was sizes n) same
    ∙ ap (λ b. if b then sized_to was sizes f else was f) (sym (cond-true (x == f) true (is_one_of xs f) (eq-eqb x f same))))
    (λ other. ap (λ o. info_then o (was f)) (cond-false (c.file == f) (Some c) (change_of cs f) (ne_eqb c.file f (λ same. other (sym file ∙ same))))
    ∙ after_sizes was sizes xs cs (says_rest was sizes x xs c cs says) f
    ∙ ap (λ b. if b then sized_to was sizes f else was f) (sym (cond-false (x == f) true (is_one_of xs f) (ne_eqb x f other))))
    (cases_eq x f)

-- one of two ways
either : (b : Bool) (x y z : Option FileInfo) → (b ≡ true → x ≡ y) → (if b then x else z) ≡ (if b then y else z)
either true x y z same = same refl
either false x y z same = refl

-- A file has a length now:
pub record HasSize (sizes : List Size) (f : ℕ) (info : FileInfo) : Type 0 where
  pub size : Size
  pub at : slice_get sizes f ≡ Some size
  pub is : IsSizeOf info size

-- Files of a store of layout 4
module _ {D : Type 0} (s : SizedStore D) (store : PoolStore D) where
  abbrev pub pooled : SizedStore D
  pooled = record s { store = Pool store }

  abbrev sizes : List Size
  sizes = s.sizes.items

  abbrev was : ℕ → Option FileInfo
  was = info_by store.directory

  -- have places in the directory,
  pub has_place : (f : ℕ) (info : FileInfo) → info_by store.directory f ≡ Some info → f < length store.directory.entries.items
  has_place f info is = ⊎_elim (λ inside. inside)
      (λ past. absurd (none-some info (sym (ap (option_map info_of) (get_or_past store.directory.entries.items f None past)) ∙ is)))
      (cases_lt f (length store.directory.entries.items))

  -- and lengths.
  module _ {g : Ghosts D} (ready : IsReadySized g (record s { store = Pool store })) where
    pub has_size : (f : ℕ) (info : FileInfo) → info_by store.directory f ≡ Some info → HasSize s.sizes.items f info
    has_size f info is =
        let inside : f < length sizes = (let there = has_place f info is in let have = ready.have in omega (arith, there, have)) in
        let at : slice_get sizes f ≡ Some (get_or sizes f no_size) = slice_get-get_or sizes f no_size inside in
        record { size = get_or sizes f no_size; at = at; is = ready.each f info (get_or sizes f no_size) is at }

    -- A file that has got no other length has the one that it has durably.
    pub unresized : (f : ℕ) → is_resized_in s.sizes.items f ≡ false → files_of (record s { store = Pool store }) f ≡ info_by store.directory f
    unresized f same = from (was f) refl
      where
        from : (o : Option FileInfo) → was f ≡ o → with_length (was f) (slice_get sizes f) ≡ was f
        from None is = ap (λ o. with_length o (slice_get sizes f)) is ∙ sym is
        from (Some info) is =
            let has = has_size f info is in
            let length : has.size.length ≡ info.length = (has.is.same (sym (ap (λ o. is_resized o) has.at) ∙ same)).0 in
            ap (λ o. with_length o (slice_get sizes f)) is ∙ ap (with_length (Some info)) has.at
            ∙ ap (λ n. Some (record { length = n; read_only = info.read_only })) length ∙ sym is

    -- What it has now, and how short it has been,
    pub has_now : (f : ℕ) (info : FileInfo) → info_by store.directory f ≡ Some info → (has : HasSize s.sizes.items f info)
        → files_of (record s { store = Pool store }) f ≡ Some (record { length = has.size.length; read_only = info.read_only })
    has_now f info is has = ap (λ o. with_length o (slice_get sizes f)) is ∙ ap (with_length (Some info)) has.at

    pub has_been : (f : ℕ) (info : FileInfo) → info_by store.directory f ≡ Some info → (has : HasSize s.sizes.items f info)
        → shortest_in (directory_of (record s { store = Pool store })) f ≡ has.size.shortest
    has_been f info is has = ap (λ o. shortest_of (was f) o) has.at

    -- and what it has after changes that say so of some files that have got another length.
    module _ (files : List ℕ) (are : AreResized (record s { store = Pool store }) files) (changes : List Change) (says : SaySizes (info_by store.directory) (map (size_asked s.sizes.items) files) changes) where
      pub sized_then : (f : ℕ) → files_after (info_by store.directory) changes f ≡ files_then (record s { store = Pool store }) files f
      sized_then f = after_sizes was sizes files changes says f ∙ either (is_one_of files f) (sized_to was sizes f) (files_of (record s { store = Pool store }) f) (was f) same
        where
          same : is_one_of files f ≡ true → sized_to was sizes f ≡ files_of (record s { store = Pool store }) f
          same one =
              let place = one_there files f one in
              let there = are.there place.0 f place.1 in
              let info = there.0 in
              let has = has_size f info there.1 in
              ap (λ o. info_to (size_asked sizes f) o) there.1
              ∙ ap (λ (size : Size). Some (record { length = size.length; read_only = info.read_only })) (get_or_from_slice_get sizes f has.size no_size has.at)
              ∙ sym (has_now f info there.1 has)
