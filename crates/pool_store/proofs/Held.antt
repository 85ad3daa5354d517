-- What an image of a new store stands for.
use Rattle.pool_store.proofs.Names.{◌≡◌, ◌⊎◌, ◌≤◌, ◌<◌, ◌+◌, ◌-◌, ◌*◌, ◌/◌, ◌%◌, ◌∙◌, ℕ, Bool, true, false, List, length, slice_get, Option, Some, None, refl, sym, ap, subst, ⊎_elim, arith, cases_lt, cond-true, cond-false, option_map, slice_get_within, Image, joined, joined-same, joined_parts, part_of, nat_tests, min}
use Rattle.std.specs.Prelude.{nat_lt}
use Rattle.byteorder.specs.Endian.{little_number}
use Rattle.directories.{proofs.Said.{said}, specs.{Entries.{SaysEntry, entry_bytes, entry_said}, declared.entry.Entry.{Entry}}}
use Rattle.file_store.{proofs.{Pieces.{length-trimmed}}, specs.{Format.{first_home, page_given, total_pages}, Layout.{bytes_inside, padded_page, pages_of_length}, declared.sources.FileSource.{FileSource}}}
use Rattle.pool_journal.{proofs.{Cleared.{empty_closed}, Loose.{Gives, slot_gives}}, specs.{Clearing.{IsEmptyPool}, Pools.{pool_entry, pool_gate, pool_home, pool_home_count, pool_named, pool_stands, pool_standing, pool_start, slot_by}}}
use Rattle.sync_journal.specs.{Gate.{is_open_sector}, Layout.{IsPageSector}}
use Rattle.pool_store.{proofs.Made.{given_at, given_past, home_made, info_given, listed, may_be}, specs.{Files.{info_of, page_at, page_in, page_of}, Format.{HomeHoldsCut, HomesHoldDirectory, IsDirectoryPage, IsInnerPoolOf, IsPoolStoreOf, IsUnmarkedPoolOf, entries_given, entry_given, home_part, new_pages}}}
use Rattle.pool_store.specs.Pools.{IsBadPool, IsBadPool.{Unmarked, OtherKind, TooSmall, NoDirectory}, entry_by, entry_standing, files_in_pool, pool_mark}

-- in an empty pool each page stands in its home
none_stands : (m n h : ℕ) (second : Bool) (image : Image) → ((body : Bool) (r : ℕ) → r < 504 * m → pool_entry m n second image body r ≡ 0) → slot_by m (pool_entry m n second image) h ≡ None
none_stands m n h second image none = here (slot_by m (pool_entry m n second image) h) refl (slot_gives m (pool_entry m n second image) h)
  where
    here : (o : Option (Bool × ℕ)) → slot_by m (pool_entry m n second image) h ≡ o → Gives m (pool_entry m n second image) h o → slot_by m (pool_entry m n second image) h ≡ None
    here None is gives = is
    here (Some slot) is gives = absurd (let zero' = none slot.0 slot.1 gives.0 in let given = gives.1 in omega (arith, zero', given))

pub stands_home : (m n : ℕ) (image : Image) → IsEmptyPool m image → (h i : ℕ) → pool_standing m n image h i ≡ home_part m image h i
stands_home m n image empty h i = ap (λ o. image (pool_stands m h o + i)) (none_stands m n h (pool_named image) image (λ body r below. empty_closed m n image empty body r below))

-- an image in which gate and first block of the first map are the same
pub empty_moves : (m : ℕ) (old new : Image) → new pool_gate ≡ old pool_gate → ((i : ℕ) → i < 8 → new (pool_start m false + 8 * (m - 1 - 0) + i) ≡ old (pool_start m false + 8 * (m - 1 - 0) + i)) → IsEmptyPool m old → IsEmptyPool m new
empty_moves m old new gate same empty = record {
  gate = ap is_open_sector gate ∙ empty.gate;
  count = ap (λ (block : List ℕ). min (little_number 4 block) m)
      (joined-same 8 (λ i. new (pool_start m false + 8 * (m - 1 - 0) + i)) (λ i. old (pool_start m false + 8 * (m - 1 - 0) + i)) same)
      ∙ empty.count;
}

pub cut_moves : (m h inside : ℕ) (given : Option (List ℕ)) (old new : Image) → ((i : ℕ) → i < 8 → home_part m new h i ≡ home_part m old h i) → HomeHoldsCut m h inside given old → HomeHoldsCut m h inside given new
cut_moves m h inside given old new same cut = record { page = cut.page; zeros = cut.zeros; holds = λ i below. same i below ∙ cut.holds i below; is = cut.is }

-- what is written down of file f, where the same stands for its page of the directory
pub entry_moves : (f : ℕ) (now was : ℕ → ℕ → List ℕ) → ((i : ℕ) → i < 8 → now (f / 16) i ≡ was (f / 16) i) → entry_standing now f ≡ entry_standing was f
entry_moves f now was same = ap (λ (page : List ℕ). entry_bytes page (f % 16)) (joined-same 8 (now (f / 16)) (was (f / 16)) same)

module _ {R : Type 0} (m : ℕ) (sources : List (FileSource R)) where
  pub directory_moves : (q : ℕ) (old new : Image) → ((f i : ℕ) → f < 16 * q → i < 8 → home_part m new (f / 16) i ≡ home_part m old (f / 16) i) → HomesHoldDirectory m sources q old → HomesHoldDirectory m sources q new
  directory_moves q old new same holds = record {
    says = λ f below. subst (λ (bytes : List ℕ). SaysEntry bytes (entry_given sources f)) (sym (entry_moves f (home_part m new) (home_part m old) (λ i inside. same f i below inside))) (holds.says f below);
    short = holds.short;
  }

  -- it is begun
  pub directory_begun : (image : Image) → HomesHoldDirectory m sources 0 image
  directory_begun image = record { says = λ f below. absurd (omega (arith, below)); short = λ f e below is. absurd (omega (arith, below)) }

  -- a page of it is written
  pub directory_more : (q : ℕ) (page : List ℕ) (old new : Image) → IsDirectoryPage sources q page → ((i : ℕ) → i < 8 → home_part m new q i ≡ part_of page i)
      → ((k : ℕ) → IsPageSector (pool_home m q) k ⊎ (new k ≡ old k)) → HomesHoldDirectory m sources q old → HomesHoldDirectory m sources (q + 1) new
  directory_more q page old new made held same holds = record {
    says = λ f below. ⊎_elim
        (λ earlier. subst (λ (bytes : List ℕ). SaysEntry bytes (entry_given sources f))
        (sym (entry_moves f (home_part m new) (home_part m old) (λ i inside. ⊎_elim (λ at. absurd (omega (arith, at.0, earlier, inside))) (λ e. e) (same (pool_home m (f / 16) + i)))))
        (holds.says f earlier))
        (λ here. let this : f / 16 ≡ q = omega (arith, below, here) in let number : 16 * q + f % 16 ≡ f = omega (arith, this) in
        subst (λ (n : ℕ). SaysEntry (entry_standing (home_part m new) f) (entry_given sources n)) number
        (subst (λ (bytes : List ℕ). SaysEntry bytes (entry_given sources (16 * q + f % 16)))
        (sym (ap (λ (n : ℕ). entry_bytes (joined (home_part m new n) 8) (f % 16)) this
        ∙ ap (λ (whole : List ℕ). entry_bytes whole (f % 16)) (joined-same 8 (home_part m new q) (part_of page) held ∙ joined_parts page made.size)))
        (made.says (f % 16) (omega arith))))
        (cases_lt f (16 * q));
    short = λ f e below is. ⊎_elim (λ earlier. holds.short f e earlier is)
        (λ here. let number : 16 * q + f % 16 ≡ f = omega (arith, below, here) in made.short (f % 16) e (omega arith) (ap (entry_given sources) number ∙ is))
        (cases_lt f (16 * q));
  }

module _ {R : Type 0} (m : ℕ) (remaining : R → Option (List ℕ)) (sources : List (FileSource R)) where
  pub inner_moves : (old new : Image) → ((k : ℕ) → 8 ≤ k → new k ≡ old k) → IsInnerPoolOf m remaining sources old → IsInnerPoolOf m remaining sources new
  inner_moves old new same inner = record {
    empty = empty_moves m old new (same pool_gate (omega arith)) (λ i below. same (pool_start m false + 8 * (m - 1 - 0) + i) (omega arith)) inner.empty;
    directory = directory_moves m sources new_pages old new (λ f i below inside. same (pool_home m (f / 16) + i) (omega arith)) inner.directory;
    files = λ f source less at k below. cut_moves m (new_pages + first_home sources f + k) (bytes_inside source.length k) (page_given remaining source k) old new
        (λ i inside. same (pool_home m (new_pages + first_home sources f + k) + i) (omega arith)) (inner.files f source less at k below);
  }

  module _ (sectors : ℕ) (few : length sources ≤ 64) (room : pool_home m new_pages ≤ sectors) (fit : new_pages + total_pages sources ≤ pool_home_count m sectors)
      (image : Image) (all : IsUnmarkedPoolOf m remaining sources image) where
    abbrev homes : ℕ
    homes = pool_home_count m sectors

    abbrev stands : ℕ → ℕ → List ℕ
    stands = pool_standing m homes image

    -- the directory stands
    entry_stands : (f : ℕ) → entry_standing stands f ≡ entry_standing (home_part m image) f
    entry_stands f = entry_moves f stands (home_part m image) (λ i below. stands_home m homes image all.empty (f / 16) i)

    says : (f : ℕ) → f < 64 → SaysEntry (entry_standing stands f) (entry_given sources f)
    says f below = subst (λ (bytes : List ℕ). SaysEntry bytes (entry_given sources f)) (sym (entry_stands f)) (all.directory.says f below)

    entry_is : (f : ℕ) → entry_by new_pages stands f ≡ entry_given sources f
    entry_is f = ⊎_elim
        (λ below. cond-true (nat_lt f 64) (entry_said (entry_standing stands f)) None (let is : nat_lt f 64 ≡ true = grind (arith, nat_tests) in is) ∙ said (entry_standing stands f) (entry_given sources f) (says f below))
        (λ past. cond-false (nat_lt f 64) (entry_said (entry_standing stands f)) None (let is : nat_lt f 64 ≡ false = grind (arith, nat_tests) in is) ∙ sym (given_past sources f (omega (arith, few, past))))
        (cases_lt f 64)

    is_good : image 0 ≡ pool_mark → IsBadPool m new_pages homes sectors image → ⊥
    is_good marked (Unmarked other) = other marked
    is_good marked (OtherKind other) = other all.kind
    is_good marked (TooSmall small) = omega (arith, room, small)
    is_good marked (NoDirectory none) = none (entries_given sources) (record {
      may = may_be homes sources few fit all.directory.short;
      said = λ f below. subst (λ (e : Option Entry). SaysEntry (entry_standing stands f) e) (sym (listed sources few f)) (says f below);
    })

    -- a page of a file stands
    page_stands : (f k : ℕ) (source : FileSource R) (page : List ℕ) → slice_get sources f ≡ Some source → k < pages_of_length source.length
        → HomeHoldsCut m (new_pages + first_home sources f + k) (bytes_inside source.length k) (page_given remaining source k) image → page_given remaining source k ≡ Some page
        → page_in (files_in_pool m new_pages homes) image f k ≡ page
    page_stands f k source page at below cut given =
        let first = new_pages + first_home sources f in
        let inside = bytes_inside source.length k in
        let small : bytes_inside source.length k ≤ 4096 = omega arith in
        let size : length cut.page ≡ 4096 = ap (λ (p : List ℕ). length p) (sym cut.zeros) ∙ length-trimmed inside cut.page small in
        ap (λ (e : Option Entry). page_of stands k e) (entry_is f ∙ given_at sources f source at)
        ∙ ap (λ (h : Option ℕ). page_at stands inside h) (home_made first k source below)
        ∙ ap (padded_page inside) (joined-same 8 (stands (first + k)) (part_of cut.page) (λ i less. stands_home m homes image all.empty (first + k) i ∙ cut.holds i less) ∙ joined_parts cut.page size)
        ∙ cut.zeros
        ∙ cut.is page given

    -- with the mark it is the store
    pub whole : image 0 ≡ pool_mark → IsPoolStoreOf m remaining sectors sources image
    whole marked = record {
      good = is_good marked;
      facts = λ f. ap (λ (e : Option Entry). option_map info_of e) (entry_is f) ∙ info_given sources f;
      pages = λ f k source page at inside given.
          page_stands f k source page at (omega (arith, inside)) (all.files f source (slice_get_within sources f source at) at k (omega (arith, inside))) given;
      made = all;
    }
