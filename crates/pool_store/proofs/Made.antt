-- The entries that are made for new files.
use Rattle.pool_store.proofs.Names.{◌≡◌, ◌≤◌, ◌<◌, ◌+◌, ◌-◌, ◌^◌, ◌∙◌, ℕ, zero, suc, min, Bool, IfSome, set, List, length, replicate, slice_get, Option, Some, None, refl, sym, ap, subst, ⊎_elim, arith, cases_lt, cases_eq, take_at, append-nil, get_or_past, none-some, same_Some, slice_get_past, option_map}
use Rattle.std.{proofs.lemmas.List.FromFn.{get_or-map-range_with_len, length-map-range_with_len, length-range_with_len}, specs.List.{range_with_len}}
use Rattle.directories.{proofs.Places.{get_counted}, specs.{Homes.{extents_of, homes_of, home_of_page}, Layouts.{IsExtent, IsGoodLayout, IsHomeIn, entry_in}, declared.entry.{Entry.{Entry}, Extent.{Extent}}}}
use Rattle.file_store.{proofs.NewStores.{first_home-fits, first_home-order}, specs.{Format.{files_given, first_home, info_of as source_info, total_pages}, Layout.{pages_of_length}, declared.sources.FileSource.{FileSource}}}
use Rattle.pool_store.specs.{Files.{info_of}, Format.{AreShort, entries_given, entry_given, entry_made, extents_made, extents_room, new_pages, no_extent}, Pools.{AreEntries}}

-- how many extents there are
pub counted : (first n : ℕ) → min n 1 ≡ length (extents_made first n)
unfolding extents_made
counted first zero = refl
counted first (suc n) = omega arith

-- and what stands behind it
pub no_room : (first n : ℕ) → n ≡ 0 → replicate 30 no_extent ≡ extents_room first n
unfolding extents_room extents_made
no_room first zero is = refl
no_room first (suc n) is = absurd (omega (arith, is))

pub one_room : (first n : ℕ) → 0 < n → set (replicate 30 no_extent) 0 (record { first = first; count = n }) ≡ extents_room first n
unfolding extents_room extents_made
one_room first zero some = absurd (omega (arith, some))
one_room first (suc n) some = refl

pub entry_same : (a b : Entry) → a.read_only ≡ b.read_only → a.length ≡ b.length → a.extent_count ≡ b.extent_count → a.extents ≡ b.extents → a ≡ b
entry_same a b read_only size count extents =
    let one : Bool → Entry = λ x. record { read_only = x; length = a.length; extent_count = a.extent_count; extents = a.extents } in
    let two : ℕ → Entry = λ x. record { read_only = b.read_only; length = x; extent_count = a.extent_count; extents = a.extents } in
    let three : ℕ → Entry = λ x. record { read_only = b.read_only; length = b.length; extent_count = x; extents = a.extents } in
    let four : List Extent → Entry = λ x. record { read_only = b.read_only; length = b.length; extent_count = b.extent_count; extents = x } in
    ap one read_only ∙ ap two size ∙ ap three count ∙ ap four extents

pub short_in : (o : Option Entry) (e : Entry) → IfSome o (λ x. x.length < 2 ^ 32) → o ≡ Some e → e.length < 2 ^ 32
short_in o e h is = subst (λ (x : Option Entry). IfSome x (λ y. y.length < 2 ^ 32)) is h

homes_made : (first n : ℕ) → homes_of (extents_made first n) ≡ range_with_len first n
unfolding extents_made
homes_made first zero = refl
homes_made first (suc n) = append-nil (range_with_len first (suc n))

-- which is the only one
pub record IsOnly (first n i : ℕ) (x : Extent) : Type 0 where
  pub place : i ≡ 0
  pub first_is : x.first ≡ first
  pub count_is : x.count ≡ n

only_extent : (first n i : ℕ) (x : Extent) → slice_get (extents_made first n) i ≡ Some x → IsOnly first n i x
unfolding extents_made
only_extent first zero i x is = absurd (none-some x is)
only_extent first (suc n) zero x is =
    let one : Extent = record { first = first; count = suc n } in
    let same : one ≡ x = same_Some one x is in
    record { place = refl; first_is = sym (ap (λ (y : Extent). y.first) same); count_is = sym (ap (λ (y : Extent). y.count) same) }
only_extent first (suc n) (suc i) x is = absurd (none-some x is)

module _ {R : Type 0} where
  extents_are : (first : ℕ) (source : FileSource R) → extents_of (entry_made first source) ≡ extents_made first (pages_of_length source.length)
  unfolding extents_room
  extents_are first source =
      let made = extents_made first (pages_of_length source.length) in
      take_at made (replicate (30 - length made) no_extent) (length made) refl

  -- the homes of its pages
  homes_are : (first : ℕ) (source : FileSource R) → homes_of (extents_of (entry_made first source)) ≡ range_with_len first (pages_of_length source.length)
  homes_are first source = ap homes_of (extents_are first source) ∙ homes_made first (pages_of_length source.length)

  pub home_made : (first k : ℕ) (source : FileSource R) → k < pages_of_length source.length → home_of_page (entry_made first source) k ≡ Some (first + k)
  home_made first k source below = ap (λ (homes : List ℕ). slice_get homes k) (homes_are first source) ∙ get_counted first (pages_of_length source.length) k below

  -- what an entry comes from
  pub record ComesFrom (sources : List (FileSource R)) (f : ℕ) (e : Entry) : Type 0 where
    pub source : FileSource R
    pub at : slice_get sources f ≡ Some source
    pub is : entry_made (new_pages + first_home sources f) source ≡ e

  comes_from_some : (sources : List (FileSource R)) (f : ℕ) (e : Entry) (source : Option (FileSource R)) → slice_get sources f ≡ source
      → option_map (entry_made (new_pages + first_home sources f)) source ≡ Some e → ComesFrom sources f e
  comes_from_some sources f e None at is = absurd (none-some e is)
  comes_from_some sources f e (Some s) at is = record { source = s; at = at; is = same_Some (entry_made (new_pages + first_home sources f) s) e is }

  comes_from : (sources : List (FileSource R)) (f : ℕ) (e : Entry) → entry_given sources f ≡ Some e → ComesFrom sources f e
  comes_from sources f e is = comes_from_some sources f e (slice_get sources f) refl is

  pub given_at : (sources : List (FileSource R)) (f : ℕ) (source : FileSource R) → slice_get sources f ≡ Some source → entry_given sources f ≡ Some (entry_made (new_pages + first_home sources f) source)
  given_at sources f source at = ap (option_map (entry_made (new_pages + first_home sources f))) at

  pub given_past : (sources : List (FileSource R)) (f : ℕ) → length sources ≤ f → entry_given sources f ≡ None
  given_past sources f past = ap (option_map (entry_made (new_pages + first_home sources f))) (slice_get_past sources f past)

  -- what an entry says of its file
  same_info : (first : ℕ) (source : Option (FileSource R)) → option_map info_of (option_map (entry_made first) source) ≡ option_map source_info source
  same_info first None = refl
  same_info first (Some s) = refl

  pub info_given : (sources : List (FileSource R)) (f : ℕ) → option_map info_of (entry_given sources f) ≡ files_given sources f
  info_given sources f = same_info (new_pages + first_home sources f) (slice_get sources f)

  -- the entry of file f is made
  pub entry_written : (sources : List (FileSource R)) (f first : ℕ) (source : FileSource R) (e : Entry) → slice_get sources f ≡ Some source → first ≡ new_pages + first_home sources f
      → e ≡ entry_made first source → Some e ≡ entry_given sources f
  entry_written sources f first source e at home is = ap Some is ∙ ap (λ n. Some (entry_made n source)) home ∙ sym (given_at sources f source at)

  -- the list of them
  pub long : (sources : List (FileSource R)) → length (entries_given sources) ≡ 64
  long sources = length-map-range_with_len (entry_given sources) 0 64

  pub listed : (sources : List (FileSource R)) → length sources ≤ 64 → (f : ℕ) → entry_in (entries_given sources) f ≡ entry_given sources f
  listed sources few f = ⊎_elim
      (λ below. get_or-map-range_with_len (entry_given sources) 0 64 f f None below (omega arith))
      (λ past. get_or_past (entries_given sources) f None (let all = long sources in omega (arith, past, all)) ∙ sym (given_past sources f (omega (arith, few, past))))
      (cases_lt f 64)

  -- a store may have them
  record IsPlaced (sources : List (FileSource R)) (f i : ℕ) (x : Extent) : Type 0 where
    source : FileSource R
    at : slice_get sources f ≡ Some source
    only : IsOnly (new_pages + first_home sources f) (pages_of_length source.length) i x

  placed : (sources : List (FileSource R)) → length sources ≤ 64 → (f i : ℕ) (x : Extent) → IsExtent (entries_given sources) f i x → IsPlaced sources f i x
  placed sources few f i x is =
      let from = comes_from sources f is.entry (sym (listed sources few f) ∙ is.file) in
      record {
        source = from.source;
        at = from.at;
        only = only_extent (new_pages + first_home sources f) (pages_of_length from.source.length) i x
            (ap (λ (xs : List Extent). slice_get xs i) (sym (extents_are (new_pages + first_home sources f) from.source) ∙ ap extents_of from.is) ∙ is.extent);
      }

  -- a home of a file lies before those of a later one
  before : (sources : List (FileSource R)) (f i g j h : ℕ) (x y : Extent) → IsPlaced sources f i x → IsPlaced sources g j y → IsHomeIn x h → IsHomeIn y h → f < g → ⊥
  before sources f i g j h x y a b one other less =
      let order = first_home-order sources f g a.source less a.at in
      omega (arith, order, a.only.first_is, a.only.count_is, b.only.first_is, one.high, other.low)

  pub good_entries : (n : ℕ) (sources : List (FileSource R)) → length sources ≤ 64 → new_pages + total_pages sources ≤ n → IsGoodLayout new_pages n (entries_given sources)
  good_entries n sources few fit = record {
    within = λ f i h x is inside.
        let at = placed sources few f i x is in
        let fits = first_home-fits sources f at.source at.at in
        (omega (arith, at.only.first_is, inside.low), omega (arith, at.only.first_is, at.only.count_is, inside.high, fits, fit));
    apart = λ f i g j x y is also shared.
        let a = placed sources few f i x is in
        let b = placed sources few g j y also in (
          ⊎_elim (λ same. same)
              (λ differ. ⊎_elim (λ less. absurd (before sources f i g j shared.home x y a b shared.one shared.other less))
              (λ from. absurd (before sources g j f i shared.home y x b a shared.other shared.one (omega (arith, differ, from)))) (cases_lt f g))
              (cases_eq f g),
          a.only.place ∙ sym b.only.place,
        );
    enough = λ f e is.
        let from = comes_from sources f e (sym (listed sources few f) ∙ is) in
        let homes = ap (λ (x : Entry). length (homes_of (extents_of x))) (sym from.is) ∙ ap (λ (homes : List ℕ). length homes) (homes_are (new_pages + first_home sources f) from.source)
        ∙ length-range_with_len (new_pages + first_home sources f) (pages_of_length from.source.length) in
        let size = ap (λ (x : Entry). pages_of_length x.length) from.is in
        omega (arith, homes, size);
  }

  few_extents : (sources : List (FileSource R)) (f : ℕ) (e : Entry) → entry_given sources f ≡ Some e → e.extent_count ≤ 30
  few_extents sources f e is =
      let from = comes_from sources f e is in
      let count = ap (λ (x : Entry). x.extent_count) from.is in
      let one = counted (new_pages + first_home sources f) (pages_of_length from.source.length) in
      omega (arith, count, one)

  pub may_be : (n : ℕ) (sources : List (FileSource R)) → length sources ≤ 64 → new_pages + total_pages sources ≤ n → AreShort sources 64 → AreEntries new_pages n (entries_given sources)
  may_be n sources few fit short = record {
    size = long sources;
    bounded = λ f e is.
        let given = sym (listed sources few f) ∙ is in
        ⊎_elim (λ below. let length = short f e below given in (omega (arith, below), omega (arith, length), few_extents sources f e given))
        (λ past. absurd (none-some e (sym (given_past sources f (omega (arith, few, past))) ∙ given))) (cases_lt f 64);
    good = good_entries n sources few fit;
  }
