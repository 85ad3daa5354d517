-- An image of a store with a pool, on a device of more sectors.
use Rattle.sync_plans.proofs.Names.{ℕ, suc, ◌+◌, ◌<◌, ◌≤◌, ◌≡◌, ◌∙◌, Bool, true, false, List, Option, Some, None, ◌==◌, if◌then◌else◌, ⊎_elim, refl, sym, ap, subst, arith, cases_lt, ne_eqb}
use Rattle.sync_plans.proofs.Names.{Image, FileInfo, StandsFor, StandsInPool, is_pool, from_pool, to_pool}
use Rattle.std.{proofs.lemmas.Bool.{Decides.{nat_tests}}, specs.{Option.{option_map}, Prelude.{nat_lt, ◌/◌, ◌%◌}}}
use Rattle.vm_types.specs.Files.{bytes_inside}
use Rattle.directories.{proofs.Owned.{gives_homes}, specs.{Homes.{home_of_page}, Kinds.{IsKind}, Layouts.{IsGoodLayout, entry_in}, declared.entry.Entry.{Entry}}}
use Rattle.pool_journal.proofs.{Copied.{home_inside, slot_below}, Loose.{Gives, map_low, same_entry, slot_alike, slot_gives}}
use Rattle.pool_journal.specs.Pools.{IsPoolMap, block_number, pool_block, pool_counted, pool_entry, pool_home, pool_home_count, pool_named, pool_stands, pool_standing, pool_under, slot_by, within}
use Rattle.sync_journal.specs.Gate.{is_open_sector}
use Rattle.pool_store.proofs.{Entries.{entry_stood}, Standing.{AreAlike, entry_same, page_at_same, said_same}}
use Rattle.pool_store.specs.{Files.{info_of, page_of}, Pools.{IsBadPool, IsBadPool.{Unmarked, OtherKind, TooSmall, NoDirectory}, IsDirectory, entry_by, files_in_pool}}
use Rattle.stores.specs.Images.{map_blocks, directory_pages}

-- a number is looked at where it is not past the last of n homes
within_all : (n number : ℕ) → number ≤ n → within n number ≡ number
within_all n number le = let is : nat_lt n number ≡ false = grind (arith, nat_tests) in ap (λ b. if b then 0 else number) is

within_none : (n number : ℕ) → n < number → within n number ≡ 0
within_none n number past = let is : nat_lt n number ≡ true = grind (arith, nat_tests) in ap (λ b. if b then 0 else number) is

-- so whether it names one of the first homes is the same with more of them
within_alike : (few many number h : ℕ) → few ≤ many → h < few → (within many number == suc h) ≡ (within few number == suc h)
within_alike few many number h more below = ⊎_elim
    (λ (past : few < number).
    ne_eqb (within many number) (suc h) (λ is. ⊎_elim
    (λ out. (let none = within_none many number out in omega (arith, none, is)))
    (λ all. (let same = within_all many number all in omega (arith, same, is, past, below)))
    (cases_lt many number))
    ∙ sym (ne_eqb (within few number) (suc h) (λ is. (let none = within_none few number past in omega (arith, none, is)))))
    (λ (le : number ≤ few). ap (λ x. x == suc h) (within_all many number (omega (arith, le, more)) ∙ sym (within_all few number le)))
    (cases_lt few number)

-- a map gives its slots to the first homes as it did
entry_alike : (m few many : ℕ) (second : Bool) (image : Image) (body : Bool) (r h : ℕ) → few ≤ many → h < few
    → (pool_entry m many second image body r == suc h) ≡ (pool_entry m few second image body r == suc h)
unfolding pool_entry
entry_alike m few many second image body r h more below = here (nat_lt (r / 504) (pool_counted m second image))
  where
    number : ℕ
    number = block_number body (r % 504) (pool_block m second image (r / 504))

    here : (b : Bool) → ((if b then within many number else 0) == suc h) ≡ ((if b then within few number else 0) == suc h)
    here true = within_alike few many number h more below
    here false = refl

-- The first sectors of an image of a store that has room, with maps of m blocks and a directory of d pages, are those of another one.
module _ (m d shorter longer : ℕ) (old new : Image) (more : shorter ≤ longer) (room : pool_home m d ≤ shorter) (same : (k : ℕ) → k < shorter → new k ≡ old k) where
  abbrev few : ℕ
  few = pool_home_count m shorter

  abbrev many : ℕ
  many = pool_home_count m longer

  abbrev before : ℕ → ℕ → List ℕ
  before = pool_standing m few old

  abbrev after : ℕ → ℕ → List ℕ
  after = pool_standing m many new

  gate_same : pool_named new ≡ pool_named old
  gate_same = ap is_open_sector (same 8 (omega (arith, room)))

  map_below : (k : ℕ) → IsPoolMap m (pool_named old) k → new k ≡ old k
  map_below k map = let low = map_low m (pool_named old) k map in same k (omega (arith, low, room))

  -- a home stands in the same place,
  slot_same : (h : ℕ) → h < few → slot_by m (pool_entry m many (pool_named old) new) h ≡ slot_by m (pool_entry m few (pool_named old) old) h
  slot_same h below = slot_alike m (pool_entry m many (pool_named old) new) (pool_entry m few (pool_named old) old) h
      (λ body r inside.
      ap (λ x. x == suc h) (same_entry m many (pool_named old) old new map_below body r inside)
      ∙ entry_alike m few many (pool_named old) old body r h (omega (arith, more)) below)

  -- which lies below the new sectors,
  lies_below : (h : ℕ) (o : Option (Bool × ℕ)) → h < few → Gives m (pool_entry m few (pool_named old) old) h o → pool_stands m h o + 8 ≤ shorter
  lies_below h None below none = home_inside m shorter h below
  lies_below h (Some slot) below gives = let slots = slot_below m slot.0 slot.1 gives.0 in omega (arith, slots, room)

  -- and so as it did.
  stands_same : (h : ℕ) → h < few → AreAlike before after h
  stands_same h below i inside =
      let entries = pool_entry m few (pool_named old) old in
      let low = lies_below h (slot_by m entries h) below (slot_gives m entries h) in
      ap (λ b. pool_under m many b new h i) gate_same
      ∙ ap (λ o. new (pool_stands m h o + i)) (slot_same h below)
      ∙ same (pool_stands m h (slot_by m entries h) + i) (omega (arith, low, inside))

  module _ (good : IsBadPool m d few shorter old → ⊥) where
    -- The directory has its homes below them,
    directory_below : d ≤ few
    directory_below = ⊎_elim
        (λ (short : few < d). absurd (good (OtherKind (λ kind. (let sized = kind.pages in omega (arith, sized, short, room))))))
        (λ le. le)
        (cases_lt few d)

    heads_same : (h : ℕ) → h < d → AreAlike before after h
    heads_same h below = stands_same h (omega (arith, below, directory_below))

    -- and so has each page of a file.
    home_below : (f k h : ℕ) (e : Entry) → entry_by d before f ≡ Some e → home_of_page e k ≡ Some h → h < few
    home_below f k h e says is = ⊎_elim
        (λ below. below)
        (λ (past : few ≤ h). absurd (good (NoDirectory (λ entries directory.
        (let file : entry_in entries f ≡ Some e = sym (entry_stood d before entries directory.size directory.said f) ∙ says in
        let inside = (gives_homes d few entries directory.good).within f k h (record { entry = e; file = file; home = is }) in
        omega (arith, past, inside))))))
        (cases_lt h few)

    page_same : (f k : ℕ) (entry : Option Entry) → entry_by d before f ≡ entry → page_of after k entry ≡ page_of before k entry
    page_same f k None says = refl
    page_same f k (Some e) says = page_at_same before after (bytes_inside e.length k) (home_of_page e k) (λ h is. stands_same h (home_below f k h e says is))

    -- Its entries may be those of a store with more homes, so that it is none only where it was none.
    good_wider : (entries : List (Option Entry)) → IsGoodLayout d few entries → IsGoodLayout d many entries
    good_wider entries good = record {
      within = λ f i h x is has. (let inside = good.within f i h x is has in (inside.0, omega (arith, inside.1, more)));
      apart = good.apart;
      enough = good.enough;
    }

    directory_wider : (entries : List (Option Entry)) → IsDirectory d few before entries → IsDirectory d many after entries
    directory_wider entries is = record {
      may = record { size = is.size; bounded = is.bounded; good = good_wider entries is.good };
      said = said_same d before after heads_same entries is.said;
    }

    still_good : IsBadPool m d many longer new → ⊥
    still_good (Unmarked other) = good (Unmarked (λ is. other (same 0 (omega (arith, room)) ∙ is)))
    still_good (OtherKind other) = good (OtherKind (λ is. other (subst (λ (sector : List ℕ). IsKind m d sector) (sym (same 1 (omega (arith, room)))) is)))
    still_good (TooSmall short) = omega (arith, short, more, room)
    still_good (NoDirectory none) = good (NoDirectory (λ entries is. none entries (directory_wider entries is)))

  pool_longer : (files : ℕ → Option FileInfo) (pages : ℕ → ℕ → List ℕ) → StandsInPool (files_in_pool m d few) shorter files pages old
      → StandsInPool (files_in_pool m d many) longer files pages new
  pool_longer files pages was =
      let entry = entry_same d before after (heads_same was.good) in
      record {
        good = still_good was.good;
        journal = λ bad. bad;
        facts = λ f. ap (option_map info_of) (entry f) ∙ was.facts f;
        same = λ f k inside. ap (page_of after k) (entry f) ∙ page_same was.good f k (entry_by d before f) refl ∙ was.same f k inside;
      }

-- An image of a store with a pool stands on more sectors for the files that it stood for.
pub stands_longer : (shorter longer : ℕ) (files : ℕ → Option FileInfo) (pages : ℕ → ℕ → List ℕ) (old new : Image) → shorter ≤ longer → is_pool old ≡ true
    → ((k : ℕ) → k < shorter → new k ≡ old k) → StandsFor shorter files pages old → StandsFor longer files pages new
stands_longer shorter longer files pages old new more marked same stands =
    let m = map_blocks old in
    let d = directory_pages old in
    let was : StandsInPool (files_in_pool m d (pool_home_count m shorter)) shorter files pages old =
    to_pool m d (pool_home_count m shorter) shorter refl files pages old (record { mark = marked; blocks = refl; pages = refl }) stands in
    let room : pool_home m d ≤ shorter = ⊎_elim (λ short. absurd (was.good (TooSmall short))) (λ le. le) (cases_lt shorter (pool_home m d)) in
    from_pool m d (pool_home_count m longer) longer refl files pages new
    (pool_longer m d shorter longer old new more room same files pages was)
