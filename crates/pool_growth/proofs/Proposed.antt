-- Changes that are proposed for sizes: a commit takes them, and they say what the sizes do.
use Rattle.std.proofs.Common.{ℕ, zero, suc, ◌≡◌, ◌<◌, ◌≤◌, ◌+◌, ◌^◌, ◌∷◌, [], ◌++◌, List, length, take, drop, get_or, slice_get, ◌⊎◌, inl, inr, ⊎_elim, eqb, refl, sym, ap, subst, ◌∙◌, arith, Option, Some, None, length-append}
use Rattle.std.specs.Prelude.{IfSome, Bool}
use Rattle.std.proofs.lemmas.{Bool.{cases_eq, cases_lt, cond-true, cond-false, eq-eqb, ne_eqb}, List.{take-append-le, take_all}, Option.{none-some, same_Some, slice_get-get_or, slice_get_within}}
use Rattle.std.specs.{List.{All, AllPairs}, Option.{option_map}}
use Rattle.vm_types.specs.{Limits.{file_limit}, declared.file.FileInfo.{FileInfo}}
use Rattle.directories.specs.{Homes.{extents_of, homes_of, home_of_page, pages_of_length, HasHome}, Checks.{IsFileGood}, Layouts.{entry_in, IsExtent, IsGoodLayout}, declared.entry.Entry.{Entry}, declared.entry.Extent.{Extent}}
use Rattle.growth.specs.{Changes.{AreChanges, TakesFreeHomes}, Parts.{extents_of_file, kept_count, new_extents, AreExtentsGood, AreChecked}, Resizing.{IsResized, StaysHome}, Room.{IsFreeRun, OfBefore, OfChange}}
use Rattle.growth.specs.declared.{changes.Change.{Change}, room.Homes.{Homes}}
use Rattle.growth.proofs.{Changed.{IsChanged, kept, length_after, new_at, file_after}, Checked.{good_after, swapped, takes_free}, Found.{is_extent}, Kept.{kept_one}, Listed.{get_dropped}}
use Rattle.pool_growth.specs.{Asked.{entries_then}, Checks.{IsSmallChange}, Files.{files_after, file_page_count}}
use Rattle.pool_growth.specs.Sizes.{entry_or_empty, info_to, is_read_only, room_behind, AreProposed, AreSizes, IsProposed, ProposesChanges}
use Rattle.pool_growth.specs.declared.sizes.FileSize.{FileSize}
use Rattle.pool_growth.proofs.{Checked.{bounded, had_place, info_there}, Fronts.{entry_of_page}}
use Rattle.pool_store.specs.{Files.{info_of}, Store.{info_by, IsDirectoryOn}, declared.directory.Directory.{Directory}}

abbrev pub no_size : FileSize
no_size = record { file = 0; is_there = 0; length = 0 }

-- Sizes rise where each file comes before the next.
pub rise_on : (sizes : List FileSize) → ((j : ℕ) (d : FileSize) → j + 1 < length sizes → (get_or sizes j d).file < (get_or sizes (j + 1) d).file) → AllPairs (λ s t. s.file < t.file) sizes
rise_on sizes next i zero d less inside = absurd (omega (arith, less))
rise_on sizes next i (suc j) d less inside =
    let on : j + 1 ≡ suc j = omega arith in
    let step : (get_or sizes j d).file < (get_or sizes (suc j) d).file = subst (λ n. (get_or sizes j d).file < (get_or sizes n d).file) on (next j d (omega (arith, inside))) in
    ⊎_elim
    (λ (same : i ≡ j). subst (λ n. (get_or sizes n d).file < (get_or sizes (suc j) d).file) (sym same) step)
    (λ other. let before = rise_on sizes next i j d (omega (arith, less, other)) (omega (arith, inside)) in omega (arith, before, step))
    (cases_eq i j)

-- an element of the first ones, of those in front, and the one behind them
get_taken : {X : Type 0} (xs : List X) (n i : ℕ) → i < n → slice_get (take n xs) i ≡ slice_get xs i
get_taken {X} xs zero i less = absurd (omega (arith, less))
get_taken {X} [] (suc n) i less = refl
get_taken {X} (x ∷ xs) (suc n) zero less = refl
get_taken {X} (x ∷ xs) (suc n) (suc i) less = get_taken xs n i (omega (arith, less))

get_front : {X : Type 0} (xs ys : List X) (i : ℕ) → i < length xs → slice_get (xs ++ ys) i ≡ slice_get xs i
get_front {X} [] ys i less = absurd (omega (arith, less))
get_front {X} (x ∷ xs) ys zero less = refl
get_front {X} (x ∷ xs) ys (suc i) less = get_front xs ys i (omega (arith, less))

get_last : {X : Type 0} (xs : List X) (x : X) → slice_get (xs ++ x ∷ []) (length xs) ≡ Some x
get_last {X} [] x = refl
get_last {X} (y ∷ ys) x = get_last ys x

-- where two lists are the same as far as both go, what they do not keep is behind the first
kept_past : (xs ys : List Extent) → take (length xs) ys ≡ take (length ys) xs → kept_count xs ys < length ys → length xs ≤ kept_count xs ys
kept_past [] ys same less = omega arith
kept_past (x ∷ xs) [] same less = absurd (omega (arith, less))
kept_past (x ∷ xs) (y ∷ ys) same less =
    let both : (y ∷ take (length xs) ys) ≡ (x ∷ take (length ys) xs) = same in
    let first : x ≡ y = cc in
    let rest : take (length xs) ys ≡ take (length ys) xs = cc in
    let one = kept_one x y xs ys first in
    let past = kept_past xs ys rest (omega (arith, less, one)) in
    omega (arith, past, one)

extents_or_empty : (entry : Option Entry) → extents_of_file entry ≡ extents_of (entry_or_empty entry)
extents_or_empty None = refl
extents_or_empty (Some e) = refl

read_only_or_empty : (entry : Option Entry) → (entry_or_empty entry).read_only ≡ is_read_only (option_map info_of entry)
read_only_or_empty None = refl
read_only_or_empty (Some e) = refl

-- a file with an extent is there
has_entry : (entry : Option Entry) (i : ℕ) (x : Extent) → slice_get (extents_of_file entry) i ≡ Some x → (e : Entry) × (entry ≡ Some e)
has_entry None i x is = absurd (none-some x is)
has_entry (Some e) i x is = (e, refl)

if_some : (P : Entry → Type 0) (entry : Option Entry) → ((e : Entry) → entry ≡ Some e → P e) → IfSome entry P
if_some P None all = tt
if_some P (Some e) all = all e refl

-- what is said of a file by its entry
info_parts : (e : Entry) (bytes : ℕ) (b : Bool) → e.length ≡ bytes → e.read_only ≡ b → Some (info_of e) ≡ Some (record { length = bytes; read_only = b })
info_parts e bytes b size read_only = ap (λ n. Some (record { length = n; read_only = e.read_only })) size ∙ ap (λ r. Some (record { length = bytes; read_only = r })) read_only

-- Directories with these entries, and this room behind them:
module _ (before : List (Option Entry)) (room : Homes) where
  abbrev was : ℕ → Entry
  was f = entry_or_empty (entry_in before f)

  -- File f gets this entry, after these changes:
  record IsSized (done : List Change) (f : ℕ) (e : Entry) : Type 0 where
    bytes : ℕ
    short : e.length ≤ 2 ^ 42
    resized : IsResized before done (was f) bytes room e
    stays : StaysHome (was f) e

  sized : (done : List Change) (s : FileSize) (c : Change) (e : Entry) → IsProposed before room done s c → c.entry ≡ Some e → IsSized done c.file e
  sized done s c e is entry = ⊎_elim
      (λ (gone : s.is_there ≡ 0). absurd (none-some e (sym (is.gone gone) ∙ entry)))
      (λ there.
      let new = is.there there in
      let same : new.0 ≡ e = same_Some new.0 e (sym new.1 ∙ entry) in
      subst (λ (x : Entry). IsSized done c.file x) same
      (subst (λ (g : ℕ). IsSized done g new.0) (sym is.file) (record { bytes = s.length; short = new.2; resized = new.3; stays = new.4 })))
      (cases_eq s.is_there 0)

  -- each extent of it is one that the file had, or a free run
  own_or_free : (done : List Change) (f : ℕ) (e : Entry) (i : ℕ) (x : Extent) → IsSized done f e → slice_get (extents_of e) i ≡ Some x → IsExtent before f i x ⊎ IsFreeRun before done (was f) room x
  own_or_free done f e i x is there =
      let xs = extents_of (was f) in
      let ys = extents_of e in
      ⊎_elim
      (λ (front : i < length xs).
      let within : i < length ys = slice_get_within ys i x there in
      inl (is_extent before f i x
      (ap (λ (zs : List Extent). slice_get zs i) (extents_or_empty (entry_in before f)) ∙ sym (get_taken xs (length ys) i within)
      ∙ ap (λ (zs : List Extent). slice_get zs i) (sym is.resized.front) ∙ get_taken ys (length xs) i front ∙ there)))
      (λ (past : length xs ≤ i). inr (is.resized.added i x past there).1.free)
      (cases_lt i (length xs))

  -- a change has one new extent at most, which is a free run
  new_run : (done : List Change) (c : Change) (e : Entry) (k : ℕ) (x : Extent) → IsSized done c.file e → c.entry ≡ Some e → slice_get (new_extents before c) k ≡ Some x
      → (k ≡ 0) × IsFreeRun before done (was c.file) room x
  new_run done c e k x is entry new =
      let xs = extents_of (was c.file) in
      let ys = extents_of e in
      let news : extents_of_file c.entry ≡ ys = ap extents_of_file entry in
      let count : kept before c ≡ kept_count xs ys = ap (λ (zs : List Extent). kept_count zs (extents_of_file c.entry)) (extents_or_empty (entry_in before c.file)) ∙ ap (kept_count xs) news in
      let at : slice_get ys (kept before c + k) ≡ Some x = ap (λ (zs : List Extent). slice_get zs (kept before c + k)) (sym news) ∙ sym (new_at before c k) ∙ new in
      let within = slice_get_within ys (kept before c + k) x at in
      let past = kept_past xs ys is.resized.front (omega (arith, within, count)) in
      let one = is.resized.added (kept before c + k) x (omega (arith, past, count)) at in
      let place = one.0 in
      (omega (arith, place, past, count), one.1.free)

  -- Changes for all of these sizes:
  module _ (sizes : List FileSize) (changes : List Change) (proposed : AreProposed before room sizes changes) (all : length changes ≡ length sizes) where
    -- the size of each
    size_there : (i : ℕ) (c : Change) → slice_get changes i ≡ Some c → slice_get sizes i ≡ Some (get_or sizes i no_size)
    size_there i c is = let inside = slice_get_within changes i c is in slice_get-get_or sizes i no_size (omega (arith, inside, all))

    for_size : (i : ℕ) (c : Change) → slice_get changes i ≡ Some c → IsProposed before room (take i changes) (get_or sizes i no_size) c
    for_size i c is = proposed.each i (get_or sizes i no_size) c (size_there i c is) is

    gets : (i : ℕ) (c : Change) (e : Entry) → slice_get changes i ≡ Some c → c.entry ≡ Some e → IsSized (take i changes) c.file e
    gets i c e is entry = sized (take i changes) (get_or sizes i no_size) c e (for_size i c is) entry

    file_there : (i : ℕ) (d : Change) → i < length changes → (get_or changes i d).file ≡ (get_or sizes i no_size).file
    file_there i d inside = (for_size i (get_or changes i d) (slice_get-get_or changes i d inside)).file

    -- they are changes of the directory,
    are_changes : AreSizes (length before) sizes → AreChanges before changes
    are_changes are = record {
      rising = λ i j d less inside.
          let one = file_there i d (omega (arith, less, inside)) in
          let two = file_there j d inside in
          let rise = are.rising i j no_size less (omega (arith, inside, all)) in
          omega (arith, one, two, rise);
      inside = λ i d inside.
          let file = file_there i d inside in
          let place = (are.inside i no_size (omega (arith, inside, all))).place in
          omega (arith, file, place);
      few = λ i d inside.
          let c = get_or changes i d in
          if_some (λ (e : Entry). e.extent_count ≤ 30) c.entry (λ e entry. (gets i c e (slice_get-get_or changes i d inside) entry).resized.few);
    }

    -- of small files,
    all_small : AreSizes (length before) sizes → All IsSmallChange changes
    all_small are i d inside =
        let c = get_or changes i d in
        let file = file_there i d inside in
        let number = (are.inside i no_size (omega (arith, inside, all))).number in
        if_some (λ (e : Entry). (c.file < file_limit) × (e.length ≤ 2 ^ 42)) c.entry
        (λ e entry. (omega (arith, file, number), (gets i c e (slice_get-get_or changes i d inside) entry).short))

    -- whose new extents are free runs, one of each change at most,
    new_of : (i : ℕ) (c : Change) (k : ℕ) (x : Extent) → slice_get changes i ≡ Some c → slice_get (new_extents before c) k ≡ Some x
        → (k ≡ 0) × IsFreeRun before (take i changes) (was c.file) room x
    new_of i c k x is new =
        let some = has_entry c.entry (kept before c + k) x (sym (new_at before c k) ∙ new) in
        new_run (take i changes) c some.0 k x (gets i c some.0 is some.1) some.1 new

    extents_good : (i : ℕ) (c : Change) → slice_get changes i ≡ Some c → AreExtentsGood before c (drop (i + 1) changes) (length (new_extents before c))
    extents_good i c is k x less new = record {
      free = λ g j y had shared. (new_of i c k x is new).1.unused y (OfBefore g j had) shared;
      own = λ m y also shared.
          let first = (new_of i c (k + 1 + m) y is (sym (get_dropped (new_extents before c) (k + 1) m) ∙ also)).0 in
          omega (arith, first);
      later = λ m d there j y also shared.
          let at : slice_get changes (i + 1 + m) ≡ Some d = sym (get_dropped changes (i + 1) m) ∙ there in
          (new_of (i + 1 + m) d j y at also).1.unused x
          (OfChange i (kept before c + k) c (get_taken changes (i + 1 + m) i (omega arith) ∙ is) (sym (new_at before c k) ∙ new)) (swapped x y shared);
    }

    -- and each is good.
    file_good : IsGoodLayout room.first room.end before → (i : ℕ) (c : Change) (e : Entry) → slice_get changes i ≡ Some c → c.entry ≡ Some e → IsFileGood room.first room.end e
    file_good good i c e is entry =
        let own = gets i c e is entry in
        record {
          within = λ k x there h has. ⊎_elim
              (λ (had : IsExtent before c.file k x). good.within c.file k h x had has)
              (λ (free : IsFreeRun before (take i changes) (was c.file) room x).
              let low = free.low in
              let high = free.high in
              let from = has.low in
              let to = has.high in
              (omega (arith, low, from), omega (arith, high, to)))
              (own_or_free (take i changes) c.file e k x own there);
          enough = subst (λ bytes. pages_of_length bytes ≤ length (homes_of (extents_of e))) (sym own.resized.size) own.resized.enough;
        }

    are_checked : IsGoodLayout room.first room.end before → AreChecked room.first room.end before changes (length changes)
    are_checked good i c less is = record { file = λ e entry. file_good good i c e is entry; extents = extents_good i c is }

-- The changes so far, and one more
pub one_more_proposed : (before : List (Option Entry)) (room : Homes) (sizes : List FileSize) (changes : List Change) (s : FileSize) (c : Change) → AreProposed before room sizes changes
    → slice_get sizes (length changes) ≡ Some s → IsProposed before room changes s c → AreProposed before room sizes (changes ++ c ∷ [])
one_more_proposed before room sizes changes s c proposed size is =
    let n = length changes in
    let more = changes ++ c ∷ [] in
    let long : length more ≡ n + 1 = length-append changes (c ∷ []) in
    let within = slice_get_within sizes n s size in
    record {
      few = omega (arith, long, within);
      each = λ i t d at there.
          let inside = slice_get_within more i d there in
          ⊎_elim
          (λ (front : i < n). subst (λ (done : List Change). IsProposed before room done t d) (sym (take-append-le i changes (c ∷ []) (omega (arith, front))))
          (proposed.each i t d at (sym (get_front changes (c ∷ []) i front) ∙ there)))
          (λ (past : n ≤ i).
          let last : n ≡ i = omega (arith, past, inside, long) in
          let of_size : s ≡ t = same_Some s t (sym size ∙ ap (slice_get sizes) last ∙ at) in
          let this : c ≡ d = same_Some c d (sym (get_last changes c) ∙ ap (slice_get more) last ∙ there) in
          let done : changes ≡ take i more = sym (take_all n changes (omega arith)) ∙ sym (take-append-le n changes (c ∷ []) (omega arith)) ∙ ap (λ m. take m more) last in
          subst (λ (x : Change). IsProposed before room (take i more) t x) this
          (subst (λ (x : FileSize). IsProposed before room (take i more) x c) of_size (subst (λ (xs : List Change). IsProposed before room xs s c) done is)))
          (cases_lt i n);
    }

-- what a change says that is proposed
info_said : (before : List (Option Entry)) (room : Homes) (done : List Change) (s : FileSize) (c : Change) → IsProposed before room done s c
    → option_map info_of c.entry ≡ info_to s (option_map info_of (entry_in before s.file))
info_said before room done s c is =
    let files = option_map info_of (entry_in before s.file) in
    let to : FileInfo = record { length = s.length; read_only = is_read_only files } in
    ⊎_elim
    (λ (gone : s.is_there ≡ 0). ap (option_map info_of) (is.gone gone) ∙ sym (cond-true (eqb s.is_there 0) None (Some to) (eq-eqb s.is_there 0 gone)))
    (λ there.
    let new = is.there there in
    ap (option_map info_of) new.1 ∙ info_parts new.0 s.length (is_read_only files) new.3.size (new.3.read_only ∙ read_only_or_empty (entry_in before s.file))
    ∙ sym (cond-false (eqb s.is_there 0) None (Some to) (ne_eqb s.is_there 0 there)))
    (cases_eq s.is_there 0)

-- A commit takes changes for all of these sizes.
module _ (n : ℕ) (directory : Directory) (on : IsDirectoryOn n directory) (sizes : List FileSize) (changes : List Change) where
  abbrev entries : List (Option Entry)
  entries = directory.entries.items

  abbrev after : List (Option Entry)
  after = entries_then directory changes

  abbrev room : Homes
  room = room_behind directory n

  keeps_pages : (proposed : AreProposed entries room sizes changes) → length changes ≡ length sizes
      → (f k h : ℕ) → k < file_page_count (info_by directory f) → k < file_page_count (files_after (info_by directory) changes f) → HasHome entries f k h → HasHome after f k h
  keeps_pages proposed all f k h one two has =
      let inside = had_place n directory on changes f has.entry has.file in
      ⊎_elim
      (λ (ch : IsChanged entries changes f).
      let some = entry_of_page (entry_in after f) k (subst (λ o. k < file_page_count o) (info_there n directory on changes f inside) two) in
      let e = some.0 in
      let own = gets entries room sizes changes proposed all ch.has.place ch.change e ch.has.is (sym ch.entry ∙ some.1) in
      let same : entry_or_empty (entry_in entries ch.change.file) ≡ has.entry = ap (λ g. entry_or_empty (entry_in entries g)) ch.has.file ∙ ap entry_or_empty has.file in
      record { entry = e; file = some.1; home = own.stays k h some.2 (ap (λ (x : Entry). home_of_page x k) same ∙ has.home) })
      (λ same. record { entry = has.entry; file = same ∙ has.file; home = has.home })
      (file_after entries changes f inside)

  pub proposes : AreSizes (length entries) sizes → AreProposed entries room sizes changes → length changes ≡ length sizes → ProposesChanges n directory sizes changes
  proposes are proposed all =
      let changed = are_changes entries room sizes changes proposed all are in
      let checked = are_checked entries room sizes changes proposed all on.good in
      let good : IsGoodLayout directory.pages n after = good_after directory.pages n entries changes changed on.good checked in
      let free : TakesFreeHomes entries after = takes_free directory.pages n entries changes changed checked in
      record {
        asked = are;
        proposed = proposed;
        good = record {
          changes = changed;
          may = record { size = length_after entries changes ∙ on.size; bounded = bounded n directory on changes changed (all_small entries room sizes changes proposed all are); good = good };
          free = free;
          keeps = keeps_pages proposed all;
        };
        says = record {
          all = all;
          file = λ i s c at is. (proposed.each i s c at is).file;
          info = λ i s c at is. info_said entries room (take i changes) s c (proposed.each i s c at is);
        };
      }
