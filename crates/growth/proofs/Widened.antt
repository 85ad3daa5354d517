-- Room that is found, and an entry with one more extent.
use Rattle.std.proofs.Common.{ℕ, ◌≡◌, ◌<◌, ◌≤◌, ◌+◌, ◌-◌, inl, inr, ⊎_elim, ◌∷◌, ◌++◌, [], List, length, take, slice_get, refl, sym, ap, subst, ◌∙◌, set, arith, Option, Some, None, length-append, length-take}
use Rattle.std.specs.Prelude.{MatchOption}
use Rattle.std.proofs.lemmas.Bool.{cases_lt}
use Rattle.std.proofs.lemmas.List.{take_all, take-append-le, take_more_set}
use Rattle.std.proofs.lemmas.List.FromFn.{length-range_with_len}
use Rattle.std.proofs.lemmas.Option.{same_Some, slice_get_within}
use Rattle.std.specs.List.{range_with_len}
use Rattle.directories.specs.Homes.{extents_of, homes_of}
use Rattle.directories.specs.declared.entry.Extent.{Extent}
use Rattle.directories.specs.declared.entry.Entry.{Entry}
use Rattle.growth.specs.Room.{IsUsedExtent, IsBlockedBy, PassesOver, HasNoRun, IsRunOf, file_homes, wanted, IsRoom, IsWider, GivesRoom}
use Rattle.growth.specs.declared.changes.Change.{Change}
use Rattle.growth.specs.declared.room.Homes.{Homes}

-- the homes of one more extent
pub homes_more : (xs : List Extent) (x : Extent) → length (homes_of (xs ++ x ∷ [])) ≡ length (homes_of xs) + x.count
homes_more [] x =
    let long = length-range_with_len x.first x.count in
    let both = length-append (range_with_len x.first x.count) [] in
    omega (arith, long, both)
homes_more (y ∷ ys) x =
    let rest = homes_more ys x in
    let one = length-append (range_with_len y.first y.count) (homes_of (ys ++ x ∷ [])) in
    let two = length-append (range_with_len y.first y.count) (homes_of ys) in
    omega (arith, rest, one, two)

-- an extent behind those that count
pub extents_more : (es : List Extent) (count n : ℕ) (x : Extent) → n ≡ length (take count es) → n < length es → take (n + 1) (set es n x) ≡ take count es ++ x ∷ []
extents_more es count n x long inside =
    let least = length-take count es in
    let same : n ≡ count = omega (arith, long, inside, least) in
    take_more_set es n x inside ∙ ap (λ m. take m es ++ x ∷ []) same

last_is : (xs : List Extent) (x y : Extent) → slice_get (xs ++ x ∷ []) (length xs) ≡ Some y → x ≡ y
last_is [] x y is = same_Some x y is
last_is (z ∷ zs) x y is = last_is zs x y is

module _ (before : List (Option Entry)) (changes : List Change) (e : Entry) where
  -- runs from a first home on, to where they are known to be blocked
  abbrev pub BlockedTo : Homes → ℕ → ℕ → Type 0
  BlockedTo room count n = (first : ℕ) → room.first ≤ first → first < n → (y : Extent) × IsBlockedBy before changes e (record { first = first; count = count }) y

  pub blocked_more : (room : Homes) (count n behind : ℕ) → BlockedTo room count n → PassesOver (IsUsedExtent before changes e) count n behind → BlockedTo room count behind
  blocked_more room count n behind known pass first low high = ⊎_elim
      (λ less. known first low less)
      (λ le. let b = pass.blocked first le high in (b.0, record { used = b.1; shared = b.2 }))
      (cases_lt first n)

  -- a run in a part of the room
  pub run_within : (room part : Homes) (count : ℕ) (x : Extent) → room.first ≤ part.first → part.end ≡ room.end → IsRunOf before changes e part count x → IsRunOf before changes e room count x
  run_within room part count x low end run =
      let start = run.1.low in
      let stop = run.1.high in
      (run.0, record { low = omega (arith, low, start); high = omega (arith, end, stop); unused = run.1.unused })

  pub room_wanted : (room : Homes) (n : ℕ) (x : Extent) → IsRunOf before changes e room (wanted e n) x → IsRoom before changes e room n x
  room_wanted room n x run = record { size = inl run.0; free = run.1 }

  pub room_missing : (room : Homes) (n : ℕ) (r : Option Extent) → HasNoRun before changes e room (wanted e n) → MatchOption r (HasNoRun before changes e room n) (IsRunOf before changes e room n)
      → MatchOption r (HasNoRun before changes e room n) (IsRoom before changes e room n)
  room_missing room n None none found = found
  room_missing room n (Some x) none run = record { size = inr (run.0, none); free = run.1 }

  -- the entry as it is, and with one more extent
  pub as_it_is : (count : ℕ) (room : Homes) → count ≤ file_homes e → GivesRoom before changes e count room e
  as_it_is count room enough = record {
    read_only = refl;
    bytes = refl;
    same = λ _. refl;
    enough = enough;
    front = take_all (length (extents_of e)) (extents_of e) (omega arith);
    one = omega arith;
    added = λ x is. let inside = slice_get_within (extents_of e) (length (extents_of e)) x is in absurd (omega (arith, inside));
    few = λ few. few;
  }

  pub with_one : (count : ℕ) (room : Homes) (x : Extent) (wider : Entry) → file_homes e < count → length (extents_of e) < 30 → IsRoom before changes e room (count - file_homes e) x → IsWider e x wider
      → GivesRoom before changes e count room wider
  with_one count room x wider lacks few is more =
      let xs = extents_of e in
      let homes : file_homes wider ≡ file_homes e + x.count = ap (λ (ys : List Extent). length (homes_of ys)) more.extents ∙ homes_more xs x in
      let large : count - file_homes e ≤ x.count = ⊎_elim
      (λ (all : x.count ≡ wanted e (count - file_homes e)). omega (arith, all))
      (λ (least : (x.count ≡ count - file_homes e) × HasNoRun before changes e room (wanted e (count - file_homes e))). let size = least.0 in omega (arith, size))
      is.size in
      let long : length (extents_of wider) ≡ length xs + 1 = ap (λ (ys : List Extent). length ys) more.extents ∙ length-append xs (x ∷ []) in
      let all = more.count in
      record {
        read_only = more.read_only;
        bytes = more.bytes;
        same = λ has. absurd (omega (arith, has, lacks));
        enough = omega (arith, homes, large, lacks);
        front = ap (take (length xs)) more.extents ∙ take-append-le (length xs) xs (x ∷ []) (omega arith) ∙ take_all (length xs) xs (omega arith);
        one = omega (arith, long);
        added = λ y there. subst (IsRoom before changes e room (count - file_homes e)) (last_is xs x y (ap (λ (ys : List Extent). slice_get ys (length xs)) (sym more.extents) ∙ there)) is;
        few = λ _. omega (arith, all, few);
      }
