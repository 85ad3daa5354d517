-- An entry that is cut to a length, and one that is made wider before.
use Rattle.std.proofs.Common.{ℕ, zero, suc, ◌≡◌, ◌<◌, ◌≤◌, ◌+◌, ◌-◌, ⊎_elim, ◌∷◌, [], List, length, take, get_or, slice_get, refl, sym, ap, subst, ◌∙◌, arith, Option, length-append, length-take}
use Rattle.std.proofs.lemmas.Bool.{cases_lt}
use Rattle.std.proofs.lemmas.List.{take_all, take-take, take_more, length-take-le}
use Rattle.std.proofs.lemmas.Option.{slice_get_within}
use Rattle.std.specs.List.{range_with_len}
use Rattle.directories.specs.Homes.{extents_of, homes_of, pages_of_length}
use Rattle.directories.specs.declared.entry.Extent.{Extent}
use Rattle.directories.specs.declared.entry.Entry.{Entry}
use Rattle.directories.proofs.{Said.{no_extent}, Places.{get_left, get_right}}
use Rattle.growth.specs.Room.{file_homes, GivesRoom}
use Rattle.growth.specs.Resizing.{homes_in_front, IsCut, IsResized, StaysHome}
use Rattle.growth.specs.declared.changes.Change.{Change}
use Rattle.growth.specs.declared.room.Homes.{Homes}
use Rattle.growth.proofs.Widened.{homes_more}

-- the homes of one more extent in front
pub one_more_in_front : (xs : List Extent) (i : ℕ) → i < length xs → homes_in_front xs (i + 1) ≡ homes_in_front xs i + (get_or xs i no_extent).count
one_more_in_front xs i inside = ap (λ (ys : List Extent). length (homes_of ys)) (take_more xs i no_extent inside) ∙ homes_more (take i xs) (get_or xs i no_extent)

-- each extent up to the one behind the next is needed
pub needed_more : (xs : List Extent) (pages i : ℕ) → ((n : ℕ) → n < i → homes_in_front xs n < pages) → homes_in_front xs i < pages → (n : ℕ) → n < i + 1 → homes_in_front xs n < pages
needed_more xs pages i before here n less = ⊎_elim
    (λ (front : n < i). before n front)
    (λ (last : i ≤ n). let same : i ≡ n = omega (arith, last, less) in subst (λ m. homes_in_front xs m < pages) same here)
    (cases_lt n i)

-- an element, and a home, of the first ones
get_taken : {X : Type 0} (xs : List X) (n i : ℕ) → i < n → slice_get (take n xs) i ≡ slice_get xs i
get_taken {X} xs zero i less = absurd (omega (arith, less))
get_taken {X} [] (suc n) i less = refl
get_taken {X} (x ∷ xs) (suc n) zero less = refl
get_taken {X} (x ∷ xs) (suc n) (suc i) less = get_taken xs n i (omega (arith, less))

in_front : (xs : List Extent) (n k : ℕ) → k < homes_in_front xs n → slice_get (homes_of (take n xs)) k ≡ slice_get (homes_of xs) k
in_front xs zero k less = absurd (omega (arith, less))
in_front [] (suc n) k less = refl
in_front (x ∷ xs) (suc n) k less =
    let own : List ℕ = range_with_len x.first x.count in
    let both : homes_in_front (x ∷ xs) (suc n) ≡ length own + homes_in_front xs n = length-append own (homes_of (take n xs)) in
    ⊎_elim
    (λ (here : k < length own). get_left own (homes_of (take n xs)) k here ∙ sym (get_left own (homes_of xs) k here))
    (λ (past : length own ≤ k). get_right own (homes_of (take n xs)) k past ∙ in_front xs n (k - length own) (omega (arith, less, both, past)) ∙ sym (get_right own (homes_of xs) k past))
    (cases_lt k (length own))

-- those in front of the ones that count
pub front_of : (es : List Extent) (all n : ℕ) → n ≤ length (take all es) → (length (take n es) ≡ n) × (take n es ≡ take (length (take n es)) (take all es))
front_of es all n inside =
    let least = length-take all es in
    let long : length (take n es) ≡ n = length-take-le n es (omega (arith, least, inside)) in
    (long, sym (take-take n all es (omega (arith, least, inside))) ∙ ap (λ m. take m (take all es)) (sym long))

-- taking so many and so many
both_taken : (ws : List Extent) (m n : ℕ) → take n (take m ws) ≡ take m (take n ws)
both_taken ws m n = ⊎_elim
    (λ (less : m < n). let least = length-take m ws in take_all n (take m ws) (omega (arith, least, less)) ∙ sym (take-take m n ws (omega (arith, less))))
    (λ (le : n ≤ m). let least = length-take n ws in take-take n m ws le ∙ sym (take_all m (take n ws) (omega (arith, least, le))))
    (cases_lt m n)

-- an entry that has room is cut
pub resized : (before : List (Option Entry)) (changes : List Change) (e : Entry) (bytes : ℕ) (room : Homes) (wider now : Entry) → GivesRoom before changes e (pages_of_length bytes) room wider → IsCut wider bytes now
    → IsResized before changes e bytes room now
resized before changes e bytes room wider now gives is =
    let pages = pages_of_length bytes in
    let xs = extents_of e in
    let ws = extents_of wider in
    let ys = extents_of now in
    let m = length ys in
    let homes : file_homes now ≡ homes_in_front ws m = ap (λ (zs : List Extent). length (homes_of zs)) is.front in
    let inside = is.needed.inside in
    record {
      size = is.size;
      read_only = is.read_only ∙ gives.read_only;
      few = is.few;
      enough = ⊎_elim
          (λ (less : m < length ws). let has = is.needed.enough less in omega (arith, homes, has))
          (λ (all : length ws ≤ m).
          let same : homes_in_front ws m ≡ file_homes wider = ap (λ (zs : List Extent). length (homes_of zs)) (take_all m ws all) in
          let has = gives.enough in
          omega (arith, homes, same, has))
          (cases_lt m (length ws));
      needed = λ n less.
          let same : homes_in_front ys n ≡ homes_in_front ws n = ap (λ (zs : List Extent). length (homes_of zs)) (ap (take n) is.front ∙ take-take n m ws (omega (arith, less))) in
          let has = is.needed.needed n less in
          omega (arith, same, has);
      front = ap (take (length xs)) is.front ∙ both_taken ws m (length xs) ∙ ap (take m) gives.front;
      added = λ i x behind there.
          let within : i < m = slice_get_within ys i x there in
          let one = gives.one in
          let at : i ≡ length xs = omega (arith, behind, within, inside, one) in
          (at, gives.added x (ap (slice_get ws) (sym at) ∙ sym (get_taken ws m i within) ∙ ap (λ (zs : List Extent). slice_get zs i) (sym is.front) ∙ there));
    }

-- and its pages keep their homes
pub keeps_pages : (before : List (Option Entry)) (changes : List Change) (e : Entry) (bytes : ℕ) (room : Homes) (now : Entry) → IsResized before changes e bytes room now → StaysHome e now
keeps_pages before changes e bytes room now is k h less has =
    let xs = extents_of e in
    let ys = extents_of now in
    let enough = is.enough in
    let pages : k < pages_of_length bytes = subst (λ n. k < pages_of_length n) is.size less in
    ⊎_elim
    (λ (fewer : length ys < length xs).
    let front : ys ≡ take (length ys) xs = sym (take_all (length xs) ys (omega (arith, fewer))) ∙ is.front in
    let homes : file_homes now ≡ homes_in_front xs (length ys) = ap (λ (zs : List Extent). length (homes_of zs)) front in
    ap (λ (zs : List Extent). slice_get (homes_of zs) k) front ∙ in_front xs (length ys) k (omega (arith, pages, enough, homes)) ∙ has)
    (λ (all : length xs ≤ length ys).
    let front : take (length xs) ys ≡ xs = is.front ∙ take_all (length ys) xs all in
    let homes : homes_in_front ys (length xs) ≡ file_homes e = ap (λ (zs : List Extent). length (homes_of zs)) front in
    let within : k < file_homes e = slice_get_within (homes_of xs) k h has in
    sym (in_front ys (length xs) k (omega (arith, homes, within))) ∙ ap (λ (zs : List Extent). slice_get (homes_of zs) k) front ∙ has)
    (cases_lt (length ys) (length xs))
