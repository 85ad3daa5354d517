-- Numbers of four bytes in a block.
use Rattle.std.proofs.Common.{◌≡◌, ◌<◌, ◌≤◌, ◌+◌, ◌-◌, ◌*◌, ◌^◌, ◌++◌, ◌∷◌, [], ℕ, zero, suc, List, length, take, drop, get_or, refl, sym, ap, ◌∙◌, arith, lit<, drop-drop}
use Rattle.std.proofs.lemmas.List.{get_or-take, get_or-drop, get_or_append_left, get_or-append_right, length-take-le, length-append, length-drop}
use Rattle.std.specs.List.{flat_map}
use Rattle.byteorder.specs.{Endian.{little_bytes, little_number}, Numbers.{little_number-reads_back}}
use borrow.Rule.Slice.PartMut.{put_mid, post_of}

-- a byte of a part that was written over, and one before it
mid_byte : (a k p : ℕ) (xs ys : List ℕ) → a ≤ length xs → p < length ys → get_or (put_mid a k xs ys) (a + p) 0 ≡ get_or ys p 0
mid_byte a k p xs ys inside below =
    let at : a + p - a ≡ p = omega arith in
    get_or-append_right (take a xs) (ys ++ post_of a k xs) a (a + p) 0 (length-take-le a xs inside) (omega arith)
    ∙ ap (λ j. get_or (ys ++ post_of a k xs) j 0) at
    ∙ get_or_append_left ys (post_of a k xs) 0 p below

front_byte : (a k p : ℕ) (xs ys : List ℕ) → a ≤ length xs → p < a → get_or (put_mid a k xs ys) p 0 ≡ get_or xs p 0
front_byte a k p xs ys inside below =
    let long = length-take-le a xs inside in
    get_or_append_left (take a xs) (ys ++ post_of a k xs) 0 p (omega (arith, long, below)) ∙ get_or-take a xs p 0 below

-- four bytes are one number
same_number : (xs ys : List ℕ) → ((i : ℕ) → i < 4 → get_or xs i 0 ≡ get_or ys i 0) → little_number 4 xs ≡ little_number 4 ys
same_number xs ys same =
    let zeroth = same 0 (lit< tt) in
    let first = same 1 (lit< tt) in
    let second = same 2 (lit< tt) in
    let third = same 3 (lit< tt) in
    cc

pub mid_number : (a k i : ℕ) (xs ys : List ℕ) → a ≤ length xs → 4 * i + 4 ≤ length ys → little_number 4 (drop (a + 4 * i) (put_mid a k xs ys)) ≡ little_number 4 (drop (4 * i) ys)
mid_number a k i xs ys inside below = same_number _ _ (λ j small.
    get_or-drop (a + 4 * i) (put_mid a k xs ys) j 0
    ∙ ap (λ p. get_or (put_mid a k xs ys) p 0) (at j)
    ∙ mid_byte a k (4 * i + j) xs ys inside (omega (arith, below, small))
    ∙ sym (get_or-drop (4 * i) ys j 0))
  where
    at : (j : ℕ) → a + 4 * i + j ≡ a + (4 * i + j)
    at j = omega arith

pub front_number : (a k p : ℕ) (xs ys : List ℕ) → a ≤ length xs → p + 4 ≤ a → little_number 4 (drop p (put_mid a k xs ys)) ≡ little_number 4 (drop p xs)
front_number a k p xs ys inside below = same_number _ _ (λ j small.
    get_or-drop p (put_mid a k xs ys) j 0 ∙ front_byte a k (p + j) xs ys inside (omega (arith, below, small)) ∙ sym (get_or-drop p xs j 0))

-- a number of a list, by its bytes
pub number_of : (numbers : List ℕ) (i : ℕ) → i < length numbers → get_or numbers i 0 < 2 ^ 32 → little_number 4 (drop (4 * i) (flat_map (little_bytes 4) numbers)) ≡ get_or numbers i 0
number_of [] i below small = absurd (omega arith)
number_of (number ∷ numbers) zero below small = little_number-reads_back 4 number (flat_map (little_bytes 4) numbers) small
number_of (number ∷ numbers) (suc i) below small =
    let bytes : List ℕ = flat_map (little_bytes 4) (number ∷ numbers) in
    let on : 4 * suc i ≡ 4 + 4 * i = omega arith in
    ap (λ n. little_number 4 (drop n bytes)) on ∙ ap (little_number 4) (sym (drop-drop (4 * i) 4 bytes)) ∙ number_of numbers i (omega arith) small

-- and one of a part
pub part_number : (a k i : ℕ) (xs : List ℕ) → 4 * i + 4 ≤ k → little_number 4 (drop (4 * i) (take k (drop a xs))) ≡ little_number 4 (drop (a + 4 * i) xs)
part_number a k i xs below = same_number _ _ (λ j small.
    get_or-drop (4 * i) (take k (drop a xs)) j 0
    ∙ get_or-take k (drop a xs) (4 * i + j) 0 (omega (arith, below, small))
    ∙ get_or-drop a xs (4 * i + j) 0
    ∙ ap (λ p. get_or xs p 0) (at j)
    ∙ sym (get_or-drop (a + 4 * i) xs j 0))
  where
    at : (j : ℕ) → a + (4 * i + j) ≡ a + 4 * i + j
    at j = omega arith

long_bytes : (numbers : List ℕ) → length (flat_map (little_bytes 4) numbers) ≡ 4 * length numbers
long_bytes [] = refl
long_bytes (number ∷ numbers) = let e = long_bytes numbers in length-append (little_bytes 4 number) (flat_map (little_bytes 4) numbers) ∙ omega (arith, e)

-- A block of numbers: a count, and those of two bodies.
module _ (counted : ℕ) (blank buf first second one two : List ℕ) (front : buf ≡ little_bytes 4 counted ++ drop 4 blank) (long : length blank ≡ 4096)
    (one_is : one ≡ flat_map (little_bytes 4) first) (two_is : two ≡ flat_map (little_bytes 4) second) (first_long : length first ≡ 504) (second_long : length second ≡ 504) where
  abbrev pub middle : List ℕ
  middle = put_mid 64 2016 buf one

  abbrev pub block : List ℕ
  block = put_mid 2080 2016 middle two

  buf_long : length buf ≡ 4096
  buf_long = ap (λ xs. length xs) front ∙ length-append (little_bytes 4 counted) (drop 4 blank) ∙ (let e = length-drop 4 blank in omega (arith, e, long))

  one_long : length one ≡ 2016
  one_long = ap (λ xs. length xs) one_is ∙ long_bytes first ∙ omega (arith, first_long)

  two_long : length two ≡ 2016
  two_long = ap (λ xs. length xs) two_is ∙ long_bytes second ∙ omega (arith, second_long)

  middle_long : 2080 ≤ length middle
  middle_long =
      let whole : length middle ≡ length (take 64 buf) + length (one ++ post_of 64 2016 buf) = length-append (take 64 buf) (one ++ post_of 64 2016 buf) in
      let rest = length-append one (post_of 64 2016 buf) in
      let head = length-take-le 64 buf (omega (arith, buf_long)) in
      omega (arith, whole, rest, head, one_long)

  pub count_reads : counted < 2 ^ 32 → little_number 4 block ≡ counted
  count_reads small =
      front_number 2080 2016 0 middle two middle_long (omega arith) ∙ front_number 64 2016 0 buf one (omega (arith, buf_long)) (omega arith)
      ∙ ap (little_number 4) front ∙ little_number-reads_back 4 counted (drop 4 blank) small

  pub first_reads : (i : ℕ) → i < 504 → get_or first i 0 < 2 ^ 32 → little_number 4 (drop (64 + 4 * i) block) ≡ get_or first i 0
  first_reads i below small =
      front_number 2080 2016 (64 + 4 * i) middle two middle_long (omega (arith, below))
      ∙ mid_number 64 2016 i buf one (omega (arith, buf_long)) (omega (arith, below, one_long))
      ∙ ap (λ xs. little_number 4 (drop (4 * i) xs)) one_is ∙ number_of first i (omega (arith, below, first_long)) small

  pub second_reads : (i : ℕ) → i < 504 → get_or second i 0 < 2 ^ 32 → little_number 4 (drop (2080 + 4 * i) block) ≡ get_or second i 0
  second_reads i below small =
      mid_number 2080 2016 i middle two middle_long (omega (arith, below, two_long))
      ∙ ap (λ xs. little_number 4 (drop (4 * i) xs)) two_is ∙ number_of second i (omega (arith, below, second_long)) small

-- an element of a part
pub part_at : (a k i : ℕ) (xs : List ℕ) → i < k → get_or (take k (drop a xs)) i 0 ≡ get_or xs (a + i) 0
part_at a k i xs below = get_or-take k (drop a xs) i 0 below ∙ get_or-drop a xs i 0
