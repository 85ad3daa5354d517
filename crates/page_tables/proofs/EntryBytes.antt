-- What the write of eight bytes does to the entries of a table. The one file that sees bytes.
use Rattle.page_tables.proofs.Names.{◌≡◌, inl, inr, ℕ, zero, suc, ◌+◌, ◌-◌, ◌*◌, ◌<◌, ◌≤◌, ◌^◌, List, ◌++◌, length, get_or, take, drop, refl, sym, ap, ◌∙◌, arith, length-drop, get_or-drop, get_or-take, length-take-le, drop_at, append_assoc}
use Rattle.page_tables.proofs.Names.{get_or_append_left, get_or-append_right, cases_lt, put_mid, mid_of, post_of, FrameTable, bytes_of, with_bytes, with_bytes-same, with_bytes-others, entry_at, little_number, little_from, little_bytes}
use Rattle.page_tables.{proofs.Names.{little_number-reads_back, length-bytes_low_first}, specs.{Change.{PutsNumber, ChangesEntry, number_at}, Tree.{IsTable}}}

-- a number reads its bytes alone
little_from-same : (i n : ℕ) (xs ys : List ℕ) → ((k : ℕ) → i ≤ k → k < i + n → get_or xs k 0 ≡ get_or ys k 0) → little_from i n xs ≡ little_from i n ys
little_from-same i zero xs ys same = refl
little_from-same i (suc n) xs ys same =
    let rest : little_from (suc i) n xs ≡ little_from (suc i) n ys = little_from-same (suc i) n xs ys (λ k low high. same k (omega arith) (omega arith)) in
    rw (same i (omega arith) (omega arith), rest)

-- two lists that agree on the bytes from a on
pub number-same : (xs ys : List ℕ) (a : ℕ) → ((k : ℕ) → a ≤ k → k < a + 8 → get_or xs k 0 ≡ get_or ys k 0)
    → little_number 8 (drop a xs) ≡ little_number 8 (drop a ys)
number-same xs ys a same = little_from-same 0 8 (drop a xs) (drop a ys)
    (λ k low high. get_or-drop a xs k 0 ∙ same (a + k) (omega arith) (omega arith) ∙ sym (get_or-drop a ys k 0))

module _ (xs : List ℕ) (a : ℕ) (bs : List ℕ) (whole : length xs ≡ 4096) (inside : a + 8 ≤ 4096) (eight : length bs ≡ 8) where
  -- the frame after the write of eight bytes at a
  abbrev pub written : List ℕ
  written = put_mid a (4096 - a) xs (bs ++ drop 8 (mid_of a (4096 - a) xs))

  front : length (take a xs) ≡ a
  front = length-take-le a xs (omega arith)

  pub drop-written : drop a written ≡ bs ++ (drop 8 (mid_of a (4096 - a) xs) ++ post_of a (4096 - a) xs)
  drop-written = drop_at (take a xs) _ a front ∙ append_assoc bs _ _

  pub written-below : (k : ℕ) → k < a → get_or written k 0 ≡ get_or xs k 0
  written-below k h =
      let there : k < length (take a xs) = omega (arith, front) in
      get_or_append_left (take a xs) _ 0 k there ∙ get_or-take a xs k 0 h

  middle : length (mid_of a (4096 - a) xs) ≡ 4096 - a
  middle = length-take-le (4096 - a) (drop a xs) (omega (arith, length-drop a xs))

  rest : length (drop 8 (mid_of a (4096 - a) xs)) ≡ 4096 - a - 8
  rest = length-drop 8 (mid_of a (4096 - a) xs) ∙ ap (λ n. n - 8) middle

  pub written-above : (k : ℕ) → a + 8 ≤ k → k < 4096 → get_or written k 0 ≡ get_or xs k 0
  written-above k low high =
      let j : ℕ = k - a - 8 in
      let within : j < length (drop 8 (mid_of a (4096 - a) xs)) = omega (arith, rest) in
      let index : a + (8 + j) ≡ k = omega arith in
      get_or-append_right (take a xs) ((bs ++ drop 8 (mid_of a (4096 - a) xs)) ++ post_of a (4096 - a) xs) a k 0 front (omega arith)
      ∙ ap (λ l. get_or l (k - a) 0) (append_assoc bs (drop 8 (mid_of a (4096 - a) xs)) (post_of a (4096 - a) xs))
      ∙ get_or-append_right bs (drop 8 (mid_of a (4096 - a) xs) ++ post_of a (4096 - a) xs) 8 (k - a) 0 eight (omega arith)
      ∙ get_or_append_left (drop 8 (mid_of a (4096 - a) xs)) (post_of a (4096 - a) xs) 0 j within
      ∙ get_or-drop 8 (mid_of a (4096 - a) xs) j 0
      ∙ get_or-take (4096 - a) (drop a xs) (8 + j) 0 (omega arith)
      ∙ get_or-drop a xs (8 + j) 0
      ∙ ap (λ n. get_or xs n 0) index

-- the write of a number in its place
pub puts_number : (xs buf : List ℕ) (i number : ℕ) → i < 512 → length xs ≡ 4096 → number < 256 ^ 8
    → buf ≡ little_bytes 8 number ++ drop 8 (mid_of (8 * i) (4096 - 8 * i) xs) → PutsNumber xs (put_mid (8 * i) (4096 - 8 * i) xs buf) i number
puts_number xs buf i number h whole fits e = rw e (record {
  changed = ap (little_number 8) (drop-written xs (8 * i) (little_bytes 8 number) whole (omega arith) (length-bytes_low_first 0 8 number))
      ∙ little_number-reads_back 8 number (drop 8 (mid_of (8 * i) (4096 - 8 * i) xs) ++ post_of (8 * i) (4096 - 8 * i) xs) fits;
  others = λ j hj ne. number-same (written xs (8 * i) (little_bytes 8 number) whole (omega arith) (length-bytes_low_first 0 8 number)) xs (8 * j)
      (λ k low high. elim (cases_lt k (8 * i)) [
        | inl lt ↦ written-below xs (8 * i) (little_bytes 8 number) whole (omega arith) (length-bytes_low_first 0 8 number) k lt
        | inr le ↦ written-above xs (8 * i) (little_bytes 8 number) whole (omega arith) (length-bytes_low_first 0 8 number) k (omega arith) (omega arith)
      ]);
})

-- an entry of a table is a number of its frame
entry_is_number : (t : FrameTable) (n i : ℕ) → entry_at t n i ≡ number_at (bytes_of t n) i
unfolding entry_at
entry_is_number t n i = refl

pub changes_entry : (t : FrameTable) (n i e : ℕ) (w : List ℕ) → IsTable t n → i < 512 → PutsNumber (bytes_of t n) w i e → ChangesEntry t (with_bytes t n w) n i e
changes_entry t n i e w table h puts =
    let same = with_bytes-same t n w table.inside in
    record {
      others = with_bytes-others t n w;
      roles = refl;
      counts = refl;
      changed = entry_is_number (with_bytes t n w) n i ∙ ap (λ x. number_at x i) same ∙ puts.changed;
      entries = λ j hj ne. entry_is_number (with_bytes t n w) n j ∙ ap (λ x. number_at x j) same ∙ puts.others j hj ne ∙ sym (entry_is_number t n j);
    }
