-- Entries as bytes, and the sector that they make.
use Rattle.file_store.proofs.{Entries.{entry_in-inside, entry_in-outside}, Names.{◌≡◌, ℕ, ◌+◌, ◌-◌, ◌*◌, ◌/◌, ◌%◌, ◌<◌, ◌≤◌, ⊎_elim, cond, eqb, List, [], ◌++◌, length, get_or, take, drop, Option, Some, None, refl, sym, ap, ◌∙◌, arith}}
use Rattle.file_store.proofs.Names.{cases_lt, cases_Bool, cond-true, cond-false, cond_both, eq-eqb, ne_eqb, get_or-take, get_or-drop, get_or_append_left, get_or-append_right, get_or_past, length-take-le, slice_get_past, option_map}
use Rattle.file_store.{proofs.Names.{little_bytes, little_number-reads_back, put_mid, post_of, same_number, length_put}, specs.{Directory.{word_of, length_of, decoded, IsZero, entry_bytes, entry_in}, Format.{info_of, first_home}}}
use Rattle.file_store.specs.{Format.{entry_given}, declared.{directory.Entry.{Entry}, sources.FileSource.{FileSource}}}

-- what two numbers say
abbrev entry_from : ℕ → ℕ → Option Entry
entry_from word length = cond (eqb (word / 2147483648 % 2) 1)
    (Some (record { first = word % 1073741824; info = record { length = length; read_only = eqb (word / 1073741824 % 2) 1 } }))
    None

decoded-is : (bytes : List ℕ) (word length : ℕ) → word_of bytes ≡ word → length_of bytes ≡ length → decoded bytes ≡ entry_from word length
unfolding decoded
decoded-is bytes word length first second = ap (λ n. entry_from n (length_of bytes)) first ∙ ap (entry_from word) second

-- eight bytes that say the same
record AreSame (xs ys : List ℕ) : Type 0 where
  word : word_of xs ≡ word_of ys
  length : length_of xs ≡ length_of ys

same_numbers : (xs ys : List ℕ) → ((i : ℕ) → i < 8 → get_or xs i 0 ≡ get_or ys i 0) → AreSame xs ys
same_numbers xs ys same = record {
  word = same_number xs ys (λ i below. same i (omega (arith, below)));
  length = same_number (drop 4 xs) (drop 4 ys) (λ i below. get_or-drop 4 xs i 0 ∙ same (4 + i) (omega (arith, below)) ∙ sym (get_or-drop 4 ys i 0));
}

pub decoded-same : (xs ys : List ℕ) → ((i : ℕ) → i < 8 → get_or xs i 0 ≡ get_or ys i 0) → decoded xs ≡ decoded ys
decoded-same xs ys same =
    let numbers = same_numbers xs ys same in
    decoded-is xs (word_of ys) (length_of ys) numbers.word numbers.length ∙ sym (decoded-is ys (word_of ys) (length_of ys) refl refl)

-- eight zero bytes
pub zero_entry : (bytes : List ℕ) → ((i : ℕ) → i < 8 → get_or bytes i 0 ≡ 0) → IsZero bytes
zero_entry bytes zero = let numbers = same_numbers bytes [] (λ i below. zero i below) in record { word = numbers.word; length = numbers.length }

pub zero_says_nothing : (bytes : List ℕ) → IsZero bytes → decoded bytes ≡ None
zero_says_nothing bytes zero = decoded-is bytes 0 0 zero.word zero.length

entry_at : (e : Entry) (word : ℕ) → word / 2147483648 % 2 ≡ 1 → word % 1073741824 ≡ e.first → eqb (word / 1073741824 % 2) 1 ≡ e.info.read_only
    → entry_from word e.info.length ≡ Some e
entry_at e word present first read_only =
    cond-true (eqb (word / 2147483648 % 2) 1)
    (Some (record { first = word % 1073741824; info = record { length = e.info.length; read_only = eqb (word / 1073741824 % 2) 1 } })) None
    (eq-eqb (word / 2147483648 % 2) 1 present)
    ∙ ap (λ n. Some (record { first = n; info = record { length = e.info.length; read_only = eqb (word / 1073741824 % 2) 1 } })) first
    ∙ ap (λ b. Some (record { first = e.first; info = record { length = e.info.length; read_only = b } })) read_only

-- the first number of an entry: its bits 31 and 30, and the first home
entry_word : (e : Entry) (word bit : ℕ) → e.first < 1073741824 → bit ≡ cond e.info.read_only 1073741824 0 → word ≡ 2147483648 + bit + e.first
    → entry_from word e.info.length ≡ Some e
entry_word e word bit small bit_is word_is = ⊎_elim
    (λ locked.
    let is : bit ≡ 1073741824 = bit_is ∙ cond-true e.info.read_only 1073741824 0 locked in
    entry_at e word (omega (arith, small, is, word_is)) (omega (arith, small, is, word_is))
    (eq-eqb (word / 1073741824 % 2) 1 (omega (arith, small, is, word_is)) ∙ sym locked))
    (λ open_to_writes.
    let is : bit ≡ 0 = bit_is ∙ cond-false e.info.read_only 1073741824 0 open_to_writes in
    entry_at e word (omega (arith, small, is, word_is)) (omega (arith, small, is, word_is))
    (ne_eqb (word / 1073741824 % 2) 1 (λ one. omega (arith, small, is, word_is, one)) ∙ sym open_to_writes))
    (cases_Bool e.info.read_only)

-- the bytes of an entry
pub encoded : (e : Entry) (word bit : ℕ) (bytes rest : List ℕ) → e.first < 1073741824 → e.info.length < 4294967296
    → bit ≡ cond e.info.read_only 1073741824 0 → word ≡ 2147483648 + bit + e.first
    → bytes ≡ little_bytes 4 word ++ (little_bytes 4 e.info.length ++ rest) → decoded bytes ≡ Some e
encoded e word bit bytes rest small short bit_is word_is are =
    let high : cond e.info.read_only 1073741824 0 ≤ 1073741824 = cond_both e.info.read_only 1073741824 0 (λ n. n ≤ 1073741824) (λ _. omega arith) (λ _. omega arith) in
    decoded-is bytes word e.info.length
    (ap word_of are ∙ little_number-reads_back 4 word (little_bytes 4 e.info.length ++ rest) (omega (arith, small, bit_is, word_is, high)))
    (ap length_of are ∙ little_number-reads_back 4 e.info.length rest (omega (arith, short)))
    ∙ entry_word e word bit small bit_is word_is

-- A directory sector of which the bytes from entry f on are written anew, those behind the entry as they were.
module _ (f : ℕ) (sector bytes : List ℕ) (size : length sector ≡ 512) (inside : f < 64) (long : length bytes ≡ 512 - 8 * f)
    (others : drop 8 bytes ≡ drop 8 (drop (8 * f) sector)) where
  abbrev pub renewed : List ℕ
  renewed = put_mid (8 * f) (512 - 8 * f) sector bytes

  front : length (take (8 * f) sector) ≡ 8 * f
  front = length-take-le (8 * f) sector (omega (arith, size, inside))

  before : (i : ℕ) → i < 8 * f → get_or renewed i 0 ≡ get_or sector i 0
  before i below = get_or_append_left (take (8 * f) sector) (bytes ++ post_of (8 * f) (512 - 8 * f) sector) 0 i (omega (arith, front, below)) ∙ get_or-take (8 * f) sector i 0 below

  here : (i : ℕ) → i < length bytes → get_or renewed (8 * f + i) 0 ≡ get_or bytes i 0
  here i below =
      let at : 8 * f + i - 8 * f ≡ i = omega arith in
      get_or-append_right (take (8 * f) sector) (bytes ++ post_of (8 * f) (512 - 8 * f) sector) (8 * f) (8 * f + i) 0 front (omega arith)
      ∙ ap (λ n. get_or (bytes ++ post_of (8 * f) (512 - 8 * f) sector) n 0) at
      ∙ get_or_append_left bytes (post_of (8 * f) (512 - 8 * f) sector) 0 i below

  -- the entries before it stay
  pub entry_before : (g : ℕ) → g < f → decoded (entry_bytes renewed g) ≡ decoded (entry_bytes sector g)
  entry_before g less = decoded-same (entry_bytes renewed g) (entry_bytes sector g)
      (λ i below. get_or-drop (8 * g) renewed i 0 ∙ before (8 * g + i) (omega (arith, less, below)) ∙ sym (get_or-drop (8 * g) sector i 0))

  pub entry_here : decoded (entry_bytes renewed f) ≡ decoded bytes
  entry_here = decoded-same (entry_bytes renewed f) bytes (λ i below. get_or-drop (8 * f) renewed i 0 ∙ here i (omega (arith, long, inside, below)))

  -- behind it zeros stay
  pub zeros_behind : ((i : ℕ) → 8 * f ≤ i → ◌≡◌ {A = ℕ} (get_or sector i 0) 0) → (i : ℕ) → 8 * (f + 1) ≤ i → ◌≡◌ {A = ℕ} (get_or renewed i 0) 0
  zeros_behind zero i behind = ⊎_elim
      (λ within.
      let j : ℕ = i - 8 * f - 8 in
      let at : 8 * f + (8 + j) ≡ i = omega (arith, behind) in
      let at' : 8 * f + (8 + j) ≡ 8 * f + 8 + j = omega arith in
      ap (λ n. get_or renewed n 0) (sym at)
      ∙ here (8 + j) (omega (arith, long, inside, at, within))
      ∙ sym (get_or-drop 8 bytes j 0)
      ∙ ap (λ (list : List ℕ). get_or list j 0) others
      ∙ get_or-drop 8 (drop (8 * f) sector) j 0
      ∙ get_or-drop (8 * f) sector (8 + j) 0
      ∙ zero (8 * f + (8 + j)) (omega (arith, at, behind)))
      (λ past. get_or_past renewed i 0 (omega (arith, past, size, length_put sector bytes (8 * f) (512 - 8 * f) (omega (arith, size, inside)) long)))
      (cases_lt i 512)

-- past the last source there is no file
pub no_file : {R : Type 0} (sources : List (FileSource R)) (sector : List ℕ) (f : ℕ) → length sources ≤ f → IsZero (entry_bytes sector f)
    → entry_in sector f ≡ entry_given sources f
no_file sources sector f past zero =
    ⊎_elim (λ below. entry_in-inside sector f below ∙ zero_says_nothing (entry_bytes sector f) zero) (λ outside. entry_in-outside sector f outside) (cases_lt f 64)
    ∙ sym (ap (option_map (λ s. record { first = first_home sources f % 1073741824; info = info_of s })) (slice_get_past sources f past))
