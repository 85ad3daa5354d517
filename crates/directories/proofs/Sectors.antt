-- The two numbers of a kind, and sectors of older layouts.
use Rattle.std.proofs.Common.{ℕ, ◌≡◌, ◌≢◌, ◌<◌, ◌^◌, ◌/◌, ◌%◌, ◌++◌, List, drop, get_or, sym, ap, subst, ◌∙◌, arith, Result, Ok, Err, OnErr}
use Rattle.std.specs.Prelude.{IfOk}
use Rattle.directories.specs.declared.kind.{Kind.{Kind}, KindFault.{KindFault}}
use Rattle.directories.specs.Kinds.{SaysKind}
use Rattle.byteorder.specs.{Endian.{little_bytes, little_number}, Numbers.{little_number-reads_back}}
use Rattle.directories.specs.Kinds.{repeated, stamp, kind_sector, IsKind, IsOlder}
use Rattle.directories.specs.Kinds.IsOlder.{Stamped, Present, Absent}

abbrev pub first_number : List ℕ → ℕ
first_number sector = little_number 4 (drop 8 sector)

abbrev pub second_number : List ℕ → ℕ
second_number sector = little_number 4 (drop 12 sector)

pub first_reads : (m d : ℕ) → m < 2 ^ 32 → first_number (kind_sector m d) ≡ m
unfolding kind_sector
first_reads m d small = little_number-reads_back 4 m (little_bytes 4 d ++ repeated 62 stamp) small

pub second_reads : (m d : ℕ) → d < 2 ^ 32 → second_number (kind_sector m d) ≡ d
unfolding kind_sector
second_reads m d small = little_number-reads_back 4 d (repeated 62 stamp) small

pub first_same : (m d n e : ℕ) (sector : List ℕ) → sector ≡ kind_sector m d → sector ≡ kind_sector n e → m < 2 ^ 32 → n < 2 ^ 32 → m ≡ n
first_same m d n e sector is also small small' = sym (first_reads m d small) ∙ ap first_number (sym is ∙ also) ∙ first_reads n e small'

pub second_same : (m d n e : ℕ) (sector : List ℕ) → sector ≡ kind_sector m d → sector ≡ kind_sector n e → d < 2 ^ 32 → e < 2 ^ 32 → d ≡ e
second_same m d n e sector is also small small' = sym (second_reads m d small) ∙ ap second_number (sym is ∙ also) ∙ second_reads n e small'

-- a sector that its own numbers don't make is made by no numbers
pub unstamped : (m d n e : ℕ) (sector : List ℕ) → sector ≢ kind_sector m d → first_number sector ≡ m → second_number sector ≡ d → n < 2 ^ 32 → e < 2 ^ 32 → sector ≢ kind_sector n e
unstamped m d n e sector other first second small small' is =
    let one : m ≡ n = sym first ∙ ap first_number is ∙ first_reads n e small in
    let two : d ≡ e = sym second ∙ ap second_number is ∙ second_reads n e small' in
    other (is ∙ ap (λ k. kind_sector k e) (sym one) ∙ ap (kind_sector m) (sym two))

fifty_one : ◌≡◌ {A = ℕ} 51 52 → ⊥
fifty_one e = omega arith

one : ◌≡◌ {A = ℕ} 0 1 → ⊥
one e = omega arith

-- the stamp's first four bytes are a number of which bit 31 is clear, and not zero
front : ◌≡◌ {A = ℕ} 1397571910 0 → ⊥
front e = omega arith

-- no kind looks like sector 1 of an older layout
pub older_is_none : (m d : ℕ) (sector : List ℕ) → IsOlder sector → sector ≢ kind_sector m d
unfolding kind_sector
older_is_none m d sector (Stamped old) is = fifty_one (ap (λ xs. get_or xs 7 0) (sym old ∙ is))
older_is_none m d sector (Present set) is = one (subst (λ xs. little_number 4 xs / 2147483648 % 2 ≡ 1) is set)
older_is_none m d sector (Absent zero _) is = front (subst (λ xs. little_number 4 xs ≡ 0) is zero)

-- a kind that was written reads back
kind_same : (k j : Kind) → k.map_blocks ≡ j.map_blocks → k.directory_pages ≡ j.directory_pages → k ≡ j
kind_same k j maps pages =
    let one : ℕ → Kind = λ n. record { map_blocks = n; directory_pages = k.directory_pages } in
    let two : ℕ → Kind = λ n. record { map_blocks = j.map_blocks; directory_pages = n } in
    ap one maps ∙ ap two pages

one_kind : (sector : List ℕ) (k j : Kind) → SaysKind sector k → SaysKind sector j → k ≡ j
one_kind sector k j is also = kind_same k j
    (first_same k.map_blocks k.directory_pages j.map_blocks j.directory_pages sector is.bytes also.bytes (let small = is.maps in omega arith) (let small = also.maps in omega arith))
    (second_same k.map_blocks k.directory_pages j.map_blocks j.directory_pages sector is.bytes also.bytes (let small = is.pages in omega arith) (let small = also.pages in omega arith))

pub kind_reads_back : (sector : List ℕ) (kind : Kind) (r : Result Kind KindFault) → SaysKind sector kind → IfOk r (SaysKind sector)
    → OnErr r ((m d : ℕ) → IsKind m d sector → ⊥) → r ≡ Ok kind
kind_reads_back sector kind (Ok k) is found none = ap Ok (one_kind sector k kind found is)
kind_reads_back sector kind (Err fault) is found none = absurd (none kind.map_blocks kind.directory_pages is)
