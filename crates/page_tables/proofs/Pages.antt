-- A page's number is known by its fields.
use Rattle.page_tables.proofs.Names.{◌≡◌, ℕ, zero, suc, ◌+◌, ◌-◌, ◌*◌, ◌/◌, ◌%◌, ◌^◌, ◌<◌, ◌≤◌, refl, sym, ap, ◌∙◌, arith, div-div-eq-div-mul, pow-suc, pow-succ', div-lt_iff_lt-mul, div-mul-le_self, le-div, index_of}

pub index_of-suc : (p k : ℕ) → index_of p (suc k) ≡ index_of (p / 512) k
unfolding index_of
index_of-suc p k = rw (pow-succ' 512 k, ← div-div-eq-div-mul p 512 (512 ^ k))

pub index_of-zero : (p : ℕ) → index_of p 0 ≡ p % 512
unfolding index_of
index_of-zero p = omega arith

below : (p x y : ℕ) → p < y → y ≡ 512 * x → p / 512 < x
below p x y h e = omega arith

fits : (top p : ℕ) → p < 512 ^ (suc top + 1) → p / 512 < 512 ^ (top + 1)
fits top p h =
    let one : suc top + 1 ≡ suc (top + 1) = omega arith in
    below p (512 ^ (top + 1)) (512 ^ (suc top + 1)) h (ap (λ k. 512 ^ k) one ∙ pow-succ' 512 (top + 1))

-- a page's number is known by its fields
pub page_from_fields : (top p q : ℕ) → p < 512 ^ (top + 1) → q < 512 ^ (top + 1) → ((k : ℕ) → k ≤ top → index_of p k ≡ index_of q k) → p ≡ q
page_from_fields zero p q hp hq same =
    let low = sym (index_of-zero p) ∙ same 0 (omega arith) ∙ index_of-zero q in
    let p_small : p < 512 = hp in let q_small : q < 512 = hq in
    omega arith
page_from_fields (suc top) p q hp hq same =
    let low = sym (index_of-zero p) ∙ same 0 (omega arith) ∙ index_of-zero q in
    let hp' : p / 512 < 512 ^ (top + 1) = fits top p hp in
    let hq' : q / 512 < 512 ^ (top + 1) = fits top q hq in
    let high : p / 512 ≡ q / 512 = page_from_fields top (p / 512) (q / 512) hp' hq'
    (λ k h. sym (index_of-suc p k) ∙ same (suc k) (omega arith) ∙ index_of-suc q k) in
    omega arith

-- equal rows of pages have equal fields above them
pub shift : (page a b : ℕ) → index_of page (a + b) ≡ index_of (page / 512 ^ a) b
shift page zero b =
    let none : 0 + b ≡ b = omega arith in
    let one : page / 512 ^ 0 ≡ page = omega arith in
    ap (index_of page) none ∙ ap (λ x. index_of x b) (sym one)
shift page (suc a) b =
    let more : suc a + b ≡ suc (a + b) = omega arith in
    ap (index_of page) more ∙ index_of-suc page (a + b) ∙ shift (page / 512) a b
    ∙ ap (λ x. index_of x b) (div-div-eq-div-mul page 512 (512 ^ a) ∙ ap (λ x. page / x) (sym (pow-succ' 512 a)))

pub fields_same : (page page' low k : ℕ) → low ≤ k → page / 512 ^ low ≡ page' / 512 ^ low → index_of page k ≡ index_of page' k
fields_same page page' low k le same =
    let sum : low + (k - low) ≡ k = omega (arith, le) in
    ap (index_of page) (sym sum) ∙ shift page low (k - low) ∙ ap (λ x. index_of x (k - low)) same ∙ sym (shift page' low (k - low)) ∙ ap (index_of page') sum

-- the pages in the place of one entry of a table of level k are 512 ^ k
pub span_positive : (k : ℕ) → 0 < 512 ^ k
span_positive zero = omega arith
span_positive (suc k) = let rest = span_positive k in rw (pow-succ' 512 k) (omega (arith, rest))

pub span_above : (k : ℕ) → 512 ^ (k + 1) ≡ 512 ^ k * 512
span_above k = let one : k + 1 ≡ suc k = omega arith in ap (λ x. 512 ^ x) one ∙ pow-suc 512 k

-- a page's place among the spans of the level above
pub place_above : (p k : ℕ) → p / 512 ^ (k + 1) ≡ p / 512 ^ k / 512
place_above p k = ap (λ x. p / x) (span_above k) ∙ sym (div-div-eq-div-mul p (512 ^ k) 512)

pub same_span_above : (p q k : ℕ) → p / 512 ^ k ≡ q / 512 ^ k → p / 512 ^ (k + 1) ≡ q / 512 ^ (k + 1)
same_span_above p q k same = place_above p k ∙ ap (λ x. x / 512) same ∙ sym (place_above q k)

pub field_is : (p k : ℕ) → index_of p k ≡ p / 512 ^ k % 512
unfolding index_of
field_is p k = refl

pub place_below : (p n k : ℕ) → p < n * 512 ^ k → p / 512 ^ k < n
place_below p n k lt = (div-lt_iff_lt-mul (span_positive k)).1 lt

pub below_place : (p n k : ℕ) → p / 512 ^ k < n → p < n * 512 ^ k
below_place p n k lt = (div-lt_iff_lt-mul (span_positive k)).0 lt

pub place_from : (p q k : ℕ) → p ≤ q → p / 512 ^ k ≤ q / 512 ^ k
place_from p q k le = le-div (p / 512 ^ k) q (512 ^ k) (span_positive k) (omega (arith, div-mul-le_self p (512 ^ k), le))

-- pages up to the end of a span lie in it
pub same_place : (start page stop k : ℕ) → start ≤ page → page < stop → stop ≤ (start / 512 ^ k + 1) * 512 ^ k → page / 512 ^ k ≡ start / 512 ^ k
same_place start page stop k from below le =
    let lt : page < (start / 512 ^ k + 1) * 512 ^ k = omega (arith, below, le) in
    omega (arith, place_below page (start / 512 ^ k + 1) k lt, place_from start page k from)
