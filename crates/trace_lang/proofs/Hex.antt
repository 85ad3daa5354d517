-- Hexadecimal digits, by the number of them and without leading zeros.
use Rattle.std.proofs.Common.{◌≡◌, ℕ, zero, suc, ◌+◌, ◌-◌, ◌*◌, ◌/◌, ◌%◌, ◌<◌, ◌≤◌, ◌^◌, ◌⊎◌, inl, inr, Bool, true, false, ◌&&◌, T, eqb, eqb-true, eqb→eq, eq-zero-or-pos, get_or, List, [], ◌∷◌, ◌++◌, take, drop, set, length, refl, sym, ◌∙◌}
use Rattle.std.proofs.{Common.{ap, lit<, append_assoc, if◌then◌else◌, arith}, Math.{Nat.{one-le-pow, pow-le-pow_right, pow-succ'}, Seq.{take-set-lt}}, lemmas.List.{append-nil, drop-set, length-set, length-take-le, take-append-drop}}
use Rattle.{std.{proofs.lemmas.{List.{take-take}, Nat.{pow-add}}, specs.Fmt.{digits, digits_onto, digit_glyph}}, trace_lang.specs.{Texts.{hex_digits}, declared.output.TheConstants.{PAIRS}}}
use lib.Ieee.Fits.{and_l, and_r}

power_up : (k : ℕ) → 2 ^ (4 * suc k) ≡ 2 ^ (4 * k) * 16
power_up k = let e : 4 * suc k ≡ 4 * k + 4 = omega arith in ap (λ x. 2 ^ x) e ∙ pow-add 2 (4 * k) 4

below_power_up : (n k : ℕ) → n < 2 ^ (4 * suc (suc k)) → n / 16 < 2 ^ (4 * suc k)
below_power_up n k h = omega (arith, power_up (suc k), h)

above_power_up : (n k : ℕ) → 2 ^ (4 * suc k) ≤ n → 2 ^ (4 * k) ≤ n / 16
above_power_up n k h = omega (arith, power_up k, h)

no_zero : (n k : ℕ) → 2 ^ (4 * suc k) ≤ n → eqb (n / 16) 0 ≡ false
no_zero n k h =
    let some : 1 ≤ n / 16 = omega (arith, above_power_up n k h, one-le-pow (4 * k) 2 (omega arith)) in
    elim (eqb (n / 16) 0) as (λ v. eqb (n / 16) 0 ≡ v → v ≡ false)
    [ true ↦ (λ e. let z = eqb-true (n / 16) 0 e in absurd (omega (arith, z, some))) | false ↦ (λ e. refl) ] refl

-- std's digits of a number that has k + 1 of them
onto_hex : (k f n : ℕ) (acc : List ℕ) → n < 2 ^ (4 * suc k) → (k ≡ 0) ⊎ (2 ^ (4 * k) ≤ n) → k < f
    → digits_onto f 16 false n acc ≡ hex_digits (suc k) n ++ acc
onto_hex k zero n acc small large room = absurd (omega (arith, room))
onto_hex zero (suc f) n acc small large room =
    let none : n / 16 ≡ 0 = omega (arith, small) in
    ap (λ q. if eqb q 0 then digit_glyph false (n % 16) ∷ acc else digits_onto f 16 false (n / 16) (digit_glyph false (n % 16) ∷ acc)) none
onto_hex (suc k) (suc f) n acc small (inl e) room = absurd (omega (arith, e))
onto_hex (suc k) (suc f) n acc small (inr large) room =
    ap (λ b. if b then digit_glyph false (n % 16) ∷ acc else digits_onto f 16 false (n / 16) (digit_glyph false (n % 16) ∷ acc)) (no_zero n k large)
    ∙ onto_hex k f (n / 16) (digit_glyph false (n % 16) ∷ acc) (below_power_up n k small) (inr (above_power_up n k large)) (omega (arith, room))
    ∙ sym (append_assoc (hex_digits (suc k) (n / 16)) (digit_glyph false (n % 16) ∷ []) acc)

-- a number below two to the power of 4 k + 4 that isn't below that of 4 k has k + 1 digits
pub hex_digits-digits : (k n : ℕ) → n < 2 ^ (4 * suc k) → (k ≡ 0) ⊎ (2 ^ (4 * k) ≤ n) → k < 64 → hex_digits (suc k) n ≡ digits 16 false n
unfolding digits
hex_digits-digits k n small large room = sym (onto_hex k 64 n [] small large room ∙ append-nil (hex_digits (suc k) n))

-- the same by the place of the highest bit
pub hex_digits-log : (r n : ℕ) → 2 ^ r ≤ n → n < 2 * 2 ^ r → r < 64 → hex_digits (r / 4 + 1) n ≡ digits 16 false n
hex_digits-log r n low high small =
    let q = r / 4 in
    let next : 2 ^ suc r ≤ 2 ^ (4 * suc q) = pow-le-pow_right (lit< tt) (omega arith) in
    let same : 2 ^ (4 * q) ≤ 2 ^ r = pow-le-pow_right (lit< tt) (omega arith) in
    let step : q + 1 ≡ suc q = omega arith in
    ap (λ k. hex_digits k n) step
    ∙ hex_digits-digits q n (omega (arith, next, high, pow-succ' 2 r)) (inr (omega (arith, same, low))) (omega (arith, small))

-- one more digit in front of those written so far
pub next_digit : (out : List ℕ) (at last end rest glyph : ℕ) (whole : List ℕ) → at ≤ last → last < end → end ≤ length out → glyph ≡ digit_glyph false (rest % 16)
    → hex_digits (last + 1 - at) rest ++ drop (last + 1) (take end out) ≡ whole
    → hex_digits (last - at) (rest / 16) ++ drop last (take end (set out last glyph)) ≡ whole
next_digit out at last end rest glyph whole low high room e h =
    let front = hex_digits (last - at) (rest / 16) in
    let more : last + 1 - at ≡ suc (last - at) = omega (arith, low) in
    let inside : last < length (take end out) = omega (arith, high, length-take-le end out room) in
    ap (λ t. front ++ drop last t) (take-set-lt end out last glyph high)
    ∙ ap (λ t. front ++ t) (drop-set (take end out) last glyph inside)
    ∙ ap (λ g. front ++ g ∷ drop (last + 1) (take end out)) e
    ∙ sym (append_assoc front (digit_glyph false (rest % 16) ∷ []) (drop (last + 1) (take end out)))
    ∙ ap (λ k. hex_digits k rest ++ drop (last + 1) (take end out)) (sym more)
    ∙ h

-- two more digits in front of those written so far
pub next_pair : (out : List ℕ) (at last end rest high low : ℕ) (whole : List ℕ) → at ≤ last → last + 1 < end → end ≤ length out
    → low ≡ digit_glyph false (rest % 16) → high ≡ digit_glyph false (rest / 16 % 16)
    → hex_digits (last + 1 + 1 - at) rest ++ drop (last + 1 + 1) (take end out) ≡ whole
    → hex_digits (last - at) (rest / 16 / 16) ++ drop last (take end (set (set out (last + 1) low) last high)) ≡ whole
next_pair out at last end rest high low whole front inside room el eh h =
    next_digit (set out (last + 1) low) at last end (rest / 16) high whole front (omega arith) (omega (arith, length-set out (last + 1) low, room)) eh
    (next_digit out at (last + 1) end rest low whole (omega arith) inside room el h)

abbrev are_pairs : ℕ → Bool
are_pairs zero = true
are_pairs (suc p) = (eqb (get_or PAIRS (p * 2) 0) (digit_glyph false (p / 16)) && eqb (get_or PAIRS (p * 2 + 1) 0) (digit_glyph false (p % 16))) && are_pairs p

pairs_below : (n p : ℕ) → T (are_pairs n) → p < n → (get_or PAIRS (p * 2) 0 ≡ digit_glyph false (p / 16)) × (get_or PAIRS (p * 2 + 1) 0 ≡ digit_glyph false (p % 16))
pairs_below zero p t h = absurd (omega arith)
pairs_below (suc n) p t h =
    elim (eq-zero-or-pos (n - p)) [
      | inl z ↦ let e : p ≡ n = omega arith in let a = and_l _ (are_pairs n) t in rw e (eqb→eq _ _ (and_l _ _ a), eqb→eq _ _ (and_r _ _ a))
      | inr g ↦ pairs_below n p (and_r _ (are_pairs n) t) (omega arith)
    ]

-- the table holds the two digits of each byte
pub PAIRS_at : (p : ℕ) → p < 256 → (get_or PAIRS (p * 2) 0 ≡ digit_glyph false (p / 16)) × (get_or PAIRS (p * 2 + 1) 0 ≡ digit_glyph false (p % 16))
PAIRS_at p h = pairs_below 256 p tt h

-- what was written stands behind what stood before
pub all_digits : (out before : List ℕ) (at end rest : ℕ) (whole : List ℕ) → at ≤ end → take at out ≡ before
    → hex_digits (at - at) rest ++ drop at (take end out) ≡ whole → take end out ≡ before ++ whole
all_digits out before at end rest whole low e h =
    let none : at - at ≡ 0 = omega arith in
    sym (take-append-drop at (take end out)) ∙ ap (λ t. t ++ drop at (take end out)) (take-take at end out low ∙ e)
    ∙ ap (λ t. before ++ t) (sym (ap (λ k. hex_digits k rest ++ drop at (take end out)) none) ∙ h)
