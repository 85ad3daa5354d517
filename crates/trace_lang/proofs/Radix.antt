-- Numerals digit by digit.
use Rattle.std.proofs.{Common.{◌≡◌, ℕ, zero, suc, ◌+◌, ◌*◌, ◌<◌, ◌≤◌, ◌^◌, List, [], ◌∷◌, length, get_or, take, Bool, false, ◌==◌, Option, None, SomeIff, sym, ◌∙◌, ap, subst, arith}, Math.Nat.{mul_comm, mul-le-mul_right, pow-le-pow_right}}
use Rattle.std.{proofs.{Math.Nat.{pow-succ'}, lemmas.{Int.Digits.{digits_value_more}, Str.Parse.{digits_value-take-le}}}, specs.{Char.{digit_value}, Str.Parse.{AllDigits, digits_value}}}

-- each digit of a numeral is below the radix
pub digit_below : (radix : ℕ) (ds : List ℕ) (i byte : ℕ) → byte ≡ get_or ds i 0 → AllDigits radix ds → i < length ds → digit_value byte < radix
digit_below radix [] i byte e h l = absurd (omega (arith, l))
digit_below radix (c ∷ cs) zero byte e h l = let P : ℕ → Type 0 = λ x. digit_value x < radix in subst P (sym e) h.0
digit_below radix (c ∷ cs) (suc i) byte e h l = digit_below radix cs i byte e h.1 (below_suc i (length cs) l)
  where
    below_suc : (i n : ℕ) → suc i < suc n → i < n
    below_suc i n l = omega arith

-- a numeral is at least what its first digits and the next one write
pub value_so_far : (radix : ℕ) (ds : List ℕ) (i n : ℕ) → 2 ≤ radix → i < length ds → n ≡ digits_value radix (take i ds)
    → n * radix + digit_value (get_or ds i 0) ≤ digits_value radix ds
value_so_far radix ds i n low l e =
    subst (λ (x : ℕ). x ≤ digits_value radix ds) (digits_value_more radix ds i l ∙ ap (λ v. v * radix + digit_value (get_or ds i 0)) (sym e))
    (digits_value-take-le radix ds (i + 1) (at_least_one radix low))
  where
    at_least_one : (n : ℕ) → 2 ≤ n → 1 ≤ n
    at_least_one n l = omega arith

-- what one more digit gives
pub next_value : (radix : ℕ) (ds : List ℕ) (i n byte digit more : ℕ) → i < length ds → n ≡ digits_value radix (take i ds)
    → byte ≡ get_or ds i 0 → digit ≡ digit_value byte → more ≡ n * radix + digit → more ≡ digits_value radix (take (i + 1) ds)
next_value radix ds i n byte digit more l en eb ed em =
    em ∙ ap (λ x. n * radix + x) (ed ∙ ap digit_value eb)
    ∙ ap (λ v. v * radix + digit_value (get_or ds i 0)) en ∙ sym (digits_value_more radix ds i l)

-- a number of one more digit
pub next_small : (radix i n digit : ℕ) → n < radix ^ i → digit < radix → n * radix + digit < radix ^ (i + 1)
next_small radix i n digit h l =
    let more : suc i ≡ i + 1 = omega arith in
    let most : suc n * radix ≤ radix ^ i * radix = mul-le-mul_right radix h in
    let under : n * radix + digit < radix ^ i * radix = omega (arith, most, l) in
    subst (λ (x : ℕ). n * radix + digit < x) (mul_comm (radix ^ i) radix ∙ sym (pow-succ' radix i) ∙ ap (λ k. radix ^ k) more) under

-- so many digits always fit
pub next_fits : (radix most i n digit : ℕ) → 2 ≤ radix → radix ^ most ≤ 2 ^ 64 → i < most → n < radix ^ i → digit < radix → n * radix + digit < 2 ^ 64
next_fits radix most i n digit low room inside h l =
    let some : 0 < radix = omega (arith, low) in
    let up : i + 1 ≤ most = omega (arith, inside) in
    let top : radix ^ (i + 1) ≤ radix ^ most = pow-le-pow_right some up in
    omega (arith, next_small radix i n digit h l, top, room)

-- one more digit past the limit shows that the numeral is
pub digit_past : (n radix d digit most limit : ℕ) → n * radix + d ≤ most → most < limit → digit ≡ d → (n * radix + digit < limit → ⊥) → ⊥
digit_past n radix d digit most limit h small e past = past (omega (arith, h, small, ap (λ x. n * radix + x) e))

pub not_empty : (n : ℕ) (test : Bool) → test ≡ (n == 0) → test ≡ false → 0 < n
not_empty zero test e f = cc
not_empty (suc n) test e f = omega arith

-- nothing was read where the digits write no number
pub none_reads : {A : Type 0} (value : ℕ) (read : Option ℕ) → read ≡ None → (A → ⊥) → SomeIff read A value
none_reads {A} value read e no_value = let P : Option ℕ → Type 0 = λ r. SomeIff r A value in subst P (sym e) no_value
