-- A word writes one number at most, and no space stands in it.
use Rattle.{std.{proofs.Common.{◌≡◌, ◌≢◌, ℕ, zero, suc, ◌<◌, ◌≤◌, List, [], ◌∷◌, drop, inl, inr, sym, ◌∙◌, ap, subst, arith}, specs.{Char.{digit_value}, Str.Parse.{AllDigits, digits_value}}}, trace_lang.proofs.Spaces.{no_space-cons}}
use Rattle.trace_lang.specs.Grammar.{HasNoSpace, IsHexadecimal, IsNumber}

digit_no_space : (radix b : ℕ) → radix ≤ 16 → digit_value b < radix → b ≢ 32
digit_no_space radix b small h e = let P : ℕ → Type 0 = λ x. digit_value x < radix in let at : digit_value 32 < radix = subst P e h in omega (arith, at)

digits_no_space : (radix : ℕ) (ds : List ℕ) → radix ≤ 16 → AllDigits radix ds → HasNoSpace ds
digits_no_space radix [] small h k d l = absurd (omega arith)
digits_no_space radix (c ∷ cs) small h zero d l = digit_no_space radix c small h.0
digits_no_space radix (c ∷ cs) small h (suc k) d l = digits_no_space radix cs small h.1 k d (omega arith)

pub number_no_space : (text : List ℕ) (n : ℕ) → IsNumber text n → HasNoSpace text
number_no_space text n h = elim h.written [
  | inl dec ↦ digits_no_space 10 text (omega arith) dec.0.1
  | inr hex ↦
      let P : List ℕ → Type 0 = λ t. HasNoSpace t in
      let digits = digits_no_space 16 hex.0 (omega arith) hex.2.1 in
      subst P (sym hex.1) (no_space-cons 48 (120 ∷ hex.0) (λ e. absurd (omega (arith, e))) (no_space-cons 120 hex.0 (λ e. absurd (omega (arith, e))) digits))
]

-- an x is no decimal digit
not_decimal : (text : List ℕ) (n : ℕ) → AllDigits 10 text → IsHexadecimal text n → ⊥
not_decimal text n all hex =
    let x : digit_value 120 < 10 = (subst (λ (t : List ℕ). AllDigits 10 t) hex.1 all).1.0 in
    omega (arith, x)

pub one_number : (text : List ℕ) (a b : ℕ) → IsNumber text a → IsNumber text b → a ≡ b
one_number text a b ha hb = elim ha.written [
  | inl p ↦ elim hb.written [ inl q ↦ sym p.1 ∙ q.1 | inr q ↦ absurd (not_decimal text b p.0.1 q) ]
  | inr p ↦ elim hb.written [
    | inl q ↦ absurd (not_decimal text a q.0.1 p)
    | inr q ↦ sym p.3 ∙ ap (λ ds. digits_value 16 ds) (ap (λ t. drop 2 t) (sym p.1 ∙ q.1)) ∙ q.3
  ]
]
