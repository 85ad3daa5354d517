-- The words of a line as the parser holds them.
use Rattle.std.specs.Prelude.{◌≡◌, ℕ, ◌<◌, ◌^◌, ◌==◌, List, ◌∷◌, ◌++◌}
use Rattle.std.specs.List.{slice_split}
use Rattle.std.specs.Str.Parse.{IsNumeral, digits_value}
use Rattle.trace_lang.specs.Grammar.{IsNumber}

-- what stands between the spaces
abbrev pub words_of : List ℕ → List (List ℕ)
words_of line = slice_split (λ b. b == 32) line

-- the text is a word that writes the number, a space, and the rest
abbrev pub BeginsWith : ℕ → List ℕ → List ℕ → Type 0
BeginsWith n rest text = (word : List ℕ) × (text ≡ word ++ 32 ∷ rest) × IsNumber word n

-- the same of digits of a radix, with no 0x, and the number fits 64 bits
abbrev pub BeginsWithDigits : ℕ → ℕ → List ℕ → List ℕ → Type 0
BeginsWithDigits radix n rest text = (digits : List ℕ) × (text ≡ digits ++ 32 ∷ rest) × IsNumeral radix digits × (digits_value radix digits ≡ n) × (n < 2 ^ 64)
