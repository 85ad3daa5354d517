-- Words that are read off the front of a text.
use Rattle.std.proofs.Common.{◌≡◌, ◌≢◌, ◌==◌, if◌then◌else◌, Bool, true, false, lit<, ℕ, suc, ◌+◌, ◌-◌, ◌<◌, ◌≤◌, ◌^◌, eqb, List, [], ◌∷◌, ◌++◌, length, get_or, take, drop, codes, Option, inr, refl, sym, ◌∙◌, ap, subst, arith}
use Rattle.std.{proofs.{Math.Seq.{split_at}, lemmas.List.{take_rest, length-take-le, Splits.{slice_split_none, slice_split_at}}}, specs.{List.{join_with_byte}, Str.Parse.{AllDigits, digits_value}}}
use Rattle.trace_lang.{proofs.{OneNumber.{number_no_space, one_number}, Spaces.{no_cut, no_space-cons, words_joined}}, specs.{Grammar.{HasNoSpace, IsMode, IsNumber, IsPermission, letter_or_dash}, Names.{ReadsWords}, Words.{words_of}}}
use Rattle.{trace_lang.specs.Words.{BeginsWith, BeginsWithDigits}, vm_types.specs.{Width.{byte_count}, declared.{command.{Command.{Command}, MsyncMode.{MsyncMode, TheVariants.{Sync, Async}}}, permission.Prot.{Prot}, width.Width.{Width}}}}
use Rattle.vm_types.specs.declared.width.Width.TheVariants.{One, Two, Four, Eight}

-- a text that is cut at a space; the last part is how `&text[at + 1..]` reads
pub cut_at : (text : List ℕ) (at : ℕ) → at < length text → get_or text at 0 ≡ 32 → text ≡ take at text ++ 32 ∷ take (length text - (at + 1)) (drop (at + 1) text)
cut_at text at inside space =
    let next : suc at ≡ at + 1 = omega arith in
    split_at text at 0 inside ∙ ap (λ k. take at text ++ get_or text at 0 ∷ drop k text) next ∙ ap (λ b. take at text ++ b ∷ drop (at + 1) text) space
    ∙ ap (λ t. take at text ++ 32 ∷ t) (sym (take_rest text (at + 1)))

-- the first word, and then the words of the rest
pub cut_words : (text word rest : List ℕ) → text ≡ word ++ 32 ∷ rest → HasNoSpace word → words_of text ≡ word ∷ words_of rest
cut_words text word rest e plain = ap words_of e ∙ slice_split_at (λ b. eqb b 32) word 32 rest (no_cut word plain) refl

-- what is read of a line is told by what it is equal to
pub reads_line : (line text : List ℕ) (read : Option Command) → line ≡ text → ReadsWords (words_of text) read → ReadsWords (words_of line) read
reads_line line text read e reads = let P : List ℕ → Type 0 = λ t. ReadsWords (words_of t) read in subst P (sym e) reads

-- a text with no space is one word
pub one_word_of : (text : List ℕ) → HasNoSpace text → words_of text ≡ text ∷ []
one_word_of text plain = slice_split_none (λ b. eqb b 32) text (no_cut text plain)

not_space : (letter : ℕ) (given : Bool) → 45 < letter → letter_or_dash letter given ≢ 32
not_space letter true h e = omega (arith, h, e)
not_space letter false h e = absurd (omega (arith, e))

no_space-none : HasNoSpace []
no_space-none k d l = absurd (omega arith)

-- each text has a word
pub some_word : (text : List ℕ) → words_of text ≡ [] → ⊥
some_word text e =
    let none : text ≡ [] = (words_joined text).joined ∙ ap (λ ws. join_with_byte 32 ws) e in
    let empty : [] ∷ [] ≡ [] = ap words_of (sym none) ∙ e in
    cc

pub number_word : (text : List ℕ) (n : ℕ) → IsNumber text n → words_of text ≡ text ∷ []
number_word text n h = one_word_of text (number_no_space text n h)

pub permission_word : (text : List ℕ) (prot : Prot) → IsPermission text prot → words_of text ≡ text ∷ []
permission_word text prot h = one_word_of text (subst P (sym h.3) (plain h.0 h.1 h.2))
  where
    P : List ℕ → Type 0
    P t = HasNoSpace t

    plain : (r w x : Bool) → HasNoSpace (letter_or_dash 114 r ∷ letter_or_dash 119 w ∷ letter_or_dash 120 x ∷ [])
    plain r w x =
        let last = no_space-cons (letter_or_dash 120 x) [] (not_space 120 x (lit< tt)) no_space-none in
        let two = no_space-cons (letter_or_dash 119 w) (letter_or_dash 120 x ∷ []) (not_space 119 w (lit< tt)) last in
        no_space-cons (letter_or_dash 114 r) (letter_or_dash 119 w ∷ letter_or_dash 120 x ∷ []) (not_space 114 r (lit< tt)) two

pub mode_word : (text : List ℕ) (mode : MsyncMode) → IsMode text mode → words_of text ≡ text ∷ []
mode_word text Sync h = let P : List ℕ → Type 0 = λ t. words_of t ≡ t ∷ [] in subst P (sym h) refl
mode_word text Async h = let P : List ℕ → Type 0 = λ t. words_of t ≡ t ∷ [] in subst P (sym h) refl

pub front_words : (n : ℕ) (rest text : List ℕ) (h : BeginsWith n rest text) → words_of text ≡ h.0 ∷ words_of rest
front_words n rest text h = cut_words text h.0 rest h.1 (number_no_space h.0 n h.2)

-- one number alone stands at the front, and one rest behind it
pub one_front : (v : ℕ) (rest text : List ℕ) → BeginsWith v rest text → (n : ℕ) (other : List ℕ) → BeginsWith n other text → (v ≡ n) × (rest ≡ other)
one_front v rest text h n other k =
    let same = sym (front_words v rest text h) ∙ front_words n other text k in (
      one_number h.0 v n h.2 (subst (λ t. IsNumber t n) (sym (ap (λ ws. get_or ws 0 []) same)) k.2),
      (words_joined rest).joined ∙ ap (λ ws. join_with_byte 32 (drop 1 ws)) same ∙ sym (words_joined other).joined,
    )

-- a text with no space has one word alone
pub one_alone : (word rest text : List ℕ) → text ≡ word ++ 32 ∷ rest → HasNoSpace text → ⊥
one_alone word rest text e plain = let P : List ℕ → Type 0 = λ t. HasNoSpace t in spaced word (subst P e plain)
  where
    spaced : (w : List ℕ) → HasNoSpace (w ++ 32 ∷ rest) → ⊥
    spaced [] h = h 0 0 (omega arith) refl
    spaced (b ∷ w) h = spaced w (λ k d l. h (suc k) d (omega (arith, l)))

-- the first word is the one before the first space
pub same_front : (n : ℕ) (rest text word others : List ℕ) → BeginsWith n rest text → text ≡ word ++ 32 ∷ others → HasNoSpace word → IsNumber word n
same_front n rest text word others h e plain =
    subst (λ (t : List ℕ). IsNumber t n) (ap (λ ws. get_or ws 0 []) (sym (front_words n rest text h) ∙ cut_words text word others e plain)) h.2

-- a text begins with the digits before its first space
pub begins_with_digits : (radix : ℕ) (text rest : List ℕ) (at n : ℕ) → text ≡ take at text ++ 32 ∷ rest → 0 < at → at ≤ length text → AllDigits radix (take at text)
    → n ≡ digits_value radix (take at text) → n < 2 ^ 64 → BeginsWithDigits radix n rest text
begins_with_digits radix text rest at n e some inside digits value fits =
    let long : 0 < length (take at text) = omega (arith, length-take-le at text inside, some) in
    (take at text, e, (long, digits), sym value, fits)

-- 0x, and then the rest, as a pattern reads it
pub hexadecimal_text : (text : List ℕ) → 2 ≤ length text → get_or text 0 0 ≡ 48 → get_or text 1 0 ≡ 120 → text ≡ codes "0x" ++ take (length text - 2) (drop 2 text)
hexadecimal_text [] long zero x = absurd (omega (arith, long))
hexadecimal_text (a ∷ []) long zero x = absurd (omega (arith, long))
hexadecimal_text (a ∷ b ∷ more) long zero x =
    ap (λ t. t ∷ b ∷ more) zero ∙ ap (λ t. 48 ∷ t ∷ more) x ∙ ap (λ t. codes "0x" ++ t) (sym (take_rest (a ∷ b ∷ more) 2))

pub hexadecimal_front : (n : ℕ) (rest digits text : List ℕ) → text ≡ codes "0x" ++ digits → BeginsWithDigits 16 n rest digits → BeginsWith n rest text
hexadecimal_front n rest digits text e h = (codes "0x" ++ h.0, e ∙ ap (λ ds. codes "0x" ++ ds) h.1, record { written = inr (h.0, refl, h.2, h.3); fits = h.4 })

-- the width of so many bytes
abbrev width_with : ℕ → Width
width_with n = if n == 1 then One else if n == 2 then Two else if n == 4 then Four else Eight

counted : (w : Width) → width_with (byte_count w) ≡ w
counted One = refl
counted w = refl

-- widths of as many bytes are the same
pub one_width : (a b : Width) → byte_count a ≡ byte_count b → b ≡ a
one_width a b e = sym (counted b) ∙ ap width_with (sym e) ∙ counted a
