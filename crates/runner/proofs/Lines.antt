-- How bytes are cut into lines, piece after piece.
use Rattle.std.proofs.{Common.{◌≡◌, ◌≢◌, ℕ, ◌==◌, false, List, [], ◌∷◌, ◌++◌, refl, sym, ap, ◌∙◌, append_assoc, append-nil, if◌then◌else◌}, lemmas.{Bool.{ne_eqb}, Grind.{flat_map-append}, List.Elements.{All-nil, All-cons, All-head}}}
use Rattle.{std.{proofs.lemmas.List.Elements.{All-tail, All-append}, specs.Prelude.{All, flat_map}}, trace_lang.specs.Lines.{lines_of, onto_line, ended, HasNoNewline, Cuts}}

abbrev NotNewline : ℕ → Type 0
NotNewline b = b ≢ 10

-- a line, its newline and what follows
pub lines_of-ended : (line more : List ℕ) → HasNoNewline line → lines_of (line ++ 10 ∷ more) ≡ line ∷ lines_of more
lines_of-ended [] more plain = refl
lines_of-ended (b ∷ line) more plain =
    let differs : (b == 10) ≡ false = ne_eqb b 10 (All-head NotNewline b line plain) in
    let later = lines_of-ended line more (All-tail NotNewline b line plain) in
    ap (λ t. if t then [] ∷ lines_of (line ++ 10 ∷ more) else onto_line b (lines_of (line ++ 10 ∷ more))) differs ∙ ap (onto_line b) later

-- an unfinished line of some bytes is one line
pub lines_of-unfinished : (b : ℕ) (line : List ℕ) → HasNoNewline (b ∷ line) → lines_of (b ∷ line) ≡ (b ∷ line) ∷ []
lines_of-unfinished b [] plain =
    let differs : (b == 10) ≡ false = ne_eqb b 10 (All-head NotNewline b [] plain) in
    ap (λ t. if t then [] ∷ lines_of [] else onto_line b (lines_of [])) differs
lines_of-unfinished b (c ∷ line) plain =
    let differs : (b == 10) ≡ false = ne_eqb b 10 (All-head NotNewline b (c ∷ line) plain) in
    let later = lines_of-unfinished c line (All-tail NotNewline b (c ∷ line) plain) in
    ap (λ t. if t then [] ∷ lines_of (c ∷ line) else onto_line b (lines_of (c ∷ line))) differs ∙ ap (onto_line b) later

lines_of-flat : (lines : List (List ℕ)) (more : List ℕ) → All HasNoNewline lines → lines_of (flat_map ended lines ++ more) ≡ lines ++ lines_of more
lines_of-flat [] more plain = refl
lines_of-flat (line ∷ lines) more plain =
    let grouped : (line ++ 10 ∷ []) ++ flat_map ended lines ++ more ≡ line ++ 10 ∷ (flat_map ended lines ++ more) = simp append_assoc in
    ap lines_of grouped ∙ lines_of-ended line (flat_map ended lines ++ more) (All-head HasNoNewline line lines plain)
    ∙ ap (λ ls. line ∷ ls) (lines_of-flat lines more (All-tail HasNoNewline line lines plain))

-- the lines of all are those that were cut, and then those of the rest and of what follows
pub lines_of-cut : (bytes : List ℕ) (lines : List (List ℕ)) (rest more : List ℕ) → Cuts bytes lines rest → lines_of (bytes ++ more) ≡ lines ++ lines_of (rest ++ more)
lines_of-cut bytes lines rest more cuts =
    ap (λ b. lines_of (b ++ more)) cuts.whole ∙ ap lines_of (append_assoc (flat_map ended lines) rest more)
    ∙ lines_of-flat lines (rest ++ more) cuts.each

pub Cuts-trans : (first second : List ℕ) (lines others : List (List ℕ)) (mid rest : List ℕ)
    → Cuts first lines mid → Cuts (mid ++ second) others rest → Cuts (first ++ second) (lines ++ others) rest
Cuts-trans first second lines others mid rest p q = record {
  whole = ap (λ b. b ++ second) p.whole ∙ append_assoc (flat_map ended lines) mid second
      ∙ ap (λ b. flat_map ended lines ++ b) q.whole ∙ sym (append_assoc (flat_map ended lines) (flat_map ended others) rest)
      ∙ ap (λ b. b ++ rest) (sym (flat_map-append ended lines others));
  each = All-append HasNoNewline lines others p.each q.each;
  rest = q.rest;
}

-- no byte is no line
pub Cuts-none : (open_line : List ℕ) → HasNoNewline open_line → Cuts (open_line ++ []) [] open_line
Cuts-none open_line plain = record { whole = append-nil open_line; each = All-nil HasNoNewline; rest = plain }

-- bytes that go on with the line
pub Cuts-bytes : (open_line bytes : List ℕ) → HasNoNewline open_line → HasNoNewline bytes → Cuts (open_line ++ bytes) [] (open_line ++ bytes)
Cuts-bytes open_line bytes plain others = record { whole = refl; each = All-nil HasNoNewline; rest = All-append NotNewline open_line bytes plain others }

-- the newline
pub Cuts-newline : (open_line : List ℕ) → HasNoNewline open_line → Cuts (open_line ++ 10 ∷ []) (open_line ∷ []) []
Cuts-newline open_line plain = record {
  whole = sym (append-nil (open_line ++ 10 ∷ [] ++ []) ∙ append-nil (open_line ++ 10 ∷ []));
  each = All-cons HasNoNewline open_line [] plain (All-nil HasNoNewline);
  rest = All-nil NotNewline;
}
