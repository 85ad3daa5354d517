-- The words of a line are what stands between its spaces.
use Rattle.std.proofs.{Common.{◌≡◌, ◌≢◌, ℕ, zero, suc, ◌<◌, ◌≤◌, Bool, false, eqb, ne_eqb, List, [], ◌∷◌, length, get_or, All, length-append, refl, sym, ◌∙◌, ap, subst, inl, inr, arith}, lemmas.Bool.{cases_eq}}
use Rattle.{std.{proofs.lemmas.List.Splits.{slice_split-cons_yes, slice_split-cons_no, slice_split_none, slice_split_at, join_with_byte-slice_split}, specs.List.{onto_first, join_with_byte}}, trace_lang.specs.Grammar.{HasNoSpace, IsBack}}
use Rattle.{trace_lang.specs.{Grammar.{IsCommand, IsForm, IsPlacing, IsSource, IsWords}, Words.{words_of}}, vm_types.specs.declared.command.Command.{Command}}
use Rattle.trace_lang.{proofs.OneCommand.{begins, form_name}, specs.{Names.{name_text}, declared.names.Name.{Name, TheVariants.{Spawn}}}}
use Rattle.vm_types.specs.declared.command.{MapSource.{MapSource, TheVariants.{Private, Shared}}, Placing.{Placing, TheVariants.{Hint}}}

pub no_space-cons : (b : ℕ) (word : List ℕ) → b ≢ 32 → HasNoSpace word → HasNoSpace (b ∷ word)
no_space-cons b word h all zero d l = h
no_space-cons b word h all (suc k) d l = all k d (omega arith)

no_space-onto : (b : ℕ) (parts : List (List ℕ)) → b ≢ 32 → All HasNoSpace parts → All HasNoSpace (onto_first b parts)
no_space-onto b [] h all zero d l = no_space-cons b [] h (λ k d l. absurd (omega arith))
no_space-onto b [] h all (suc k) d l = absurd (omega arith)
no_space-onto b (part ∷ parts) h all zero d l = no_space-cons b part h (all 0 d (omega arith))
no_space-onto b (part ∷ parts) h all (suc k) d l = all (suc k) d l

no_space-empty : (parts : List (List ℕ)) → All HasNoSpace parts → All HasNoSpace ([] ∷ parts)
no_space-empty parts all zero d l = λ k d l. absurd (omega arith)
no_space-empty parts all (suc k) d l = all k d (omega arith)

no_space-words_of : (line : List ℕ) → All HasNoSpace (words_of line)
no_space-words_of [] = no_space-empty [] (λ k d l. absurd (omega arith))
no_space-words_of (b ∷ bs) =
    let P : List (List ℕ) → Type 0 = λ parts. All HasNoSpace parts in
    let p : ℕ → Bool = λ b. eqb b 32 in
    elim (cases_eq b 32) [
      | inl e ↦ subst P (sym (slice_split-cons_yes p b bs (ap p e))) (no_space-empty (words_of bs) (no_space-words_of bs))
      | inr h ↦ subst P (sym (slice_split-cons_no p b bs (ne_eqb b 32 h))) (no_space-onto b (words_of bs) h (no_space-words_of bs))
    ]

pub words_joined : (line : List ℕ) → IsWords line (words_of line)
words_joined line = record { joined = sym (join_with_byte-slice_split 32 line); each = no_space-words_of line }

pub no_cut : (word : List ℕ) → HasNoSpace word → All (λ b. eqb b 32 ≡ false) word
no_cut word h k d l = ne_eqb (get_or word k d) 32 (h k d l)

split-join : (word : List ℕ) (words : List (List ℕ)) → All HasNoSpace (word ∷ words) → words_of (join_with_byte 32 (word ∷ words)) ≡ word ∷ words
split-join word [] all = slice_split_none (λ b. eqb b 32) word (no_cut word (all 0 [] (omega arith)))
split-join word (next ∷ words) all =
    slice_split_at (λ b. eqb b 32) word 32 (join_with_byte 32 (next ∷ words)) (no_cut word (all 0 [] (omega arith))) refl
    ∙ ap (λ parts. word ∷ parts) (split-join next words (λ k d l. all (suc k) d (omega arith)))

-- the words of a line are no others, where there are any
pub words_of_line : (line : List ℕ) (words : List (List ℕ)) → IsWords line words → 0 < length words → words_of line ≡ words
words_of_line line [] h some = absurd (omega arith)
words_of_line line (word ∷ words) h some = ap words_of h.joined ∙ split-join word words h.each

source_words : (words : List (List ℕ)) (source : MapSource) → IsSource words source → length words ≤ 3
source_words words (Private file offset) h = let m = ap length h.2 in omega (arith, m)
source_words words (Shared file offset) h = let m = ap length h.2 in omega (arith, m)
source_words words source h = let m = ap length h in omega (arith, m)

placing_words : (words : List (List ℕ)) (placing : Placing) → IsPlacing words placing → length words ≤ 1
placing_words words Hint h = let m = ap length h in omega (arith, m)
placing_words words placing h = let m = ap length h in omega (arith, m)

source_some : (words : List (List ℕ)) (source : MapSource) → IsSource words source → 0 < length words
source_some words (Private file offset) h = rw h.2 (omega arith)
source_some words (Shared file offset) h = rw h.2 (omega arith)
source_some words source h = rw h (omega arith)

-- some word stands behind a permission
pub back_some : (words : List (List ℕ)) (source : MapSource) (placing : Placing) → IsBack words source placing → 0 < length words
back_some words source placing h = let n = source_some h.0 source h.3 in omega (arith, ap length h.2 ∙ length-append h.0 h.1, n)

-- four words at most stand behind a permission
pub back_words : (words : List (List ℕ)) (source : MapSource) (placing : Placing) → IsBack words source placing → length words ≤ 4
back_words words source placing h =
    let n = source_words h.0 source h.3 in let o = placing_words h.1 placing h.4 in omega (arith, ap length h.2 ∙ length-append h.0 h.1, n, o)

no_name : (n : Name) → [] ≡ name_text n → ⊥
no_name Spawn e = cc
no_name n e = cc

-- a form has a word
form_words : (words : List (List ℕ)) (command : Command) → IsForm words command → 0 < length words
form_words [] command h = absurd (no_name (form_name command) (begins [] command h))
form_words (word ∷ words) command h = omega arith

pub same_words : (line : List ℕ) (command : Command) (h : IsCommand line command) → words_of line ≡ h.words
same_words line command h = words_of_line line h.words h.parted (form_words h.words command h.form)

-- the command of a line is read off its words
pub form_of_line : (line : List ℕ) (words : List (List ℕ)) (command : Command) → words ≡ words_of line → IsCommand line command → IsForm words command
form_of_line line words command e h =
    subst (λ (w : List (List ℕ)). IsForm w command) (sym (e ∙ same_words line command h)) h.form

pub command_of_words : (line : List ℕ) (words : List (List ℕ)) (command : Command) → length line ≤ 256 → words ≡ words_of line → IsForm words command → IsCommand line command
command_of_words line words command short e form =
    record { short = short; words = words_of line; parted = words_joined line; form = subst (λ (w : List (List ℕ)). IsForm w command) e form }
