-- Beginnings and ends of lists of bytes.
use Rattle.std.proofs.{Common.{◌≡◌, ℕ, ◌+◌, ◌<◌, ◌≤◌, ◌-◌, min, List, [], ◌∷◌, ◌++◌, length, take, drop, sym, ap, ◌∙◌, arith, append_assoc, length-take-le, get_or, Option, MatchResult, Result, Ok, Err}, KnownBytes.{Appends-trans}}
use Rattle.{std.{proofs.{Math.Seq.{take-add, take-append-add}, lemmas.List.{take-append-le, take_more, take_min, take_rest, take-append-drop}}, specs.Io.KnownBytes.{Appends}}, runner.specs.Bytes.{WritesBeginning}}
use borrow.Rule.Slice.PartMut.{put_mid}

-- a line of at most 257 bytes goes on by as many as there is room for
pub extended : (kept more : List ℕ) (len count : ℕ) → length kept ≡ len → len ≤ 257 → count ≡ min (length more) (257 - len) → kept ++ take count more ≡ take 257 (kept ++ more)
extended kept more len count size short is =
    let room : count ≡ min (257 - length kept) (length more) = omega arith in
    let full : length kept + (257 - length kept) ≡ 257 = omega arith in
    ap (λ l. kept ++ l) (ap (λ n. take n more) room ∙ take_min (257 - length kept) more)
    ∙ sym (take-append-add kept more (257 - length kept)) ∙ ap (λ n. take n (kept ++ more)) full

-- a text at the front of a part of a buffer that was written
pub in_part : (a ys : List ℕ) (i k n : ℕ) → i ≤ length a → n ≤ length ys → take (i + n) (put_mid i k a ys) ≡ take i a ++ take n ys
in_part a ys i k n inside few =
    ap (λ m. take (m + n) (put_mid i k a ys)) (sym (length-take-le i a inside)) ∙ take-append-add (take i a) _ n
    ∙ ap (λ l. take i a ++ l) (take-append-le n ys _ few)

-- so far `at` bytes were taken, and now n more
pub taken_more : (old mid new : Option (List ℕ)) (bytes : List ℕ) (at n : ℕ)
    → Appends old mid (take at bytes) → Appends mid new (take n (drop at bytes)) → Appends old new (take (at + n) bytes)
taken_more old mid new bytes at n first second =
    let both : Appends old new (take at bytes ++ take n (drop at bytes)) = Appends-trans old mid new _ _ first second in
    rw (take-add at n bytes) both

pub taken_beginning : (old new : Option (List ℕ)) (bytes : List ℕ) (at : ℕ) → Appends old new (take at bytes) → WritesBeginning old new bytes
taken_beginning old new bytes at taken = (take at bytes, taken, (drop at bytes, sym (take-append-drop at bytes)))

-- what follows on either side of a result
pub match_both : {X Y A B P Q : Type 0} (r : Result X Y) → (A → P) → (B → Q) → MatchResult r (λ _. A) (λ _. B) → MatchResult r (λ _. P) (λ _. Q)
match_both (Ok x) f h p = f p
match_both (Err e) f h p = h p

-- What has been read of a piece goes on by the line that is next in it. The last part is how `&rest[at + 1..]` reads.
pub read_line : (piece front rest : List ℕ) (at : ℕ) → piece ≡ front ++ rest → at < length rest → get_or rest at 0 ≡ 10
    → piece ≡ (front ++ (take at rest ++ 10 ∷ [])) ++ take (length rest - (at + 1)) (drop (at + 1) rest)
read_line piece front rest at split inside newline =
    let line : take (at + 1) rest ≡ take at rest ++ 10 ∷ [] = take_more rest at 0 inside ∙ ap (λ b. take at rest ++ b ∷ []) newline in
    split ∙ ap (λ l. front ++ l) (sym (take-append-drop (at + 1) rest) ∙ ap (λ l. l ++ drop (at + 1) rest) line)
    ∙ sym (append_assoc front (take at rest ++ 10 ∷ []) (drop (at + 1) rest))
    ∙ ap (λ l. (front ++ (take at rest ++ 10 ∷ [])) ++ l) (sym (take_rest rest (at + 1)))
