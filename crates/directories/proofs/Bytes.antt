-- Numbers written among bytes.
use Rattle.std.proofs.Common.{ℕ, zero, suc, ◌≡◌, ◌<◌, ◌≤◌, ⊎_elim, ◌+◌, ◌-◌, ◌++◌, [], List, length, take, drop, get_or, refl, sym, ap, ◌∙◌, arith}
use Rattle.std.proofs.lemmas.List.{get_or-take, get_or-drop, get_or_append_left, get_or-append_right, length-take-le, length-drop, drop_all, drop_at, append-nil}
use Rattle.byteorder.specs.{Endian.{little_number, little_from}}
use Rattle.directories.specs.Entries.{SameBeside}
use borrow.Rule.Slice.PartMut.{put_mid, post_of}

-- the same bytes are one number
same_from : (i n : ℕ) (xs ys : List ℕ) → ((j : ℕ) → i ≤ j → j < i + n → get_or xs j 0 ≡ get_or ys j 0) → little_from i n xs ≡ little_from i n ys
same_from i zero xs ys same = refl
same_from i (suc n) xs ys same =
    let here : get_or xs i 0 ≡ get_or ys i 0 = same i (omega arith) (omega arith) in
    let rest : little_from (suc i) n xs ≡ little_from (suc i) n ys = same_from (suc i) n xs ys (λ j low high. same j (omega arith) (omega arith)) in
    rw (here, rest) refl

pub same_number : (width at : ℕ) (xs ys : List ℕ) → ((j : ℕ) → at ≤ j → j < at + width → get_or xs j 0 ≡ get_or ys j 0) → little_number width (drop at xs) ≡ little_number width (drop at ys)
same_number width at xs ys same = same_from 0 width (drop at xs) (drop at ys) (λ j low high.
    get_or-drop at xs j 0 ∙ same (at + j) (omega arith) (omega arith) ∙ sym (get_or-drop at ys j 0))

-- Bytes from a place on, of which the first are written anew.
module _ (width at : ℕ) (bytes written buf : List ℕ) (is : buf ≡ written ++ drop width (drop at bytes)) (long : length written ≡ width) (inside : at + width ≤ length bytes) where
  abbrev pub renewed : List ℕ
  renewed = put_mid at (length bytes - at) bytes buf

  front : length (take at bytes) ≡ at
  front = length-take-le at bytes (omega (arith, inside))

  none_behind : post_of at (length bytes - at) bytes ≡ []
  none_behind = let size = length-drop at bytes in drop_all (length bytes - at) (drop at bytes) (omega (arith, size))

  whole : renewed ≡ take at bytes ++ (written ++ drop width (drop at bytes))
  whole = ap (λ (xs : List ℕ). take at bytes ++ (buf ++ xs)) none_behind ∙ ap (λ (xs : List ℕ). take at bytes ++ xs) (append-nil buf ∙ is)

  pub starts : drop at renewed ≡ written ++ drop width (drop at bytes)
  starts = ap (drop at) whole ∙ drop_at (take at bytes) (written ++ drop width (drop at bytes)) at front

  pub beside : SameBeside at width bytes renewed
  beside j where_it_is = ⊎_elim
      (λ less. ap (λ (xs : List ℕ). get_or xs j 0) whole
      ∙ get_or_append_left (take at bytes) (written ++ drop width (drop at bytes)) 0 j (omega (arith, front, less)) ∙ get_or-take at bytes j 0 less)
      (λ past.
      let on : at + (width + (j - at - width)) ≡ j = omega (arith, past) in
      ap (λ (xs : List ℕ). get_or xs j 0) whole
      ∙ get_or-append_right (take at bytes) (written ++ drop width (drop at bytes)) at j 0 front (omega (arith, past))
      ∙ get_or-append_right written (drop width (drop at bytes)) width (j - at) 0 long (omega (arith, past))
      ∙ get_or-drop width (drop at bytes) (j - at - width) 0
      ∙ get_or-drop at bytes (width + (j - at - width)) 0
      ∙ ap (λ k. get_or bytes k 0) on)
      where_it_is
