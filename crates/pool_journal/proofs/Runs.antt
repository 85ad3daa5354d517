-- How homes lose the slots of a run.
use Rattle.std.proofs.Common.{◌≡◌, ◌≢◌, ◌+◌, ◌-◌, ◌<◌, ◌≤◌, ◌∙◌, ℕ, List, length, get_or, slice_set, take, drop, refl, sym, ap, subst, ⊎_elim, inl, inr, arith}
use Rattle.std.proofs.lemmas.{Bool.{cases_lt}, List.{get_or-set_same, get_or-set_other, length-set, length-drop, length-take-le, get_or_past}}
use Rattle.std.specs.Prelude.{nat_lt}
use Rattle.pool_journal.proofs.{Bytes.{part_at}, Taken.{but_either, byte_most, live_less}}
use Rattle.pool_journal.specs.Giving.{ForgetsRun, number_but, live_among}
use mir.Val.{bool_byte}

-- a run that keeps all of its numbers
pub all_left : (homes : List ℕ) (from n : ℕ) (xs : List ℕ) → ((r : ℕ) → from ≤ r → r < from + n → number_but homes (get_or xs r 0) ≡ get_or xs r 0) → ForgetsRun homes from n xs xs 0
all_left homes from n xs left = record {
  forgotten = λ r low high. sym (left r low high);
  others = λ r out. refl;
  size = refl;
  counted = omega arith;
  most = omega arith;
}

-- a run of which each number alone is left
pub part_left : (homes : List ℕ) (from n : ℕ) (xs : List ℕ) → from + n ≤ length xs
    → ((i : ℕ) → i < length (take (from + n - from) (drop from xs)) → number_but homes (get_or (take (from + n - from) (drop from xs)) i 0) ≡ get_or (take (from + n - from) (drop from xs)) i 0) → ForgetsRun homes from n xs xs 0
part_left homes from n xs room left = all_left homes from n xs (λ r low high. (
    let i = r - from in
    let at : from + i ≡ r = omega (arith, low) in
    let k = from + n - from in
    let long = length-take-le k (drop from xs) (let rest = length-drop from xs in omega (arith, rest, room)) in
    let here = part_at from k i xs (omega (arith, low, high)) in
    subst (λ p. number_but homes (get_or xs p 0) ≡ get_or xs p 0) at (ap (number_but homes) (sym here) ∙ left i (omega (arith, low, high, long)) ∙ here)))

-- a run of none
pub none_left : (homes : List ℕ) (from : ℕ) (xs : List ℕ) → ForgetsRun homes from 0 xs xs 0
none_left homes from xs = all_left homes from 0 xs (λ r low high. absurd (omega (arith, low, high)))

-- a run of one
pub one_left : (homes : List ℕ) (at left gone : ℕ) (xs : List ℕ) → at < length xs → left ≡ number_but homes (get_or xs at 0) → gone ≡ bool_byte (nat_lt left (get_or xs at 0))
    → ForgetsRun homes at 1 xs (slice_set xs at left) gone
one_left homes at left gone xs inside is counts = record {
  forgotten = λ r low high. (let same : r ≡ at = omega (arith, low, high) in ap (λ k. get_or (slice_set xs at left) k 0) same ∙ here ∙ is ∙ ap (λ k. number_but homes (get_or xs k 0)) (sym same));
  others = λ r out. other r (λ same. ⊎_elim (λ low. omega (arith, same, low)) (λ high. omega (arith, same, high)) out);
  size = length-set xs at left;
  counted = (let one = counts ∙ ap (λ k. bool_byte (nat_lt k (get_or xs at 0))) (sym here) in
      let either = ⊎_elim (λ none. inl (here ∙ is ∙ none)) (λ same. inr (here ∙ is ∙ same)) (but_either homes (get_or xs at 0)) in
      let less = live_less (λ r. get_or xs r 0) (λ r. get_or (slice_set xs at left) r 0) at (length xs) inside other either in
      omega (arith, one, less));
  most = (let most = byte_most (nat_lt left (get_or xs at 0)) in omega (arith, counts, most));
}
  where
    here : get_or (slice_set xs at left) at 0 ≡ left
    here = get_or-set_same xs at left 0 inside

    other : (r : ℕ) → r ≢ at → get_or (slice_set xs at left) r 0 ≡ get_or xs r 0
    other r differs = get_or-set_other xs at r left 0 differs

-- two runs, one behind the other, are one
pub joined : (homes : List ℕ) (from n at k whole : ℕ) (old mid new : List ℕ) (g h : ℕ) → at ≡ from + n → whole ≡ n + k
    → ForgetsRun homes from n old mid g → ForgetsRun homes at k mid new h → ForgetsRun homes from whole old new (g + h)
joined homes from n at k whole old mid new g h begins long first second = record {
  forgotten = λ r low high. ⊎_elim
      (λ before. second.others r (inl before) ∙ first.forgotten r low (omega (arith, before, begins)))
      (λ behind. second.forgotten r behind (omega (arith, high, begins, long)) ∙ ap (number_but homes) (first.others r (inr (omega (arith, behind, begins)))))
      (cases_lt r at);
  others = λ r out. ⊎_elim
      (λ low. second.others r (inl (omega (arith, low, begins))) ∙ first.others r (inl low))
      (λ high. second.others r (inr (omega (arith, high, begins, long))) ∙ first.others r (inr (omega (arith, high, long))))
      out;
  size = second.size ∙ first.size;
  counted = (let one = first.counted in let two = subst (λ l. h + live_among (λ r. get_or new r 0) l ≡ live_among (λ r. get_or mid r 0) l) first.size second.counted in omega (arith, one, two));
  most = (let one = first.most in let two = second.most in omega (arith, one, two, long));
}

-- a run of all numbers is a body
pub whole_body : (homes old new : List ℕ) (gone : ℕ) → ForgetsRun homes 0 (length old) old new gone → (r : ℕ) → get_or new r 0 ≡ number_but homes (get_or old r 0)
whole_body homes old new gone is r = ⊎_elim (λ inside. is.forgotten r (omega arith) (omega (arith, inside)))
    (λ past. (let none = get_or_past old r 0 past in is.others r (inr (omega (arith, past))) ∙ none ∙ sym (ap (number_but homes) none)))
    (cases_lt r (length old))
