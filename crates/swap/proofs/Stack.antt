-- What a call changes of the stack of free slots.
use Rattle.std.proofs.{Common.{◌≡◌, ◌≢◌, ℕ, ◌+◌, ◌-◌, ◌<◌, ◌≤◌, ◌==◌, false, inl, inr, List, [], ◌∷◌, ◌++◌, length, get_or, take, set, replicate, sym, ap, ◌∙◌, subst, arith, eq-eqb, ne_eqb, eqb-true, IsTrue, ◌↔◌}, lemmas.Bool.{cases_eq}}
use Rattle.std.proofs.lemmas.{Bool.{cases_lt, false≢true}, List.{get_or-set_same, get_or-set_other, length-set, get_or-take, length-take-le, length_push, get_or_push, get_or_append_left, get_or-replicate, length-replicate, get_or_past}}
use Rattle.{vm_types.specs.Counting.{count_below}, swap.{proofs.Counting.{same, every, one_less, at_most, not_all, none, none_pass}, specs.Counts.{count_at, free_count, IsStack, AreSoundCounts}}}

positive : (c : ℕ) → (c == 0) ≡ false → 0 < c
positive c fails = elim (cases_eq c 0) [ inl e ↦ absurd (false≢true (sym fails ∙ eq-eqb c 0 e)) | inr ne ↦ omega (arith, ne) ]

-- another slot is as free as it was
elsewhere : (counts : List ℕ) (n v k : ℕ) → k ≢ n → (count_at counts k == 0) ≡ (count_at (set counts n v) k == 0)
elsewhere counts n v k ne = ap (λ c. c == 0) (sym (get_or-set_other counts n k v 0 ne))

-- a slot with a share that keeps one
pub still_full_count : (counts : List ℕ) (n v : ℕ) → n < length counts → 0 < count_at counts n → 0 < v → free_count (set counts n v) ≡ free_count counts
still_full_count counts n v below was is =
    ap (λ m. count_below (λ k. count_at (set counts n v) k == 0) m) (length-set counts n v)
    ∙ sym (same (λ k. count_at counts k == 0) (λ k. count_at (set counts n v) k == 0) (length counts) alike)
  where
    alike : (k : ℕ) → k < length counts → (count_at counts k == 0) ≡ (count_at (set counts n v) k == 0)
    alike k lt = elim (cases_eq k n) [
      | inl e ↦ (
          let before : count_at counts k ≢ 0 = (let P : ℕ → Type 0 = λ x. 0 < count_at counts x in let some = subst P (sym e) was in λ z. omega (arith, some, z)) in
          let now : count_at (set counts n v) k ≡ v = ap (count_at (set counts n v)) e ∙ get_or-set_same counts n v 0 below in
          ne_eqb (count_at counts k) 0 before ∙ sym (ne_eqb (count_at (set counts n v) k) 0 (λ z. omega (arith, z, now, is))))
      | inr ne ↦ elsewhere counts n v k ne
    ]

-- a free slot that gets a share
pub one_taken : (counts : List ℕ) (n v : ℕ) → n < length counts → count_at counts n ≡ 0 → 0 < v → free_count counts ≡ free_count (set counts n v) + 1
one_taken counts n v below was is =
    one_less (λ k. count_at counts k == 0) (λ k. count_at (set counts n v) k == 0) n (length counts) below (eq-eqb (count_at counts n) 0 was)
    (ne_eqb (count_at (set counts n v) n) 0 (λ z. (let now = get_or-set_same counts n v 0 below in omega (arith, z, now, is))))
    (elsewhere counts n v)
    ∙ ap (λ m. count_below (λ k. count_at (set counts n v) k == 0) m + 1) (sym (length-set counts n v))

-- a slot that loses its last share
pub one_freed : (counts : List ℕ) (n : ℕ) → n < length counts → 0 < count_at counts n → free_count (set counts n 0) ≡ free_count counts + 1
one_freed counts n below was =
    ap (λ m. count_below (λ k. count_at (set counts n 0) k == 0) m) (length-set counts n 0)
    ∙ one_less (λ k. count_at (set counts n 0) k == 0) (λ k. count_at counts k == 0) n (length counts) below
    (eq-eqb (count_at (set counts n 0) n) 0 (get_or-set_same counts n 0 0 below))
    (ne_eqb (count_at counts n) 0 (λ z. omega (arith, z, was)))
    (λ k ne. sym (elsewhere counts n 0 k ne))

-- a slot with a share is inside
pub inside_of : (counts : List ℕ) (n : ℕ) → 0 < count_at counts n → n < length counts
inside_of counts n some = elim (cases_lt n (length counts)) [
  | inl low ↦ low
  | inr high ↦ (let none = get_or_past counts n 0 high in absurd (omega (arith, none, some)))
]

pub short_stack : (counts stack : List ℕ) → IsStack counts stack → length stack ≤ length counts
short_stack counts stack stacked = omega (arith, stacked.all, at_most (λ k. count_at counts k == 0) (length counts))

-- where a slot has a share the stack is shorter than the row of slots
pub has_room : (counts stack : List ℕ) (n : ℕ) → IsStack counts stack → n < length counts → 0 < count_at counts n → length stack < length counts
has_room counts stack n stacked below was =
    let most = not_all (λ k. count_at counts k == 0) n (length counts) below (ne_eqb (count_at counts n) 0 (λ z. omega (arith, z, was))) in
    omega (arith, stacked.all, most)

-- an empty stack
pub none_free : (counts stack : List ℕ) → IsStack counts stack → length stack ≡ 0 → (n : ℕ) → n < length counts → 0 < count_at counts n
none_free counts stack stacked empty n below = positive (count_at counts n) (none (λ k. count_at counts k == 0) (length counts) (sym stacked.all ∙ empty) n below)

-- all slots are free, each once
pub stack_made : (counts stack : List ℕ) (slots : ℕ) → counts ≡ replicate slots 0 → length stack ≡ slots
    → ((k : ℕ) → k < slots → get_or stack k 0 ≡ slots - 1 - k) → IsStack counts stack
stack_made counts stack slots zeros size each = record {
  free = λ k lt. (let here = each k (omega (arith, lt, size)) in (omega (arith, here, long, lt, size), at (get_or stack k 0) (omega (arith, here, lt, size))));
  once = λ j k less lt e. (let first = each j (omega (arith, less, lt, size)) in let second = each k (omega (arith, lt, size)) in omega (arith, first, second, e, less, lt, size));
  all = size ∙ sym long ∙ sym (every (λ k. count_at counts k == 0) (length counts) (λ k lt. eq-eqb (count_at counts k) 0 (at k (omega (arith, lt, long)))));
}
  where
    long : length counts ≡ slots
    long = ap length zeros ∙ length-replicate slots 0

    at : (n : ℕ) → n < slots → count_at counts n ≡ 0
    at n lt = ap (λ (l : List ℕ). count_at l n) zeros ∙ get_or-replicate slots n 0 0 lt

-- the slot on top was taken
pub stack_taken : (counts stack : List ℕ) (n v : ℕ) → 0 < length stack → n ≡ get_or stack (length stack - 1) 0 → 0 < v
    → IsStack counts stack → IsStack (set counts n v) (take (length stack - 1) stack)
stack_taken counts stack n v some is positive stacked = record {
  free = λ k lt.
      let low : k < length stack - 1 = omega (arith, lt, short) in
      let same_entry = kept k low in
      let ne : get_or (take (length stack - 1) stack) k 0 ≢ n = λ e. stacked.once k (length stack - 1) low (omega (arith, some)) (sym same_entry ∙ e ∙ is) in
      let was = stacked.free k (omega (arith, low)) in
      let inside = was.0 in (
        omega (arith, inside, same_entry, sized),
        get_or-set_other counts n (get_or (take (length stack - 1) stack) k 0) v 0 ne ∙ ap (count_at counts) same_entry ∙ was.1,
      );
  once = λ j k less lt e. stacked.once j k less (omega (arith, lt, short)) (sym (kept j (omega (arith, less, lt, short))) ∙ e ∙ kept k (omega (arith, lt, short)));
  all = (let was = stacked.all in let less = one_taken counts n v below empty positive in omega (arith, was, less, short, some));
}
  where
    here : (get_or stack (length stack - 1) 0 < length counts) × (count_at counts (get_or stack (length stack - 1) 0) ≡ 0)
    here = stacked.free (length stack - 1) (omega (arith, some))

    below : n < length counts
    below = let h = here.0 in omega (arith, h, is)

    empty : count_at counts n ≡ 0
    empty = ap (count_at counts) is ∙ here.1

    short : length (take (length stack - 1) stack) ≡ length stack - 1
    short = length-take-le (length stack - 1) stack (omega arith)

    sized : length (set counts n v) ≡ length counts
    sized = length-set counts n v

    kept : (k : ℕ) → k < length stack - 1 → get_or (take (length stack - 1) stack) k 0 ≡ get_or stack k 0
    kept k lt = get_or-take (length stack - 1) stack k 0 lt

-- a slot lost its last share
pub stack_freed : (counts stack : List ℕ) (n : ℕ) → n < length counts → 0 < count_at counts n → IsStack counts stack → IsStack (set counts n 0) (stack ++ n ∷ [])
stack_freed counts stack n below was stacked = record {
  free = λ k lt. elim (cases_lt k (length stack)) [
    | inl low ↦ (
        let entry = kept k low in
        let old = stacked.free k low in
        let inside = old.0 in
        (omega (arith, inside, entry, sized), get_or-set_other counts n (get_or (stack ++ n ∷ []) k 0) 0 0 (λ e. fresh k low (sym entry ∙ e)) ∙ ap (count_at counts) entry ∙ old.1))
    | inr high ↦ (
        let entry : get_or (stack ++ n ∷ []) k 0 ≡ n = get_or_push stack n 0 k (omega (arith, high, lt, long)) in
        (omega (arith, entry, below, sized), ap (count_at (set counts n 0)) entry ∙ get_or-set_same counts n 0 0 below))
  ];
  once = λ j k less lt e. elim (cases_lt k (length stack)) [
    | inl low ↦ stacked.once j k less low (sym (kept j (omega (arith, less, low))) ∙ e ∙ kept k low)
    | inr high ↦ (
        let low : j < length stack = omega (arith, less, lt, long) in
        let entry : get_or (stack ++ n ∷ []) k 0 ≡ n = get_or_push stack n 0 k (omega (arith, high, lt, long)) in
        fresh j low (sym (kept j low) ∙ e ∙ entry))
  ];
  all = (let old = stacked.all in let more = one_freed counts n below was in omega (arith, old, more, long));
}
  where
    long : length (stack ++ n ∷ []) ≡ length stack + 1
    long = length_push stack n

    sized : length (set counts n 0) ≡ length counts
    sized = length-set counts n 0

    kept : (k : ℕ) → k < length stack → get_or (stack ++ n ∷ []) k 0 ≡ get_or stack k 0
    kept k lt = get_or_append_left stack (n ∷ []) 0 k lt

    fresh : (k : ℕ) → k < length stack → get_or stack k 0 ≢ n
    fresh k lt e = (let none = (stacked.free k lt).1 in let e' : count_at counts (get_or stack k 0) ≡ count_at counts n = ap (count_at counts) e in omega (arith, none, e', was))

-- a slot with a share kept one
pub stack_kept : (counts stack : List ℕ) (n v : ℕ) → n < length counts → 0 < count_at counts n → 0 < v → IsStack counts stack → IsStack (set counts n v) stack
stack_kept counts stack n v below was is stacked = record {
  free = λ k lt.
      let old = stacked.free k lt in
      let inside = old.0 in
      let ne : get_or stack k 0 ≢ n = λ e. (let none = old.1 in let e' : count_at counts (get_or stack k 0) ≡ count_at counts n = ap (count_at counts) e in omega (arith, none, e', was)) in
      (omega (arith, inside, length-set counts n v), get_or-set_other counts n (get_or stack k 0) v 0 ne ∙ old.1);
  once = stacked.once;
  all = stacked.all ∙ sym (still_full_count counts n v below was is);
}

-- one count is changed
pub sound_set : (counts : List ℕ) (n v : ℕ) → v ≤ 64 → AreSoundCounts counts → AreSoundCounts (set counts n v)
sound_set counts n v few sound = record {
  most = (let size = length-set counts n v in let most = sound.most in omega (arith, size, most));
  shared = λ k. elim (cases_eq k n) [
    | inl e ↦ at_changed k e
    | inr ne ↦ (let same = get_or-set_other counts n k v 0 ne in let few_there = sound.shared k in omega (arith, same, few_there))
  ];
}
  where
    at_changed : (k : ℕ) → k ≡ n → count_at (set counts n v) k ≤ 64
    at_changed k e = elim (cases_lt n (length counts)) [
      | inl low ↦ (let now : count_at (set counts n v) k ≡ v = ap (count_at (set counts n v)) e ∙ get_or-set_same counts n v 0 low in omega (arith, now, few))
      | inr high ↦ (
          let none : count_at (set counts n v) k ≡ 0 = (let size = length-set counts n v in get_or_past (set counts n v) k 0 (omega (arith, size, high, e))) in
          omega (arith, none))
    ]

pub zero_at : (slots n : ℕ) → count_at (replicate slots 0) n ≡ 0
zero_at slots n = elim (cases_lt n slots) [
  | inl low ↦ get_or-replicate slots n 0 0 low
  | inr high ↦ get_or_past (replicate slots 0) n 0 (let size : length {A = ℕ} (replicate slots 0) ≡ slots = length-replicate slots 0 in omega (arith, size, high))
]

pub sound_zeros : (counts : List ℕ) (slots : ℕ) → counts ≡ replicate slots 0 → slots ≤ 65536 → AreSoundCounts counts
sound_zeros counts slots zeros most = record {
  most = (let size : length counts ≡ slots = ap length zeros ∙ length-replicate slots 0 in omega (arith, size, most));
  shared = λ n. (let here : count_at counts n ≡ 0 = ap (λ (l : List ℕ). count_at l n) zeros ∙ zero_at slots n in omega (arith, here));
}

-- the test for a free slot
pub full_test : (counts : List ℕ) (r : ℕ) → r ≡ free_count counts → IsTrue (r == 0) ↔ ((n : ℕ) → n < length counts → 0 < count_at counts n)
full_test counts r is = (
  (λ t n below. positive (count_at counts n) (none (λ k. count_at counts k == 0) (length counts) (sym is ∙ eqb-true r 0 t) n below)),
  (λ full. eq-eqb r 0 (is ∙ none_pass (λ k. count_at counts k == 0) (length counts) (λ k below. (let some = full k below in ne_eqb (count_at counts k) 0 (λ z. omega (arith, z, some)))))),
)
