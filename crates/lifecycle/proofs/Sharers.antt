-- Who shares a seat: fewer than there are processes, where one has no entry, and nobody who may store to it.
use Rattle.lifecycle.proofs.Names.{top_level, count_below, Attr, ◌≡◌, ℕ, zero, suc, inl, inr, ◌+◌, ◌<◌, ◌≤◌, Bool, true, false, Option, Some, None, refl, sym, ap, ◌∙◌, subst, arith, cases_eq, cases_Bool, false≢true, same_Some, is_valid}
use Rattle.lifecycle.proofs.Names.{can_write, frame_of, IsPage, Seat, InFrame, seat, is_seat, holders_at, Picture, entry, count_in, page_in, IsEntryFor, Nothing, Resident, Away, IsFit, nowhere, count-most, count-sole, seat_number, off-none}
use Rattle.lifecycle.{proofs.{Names.{cases_some, entry-dead, seat-none, seat_own, sits, sits_none}, Weaker.{leaf_own}}, specs.Shares.{IsUnwritten}}

step_most : (f : ℕ → Bool) (n : ℕ) → count_below f (suc n) ≤ count_below f n + 1
unfolding count_below
step_most f n = elim (cases_Bool (f n)) [ inl t ↦ rw t (omega arith) | inr e ↦ rw e (omega arith) ]

step_none : (f : ℕ → Bool) (n : ℕ) → f n ≡ false → count_below f (suc n) ≡ count_below f n
unfolding count_below
step_none f n e = rw e (omega arith)

-- one number doesn't pass
count_but : (f : ℕ → Bool) (x n : ℕ) → x < n → f x ≡ false → count_below f n + 1 ≤ n
count_but f x zero below none = absurd (omega arith)
count_but f x (suc n) below none = elim (cases_eq n x) [
  | inl e ↦ omega (arith, step_none f n (ap f e ∙ none), count-most f n)
  | inr ne ↦ omega (arith, step_most f n, count_but f x n (omega arith) none)
]

-- two numbers don't
count_but_two : (f : ℕ → Bool) (x y n : ℕ) → x < y → y < n → f x ≡ false → f y ≡ false → count_below f n + 2 ≤ n
count_but_two f x y zero apart below none none' = absurd (omega arith)
count_but_two f x y (suc n) apart below none none' = elim (cases_eq n y) [
  | inl e ↦ omega (arith, step_none f n (ap f e ∙ none'), count_but f x n (omega arith) none)
  | inr ne ↦ omega (arith, step_most f n, count_but_two f x y n apart (omega arith) none none')
]

-- there is no process 0
no_process : {mode : ℕ} (c : Picture mode) (page : ℕ) → IsFit c → seat (entry c 0 page) ≡ None
no_process c page fit = elim (cases_some (c.root 0)) [
  | inl dead ↦ ap seat (entry-dead c 0 page dead) ∙ seat-none
  | inr lives ↦ absurd (let number = fit.rooted.numbers 0 lives.0 lives.1 in omega (arith, number.0))
]

-- the share count of a seat is the number of those who have it at its page
counted_at : {mode : ℕ} (c : Picture mode) (pid page : ℕ) (y : Seat) → IsFit c → IsPage (top_level mode) page → seat (entry c pid page) ≡ Some y → count_in c y ≡ holders_at (entry c) page y
counted_at c pid page y fit h is =
    let there = subst (λ (x : ℕ). holders_at (entry c) (page_in c fit.counted.0 y) y ≡ holders_at (entry c) x y) (fit.counted.1.noted pid page y h is) refl in
    omega (arith, fit.counted.1.counts y (fit.counted.1.named pid page y h is), off-none nowhere y, there)

-- one more may share a seat of a page of which a process has no copy
pub may_share : {mode : ℕ} (c : Picture mode) (pid page child : ℕ) (y : Seat) → IsFit c → IsPage (top_level mode) page → seat (entry c pid page) ≡ Some y → 0 < child → child ≤ 64 → seat (entry c child page) ≡ None → count_in c y < 64
unfolding holders_at
may_share c pid page child y fit h is some low none =
    let few = count_but_two (λ q. is_seat (seat (entry c q page)) y) 0 child 65 some (omega (arith, low)) (sits_none (seat (entry c 0 page)) y (no_process c page fit)) (sits_none (seat (entry c child page)) y none) in
    omega (arith, counted_at c pid page y fit h is, few)

-- the process whose leaf lets stores through to a seat is the only one to have it
sole_holder : {mode : ℕ} (c : Picture mode) (q k pid page : ℕ) (y : Seat) → IsFit c → IsPage (top_level mode) k → IsPage (top_level mode) page → seat (entry c q k) ≡ Some y → seat (entry c pid page) ≡ Some y → count_in c y ≡ 1 → (q ≡ pid) × (k ≡ page)
unfolding holders_at
sole_holder c q k pid page y fit h' h there here one =
    let same : k ≡ page = sym (fit.counted.1.noted q k y h' there) ∙ fit.counted.1.noted pid page y h here in
    let at : seat (entry c q page) ≡ Some y = ap (λ x. seat (entry c q x)) (sym same) ∙ there in (
      count-sole (λ p. is_seat (seat (entry c p page)) y) q pid 65 (seat_number c 0 q page y fit.rooted at) (seat_number c 0 pid page y fit.rooted here)
          (sits (seat (entry c q page)) y at) (sits (seat (entry c pid page)) y here) (sym (counted_at c pid page y fit h here) ∙ one),
      same,
    )

written : {mode : ℕ} (c : Picture mode) (attr : Option Attr) (e : ℕ) (y : Seat) → IsEntryFor c attr e → seat e ≡ Some y → is_valid e ≡ true → can_write e ≡ true → count_in c y ≡ 1
written c attr e y (Nothing none) is valid write = let bad : None ≡ Some y = sym (ap seat none ∙ seat-none) ∙ is in (cc)
written c attr e y (Away a at away) is valid write = absurd (false≢true (sym (let z : Rattle.residency.specs.Seats.is_swapped e ≡ false = rw valid refl in z) ∙ away.swapped))
written c attr e y (Resident a at resident) is valid write =
    let private = leaf_own e valid (λ none. (let bad : None ≡ Some y = sym none ∙ is in (cc))) in
    let frame : InFrame (frame_of e) ≡ y = same_Some (InFrame (frame_of e)) y (sym (seat_own e private) ∙ is) in
    subst (λ (z : Seat). count_in c z ≡ 1) frame ((resident.leaf valid).sole private write)

-- no leaf lets a store through to a seat, where that of one page doesn't
pub unwritten_all : {mode : ℕ} (c : Picture mode) (pid page e : ℕ) (y : Seat) → IsFit c → IsPage (top_level mode) page → entry c pid page ≡ e → seat e ≡ Some y → (is_valid e ≡ true → can_write e ≡ false) → IsUnwritten c y
unwritten_all c pid page e y fit h source is unwritten q k h' there valid = elim (cases_Bool (can_write (entry c q k))) [
  | inr none ↦ none
  | inl write ↦ (
      let one = written c (c.at q k) (entry c q k) y (fit.granting.entries q k h') there valid write in
      let both = sole_holder c q k pid page y fit h' h there (ap seat source ∙ is) one in
      let same : entry c q k ≡ e = ap (λ x. entry c x k) both.0 ∙ ap (entry c pid) both.1 ∙ source in
      absurd (false≢true (sym (unwritten (sym (ap is_valid same) ∙ valid)) ∙ sym (ap can_write same) ∙ write)))
]
