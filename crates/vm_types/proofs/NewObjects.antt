-- The number of a new object is one that no process uses, since processes have fewer runs than there are numbers to try.
use Rattle.std.proofs.{Common.{◌≡◌, ◌≢◌, ℕ, zero, suc, inl, inr, ◌+◌, ◌*◌, ◌<◌, ◌≤◌, Bool, true, false, not, ◌||◌, ◌==◌, Option, Some, None, refl, sym, ap, ◌∙◌, arith, eqb-true, eq-eqb, ne_eqb}, lemmas.Bool.{cases_eq, cases_lt, cases_Bool}}
use Rattle.{std.proofs.lemmas.Bool.{false≢true, true≢false, and_parts}, vm_types.{proofs.{Modes.{sizes}, Naming.{any-at}}, specs.{Attributes.{attr_after, backing_after, backing_eq}, Counting.{any_below, count_below, sum_below}}}}
use Rattle.vm_types.specs.{Limits.{named_limit, object_limit, user_end, widest_end}, Objects.{Maps, uses, is_of_object, is_used, least_from, free_object}, Runs.{begins, begins_run, runs_below, run_count}, declared.region.Attr.{Attr}}
use Rattle.vm_types.specs.declared.region.Backing.{Backing, TheVariants.{Common}}

-- where one of the numbers doesn't pass, the one that is found doesn't
pub least-clear : (passes : ℕ → Bool) (n count k : ℕ) → n ≤ k → k ≤ n + count → passes k ≡ false → passes (least_from passes n count) ≡ false
unfolding least_from
least-clear passes n zero k from within clear = let same : k ≡ n = omega (arith, from, within) in ap passes (sym same) ∙ clear
least-clear passes n (suc count) k from within clear = elim (cases_Bool (passes n)) [
  | inl t ↦ (let other : k ≢ n = λ e. true≢false (sym t ∙ ap passes (sym e) ∙ clear) in rw t (least-clear passes (n + 1) count k (omega (arith, from, other)) (omega (arith, within)) clear))
  | inr f ↦ rw f f
]

count-or : (f g : ℕ → Bool) (n : ℕ) → count_below (λ k. f k || g k) n ≤ count_below f n + count_below g n
unfolding count_below
count-or f g zero = omega arith
count-or f g (suc n) = let rest = count-or f g n in elim (cases_Bool (f n)) [
  | inl t ↦ rw t (omega (arith, rest))
  | inr f' ↦ elim (cases_Bool (g n)) [ inl t ↦ rw (f', t) (omega (arith, rest)) | inr g' ↦ rw (f', g') (omega (arith, rest)) ]
]

count-le : (f g : ℕ → Bool) (n : ℕ) → ((k : ℕ) → f k ≡ true → g k ≡ true) → count_below f n ≤ count_below g n
unfolding count_below
count-le f g zero all = omega arith
count-le f g (suc n) all = let rest = count-le f g n all in elim (cases_Bool (f n)) [
  | inl t ↦ rw (t, all n t) (omega (arith, rest))
  | inr f' ↦ elim (cases_Bool (g n)) [ inl t ↦ rw (f', t) (omega (arith, rest)) | inr g' ↦ rw (f', g') (omega (arith, rest)) ]
]

count-none : (f : ℕ → Bool) (n : ℕ) → ((k : ℕ) → f k ≡ false) → count_below f n ≡ 0
unfolding count_below
count-none f zero none = refl
count-none f (suc n) none = rw (none n, count-none f n none) refl

count-before : (x n : ℕ) → n ≤ x → count_below (λ k. x == k) n ≡ 0
unfolding count_below
count-before x zero le = refl
count-before x (suc n) le = let rest = count-before x n (omega (arith, le)) in rw (ne_eqb x n (λ e. (omega (arith, e, le)))) (omega (arith, rest))

count-point : (x n : ℕ) → count_below (λ k. x == k) n ≤ 1
unfolding count_below
count-point x zero = omega arith
count-point x (suc n) = elim (cases_eq x n) [
  | inl e ↦ (let none = count-before x n (omega (arith, e)) in rw (eq-eqb x n e) (omega (arith, none)))
  | inr ne ↦ (let rest = count-point x n in rw (ne_eqb x n ne) (omega (arith, rest)))
]

count-free : (f : ℕ → Bool) (n : ℕ) → count_below f n < n → (k : ℕ) × (k < n) × (f k ≡ false)
unfolding count_below
count-free f zero less = absurd (omega (arith, less))
count-free f (suc n) less = elim (cases_Bool (f n)) [
  | inr f' ↦ (n, omega arith, f')
  | inl t ↦ (let rest : count_below f n < n = (let h = rw t at less in omega (arith, h)) in let found = count-free f n rest in (found.0, (let lt = found.1 in omega (arith, lt)), found.2))
]

-- a page is of one object at most
count-uses : (a : Option Attr) (n : ℕ) → count_below (uses a) n ≤ 1
count-uses None n = let none = count-none (uses None) n (λ k. refl) in omega (arith, none)
count-uses (Some a) n = by_backing a.backing where
  by_backing : (b : Backing) → count_below (is_of_object b) n ≤ 1
  by_backing (Common p) = count-point p.object n
  by_backing b = let none = count-none (is_of_object b) n (λ k. refl) in omega (arith, none)

-- a page that goes on where the one before was is of its object
same_object : (b c : Backing) (object : ℕ) → backing_eq (backing_after b 1) c ≡ true → is_of_object c object ≡ true → is_of_object b object ≡ true
same_object (Common p) (Common q) object e is =
    let same : p.object ≡ q.object = eqb-true p.object q.object (and_parts (p.object == q.object) (p.page + 1 == q.page) e).0 in
    ap (λ x. x == object) same ∙ is
same_object b (Common q) object e is = absurd (false≢true e)
same_object b c object e is = absurd (false≢true is)

uses_before : (before here : Option Attr) (object : ℕ) → begins before here ≡ false → uses here object ≡ true → uses before object ≡ true
uses_before before None object goes is = absurd (false≢true is)
uses_before None (Some a) object goes is = absurd (true≢false goes)
uses_before (Some b) (Some a) object goes is = same_object b.backing a.backing object (and_parts ((attr_after b 1).prot.0 == a.prot.0) (backing_eq (backing_after b.backing 1) a.backing) (not_false goes)).1 is where
  not_false : {x : Bool} → not x ≡ false → x ≡ true
  not_false {x} e = elim (cases_Bool x) [ inl t ↦ t | inr f ↦ absurd (true≢false (sym (ap not f) ∙ e)) ]

-- the objects of the pages below n are no more than the runs that begin there
objects-runs : (map : ℕ → Option Attr) (n : ℕ) → count_below (λ o. any_below (λ k. uses (map k) o) n) object_limit ≤ runs_below map n
unfolding any_below runs_below
objects-runs map zero = let none = count-none (λ o. any_below (λ k. uses (map k) o) zero) object_limit (λ o. refl) in omega (arith, none)
objects-runs map (suc n) =
    let rest = objects-runs map n in
    elim (cases_Bool (begins_run map n)) [
      | inl t ↦ (
          rw t (omega (arith, rest, count-or (uses (map n)) (λ o. any_below (λ k. uses (map k) o) n) object_limit, count-uses (map n) object_limit)))
      | inr f ↦ (
          let fewer = count-le (λ o. uses (map n) o || any_below (λ k. uses (map k) o) n) (λ o. any_below (λ k. uses (map k) o) n) object_limit (λ o is. was n f o is) in
          rw f (omega (arith, rest, fewer)))
    ] where
      was : (m : ℕ) → begins_run map m ≡ false → (o : ℕ) → (uses (map m) o || any_below (λ k. uses (map k) o) m) ≡ true → any_below (λ k. uses (map k) o) m ≡ true
      was m goes o is = elim (cases_Bool (uses (map m) o)) [
        | inr f' ↦ rw f' at is
        | inl t ↦ before m goes t
      ] where
        before : (j : ℕ) → begins_run map j ≡ false → uses (map j) o ≡ true → any_below (λ k. uses (map k) o) j ≡ true
        before zero goes t = absurd (false≢true (uses_before None (map zero) o goes t))
        before (suc j) goes t = any-at (λ k. uses (map k) o) (suc j) j (omega arith) (uses_before (map j) (map (suc j)) o goes t)

-- those of all processes are no more than their runs
objects-all : (maps : Maps) (n : ℕ) → count_below (λ o. any_below (λ p. any_below (λ k. uses (maps p k) o) widest_end) n) object_limit
    ≤ sum_below (λ p. runs_below (maps p) widest_end) n
unfolding any_below sum_below
objects-all maps zero = let none = count-none (λ o. any_below (λ p. any_below (λ k. uses (maps p k) o) widest_end) zero) object_limit (λ o. refl) in omega (arith, none)
objects-all maps (suc n) =
    let either = count-or (λ o. any_below (λ k. uses (maps n k) o) widest_end) (λ o. any_below (λ p. any_below (λ k. uses (maps p k) o) widest_end) n) object_limit in
    omega (arith, objects-all maps n, objects-runs (maps n) widest_end, either)

-- no run begins where no page is mapped
runs-end : (map : ℕ → Option Attr) (n m : ℕ) → n ≤ m → ((page : ℕ) → n ≤ page → map page ≡ None) → runs_below map m ≡ runs_below map n
unfolding runs_below
runs-end map n zero most none = let same : n ≡ 0 = omega (arith, most) in ap (runs_below map) (sym same)
runs-end map n (suc m) most none = elim (cases_lt m n) [
  | inl here ↦ (let same : n ≡ suc m = omega (arith, most, here) in ap (runs_below map) (sym same))
  | inr late ↦ rw (starts m (none m late)) (runs-end map n m late none)
]
  where
    starts : (k : ℕ) → map k ≡ None → begins_run map k ≡ false
    starts zero e = rw e refl
    starts (suc k) e = rw e refl

sum-most : (f : ℕ → ℕ) (n : ℕ) → f 0 ≡ 0 → ((k : ℕ) → f k ≤ 256) → sum_below f (suc n) ≤ 256 * n
unfolding sum_below
sum-most f zero none most = omega (arith, none)
sum-most f (suc n) none most = let rest = sum-most f n none most in let here = most (suc n) in omega (arith, rest, here)

runs-none : (map : ℕ → Option Attr) (n : ℕ) → ((page : ℕ) → map page ≡ None) → runs_below map n ≡ 0
unfolding runs_below
runs-none map n none = runs-end map 0 n (omega arith) (λ page from. none page)

-- no page names an object of the new number, where no process has more than 256 runs
pub free-unused : (mode : ℕ) (maps : Maps) → ((page : ℕ) → maps 0 page ≡ None) → ((p page : ℕ) → user_end mode ≤ page → maps p page ≡ None)
    → ((p : ℕ) → run_count mode (maps p) ≤ 256) → is_used maps (free_object maps) ≡ false
unfolding is_used run_count
free-unused mode maps none high most =
    let sum = sum-most (λ p. runs_below (maps p) widest_end) 64 (runs-none (maps 0) widest_end none)
    (λ p. let same = runs-end (maps p) (user_end mode) widest_end (sizes mode).most (high p) in let few = most p in omega (arith, same, few)) in
    let free = count-free (is_used maps) object_limit (omega (arith, objects-all maps 65, sum)) in
    least-clear (is_used maps) 0 named_limit free.0 (omega arith) (let below = free.1 in omega (arith, below)) free.2
