-- Objects are marked one after the other.
use Rattle.vm_types.specs.declared.mode.Levels as Levels
use Rattle.ranges.proofs.{Emptied.{in_row_from}, Names.{◌≡◌, ◌≢◌, ℕ, zero, suc, ◌+◌, ◌-◌, ◌<◌, ◌≤◌, inl, inr, ◌⊎◌, Bool, true, false, Option, Some, None, List, get_or, refl, sym, ap, ◌∙◌, arith, eq-eqb, ne_eqb, get_or_past}}
use Rattle.ranges.proofs.Names.{get_or-replicate, length-replicate, nat_tests, cases_Bool, cases_eq, cases_lt, false≢true, replicate, named_limit, widest_end, Attr, Backing, Anon, attr_after, backing_after, any_below, Maps, uses}
use Rattle.ranges.{proofs.Names.{is_of_object, is_used, least_from, removed, in_row, Run, IsNextRun, Core, picture_of, attr_where, IsFit, any-at, any-where}, specs.{Numbers.{Marks, IsUsedBetween, IsUsedBy}, Rows.{without_maps}}}

-- two steps
pub marks_then : (f g h : ℕ → Type 0) (x y z : List Bool) → ((o : ℕ) → f o → h o) → ((o : ℕ) → g o → h o) → ((o : ℕ) → h o → f o ⊎ g o) → Marks f x y → Marks g y z → Marks h x z
marks_then f g h x y z left right either first second = record {
  room = second.room ∙ first.room;
  kept = λ o e. second.kept o (first.kept o e);
  all = λ o low is. elim (either o is) [ inl a ↦ second.kept o (first.all o low a) | inr b ↦ second.all o low b ];
  only = λ o e. elim (second.only o e) [ inl before ↦ elim (first.only o before) [ inl old ↦ inl old | inr a ↦ inr (left o a) ] | inr b ↦ inr (right o b) ];
}

-- the same, named otherwise
pub marks_alike : (f g : ℕ → Type 0) (x y : List Bool) → ((o : ℕ) → f o → g o) → ((o : ℕ) → g o → f o) → Marks f x y → Marks g x y
marks_alike f g x y forth back marks = record {
  room = marks.room;
  kept = marks.kept;
  all = λ o low is. marks.all o low (back o is);
  only = λ o e. elim (marks.only o e) [ inl old ↦ inl old | inr is ↦ inr (forth o is) ];
}

of_uses : (b : Backing) (n o : ℕ) → is_of_object (backing_after b n) o ≡ is_of_object b o
of_uses Anon n o = refl
of_uses b n o = refl

-- the pages of a run are all of its object, or of none
pub run_uses : (map : ℕ → Option Attr) (run : Run) (k o : ℕ) → map k ≡ Some (attr_after run.attr (k - run.first)) → uses (map k) o ≡ is_of_object run.attr.backing o
run_uses map run k o at = ap (λ x. uses x o) at ∙ of_uses run.attr.backing (k - run.first) o

pub none_uses : (map : ℕ → Option Attr) (k o : ℕ) → map k ≡ None → uses (map k) o ≡ true → ⊥
none_uses map k o none is = false≢true (sym (ap (λ x. uses x o) none) ∙ is)

pub low_out : (first pages k : ℕ) → 0 ≤ k → k < first → in_row first pages k ≡ false
low_out first pages k from low = grind (arith, nat_tests)

pub high_out : (first pages k : ℕ) → first + pages ≤ k → k < widest_end → in_row first pages k ≡ false
high_out first pages k past high = grind (arith, nat_tests)

-- what a process has, but for the row
pub mine : (at : Maps) (pid q first pages : ℕ) → q ≡ pid → (o : ℕ) → IsUsedBy (without_maps at pid first pages) q o
    → IsUsedBetween (at q) 0 first o ⊎ IsUsedBetween (at q) (first + pages) widest_end o
mine at pid q first pages same o (k, high, is) = elim (cases_lt k first) [
  | inl low ↦ inl (k, omega arith, low, out_of k (low_out first pages k (omega arith) low) is)
  | inr late ↦ elim (cases_lt k (first + pages)) [
    | inl within ↦ absurd (false≢true (sym (in_of k (in_row_from first pages k late within)) ∙ is))
    | inr past ↦ inr (k, past, high, out_of k (high_out first pages k past high) is)
  ]
]
  where
    out_of : (k : ℕ) → in_row first pages k ≡ false → uses (without_maps at pid first pages q k) o ≡ true → uses (at q k) o ≡ true
    out_of k out is = (let e : without_maps at pid first pages q k ≡ at q k = rw (eq-eqb q pid same, out) (ap (λ x. at x k) (sym same)) in ap (λ x. uses x o) (sym e) ∙ is)

    in_of : (k : ℕ) → in_row first pages k ≡ true → uses (without_maps at pid first pages q k) o ≡ false
    in_of k inside = (let e : without_maps at pid first pages q k ≡ None = rw (eq-eqb q pid same, inside) refl in ap (λ x. uses x o) e)

pub mine_back : (at : Maps) (pid q first pages from end : ℕ) → q ≡ pid → ((k : ℕ) → from ≤ k → k < end → in_row first pages k ≡ false) → end ≤ widest_end → (o : ℕ) → IsUsedBetween (at q) from end o
    → IsUsedBy (without_maps at pid first pages) q o
mine_back at pid q first pages from end same out small o (k, low, high, is) =
    (k, omega (arith, high, small), (let e : without_maps at pid first pages q k ≡ at q k = rw (eq-eqb q pid same, out k low high) (ap (λ x. at x k) (sym same)) in ap (λ x. uses x o) e ∙ is))

-- and what any other has
pub theirs : (at : Maps) (pid q first pages : ℕ) → q ≢ pid → (o : ℕ) → IsUsedBy (without_maps at pid first pages) q o → IsUsedBetween (at q) 0 widest_end o
theirs at pid q first pages other o (k, high, is) =
    (k, omega arith, high, (let e : without_maps at pid first pages q k ≡ at q k = rw (ne_eqb q pid other) refl in ap (λ x. uses x o) (sym e) ∙ is))

pub theirs_back : (at : Maps) (pid q first pages : ℕ) → q ≢ pid → (o : ℕ) → IsUsedBetween (at q) 0 widest_end o → IsUsedBy (without_maps at pid first pages) q o
theirs_back at pid q first pages other o (k, low, high, is) =
    (k, high, (let e : without_maps at pid first pages q k ≡ at q k = rw (ne_eqb q pid other) refl in ap (λ x. uses x o) e ∙ is))

-- the first number that doesn't pass
pub least_same : (f g : ℕ → Bool) (n m : ℕ) → ((o : ℕ) → n ≤ o → o < n + m → f o ≡ g o) → least_from f n m ≡ least_from g n m
unfolding least_from
least_same f g n zero same = refl
least_same f g n (suc m) same = elim (cases_Bool (g n)) [
  | inl t ↦ rw (same n (omega arith) (omega arith) ∙ t, t) (least_same f g (n + 1) m (λ o low high. same o (omega (arith, low)) (omega (arith, high))))
  | inr e ↦ rw (same n (omega arith) (omega arith) ∙ e, e) refl
]

pub least_on : (f : ℕ → Bool) (n m : ℕ) → f n ≡ true → least_from f n (suc m) ≡ least_from f (n + 1) m
unfolding least_from
least_on f n m t = rw t refl

pub least_here : (f : ℕ → Bool) (n m : ℕ) → f n ≡ false → least_from f n (suc m) ≡ n
unfolding least_from
least_here f n m e = rw e refl

pub least_end : (f : ℕ → Bool) (n : ℕ) → least_from f n 0 ≡ n
unfolding least_from
least_end f n = refl

-- an object is used where some process has a page of it
pub used_where : (f : Maps) (o : ℕ) → is_used f o ≡ true → (q : ℕ) × (q < 65) × IsUsedBy f q o
unfolding is_used
used_where f o is =
    let who = any-where (λ p. any_below (λ k. uses (f p k) o) widest_end) 65 is in
    let at = any-where (λ k. uses (f who.0 k) o) widest_end who.2 in
    (who.0, who.1, (at.0, at.1, at.2))

pub used_at : (f : Maps) (o q : ℕ) → q < 65 → IsUsedBy f q o → is_used f o ≡ true
unfolding is_used
used_at f o q low (k, high, is) = any-at (λ p. any_below (λ k. uses (f p k) o) widest_end) 65 q low (any-at (λ k. uses (f q k) o) widest_end k high is)

-- the same, by how many numbers are left
one_more : (n m : ℕ) → n < m → m - n ≡ suc (m - (n + 1))
one_more n m low = omega (arith, low)

pub least_here_at : (f : ℕ → Bool) (n m : ℕ) → n < m → f n ≡ false → least_from f n (m - n) ≡ n
least_here_at f n m low e = ap (least_from f n) (one_more n m low) ∙ least_here f n (m - (n + 1)) e

pub least_on_at : (f : ℕ → Bool) (n m : ℕ) → n < m → f n ≡ true → least_from f n (m - n) ≡ least_from f (n + 1) (m - (n + 1))
least_on_at f n m low t = ap (least_from f n) (one_more n m low) ∙ least_on f n (m - (n + 1)) t

pub least_end_at : (f : ℕ → Bool) (n m : ℕ) → m ≤ n → n ≤ m → least_from f n (m - n) ≡ m
least_end_at f n m past low = let none : m - n ≡ 0 = omega (arith, past) in let same : n ≡ m = omega (arith, past, low) in ap (least_from f n) none ∙ least_end f n ∙ same

-- where the marks are those of all processes
pub used_same : (f : Maps) (xs : List Bool) → ((o q : ℕ) → o < named_limit → q < 65 → IsUsedBy f q o → get_or xs o false ≡ true)
    → ((o : ℕ) → get_or xs o false ≡ true → (q : ℕ) × (q < 65) × IsUsedBy f q o) → (o : ℕ) → o < named_limit → get_or xs o false ≡ is_used f o
used_same f xs all only o low = elim (cases_Bool (get_or xs o false)) [
  | inl marked ↦ (let who = only o marked in marked ∙ sym (used_at f o who.0 who.1 who.2))
  | inr clear ↦ elim (cases_Bool (is_used f o)) [
    | inl used ↦ (let who = used_where f o used in absurd (false≢true (sym clear ∙ all o who.0 low who.1 who.2)))
    | inr none ↦ clear ∙ sym none
  ]
]

pub clear_list : (n o : ℕ) → get_or (replicate n false) o false ≡ false
clear_list n o = elim (cases_lt o n) [
  | inl low ↦ get_or-replicate n o false false low
  | inr past ↦ get_or_past (replicate n false) o false (let same = length-replicate n false in omega (arith, same, past))
]

unmapped : (o : Option ℕ) (runs : List Run) (k : ℕ) → ((r : ℕ) → o ≡ Some r → ⊥) → attr_where o runs k ≡ None
unmapped None runs k none = refl
unmapped (Some r) runs k none = absurd (none r refl)

-- there is no process 0
pub nobody : {M : Type 0} {m : Levels.Ghosts M} {D E : Type 0} (c : Core D E M m) → IsFit (picture_of c) → (pid first pages o : ℕ) → IsUsedBy (without_maps (picture_of c).at pid first pages) 0 o → ⊥
nobody c fit pid first pages o (k, high, is) =
    let none : (picture_of c).at 0 k ≡ None = unmapped ((picture_of c).root 0) _ k (λ r at. (let low = (fit.rooted.numbers 0 r at).0 in omega (arith, low))) in
    elim (cases_eq 0 pid) [
      | inl first_one ↦ (
          let gone : removed ((picture_of c).at pid) first pages k ≡ None = elim (cases_Bool (in_row first pages k)) [
            | inl inside ↦ rw inside refl
            | inr out ↦ rw out (ap (λ p. (picture_of c).at p k) (sym first_one) ∙ none)
          ] in
          let e : without_maps (picture_of c).at pid first pages 0 k ≡ None = rw (eq-eqb 0 pid first_one) gone in
          false≢true (sym (ap (λ x. uses x o) e) ∙ is))
      | inr other ↦ (let e : without_maps (picture_of c).at pid first pages 0 k ≡ None = rw (ne_eqb 0 pid other) none in false≢true (sym (ap (λ x. uses x o) e) ∙ is))
    ]

-- a run more
module _ (mode : ℕ) (map : ℕ → Option Attr) (run : Run) (from at end : ℕ) (xs ys zs : List Bool) (low : from ≤ at) (next : IsNextRun mode map at run) (before : run.first < end)
    (kept : (o : ℕ) → get_or xs o false ≡ true → get_or ys o false ≡ true)
    (all : (o : ℕ) → o < named_limit → IsUsedBetween map from at o → get_or ys o false ≡ true)
    (only : (o : ℕ) → get_or ys o false ≡ true → (get_or xs o false ≡ true) ⊎ IsUsedBetween map from end o)
    (marks : Marks (λ o. is_of_object run.attr.backing o ≡ true) ys zs) where
  pub all_more : (o : ℕ) → o < named_limit → IsUsedBetween map from run.end o → get_or zs o false ≡ true
  all_more o small (k, first, last, is) = elim (cases_lt k at) [
    | inl passed ↦ marks.kept o (all o small (k, first, passed, is))
    | inr late ↦ elim (cases_lt k run.first) [
      | inl gap ↦ absurd (none_uses map k o (next.none_before k late gap) is)
      | inr within ↦ marks.all o small (sym (run_uses map run k o (next.mapped k within last)) ∙ is)
    ]
  ]

  pub only_more : (o : ℕ) → get_or zs o false ≡ true → (get_or xs o false ≡ true) ⊎ IsUsedBetween map from end o
  only_more o e = elim (marks.only o e) [
    | inl was ↦ only o was
    | inr is ↦ inr (run.first, (let f = next.from in omega (arith, low, f)), before, run_uses map run run.first o (next.mapped run.first (omega arith) next.nonempty) ∙ is)
  ]

-- the next run of the same pages
pub next_over : (mode : ℕ) (f g : ℕ → Option Attr) (run : Run) (at : ℕ) → ((k : ℕ) → f k ≡ g k) → IsNextRun mode f at run → IsNextRun mode g at run
next_over mode f g run at same next = record {
  from = next.from;
  low = next.low;
  nonempty = next.nonempty;
  high = next.high;
  none_before = λ k from gap. sym (same k) ∙ next.none_before k from gap;
  mapped = λ k from within. sym (same k) ∙ next.mapped k from within;
  ends = λ attr is. next.ends attr (same run.end ∙ is);
}
