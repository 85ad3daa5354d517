-- ListsTouched of file pages to which others are appended, each once.
use Rattle.msync.{proofs.Names.{ℕ, ◌≡◌, ◌<◌, ◌≤◌, ◌⊎◌, ⊎_elim, Bool, true, List, [], length, Result, Ok, Err, refl, sym, ap, ◌∙◌, subst, arith, cases_lt, IfOk, FilePage}, specs.Choice.{chosen_page, Appends, OverflowsRow, ListsTouched}}

-- nothing passes
pub nothing : (passes : FilePage → Bool) (list : List FilePage) (used : ℕ) → used ≤ length list → ((page : FilePage) → passes page ≡ true → ⊥) → Appends passes list list used used
nothing passes list used few none = record {
  size = refl;
  order = omega arith;
  few = few;
  kept = λ i less. refl;
  each = λ i low high. absurd (omega arith);
  once = λ i j less low high. absurd (omega arith);
  all = λ page e. absurd (none page e);
}

-- first some are appended, and then others
pub in_turn : (a b c : FilePage → Bool) (x y z : List FilePage) (u v w : ℕ)
    → ((p : FilePage) → a p ≡ true → c p ≡ true) → ((p : FilePage) → b p ≡ true → c p ≡ true)
    → ((p : FilePage) → c p ≡ true → (a p ≡ true) ⊎ (b p ≡ true))
    → Appends a x y u v → Appends b y z v w → Appends c x z u w
in_turn a b c x y z u v w from_a from_b to f g = record {
  size = g.size ∙ f.size;
  order = omega (arith, f.order, g.order);
  few = omega (arith, g.few, f.size);
  kept = λ i less. g.kept i (omega (arith, f.order)) ∙ f.kept i less;
  each = λ i low high.
      ⊎_elim (λ (less : i < v). from_a (chosen_page z i) (ap a (g.kept i less) ∙ f.each i low less))
      (λ (more : v ≤ i). from_b (chosen_page z i) (g.each i more high))
      (cases_lt i v);
  once = λ i j less low high.
      ⊎_elim (λ (below : j < v). λ e. f.once i j less low below (sym (g.kept i (omega arith)) ∙ e ∙ g.kept j below))
      (λ (more : v ≤ j). g.once i j less more high)
      (cases_lt j v);
  all = λ p e. ⊎_elim (λ (h : a p ≡ true). let r = f.all p h in (r.0, omega (arith, r.1, g.order), g.kept r.0 r.1 ∙ r.2)) (λ (h : b p ≡ true). g.all p h) (to p e);
}

-- the same under another name
pub renamed : (a c : FilePage → Bool) (x y : List FilePage) (u v : ℕ)
    → ((p : FilePage) → a p ≡ true → c p ≡ true) → ((p : FilePage) → c p ≡ true → a p ≡ true) → Appends a x y u v → Appends c x y u v
renamed a c x y u v from to f = record {
  size = f.size;
  order = f.order;
  few = f.few;
  kept = f.kept;
  each = λ i low high. from (chosen_page y i) (f.each i low high);
  once = f.once;
  all = λ p e. f.all p (to p e);
}

-- some are appended, and then others would be too many
pub over : (a b c : FilePage → Bool) (x y : List FilePage) (u v : ℕ)
    → ((p : FilePage) → a p ≡ true → c p ≡ true) → ((p : FilePage) → b p ≡ true → c p ≡ true)
    → Appends a x y u v → OverflowsRow b y v → OverflowsRow c x u
over a b c x y u v from_a from_b f g = record {
  at = g.at;
  kept = λ i less. g.kept i (omega (arith, f.order)) ∙ f.kept i less;
  each = λ i low high.
      ⊎_elim (λ (less : i < v). from_a (g.at i) (ap a (g.kept i less) ∙ f.each i low less))
      (λ (more : v ≤ i). from_b (g.at i) (g.each i more (omega (arith, f.size, high))))
      (cases_lt i v);
  once = λ i j less low high.
      ⊎_elim (λ (below : j < v). λ e. f.once i j less low below (sym (g.kept i (omega arith)) ∙ e ∙ g.kept j below))
      (λ (more : v ≤ j). g.once i j less more (omega (arith, f.size, high)))
      (cases_lt j v);
}

-- where the list was empty, all of it was appended
pub listed : (a : FilePage → Bool) (x y : List FilePage) (n : ℕ) → Appends a x y 0 n → ListsTouched a y n
listed a x y n f = record { each = λ i less. f.each i (omega arith) less; once = λ i j less high. f.once i j less (omega arith) high; all = f.all }

-- one that follows from two on the value
pub both_ok : {T E : Type 0} (P Q R : T → Type 0) (r : Result T E) → ((x : T) → P x → Q x → R x) → IfOk r P → IfOk r Q → IfOk r R
both_ok P Q R (Ok x) f p q = f x p q
both_ok P Q R (Err e) f p q = tt

-- where no place is used, what the list held doesn't matter
pub over_none : (a : FilePage → Bool) (x y : List FilePage) → length y ≡ length x → OverflowsRow a x 0 → OverflowsRow a y 0
over_none a x y size g = record {
  at = g.at;
  kept = λ i less. absurd (omega arith);
  each = λ i low high. g.each i low (omega (arith, size, high));
  once = λ i j less low high. g.once i j less low (omega (arith, size, high));
}

pub lists_none : (a : FilePage → Bool) (x : List FilePage) → ListsTouched a x 0 → ListsTouched a [] 0
lists_none a x f = record {
  each = λ i less. absurd (omega arith);
  once = λ i j less high. absurd (omega arith);
  all = λ p e. let r = f.all p e in absurd (let less = r.1 in omega arith);
}

pub lists_same : (a c : FilePage → Bool) (y : List FilePage) (n : ℕ) → ((p : FilePage) → a p ≡ c p) → ListsTouched a y n → ListsTouched c y n
lists_same a c y n same f = let alike : a ≡ c = λ t p. same p t in subst (λ (passes : FilePage → Bool). ListsTouched passes y n) alike f
