-- Rounds of the hand.
use Rattle.std.proofs.{Common.{◌≡◌, inl, inr, ℕ, ◌+◌, ◌-◌, ◌*◌, ◌%◌, ◌<◌, ◌≤◌, ◌==◌, if◌then◌else◌, sym, ap, ◌∙◌, subst, arith, eq-eqb, ne_eqb}, Math.Nat.{mod-eq_of_lt, add-mod_left}, lemmas.{Bool.{cases_eq, cases_lt}, Nat.{mod_below}}}
use Rattle.clock_replace.specs.{Choice.{place, IsPassed, Passes, Chooses, Keeps}, Look.{Looks, IsChoice, IsPast}, declared.frame_view.FrameView.{Ghosts}}

-- a number under three rounds
pub record Wraps (k total : ℕ) : Type 0 where
  pub low : k < total → k % total ≡ k
  pub mid : total ≤ k → k < 2 * total → k % total ≡ k - total
  pub high : 2 * total ≤ k → k < 3 * total → k % total ≡ k - 2 * total

less : (k total : ℕ) → total ≤ k → k % total ≡ (k - total) % total
less k total le = let e : k ≡ total + (k - total) = omega (arith, le) in ap (λ x. x % total) e ∙ add-mod_left total (k - total)

pub wraps : (k total : ℕ) → Wraps k total
wraps k total = record {
  low = λ lt. mod-eq_of_lt lt;
  mid = λ le lt. less k total le ∙ mod-eq_of_lt (omega (arith, le, lt));
  high = λ le lt. less k total (omega (arith, le)) ∙ less (k - total) total (omega (arith, le)) ∙ mod-eq_of_lt (omega (arith, le, lt)) ∙ (omega (arith, le));
}

-- the hand goes on
pub next_place : (hand total i : ℕ) → hand < total → i < 2 * total → (if place hand total i + 1 == total then 0 else place hand total i + 1) ≡ place hand total (i + 1)
next_place hand total i below few =
    let w = wraps (hand + i) total in
    let v = wraps (hand + (i + 1)) total in
    elim (cases_lt (hand + i) total) [
      | inl a ↦ (let p = w.low a in elim (cases_eq (hand + i + 1) total) [
        | inl e ↦ (let q = v.mid (omega (arith, e)) (omega (arith, e, below)) in rw (eq-eqb (place hand total i + 1) total (omega (arith, p, e))) (omega (arith, q, e)))
        | inr ne ↦ (let q = v.low (omega (arith, ne, a)) in rw (ne_eqb (place hand total i + 1) total (λ e. ne (omega (arith, p, e)))) (omega (arith, p, q)))
      ])
      | inr a' ↦ elim (cases_lt (hand + i) (2 * total)) [
        | inl b ↦ (let p = w.mid a' b in elim (cases_eq (hand + i + 1) (2 * total)) [
          | inl e ↦ (let q = v.high (omega (arith, e)) (omega (arith, e, below)) in rw (eq-eqb (place hand total i + 1) total (omega (arith, p, e, a'))) (omega (arith, q, e)))
          | inr ne ↦ (let q = v.mid (omega (arith, a')) (omega (arith, ne, b)) in rw (ne_eqb (place hand total i + 1) total (λ e. ne (omega (arith, p, e, a')))) (omega (arith, p, q, a')))
        ])
        | inr b' ↦ (
            let p = w.high b' (omega (arith, below, few)) in
            let q = v.high (omega (arith, b')) (omega (arith, below, few)) in
            rw (ne_eqb (place hand total i + 1) total (λ e. (omega (arith, p, e, below, few, b')))) (omega (arith, p, q, b')))
      ]
    ]

-- a round before, the hand was there
pub round_before : (hand total i : ℕ) → hand < total → total ≤ i → i < 2 * total → place hand total (i - total) ≡ place hand total i
round_before hand total i below from few =
    let e : hand + i - total ≡ hand + (i - total) = omega (arith, from) in
    sym (less (hand + i) total (omega (arith, from)) ∙ ap (λ x. x % total) e)

-- the second round comes to every place
pub second_round : (hand total m : ℕ) → hand < total → m < total → (j : ℕ) × (total ≤ j) × (j < 2 * total) × (m ≡ place hand total j)
second_round hand total m below inside = elim (cases_lt m hand) [
  | inl a ↦ (2 * total - hand + m, omega (arith, below), omega (arith, a, below), (let p = (wraps (hand + (2 * total - hand + m)) total).high (omega (arith, below)) (omega (arith, below, inside)) in omega (arith, p, below)))
  | inr b ↦ (total + (m - hand), omega arith, omega (arith, inside, b), (let p = (wraps (hand + (total + (m - hand))) total).mid (omega (arith, b)) (omega (arith, b, inside)) in omega (arith, p, b)))
]

module _ {V : Type 0} (g : Ghosts V) (hand i n : ℕ) (old mid new : V) (passes : Passes g old mid hand i) (below : hand < g.total old) (few : i < 2 * g.total old)
    (looks : Looks g mid new) (is : n ≡ place hand (g.total old) i) (looked : g.looks mid ≡ g.looks old + i) (follows : (a b c : V) → g.follows a b → g.follows b c → g.follows a c) where
  -- a frame that may be given up and has its mark in the first round alone
  round_one : g.evictable_at old n → g.marked mid n → i < g.total old
  round_one evictable marked = elim (cases_lt i (g.total old)) [
    | inl lt ↦ lt
    | inr le ↦ absurd ((passes.marked n marked).1 (i - g.total old, omega (arith, le, few, below), is ∙ sym (round_before hand (g.total old) i below le few), evictable))
  ]

  still : (m : ℕ) → IsPassed g old hand i m → IsPassed g old hand (i + 1) m
  still m p = (p.0, (let lt = p.1 in omega (arith, lt)), p.2, p.3)

  -- one frame more was passed
  pub passes_more : IsPast g mid new n → Passes g old new hand (i + 1)
  passes_more past = record {
    total = looks.total ∙ passes.total;
    evictable = λ m. (λ e. (passes.evictable m).0 (looks.back m e), λ e. looks.forth m ((passes.evictable m).1 e));
    marked = λ m now. (
        let was = past.back m now in (
          (passes.marked m was).0,
          λ p. elim (cases_eq p.0 i) [
            | inl e ↦ (
                let here : m ≡ n = p.2 ∙ ap (place hand (g.total old)) e ∙ sym is in
                let P : ℕ → Type 0 = λ x. g.marked new x in
                let Q : ℕ → Type 0 = λ x. g.evictable_at old x in
                past.lost ((passes.evictable n).1 (subst Q here p.3)) (subst P here now))
            | inr ne ↦ (passes.marked m was).1 (p.0, (let lt = p.1 in omega (arith, lt, ne)), p.2, p.3)
          ],
        ));
    unmarked = λ m was not_passed. past.forth m (passes.unmarked m was (λ p. not_passed (still m p))) (elim (cases_eq m n) [
      | inl e ↦ inr (λ evictable. not_passed (i, omega arith, e ∙ is, (let P : ℕ → Type 0 = λ x. g.evictable_at old x in subst P (sym e) ((passes.evictable n).0 evictable))))
      | inr ne ↦ inl ne
    ]);
    first_round = λ j lt evictable. elim (cases_eq j i) [
      | inl e ↦ (
          let here : place hand (g.total old) j ≡ n = ap (place hand (g.total old)) e ∙ sym is in
          let P : ℕ → Type 0 = λ x. g.evictable_at old x in
          let Q : ℕ → Type 0 = λ x. g.marked old x in
          let mine = subst P here evictable in
          let had = past.had ((passes.evictable n).1 mine) in
          let first = round_one mine had in
          (omega (arith, first, e), subst Q (sym here) (passes.marked n had).0))
      | inr ne ↦ passes.first_round j (omega (arith, lt, ne)) evictable
    ];
    follows = follows old mid new passes.follows looks.follows;
  }

  -- and this one is the choice
  pub chooses : (hand' : ℕ) → hand' ≡ place hand (g.total old) (i + 1) → IsChoice g mid new n → Chooses g old new hand hand' n
  chooses hand' past choice = record {
    before = i;
    few = few;
    passes = record {
      total = looks.total ∙ passes.total;
      evictable = λ m. (λ e. (passes.evictable m).0 (looks.back m e), λ e. looks.forth m ((passes.evictable m).1 e));
      marked = λ m now. passes.marked m (choice.back m now);
      unmarked = λ m was not_passed. choice.forth m (passes.unmarked m was not_passed);
      first_round = passes.first_round;
      follows = follows old mid new passes.follows looks.follows;
    };
    is = is;
    inside = (let low = mod_below (hand + i) (g.total old) (omega (arith, below)) in omega (arith, low, is));
    evictable = (passes.evictable n).0 choice.evictable;
    clear = λ now. choice.clear (choice.back n now);
    looks = (let a = looks.looks in omega (arith, a, looked));
    past = past;
  }

-- after two rounds no frame may be given up
pub none_left : {V : Type 0} (g : Ghosts V) (hand : ℕ) (old new : V) → Passes g old new hand (2 * g.total old) → hand < g.total old → (n : ℕ) → n < g.total old → g.evictable_at old n → ⊥
none_left g hand old new passes below n inside evictable =
    let at = second_round hand (g.total old) n below inside in
    let P : ℕ → Type 0 = λ x. g.evictable_at old x in
    let first = (passes.first_round at.0 at.2 (subst P at.3 evictable)).0 in
    let later = at.1 in
    omega (arith, first, later)

-- two rounds lead back to where the hand stood
pub full_turn : (hand total : ℕ) → hand < total → place hand total (2 * total) ≡ hand
full_turn hand total below = let p = (wraps (hand + 2 * total) total).high (omega arith) (omega (arith, below)) in omega (arith, p)

-- where no frame may be given up none was passed
pub all_kept : {V : Type 0} (g : Ghosts V) (hand i : ℕ) (old new : V) → Passes g old new hand i → hand < g.total old
    → ((n : ℕ) → n < g.total old → g.evictable_at old n → ⊥) → Keeps g old new
all_kept g hand i old new passes below none = record {
  total = passes.total;
  evictable = passes.evictable;
  marked = λ m. ((λ now. (passes.marked m now).0), (λ was. passes.unmarked m was (not_passed m)));
  follows = passes.follows;
}
  where
    not_passed : (m : ℕ) → IsPassed g old hand i m → ⊥
    not_passed m p = (let low = mod_below (hand + p.0) (g.total old) (omega (arith, below)) in let at = p.2 in none m (omega (arith, low, at)) p.3)
