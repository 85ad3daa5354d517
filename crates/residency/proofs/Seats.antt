-- Counts of seats: what each step does to them.
use Rattle.residency.proofs.Names.{top_level, if◌then◌else◌, ◌≡◌, ◌≢◌, ℕ, inl, inr, ◌+◌, ◌<◌, ◌⊎◌, true, false, Option, Some, None, refl, sym, ap, ◌∙◌, subst, arith, eq-eqb, ne_eqb, cases_eq, cases_Bool, false≢true, IsPage, one_less}
use Rattle.residency.{specs.Seats.{Seat, InFrame, InSlot, seat, same_seat, is_seat, holders_at, off, AreCounted, OthersSame}, proofs.{Ways.{by_page, each_page}, Counts.{count-same, count-none, count-positive}}}

pub cases_seat : (x y : Seat) → (x ≡ y) ⊎ (x ≢ y)
cases_seat (InFrame n) (InFrame m) = elim (cases_eq n m) [ inl e ↦ inl (ap (λ z. InFrame z) e) | inr ne ↦ inr (λ e. ne (cc)) ]
cases_seat (InSlot n) (InSlot m) = elim (cases_eq n m) [ inl e ↦ inl (ap (λ z. InSlot z) e) | inr ne ↦ inr (λ e. ne (cc)) ]
cases_seat x y = inr (λ e. (cc))

pub seat-same : (x : Seat) → same_seat x x ≡ true
seat-same (InFrame n) = eq-eqb n n refl
seat-same (InSlot n) = eq-eqb n n refl

pub seat-other : (x y : Seat) → x ≢ y → same_seat x y ≡ false
seat-other (InFrame n) (InFrame m) ne = ne_eqb n m (λ e. ne (ap (λ z. InFrame z) e))
seat-other (InSlot n) (InSlot m) ne = ne_eqb n m (λ e. ne (ap (λ z. InSlot z) e))
seat-other x y ne = refl

sits : (o : Option Seat) (y : Seat) → o ≡ Some y → is_seat o y ≡ true
sits o y e = ap (λ z. is_seat z y) e ∙ seat-same y

sits_not : (o : Option Seat) (x y : Seat) → o ≡ Some x → x ≢ y → is_seat o y ≡ false
sits_not o x y e ne = ap (λ z. is_seat z y) e ∙ seat-other x y ne

pub seated : (o : Option Seat) (y : Seat) → is_seat o y ≡ true → o ≡ Some y
seated None y e = (cc)
seated (Some x) y e = elim (cases_seat x y) [ inl same ↦ ap (λ z. Some z) same | inr ne ↦ absurd (false≢true (sym (seat-other x y ne) ∙ e)) ]

off-here : (x : Seat) (d : ℕ) → off x d x ≡ d
off-here x d = rw (seat-same x) refl

off-other : (x : Seat) (d : ℕ) (y : Seat) → x ≢ y → off x d y ≡ 0
off-other x d y ne = rw (seat-other x y ne) refl

pub some_seat : (x y : Seat) → Some x ≡ Some y → x ≡ y
some_seat x y e = (cc)

-- Of the page (pid, page) the entry names seat y now, whose count was off, and what it named before is off now.
module _ (mode : ℕ) (old new : ℕ → ℕ → ℕ) (owned owned' : Seat → Type 0) (count count' page page' : Seat → ℕ) (o : Option Seat) (x y : Seat) (d pid k : ℕ)
    (counted : AreCounted mode old owned count page y 1) (forth : (z : Seat) → owned z → owned' z) (back : (z : Seat) → owned' z → owned z)
    (counts : (z : Seat) → owned z → count' z ≡ count z) (pages : (z : Seat) → owned z → page' z ≡ page z)
    (has : owned y) (noted : page y ≡ k) (h : IsPage (top_level mode) k) (below : pid < 65) (from : seat (old pid k) ≡ o) (to : seat (new pid k) ≡ Some y) (apart : is_seat o y ≡ false)
    (others : OthersSame mode old new pid k) (rest : (z : Seat) → off x d z ≡ (if is_seat o z then 1 else 0)) where
  was_at : (z : Seat) → is_seat (seat (old pid k)) z ≡ is_seat o z
  was_at z = ap (λ s. is_seat s z) from

  gained : holders_at new k y ≡ holders_at old k y + 1
  unfolding holders_at
  gained =
      one_less (λ q. is_seat (seat (new q k)) y) (λ q. is_seat (seat (old q k)) y) pid 65 below (sits (seat (new pid k)) y to) (was_at y ∙ apart)
      (λ q ne. ap (λ e. is_seat (seat e) y) (others q k h (inl ne)))

  lost : (z : Seat) → z ≢ y → is_seat o z ≡ true → holders_at old k z ≡ holders_at new k z + 1
  unfolding holders_at
  lost z ne there =
      one_less (λ q. is_seat (seat (old q k)) z) (λ q. is_seat (seat (new q k)) z) pid 65 below (was_at z ∙ there) (sits_not (seat (new pid k)) y z to (λ e. ne (sym e)))
      (λ q away. ap (λ e. is_seat (seat e) z) (sym (others q k h (inl away))))

  still : (z : Seat) (p : ℕ) → z ≢ y → is_seat o z ≡ false → IsPage (top_level mode) p → holders_at new p z ≡ holders_at old p z
  unfolding holders_at
  still z p ne none h' = count-same (λ q. is_seat (seat (new q p)) z) (λ q. is_seat (seat (old q p)) z) 65 (λ q. each_page (λ a b. is_seat (seat (new a b)) z ≡ is_seat (seat (old a b)) z) q p pid k
      (sits_not (seat (new pid k)) y z to (λ e. ne (sym e)) ∙ sym (was_at z ∙ none)) (λ away. ap (λ e. is_seat (seat e) z) (others q p h' away)))

  now_at : (q p : ℕ) (z : Seat) → (q ≡ pid) × (p ≡ k) → seat (new q p) ≡ Some z → y ≡ z
  now_at q p z e is = some_seat y z (sym to ∙ ap seat (sym (ap (λ v. new v p) e.0 ∙ ap (λ v. new pid v) e.1)) ∙ is)

  counts_here : (z : Seat) → owned z → count z ≡ holders_at new (page z) z + off x d z
  counts_here z was =
      let before = counted.counts z was in
      let r = rest z in
      elim (cases_seat z y) [
        | inl e ↦ (
            let P : Seat → Type 0 = λ a. count a ≡ holders_at new (page a) a + off x d a in
            let Q : ℕ → Type 0 = λ v. holders_at new v y ≡ holders_at old v y + 1 in
            let none : off x d y ≡ 0 = rest y ∙ ap (λ b. if b then 1 else 0) apart in
            subst P (sym e) (omega (arith, counted.counts y has, subst Q (sym noted) gained, off-here y 1, none)))
        | inr ne ↦ (
            let none = off-other y 1 z (λ f. ne (sym f)) in
            elim (cases_Bool (is_seat o z)) [
              | inl there ↦ (
                  let Q : ℕ → Type 0 = λ v. holders_at old v z ≡ holders_at new v z + 1 in
                  let one : off x d z ≡ 1 = r ∙ ap (λ b. if b then 1 else 0) there in
                  omega (arith, before, subst Q (sym (counted.noted pid k z h (from ∙ seated o z there))) (lost z ne there), none, one))
              | inr away ↦ (let zero : off x d z ≡ 0 = r ∙ ap (λ b. if b then 1 else 0) away in omega (arith, before, still z (page z) ne away (counted.pages z was), none, zero))
            ])
      ]

  pub counted_put : AreCounted mode new owned' count' page' x d
  counted_put = record {
    counts = λ z now. (let was = back z now in let c = counts z was in let here = counts_here z was in rw (pages z was) (omega (arith, c, here)));
    pages = λ z now. (let was = back z now in let P : ℕ → Type 0 = λ v. IsPage (top_level mode) v in subst P (sym (pages z was)) (counted.pages z was));
    named = λ q p z h' is. elim (by_page q p pid k) [
      | inl e ↦ subst owned' (now_at q p z e is) (forth y has)
      | inr away ↦ forth z (counted.named q p z h' (ap seat (sym (others q p h' away)) ∙ is))
    ];
    noted = λ q p z h' is. elim (by_page q p pid k) [
      | inl e ↦ ap page' (sym (now_at q p z e is)) ∙ pages y has ∙ noted ∙ sym e.1
      | inr away ↦ (let was = ap seat (sym (others q p h' away)) ∙ is in pages z (counted.named q p z h' was) ∙ counted.noted q p z h' was)
    ];
  }

-- it named none before
module _ (mode : ℕ) (old new : ℕ → ℕ → ℕ) (owned owned' : Seat → Type 0) (count count' page page' : Seat → ℕ) (y : Seat) (pid k : ℕ)
    (counted : AreCounted mode old owned count page y 1) (forth : (z : Seat) → owned z → owned' z) (back : (z : Seat) → owned' z → owned z)
    (counts : (z : Seat) → owned z → count' z ≡ count z) (pages : (z : Seat) → owned z → page' z ≡ page z)
    (has : owned y) (noted : page y ≡ k) (h : IsPage (top_level mode) k) (below : pid < 65) (from : seat (old pid k) ≡ None) (to : seat (new pid k) ≡ Some y)
    (others : OthersSame mode old new pid k) where
  pub counted_filled : (x' : Seat) → ((z : Seat) → off x' 0 z ≡ 0) → AreCounted mode new owned' count' page' x' 0
  counted_filled x' none = counted_put mode old new owned owned' count count' page page' None x' y 0 pid k counted forth back counts pages has noted h below from to refl others none

-- no entry names another seat than before
pub seats_kept : (old new : ℕ → ℕ → ℕ) (z : Seat) (p : ℕ) → ((q : ℕ) → seat (new q p) ≡ seat (old q p)) → holders_at new p z ≡ holders_at old p z
unfolding holders_at
seats_kept old new z p same = count-same (λ q. is_seat (seat (new q p)) z) (λ q. is_seat (seat (old q p)) z) 65 (λ q. ap (λ o. is_seat o z) (same q))

pub off-none : (x y : Seat) → off x 0 y ≡ 0
off-none x y = elim (cases_seat x y) [ inl e ↦ (let P : Seat → Type 0 = λ z. off x 0 z ≡ 0 in subst P e (off-here x 0)) | inr ne ↦ off-other x 0 y ne ]

by_one : (x z : Seat) (n n' : Seat → ℕ) → n' x ≡ n x + 1 → (z ≢ x → n' z ≡ n z) → n' z ≡ n z + off x 1 z
by_one x z n n' more same = elim (cases_seat z x) [
  | inl e ↦ (let here = off-here x 1 in rw e (omega (arith, more, here)))
  | inr ne ↦ (let s = same ne in let none = off-other x 1 z (λ e. ne (sym e)) in omega (arith, s, none))
]

not_there : (x : Seat) (o : Option Seat) → ((y : Seat) → o ≡ Some y → y ≢ x) → is_seat o x ≡ false
not_there x None none = refl
not_there x (Some y) none = seat-other y x (none y refl)

-- a seat that no entry names has no holder
pub holders_none : (entries : ℕ → ℕ → ℕ) (p : ℕ) (x : Seat) → ((q : ℕ) → seat (entries q p) ≢ Some x) → holders_at entries p x ≡ 0
unfolding holders_at
holders_none entries p x none = count-none (λ q. is_seat (seat (entries q p)) x) 65 (λ q. not_there x (seat (entries q p)) (λ y is e. none q (is ∙ ap (λ z. Some z) e)))

module _ (mode : ℕ) (old new : ℕ → ℕ → ℕ) (owned owned' : Seat → Type 0) (count count' page page' : Seat → ℕ) (same : (q p : ℕ) → IsPage (top_level mode) p → seat (new q p) ≡ seat (old q p)) where
  -- Of the seats that are owned afterwards each was owned before, at the same page, and its count changed as it is off.
  counted_by : (x x' : Seat) (d d' : ℕ) → AreCounted mode old owned count page x d → ((z : Seat) → owned' z → owned z) → ((z : Seat) → owned z → page' z ≡ page z)
      → ((z : Seat) → owned' z → count' z + off x d z ≡ count z + off x' d' z) → ((q p : ℕ) (z : Seat) → IsPage (top_level mode) p → seat (old q p) ≡ Some z → owned' z)
      → AreCounted mode new owned' count' page' x' d'
  counted_by x x' d d' counted back pages counts named = record {
    counts = λ z now. (
        let was = back z now in
        rw (pages z was) (omega (arith, counted.counts z was, seats_kept old new z (page z) (λ q. same q (page z) (counted.pages z was)), counts z now)));
    pages = λ z now. (let was = back z now in let P : ℕ → Type 0 = λ v. IsPage (top_level mode) v in subst P (sym (pages z was)) (counted.pages z was));
    named = λ q p z h is. named q p z h (sym (same q p h) ∙ is);
    noted = λ q p z h is. (let was = sym (same q p h) ∙ is in pages z (counted.named q p z h was) ∙ counted.noted q p z h was);
  }

  pub counted_same : (x : Seat) (d : ℕ) → AreCounted mode old owned count page x d → ((z : Seat) → owned z → owned' z) → ((z : Seat) → owned' z → owned z)
      → ((z : Seat) → owned z → count' z ≡ count z) → ((z : Seat) → owned z → page' z ≡ page z) → AreCounted mode new owned' count' page' x d
  counted_same x d counted forth back counts pages =
      counted_by x x d d counted back pages (λ z now. ap (λ v. v + off x d z) (counts z (back z now))) (λ q p z h is. forth z (counted.named q p z h is))

  unnamed : (x : Seat) → (x' : Seat) (d : ℕ) → AreCounted mode old owned count page x' d → (owned x → ⊥) → (p : ℕ) → IsPage (top_level mode) p → holders_at new p x ≡ 0
  unfolding holders_at
  unnamed x x' d counted fresh p h = count-none (λ q. is_seat (seat (new q p)) x) 65 (λ q. not_there x (seat (new q p)) (λ y is e. fresh (subst owned e (counted.named q p y h (sym (same q p h) ∙ is)))))

  -- a seat was taken that nobody had, and no entry names it yet
  pub counted_fresh : (x x' : Seat) (k : ℕ) → AreCounted mode old owned count page x' 0 → (owned x → ⊥) → ((z : Seat) → z ≢ x → owned z → owned' z) → ((z : Seat) → z ≢ x → owned' z → owned z)
      → ((z : Seat) → z ≢ x → owned z → count' z ≡ count z) → ((z : Seat) → z ≢ x → owned z → page' z ≡ page z) → count' x ≡ 1 → page' x ≡ k → IsPage (top_level mode) k
      → AreCounted mode new owned' count' page' x 1
  counted_fresh x x' k counted fresh forth back counts pages one noted h =
      let other : (q p : ℕ) (z : Seat) → IsPage (top_level mode) p → seat (new q p) ≡ Some z → z ≢ x = λ q p z h' is e. fresh (subst owned e (counted.named q p z h' (sym (same q p h') ∙ is))) in
      record {
        counts = λ z now. elim (cases_seat z x) [
          | inl e ↦ (
              let none : holders_at new (page' x) x ≡ 0 = unnamed x x' 0 counted fresh (page' x) (let P : ℕ → Type 0 = λ v. IsPage (top_level mode) v in subst P (sym noted) h) in
              rw e (omega (arith, one, none, off-here x 1)))
          | inr ne ↦ (
              let was = back z ne now in
              let k = seats_kept old new z (page z) (λ q. same q (page z) (counted.pages z was)) in
              rw (pages z ne was) (omega (arith, counted.counts z was, off-none x' z, off-other x 1 z (λ e. ne (sym e)), counts z ne was, k)))
        ];
        pages = λ z now. elim (cases_seat z x) [
          | inl e ↦ (let P : Seat → Type 0 = λ v. IsPage (top_level mode) (page' v) in let Q : ℕ → Type 0 = λ v. IsPage (top_level mode) v in subst P (sym e) (subst Q (sym noted) h))
          | inr ne ↦ (let was = back z ne now in let P : ℕ → Type 0 = λ v. IsPage (top_level mode) v in subst P (sym (pages z ne was)) (counted.pages z was))
        ];
        named = λ q p z h' is. forth z (other q p z h' is) (counted.named q p z h' (sym (same q p h') ∙ is));
        noted = λ q p z h' is. (let was = sym (same q p h') ∙ is in pages z (other q p z h' is) (counted.named q p z h' was) ∙ counted.noted q p z h' was);
      }

  -- one more shares a seat, and no entry names it for that yet
  pub counted_shared : (x x' : Seat) → AreCounted mode old owned count page x' 0 → ((z : Seat) → owned z → owned' z) → ((z : Seat) → owned' z → owned z)
      → ((z : Seat) → z ≢ x → owned z → count' z ≡ count z) → ((z : Seat) → owned z → page' z ≡ page z) → count' x ≡ count x + 1 → AreCounted mode new owned' count' page' x 1
  counted_shared x x' counted forth back counts pages more = counted_by x' x 0 1 counted back pages
      (λ z now. (let b = by_one x z count count' more (λ ne. counts z ne (back z now)) in let none = off-none x' z in omega (arith, b, none))) (λ q p z h is. forth z (counted.named q p z h is))

  -- an entry that names a seat whose count is one too high isn't alone
  pub not_alone : (x : Seat) → AreCounted mode old owned count page x 1 → (q p : ℕ) → IsPage (top_level mode) p → q < 65 → seat (old q p) ≡ Some x → 1 < count x
  unfolding holders_at
  not_alone x counted q p h below is =
      let at = counted.noted q p x h is in
      let P : ℕ → Type 0 = λ v. 0 < holders_at old v x in
      let some : 0 < holders_at old (page x) x = subst P (sym at) (count-positive (λ r. is_seat (seat (old r p)) x) q 65 below (sits (seat (old q p)) x is)) in
      omega (arith, counted.counts x (counted.named q p x h is), off-here x 1, some)

  -- one less shares a seat, from which an entry was moved away; it is nobody's where nobody is left
  pub counted_released : (x x' : Seat) → AreCounted mode old owned count page x 1 → owned x → ((z : Seat) → (z ≢ x) ⊎ (1 < count z) → owned z → owned' z) → ((z : Seat) → owned' z → owned z)
      → ((z : Seat) → z ≢ x → owned z → count' z ≡ count z) → ((z : Seat) → owned z → page' z ≡ page z) → count' x + 1 ≡ count x
      → ((q p : ℕ) (z : Seat) → IsPage (top_level mode) p → seat (old q p) ≡ Some z → q < 65) → AreCounted mode new owned' count' page' x' 0
  counted_released x x' counted held forth back counts pages less below = counted_by x x' 1 0 counted back pages
      (λ z now. (let b = by_one x z count' count (sym less) (λ ne. sym (counts z ne (back z now))) in let none = off-none x' z in omega (arith, b, none)))
      (λ q p z h is. (
      let has = counted.named q p z h is in
      elim (cases_seat z x) [
        | inl e ↦ forth z (inr (rw e (not_alone x counted q p h (below q p z h is) (is ∙ ap (λ v. Some v) e)))) has
        | inr ne ↦ forth z (inl ne) has
      ]))

  -- a seat that no entry names is nobody's now
  pub counted_left : (x x' : Seat) → AreCounted mode old owned count page x 1 → owned x → count x ≡ 1 → (owned' x → ⊥) → ((z : Seat) → z ≢ x → owned z → owned' z) → ((z : Seat) → owned' z → owned z)
      → ((z : Seat) → z ≢ x → owned z → count' z ≡ count z) → ((z : Seat) → owned z → page' z ≡ page z)
      → ((q p : ℕ) (z : Seat) → IsPage (top_level mode) p → seat (old q p) ≡ Some z → q < 65) → AreCounted mode new owned' count' page' x' 0
  counted_left x x' counted held one gone forth back counts pages below = counted_by x x' 1 0 counted back pages
      (λ z now. (
      let ne : z ≢ x = λ e. gone (subst owned' e now) in
      omega (arith, counts z ne (back z now), off-none x' z, off-other x 1 z (λ e. ne (sym e)))))
      (λ q p z h is. forth z (λ e. (let more = not_alone x counted q p h (below q p z h is) (is ∙ ap (λ v. Some v) e) in omega (arith, more, one))) (counted.named q p z h is))
