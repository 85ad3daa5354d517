-- What gives back the share of a frame or of a slot, or takes an entry out: counts, and slots.
use Rattle.ranges.proofs.Names.{top_level, ◌≡◌, ◌≢◌, ℕ, inl, inr, ◌+◌, ◌<◌, true, false, Option, Some, None, refl, sym, ap, ◌∙◌, subst, arith, false≢true, Role, Free, Table, Private, Cache, FrameTable, role_of, IsFrame, IsHeld}
use Rattle.ranges.proofs.Names.{IsPage, Seat, seat, is_seat, holders_at, off, AreCounted, OthersSame, Picture, entry, IsOwned, count_in, page_in, IsRootedBut, IsFitBut, Nothing, nowhere, SetsPage, valid_zero}
use Rattle.ranges.proofs.Names.{count-same, one_less, owned_forth, owned_back, count_kept, page_kept, set_by, cases_seat, seat-same, seat-other, off-none, seat-none, each_page}

pub private_used : (r : Role) → r ≡ Private → r ≢ Free
private_used r p f = let bad : Private ≡ Free = sym p ∙ f in (cc)

pub cache_used : (r : Role) → r ≡ Cache → r ≢ Free
cache_used r p f = let bad : Cache ≡ Free = sym p ∙ f in (cc)

pub private_data : (r : Role) → r ≡ Private → r ≢ Table
private_data r p t = let bad : Private ≡ Table = sym p ∙ t in (cc)

pub cache_data : (r : Role) → r ≡ Cache → r ≢ Table
cache_data r p t = let bad : Cache ≡ Table = sym p ∙ t in (cc)

pub held_private : (t : FrameTable) (n : ℕ) → IsFrame t n → role_of t n ≡ Private → IsHeld t n
held_private t n inside private = record { inside = inside; handed_out = rw private refl }

pub sits : (o : Option Seat) (y : Seat) → o ≡ Some y → is_seat o y ≡ true
sits o y e = ap (λ z. is_seat z y) e ∙ seat-same y

sits_not : (o : Option Seat) (x y : Seat) → o ≡ Some x → x ≢ y → is_seat o y ≡ false
sits_not o x y e ne = ap (λ z. is_seat z y) e ∙ seat-other x y ne

pub sits_none : (o : Option Seat) (y : Seat) → o ≡ None → is_seat o y ≡ false
sits_none o y e = ap (λ z. is_seat z y) e

off-here : (x : Seat) (d : ℕ) → off x d x ≡ d
off-here x d = rw (seat-same x) refl

off-other : (x : Seat) (d : ℕ) (y : Seat) → x ≢ y → off x d y ≡ 0
off-other x d y ne = rw (seat-other x y ne) refl

-- Of the page (pid, page) the entry named seat x, and names none now: the count of x is one too high.
module _ (mode : ℕ) (old new : ℕ → ℕ → ℕ) (owned owned' : Seat → Type 0) (count count' page page' : Seat → ℕ) (x x' : Seat) (pid k : ℕ)
    (counted : AreCounted mode old owned count page x' 0) (forth : (z : Seat) → owned z → owned' z) (back : (z : Seat) → owned' z → owned z)
    (counts : (z : Seat) → owned z → count' z ≡ count z) (pages : (z : Seat) → owned z → page' z ≡ page z)
    (h : IsPage (top_level mode) k) (below : pid < 65) (from : seat (old pid k) ≡ Some x) (to : seat (new pid k) ≡ None) (others : OthersSame mode old new pid k) where
  noted_x : page x ≡ k
  noted_x = counted.noted pid k x h from

  held_x : owned x
  held_x = counted.named pid k x h from

  lost : holders_at old k x ≡ holders_at new k x + 1
  unfolding holders_at
  lost =
      one_less (λ q. is_seat (seat (old q k)) x) (λ q. is_seat (seat (new q k)) x) pid 65 below (sits (seat (old pid k)) x from) (sits_none (seat (new pid k)) x to)
      (λ q ne. ap (λ e. is_seat (seat e) x) (sym (others q k h (inl ne))))

  still : (z : Seat) (p : ℕ) → z ≢ x → IsPage (top_level mode) p → holders_at new p z ≡ holders_at old p z
  unfolding holders_at
  still z p ne h' = count-same (λ q. is_seat (seat (new q p)) z) (λ q. is_seat (seat (old q p)) z) 65 (λ q. each_page (λ a b. is_seat (seat (new a b)) z ≡ is_seat (seat (old a b)) z) q p pid k
      (sits_none (seat (new pid k)) z to ∙ sym (sits_not (seat (old pid k)) x z from (λ e. ne (sym e)))) (λ away. ap (λ e. is_seat (seat e) z) (others q p h' away)))

  seat_was : (q p : ℕ) (z : Seat) → IsPage (top_level mode) p → seat (new q p) ≡ Some z → seat (old q p) ≡ Some z
  seat_was q p z h' = each_page (λ a b. seat (new a b) ≡ Some z → seat (old a b) ≡ Some z) q p pid k (λ is. (let bad : None ≡ Some z = sym to ∙ is in (cc))) (λ away is. ap seat (sym (others q p h' away)) ∙ is)

  pub counted_emptied : AreCounted mode new owned' count' page' x 1
  counted_emptied = record {
    counts = λ z now. (
        let was = back z now in
        elim (cases_seat z x) [
          | inl e ↦ (
              let c = rw noted_x at (counted.counts x held_x) in
              rw e (rw (pages x held_x, noted_x) (omega (arith, c, counts x held_x, off-here x 1, off-none x' x, lost))))
          | inr ne ↦ (
              let a = off-other x 1 z (λ f. ne (sym f)) in
              rw (pages z was) (omega (arith, counts z was ∙ counted.counts z was, still z (page z) ne (counted.pages z was), a, off-none x' z)))
        ]);
    pages = λ z now. (let was = back z now in subst (λ (v : ℕ). IsPage (top_level mode) v) (sym (pages z was)) (counted.pages z was));
    named = λ q p z h' is. forth z (counted.named q p z h' (seat_was q p z h' is));
    noted = λ q p z h' is. (let was = seat_was q p z h' is in pages z (counted.named q p z h' was) ∙ counted.noted q p z h' was);
  }

-- the entry of a page, which named seat x, was taken out
module _ {mode : ℕ} (old new : Picture mode) (x : Seat) (m pid page : ℕ) (fit : IsFitBut old nowhere 0 m) (sets : SetsPage old new pid page 0) (h : IsPage (top_level mode) page) (below : pid < 65)
    (from : seat (entry old pid page) ≡ Some x) (rooted : IsRootedBut new m) where
  pub fit_emptied : IsFitBut new x 1 m
  fit_emptied = set_by old new pid page 0 m sets (Nothing refl) rooted (λ p valid common bit at. absurd (false≢true (sym valid_zero ∙ valid))) nowhere x 0 1 fit (
    fit.counted.0,
    counted_emptied mode (entry old) (entry new) (IsOwned old) (IsOwned new) (count_in old) (count_in new) (page_in old fit.counted.0) (page_in new fit.counted.0)
        x nowhere pid page fit.counted.1 (owned_forth old new sets.beside sets.shares) (owned_back old new sets.beside sets.shares) (count_kept old new sets.beside sets.shares)
        (λ z is. page_kept old new fit.counted.0 sets.beside z) h below from (ap seat sets.changed ∙ seat-none) sets.others,
  )

  pub owned_emptied : IsOwned new x
  owned_emptied = owned_forth old new sets.beside sets.shares x (fit.counted.1.named pid page x h from)
