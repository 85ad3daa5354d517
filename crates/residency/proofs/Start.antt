-- Memory as it is made.
use Rattle.residency.proofs.Names.{◌≡◌, ◌≢◌, ℕ, inl, inr, ◌⊎◌, false, Option, Some, None, refl, sym, ap, ◌∙◌, subst, arith, rules, cases_eq, cases_lt, false≢true, get_or_past, IsSome, names, uses, PageKey, Attr, Free, Zero, Table, Private, Cache}
use Rattle.residency.proofs.Names.{FrameTable, frame_count, role_of, IsSound, IsFresh, Role, has_bit, IsTable, fresh_forest, Home, Frame, Slot}
use Rattle.residency.specs.{Picture.{Picture, entry, is_private, entry_under, IsOwned}, Seats.{Seat, InFrame, InSlot, seat}, Parts.{IsFit, Nothing}}

pub no_bit : is_private 0 ≡ false
unfolding has_bit
no_bit = refl

pub seat-none : seat 0 ≡ None
unfolding has_bit
seat-none = refl

pub entry-dead : {mode : ℕ} (c : Picture mode) (pid page : ℕ) → c.root pid ≡ None → entry c pid page ≡ 0
unfolding entry
entry-dead {mode} c pid page dead = ap (λ r. entry_under mode c.frames r page) dead

pub cases_some : (o : Option ℕ) → (o ≡ None) ⊎ ((r : ℕ) × (o ≡ Some r))
cases_some None = inl refl
cases_some (Some r) = inr (r, refl)

-- the roles of memory of which no frame was handed out
fresh_role : (t : FrameTable) (count n : ℕ) → IsSound t → IsFresh t count → (role_of t n ≡ Free) ⊎ (role_of t n ≡ Zero)
fresh_role t count n sound fresh = elim (cases_eq n 0) [
  | inl e ↦ inr (ap (role_of t) e ∙ sound.zero_role)
  | inr ne ↦ elim (cases_lt n (frame_count t)) [
    | inl inside ↦ inl (fresh.free n (omega arith) inside)
    | inr past ↦ inl (get_or_past t.roles n Free (omega (arith, sound.all_roles, past)))
  ]
]

module _ {mode : ℕ} (c : Picture mode) (count : ℕ) (sound : IsSound c.frames) (fresh : IsFresh c.frames count) (dead : (pid : ℕ) → c.root pid ≡ None)
    (unmapped : (pid page : ℕ) → c.at pid page ≡ None) (home : (p : PageKey) → c.place p ≡ Home) (untouched : (p : PageKey) → c.touched p ≡ false)
    (free : (k : ℕ) → c.slots.count k ≡ 0) where
  is_not : (n : ℕ) (r : Role) → Free ≢ r → Zero ≢ r → role_of c.frames n ≢ r
  is_not n r free zero e = elim (fresh_role c.frames count n sound fresh) [ inl f ↦ free (sym f ∙ e) | inr z ↦ zero (sym z ∙ e) ]

  no_root : (pid r : ℕ) → c.root pid ≡ Some r → ⊥
  no_root pid r e = let bad : None ≡ Some r = sym (dead pid) ∙ e in (cc)

  no_table : (m : ℕ) → IsTable c.frames m → ⊥
  no_table m table = is_not m Table (λ f. (cc)) (λ z. (cc)) table.role

  no_seat : (pid page : ℕ) (y : Seat) → seat (entry c pid page) ≡ Some y → ⊥
  no_seat pid page y e = let none : seat (entry c pid page) ≡ None = ap seat (entry-dead c pid page (dead pid)) ∙ seat-none in let bad : None ≡ Some y = sym none ∙ e in (cc)

  not_owned : (y : Seat) → IsOwned c y → ⊥
  not_owned (InFrame n) e = is_not n Private (λ f. (cc)) (λ z. (cc)) e
  not_owned (InSlot k) e = let none = free k in let some = e.0 in omega (arith, none, some)

  no_frame : (p : PageKey) (n : ℕ) → c.place p ≡ Frame (record { 0 = n }) → ⊥
  no_frame p n e = let bad : Home ≡ Frame (record { 0 = n }) = sym (home p) ∙ e in (cc)

  pub start_fit : IsFit c
  start_fit = record {
    counted = (
      λ k. 0,
      search (rules, absurd, not_owned, no_seat),
    );
    rooted = search (rules, absurd, no_root, no_table, fresh_forest c.frames count sound fresh);
    granting = record {
      entries = λ pid page h. Nothing (entry-dead c pid page (dead pid));
      user = λ pid. record {
        user_pages = λ page some. absurd (false≢true (let P : Option Attr → Type 0 = λ x. IsSome x in subst P (unmapped pid page) some));
        file_pages = λ page. rw (unmapped pid page) tt;
      };
      readable = λ pid page. rw (unmapped pid page) tt;
      objects = record {
        one_page = λ p q j k object page here there. absurd (false≢true (sym (ap (λ a. names a object page) (unmapped p j)) ∙ here));
        below = λ pid page object here. absurd (false≢true (sym (ap (λ a. uses a object) (unmapped pid page)) ∙ here));
      };
    };
    places = record {
      cached = λ p n e. absurd (no_frame p n e);
      held = λ n e. absurd (is_not n Cache (λ f. (cc)) (λ z. (cc)) e);
      apart = λ p q e away. absurd (away (home p));
      slotted = λ p k e. (let bad : Home ≡ Slot (record { 0 = k }) = sym (home p) ∙ e in (cc));
      used = λ k some. absurd (let none = free k in omega (arith, none, some));
      inside = λ p away. absurd (away (home p));
    };
    dirty = record {
      dirty = λ pid page p h valid common dirty here. absurd (no_frame p _ here);
      held = λ p e at_home. false≢true (sym (untouched p) ∙ e);
      slotted = λ p k e. (let bad : Home ≡ Slot (record { 0 = k }) = sym (home p) ∙ e in (cc));
    };
  }
