-- Frames given up one after the other, and what becomes of entries then.
use Rattle.residency.{proofs.{Bits.{some_framed, framed, changed_once}, Names.{◌≡◌, ℕ, ◌<◌, inl, inr, true, Option, Some, None, sym, ap, ◌∙◌, subst, rules, false≢true, Free, Table, IsFull, frame_of}}, specs.Ages.{Ages, Same, Cleared, Left}}
use Rattle.residency.specs.{Ages.{LeavesFrame, IsGiven, GivesNone, GivesForTables}, Leaves.{concerns, Drops}, Picture.{Picture, entry, is_data}, declared.leaves.Change.{Change, TheVariants.{Forget, ClearAccessed}}}

pub ages_map : (g h : ℕ → Type 0) (e e' : ℕ) → ((n : ℕ) → g n → h n) → Ages g e e' → Ages h e e'
ages_map g h e e' more (Same same) = Same same
ages_map g h e e' more (Cleared is cleared) = Cleared is cleared
ages_map g h e e' more (Left is given left) = Left is (more (frame_of e) given) left

-- what lost its frame names none
left_none : (e e' : ℕ) (change : Change) → LeavesFrame e e' → concerns change e' ≡ true → ⊥
left_none e e' change (inl away) is = false≢true (sym (some_framed change e' is).1 ∙ away.1)
left_none e e' change (inr none) is = (some_framed change e' is).0 none.1

-- a frame is lost by an entry with A as by one without
left_dropped : (a b c : ℕ) → Drops a b → LeavesFrame b c → LeavesFrame a c
left_dropped a b c drops (inl away) = inl (sym drops.private ∙ away.0, away.1)
left_dropped a b c drops (inr none) = inr (sym drops.private ∙ none.0, none.1)

pub ages_then : (g : ℕ → Type 0) (a b c : ℕ) → Ages g a b → Ages g b c → Ages g a c
ages_then g a b c (Same same) then = let P : ℕ → Type 0 = λ x. Ages g x c in subst P same then
ages_then g a b c (Cleared is cleared) (Same same) = let P : ℕ → Type 0 = λ x. Ages g a x in subst P (sym same) (Cleared is cleared)
ages_then g a b c (Cleared is cleared) (Cleared again more) = absurd (false≢true (sym (changed_once ClearAccessed a b cleared) ∙ again))
ages_then g a b c (Cleared is cleared) (Left again given left) = Left (framed ClearAccessed a is) (subst g cleared.0.frame given) (left_dropped a b c cleared.0 left)
ages_then g a b c (Left is given left) (Same same) = let P : ℕ → Type 0 = λ x. Ages g a x in subst P (sym same) (Left is given left)
ages_then g a b c (Left is given left) (Cleared again more) = absurd (left_none a b ClearAccessed left again)
ages_then g a b c (Left is given left) (Left again more gone) = absurd (left_none a b Forget left again)

pub gives_same : {mode : ℕ} (c : Picture mode) → GivesForTables c c None
gives_same c = search (rules, inl, inr, Same)

pub full_then : {mode : ℕ} (old new : Picture mode) (tried : Option ℕ) → GivesForTables old new tried → IsFull old.frames → IsFull new.frames
full_then old new tried gives full = λ n inside free. elim (gives.roles n) [
  | inl same ↦ full n (let e = gives.count in let P : ℕ → Type 0 = λ k. n < k in subst P e inside) (sym same ∙ free)
  | inr table ↦ (let bad : Table ≡ Free = sym table.0 ∙ free in (cc))
]

-- what was given up stays so
given_still : {mode : ℕ} (a b c : Picture mode) (tried : Option ℕ) → GivesForTables b c tried → (n : ℕ) → IsGiven a b None n → IsGiven a c tried n
given_still a b c tried later n given = (
  given.0,
  elim given.1 [
    | inl gone ↦ elim (later.roles n) [ inl same ↦ inl (ap is_data same ∙ gone) | inr table ↦ inl (ap is_data table.0) ]
    | inr none ↦ (let bad : None ≡ Some n = none in (cc))
  ],
)

-- and what is given up later held a page from the beginning
given_later : {mode : ℕ} (a b c : Picture mode) (tried : Option ℕ) → GivesForTables a b None → (n : ℕ) → IsGiven b c tried n → IsGiven a c tried n
given_later a b c tried first n given = (
  elim (first.roles n) [ inl same ↦ sym (ap is_data same) ∙ given.0 | inr table ↦ absurd (false≢true (sym (ap is_data table.0) ∙ given.0)) ],
  given.1,
)

none_then : {mode : ℕ} (a b c : Picture mode) → GivesNone a b → GivesNone b c → GivesNone a c
none_then a b c f g = record {
  roles = λ n datum. (let first = f.roles n datum in g.roles n (ap is_data first ∙ datum) ∙ first);
  entries = λ pid page h. g.entries pid page h ∙ f.entries pid page h;
  places = λ p. g.places p ∙ f.places p;
}

pub gives_then : {mode : ℕ} (a b c : Picture mode) (tried : Option ℕ) → GivesForTables a b None → GivesForTables b c tried → GivesForTables a c tried
gives_then a b c tried f g = record {
  count = g.count ∙ f.count;
  roles = λ n. elim (f.roles n) [
    | inl was ↦ elim (g.roles n) [
      | inl same ↦ inl (same ∙ was)
      | inr table ↦ inr (
        table.0,
        elim table.1 [ inl free ↦ inl (sym was ∙ free) | inr datum ↦ inr (sym (ap is_data was) ∙ datum) ],
      )
    ]
    | inr taken ↦ elim (g.roles n) [ inl same ↦ inr (same ∙ taken.0, taken.1) | inr table ↦ inr (table.0, taken.1) ]
  ];
  entries = λ pid page h. ages_then (IsGiven a c tried) (entry a pid page) (entry b pid page) (entry c pid page)
      (ages_map (IsGiven a b None) (IsGiven a c tried) (entry a pid page) (entry b pid page) (given_still a b c tried g) (f.entries pid page h))
      (ages_map (IsGiven b c tried) (IsGiven a c tried) (entry b pid page) (entry c pid page) (given_later a b c tried f) (g.entries pid page h));
  pointers = λ n i m points. g.pointers n i m (f.pointers n i m points);
  needed = elim g.needed [
    | inl full ↦ inl full
    | inr none ↦ elim f.needed [ inl full ↦ inl (full_then b c tried g full) | inr first ↦ inr (none_then a b c first none) ]
  ];
}
