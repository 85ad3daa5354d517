-- Rows of pages given to the child, one after the other.
use Rattle.lifecycle.proofs.Names.{top_level, ◌≡◌, ◌≢◌, ℕ, inl, inr, ◌⊎◌, ◌<◌, ◌/◌, ◌≤◌, Option, Some, None, refl, sym, ap, ◌∙◌, arith, cases_lt, option_map, IsPage, IsInUse, InSlot, seat, Picture, entry, bytes_in, IsFit, IsWhole}
use Rattle.lifecycle.proofs.Names.{seat-none, none_common, none_here, tables_same, tables_then, room_then, but_then, one_page, same_but-refl}
use Rattle.lifecycle.{specs.{Steps.{HasTablesForCopies}, Shares.{lowered_entry, given_entry, SharesRow}}, proofs.{Given.{view_alike}, Linked.{whole_kept, row_whole}, Weaker.{seat_lowered}}}

lowered_none : (e : ℕ) → seat e ≡ None → e ≡ lowered_entry e
lowered_none e none = let common = none_common e none in rw common refl

given_none : (e n : ℕ) → seat e ≡ None → n ≡ 0 → n ≡ given_entry e
given_none e n none bare = let common = none_common e none in let here = none_here e none in rw (common, here) bare

-- pages of which the parent has no copy
pub shares_none : {mode : ℕ} (c : Picture mode) (parent child low high : ℕ) → ((p : ℕ) → c.at child p ≡ c.at parent p) → ((p : ℕ) → IsPage (top_level mode) p → low ≤ p → p < high → entry c child p ≡ 0)
    → ((p : ℕ) → IsPage (top_level mode) p → low ≤ p → p < high → seat (entry c parent p) ≡ None) → SharesRow c c parent child low high
shares_none c parent child low high same bare none = record {
  beside = same_but-refl c;
  room = record { frames = refl; slots = refl };
  roles = λ n. refl;
  lowered = λ p h least under. lowered_none (entry c parent p) (none p h least under);
  given = λ p h least under. given_none (entry c parent p) (entry c child p) (none p h least under) (bare p h least under);
  others = λ q p h out. refl;
  shown = λ p h least under. view_alike c c parent child p (same p)
      (ap (λ o. option_map (bytes_in c.frames c.slots) o) (ap seat (bare p h least under) ∙ seat-none ∙ sym (none p h least under)));
  views = λ q p out. refl;
  held = λ p. refl;
  tables = tables_same c c (λ q r p e. refl);
  raised = λ y p h least under is. (let bad : None ≡ Some y = sym (none p h least under) ∙ is in (cc));
  kept = λ y other. refl;
  no_fewer = λ y. omega arith;
  pointers = λ n i m p. p;
  bytes = λ k used. refl;
}

-- one row after the other
module _ {mode : ℕ} (a b c : Picture mode) (parent child low mid high : ℕ) (fit : IsFit a) (apart : parent ≢ child) (le : low ≤ mid) (le' : mid ≤ high)
    (one : SharesRow a b parent child low mid) (two : SharesRow b c parent child mid high) where
  above : (p : ℕ) → IsPage (top_level mode) p → mid ≤ p → entry b parent p ≡ entry a parent p
  above p h from = one.others parent p h (inr (inr from))

  out_front : (p : ℕ) → (p < low) ⊎ (high ≤ p) → (p < low) ⊎ (mid ≤ p)
  out_front p (inl under) = inl under
  out_front p (inr over) = inr (omega (arith, over, le'))

  out_back : (p : ℕ) → (p < low) ⊎ (high ≤ p) → (p < mid) ⊎ (high ≤ p)
  out_back p (inl under) = inl (omega (arith, under, le))
  out_back p (inr over) = inr over

  used_still : (k : ℕ) → IsInUse a.slots k → a.slots.count k ≤ b.slots.count k → IsInUse b.slots k
  used_still k used more = omega (arith, used, more)

  pub shares_then : SharesRow a c parent child low high
  shares_then = record {
    beside = but_then a b c one.beside two.beside;
    room = room_then a b c one.room two.room;
    roles = λ n. two.roles n ∙ one.roles n;
    lowered = λ p h least under. elim (cases_lt p mid) [
      | inl front ↦ two.others parent p h (inr (inl front)) ∙ one.lowered p h least front
      | inr back ↦ two.lowered p h back under ∙ ap lowered_entry (above p h back)
    ];
    given = λ p h least under. elim (cases_lt p mid) [
      | inl front ↦ two.others child p h (inr (inl front)) ∙ one.given p h least front
      | inr back ↦ two.given p h back under ∙ ap given_entry (above p h back)
    ];
    others = λ q p h other. elim other [
      | inl ne ↦ two.others q p h (inl ne) ∙ one.others q p h (inl ne)
      | inr out ↦ two.others q p h (inr (out_back p out)) ∙ one.others q p h (inr (out_front p out))
    ];
    shown = λ p h least under. elim (cases_lt p mid) [
      | inl front ↦ two.views child p (inr (inl front)) ∙ one.shown p h least front
      | inr back ↦ two.shown p h back under ∙ one.views parent p (inl apart)
    ];
    views = λ q p other. elim other [
      | inl ne ↦ two.views q p (inl ne) ∙ one.views q p (inl ne)
      | inr out ↦ two.views q p (inr (out_back p out)) ∙ one.views q p (inr (out_front p out))
    ];
    held = λ p. two.held p ∙ one.held p;
    tables = tables_then a b c one.beside.root one.tables two.tables;
    raised = λ y p h least under is. elim (cases_lt p mid) [
      | inl front ↦ (
          let second = two.kept y (λ q hq from below there. (let e : p ≡ q = one_page a parent p q y fit h hq is (sym (ap seat (above q hq from)) ∙ there) in omega (arith, e, front, from))) in
          omega (arith, one.raised y p h least front is, second))
      | inr back ↦ (
          let first = one.kept y (λ q hq from below there. (let e : p ≡ q = one_page a parent p q y fit h hq is there in omega (arith, e, back, below))) in
          omega (arith, first, two.raised y p h back under (ap seat (above p h back) ∙ is)))
    ];
    kept = λ y other. two.kept y (λ q hq from below there. other q hq (omega (arith, le, from)) below (sym (ap seat (above q hq from)) ∙ there))
        ∙ one.kept y (λ q hq from below. other q hq from (omega (arith, below, le')));
    no_fewer = λ y. (let x = one.no_fewer y in let z = two.no_fewer y in omega (arith, x, z));
    pointers = λ n i m p. two.pointers n i m (one.pointers n i m p);
    bytes = λ k used. two.bytes k (used_still k used (one.no_fewer (InSlot k))) ∙ one.bytes k used;
  }

-- the child still has its tables
pub tables_shared : {mode : ℕ} (a b : Picture mode) (parent child low high : ℕ) → parent ≢ child → SharesRow a b parent child low high → ((p : ℕ) → IsPage (top_level mode) p → seat (entry b parent p) ≡ seat (entry a parent p))
    → HasTablesForCopies a parent child → HasTablesForCopies b parent child
tables_shared a b parent child low high apart shares same has p copy =
    whole_kept a b child p shares.beside.root shares.tables (has p (copy.0, λ none. copy.1 (same p copy.0 ∙ none)))

-- the parent has the copies that it had
pub seats_kept : {mode : ℕ} (a b : Picture mode) (parent child low high : ℕ) → SharesRow a b parent child low high → (p : ℕ) → IsPage (top_level mode) p → seat (entry b parent p) ≡ seat (entry a parent p)
seats_kept a b parent child low high shares p h = elim (cases_lt p low) [
  | inl under ↦ ap seat (shares.others parent p h (inr (inl under)))
  | inr least ↦ elim (cases_lt p high) [
    | inl inside ↦ ap seat (shares.lowered p h least inside) ∙ seat_lowered (entry a parent p)
    | inr over ↦ ap seat (shares.others parent p h (inr (inr over)))
  ]
]

none_or_some : {T : Type 0} (o : Option T) → (o ≡ None) ⊎ (o ≢ None)
none_or_some None = inl refl
none_or_some (Some x) = inr (λ none. (let bad : Some x ≡ None = none in (cc)))

-- where the child has no table for the pages of one table, the parent has no copy of them
pub none_of_row : {mode : ℕ} (c : Picture mode) (parent child start p : ℕ) → HasTablesForCopies c parent child → (IsWhole c child start → ⊥) → p / 512 ≡ start / 512 → IsPage (top_level mode) p → seat (entry c parent p) ≡ None
none_of_row c parent child start p has missing same h = elim (none_or_some (seat (entry c parent p))) [
  | inl none ↦ none
  | inr some ↦ absurd (missing (row_whole c child p start same (has p (h, some))))
]
