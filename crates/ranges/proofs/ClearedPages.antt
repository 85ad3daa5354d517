-- Pages without entries.
use Rattle.vm_types.specs.declared.mode.Levels as Levels
use Rattle.ranges.proofs.Names.{top_level, ◌≡◌, ◌≢◌, ℕ, suc, inl, inr, ◌⊎◌, ◌+◌, ◌<◌, ◌≤◌, true, Option, Some, None, get_or, refl, sym, ap, ◌∙◌, arith, rules, cases_eq, cases_lt, false≢true, Free, FrameTable, role_of, is_valid, IsPage}
use Rattle.ranges.proofs.Names.{IsTable, IsTableOf, KeepsFrames, SetsEntry, way_forth, row_stays, Core, picture_of, Seat, InSlot, seat, Picture, entry, IsRootedBut, IsFit, Nothing, nowhere, SameBeside, SetsPage, valid_zero, seat_number, fit_set}
use Rattle.ranges.{proofs.{Names.{other_views, set_held, seat-none, sets_page, rooted_set}, Returning.{same_but-refl}, Sharing.{fit_emptied, owned_emptied}}, specs.Steps.{IsBeside, KeepsBesideMemory, SameButMemory, SameTables}}
use Rattle.ranges.specs.RowsCleared.{ClearsPages}
use Rattle.{ranges.specs.Steps.{ReturnsTables, ReturnsRowTables, ReturnsSlots, Clears, LacksHolder, ReturnsSeat}, std.specs.Prelude.{◌↔◌}}

-- another memory beside the same regions and places
pub same_beside : {mode : ℕ} (c : Picture mode) (t : FrameTable) → SameBeside c (record c { frames = t })
same_beside c t = search rules

pub but_memory : {mode : ℕ} (a b : Picture mode) → SameBeside a b → SameButMemory a b
but_memory a b beside = search rules

pub but_then : {mode : ℕ} (a b c : Picture mode) → SameButMemory a b → SameButMemory b c → SameButMemory a c
but_then a b c one two = search rules

pub rest-refl : {M : Type 0} {m : Levels.Ghosts M} → {D E : Type 0} (c : Core D E M m) → KeepsBesideMemory c c
rest-refl c = record { store = refl; pages = refl; cache = refl; roots = refl; regions = refl; clock = refl; page_of = refl }

pub rest_then : {M : Type 0} {m : Levels.Ghosts M} → {D E : Type 0} (a b c : Core D E M m) → KeepsBesideMemory a b → KeepsBesideMemory b c → KeepsBesideMemory a c
rest_then a b c one two = search rules

pub tables-refl : (t : FrameTable) → SameTables t t
tables-refl t = record { tables = λ n. (λ x. x, λ x. x); pointers = λ n i m. (λ p. p, λ p. p) }

pub tables_then : (a b c : FrameTable) → SameTables a b → SameTables b c → SameTables a c
tables_then a b c one two = record {
  tables = λ n. (λ x. (two.tables n).0 ((one.tables n).0 x), λ x. (one.tables n).1 ((two.tables n).1 x));
  pointers = λ n i m. (λ p. (two.pointers n i m).0 ((one.pointers n i m).0 p), λ p. (one.pointers n i m).1 ((two.pointers n i m).1 p));
}

module _ {mode : ℕ} where
  -- what was given back for pages of a row was for pages of a longer one
  pub returned_wider : (a b : Picture mode) (pid low high low' high' : ℕ) → ((p : ℕ) → low ≤ p → p < high → (low' ≤ p) × (p < high'))
      → ReturnsRowTables a b pid low high → ReturnsRowTables a b pid low' high'
  returned_wider a b pid low high low' high' wider one = record {
    tables = λ n table. elim (one.tables n table) [
      | inl still ↦ inl still
      | inr gone ↦ (let on = gone.1 in let at = wider on.1 on.4 on.5 in inr (gone.0, (on.0, on.1, on.2, on.3, at.0, at.1)))
    ];
    free = one.free;
    copies = one.copies;
    pointers = one.pointers;
  }

  pub returned_any : (a b : Picture mode) (pid low high : ℕ) → ReturnsRowTables a b pid low high → ReturnsTables a b pid
  returned_any a b pid low high one = record {
    tables = λ n table. elim (one.tables n table) [ inl still ↦ inl still | inr gone ↦ (let on = gone.1 in inr (gone.0, (on.0, on.1, on.2, on.3))) ];
    free = one.free;
    copies = one.copies;
    pointers = one.pointers;
  }

  pub returned_then : (a b c : Picture mode) (pid low high : ℕ) → SameButMemory a b → ReturnsRowTables a b pid low high → ReturnsRowTables b c pid low high
      → ReturnsRowTables a c pid low high
  returned_then a b c pid low high beside one two = record {
    tables = λ n table. elim (one.tables n table) [
      | inr gone ↦ inr (two.free n gone.0, gone.1)
      | inl still ↦ elim (two.tables n still) [
        | inl now ↦ inl now
        | inr gone ↦ (
            let on = gone.1 in
            let way = way_forth b.frames a.frames one.pointers (top_level mode) on.0 on.1 (suc on.3.0) n on.3.2 in
            inr (gone.0, (on.0, on.1, sym (beside.root pid) ∙ on.2, (on.3.0, on.3.1, way), on.4, on.5)))
      ]
    ];
    free = λ n e. two.free n (one.free n e);
    copies = λ n e. one.copies n (two.copies n e);
    pointers = λ n i m p. one.pointers n i m (two.pointers n i m p);
  }

-- pages that had no entries
pub clears_none : {mode : ℕ} (c : Picture mode) (pid low high : ℕ) → ((page : ℕ) → IsPage (top_level mode) page → low ≤ page → page < high → entry c pid page ≡ 0) → Clears c c pid low high
clears_none c pid low high none = record {
  beside = same_but-refl c;
  returned = record { tables = λ n table. inl table; free = λ n e. e; copies = λ n e. e; pointers = λ n i m p. p };
  slots = record {
    total = refl;
    fewer = λ k. omega arith;
    given = λ k page h least below is. (let bad : None ≡ Some (InSlot k) = sym (ap seat (none page h least below) ∙ seat-none) ∙ is in (cc));
    kept = λ k other. refl;
    bytes = λ k used. refl;
  };
  gone = none;
  kept = λ q page h out. refl;
  views = λ q page out. refl;
  held = λ p. refl;
}

-- a page is beside a row of a process or in it, and not both
pub by_row : (pid low high q page : ℕ) → IsBeside pid low high q page ⊎ ((q ≡ pid) × (low ≤ page) × (page < high))
by_row pid low high q page = elim (cases_eq q pid) [
  | inr ne ↦ inl (inl ne)
  | inl is ↦ elim (cases_lt page low) [
    | inl before ↦ inl (inr (inl before))
    | inr from ↦ elim (cases_lt page high) [ inl below ↦ inr (is, from, below) | inr past ↦ inl (inr (inr past)) ]
  ]
]

pub not_beside : (pid low high q page : ℕ) → IsBeside pid low high q page → q ≡ pid → low ≤ page → page < high → ⊥
not_beside pid low high q page (inl ne) is from below = ne is
not_beside pid low high q page (inr (inl before)) is from below = omega (arith, before, from)
not_beside pid low high q page (inr (inr past)) is from below = omega (arith, past, below)

pub out_front : (pid low mid high q page : ℕ) → mid ≤ high → IsBeside pid low high q page → IsBeside pid low mid q page
out_front pid low mid high q page le (inl ne) = inl ne
out_front pid low mid high q page le (inr (inl below)) = inr (inl below)
out_front pid low mid high q page le (inr (inr above)) = inr (inr (omega (arith, le, above)))

pub out_back : (pid low mid high q page : ℕ) → low ≤ mid → IsBeside pid low high q page → IsBeside pid mid high q page
out_back pid low mid high q page le (inl ne) = inl ne
out_back pid low mid high q page le (inr (inl below)) = inr (inl (omega (arith, le, below)))
out_back pid low mid high q page le (inr (inr above)) = inr (inr above)

-- a process has a seat at one page at most
pub one_page : {mode : ℕ} (c : Picture mode) (pid p q : ℕ) (y : Seat) → IsFit c → IsPage (top_level mode) p → IsPage (top_level mode) q → seat (entry c pid p) ≡ Some y → seat (entry c pid q) ≡ Some y → p ≡ q
one_page c pid p q y fit hp hq here there = sym (fit.counted.1.noted pid p y hp here) ∙ fit.counted.1.noted pid q y hq there

slots_then : {mode : ℕ} (a b c : Picture mode) (pid low mid high : ℕ) → IsFit a → low ≤ mid → mid ≤ high
    → ((page : ℕ) → IsPage (top_level mode) page → mid ≤ page → page < high → entry b pid page ≡ entry a pid page)
    → ReturnsSlots a b pid low mid → ReturnsSlots b c pid mid high → ReturnsSlots a c pid low high
slots_then a b c pid low mid high fit le le' same one two = record {
  total = two.total ∙ one.total;
  fewer = λ k. (let x = one.fewer k in let y = two.fewer k in omega (arith, x, y));
  given = λ k page h least below is. elim (cases_lt page mid) [
    | inl front ↦ (
        let second : c.slots.count k ≡ b.slots.count k = two.kept k (λ q hq from under there.
        (let p : page ≡ q = one_page a pid page q (InSlot k) fit h hq is (sym (ap seat (same q hq from under)) ∙ there) in omega (arith, p, front, from))) in
        omega (arith, one.given k page h least front is, second))
    | inr back ↦ (
        let first : b.slots.count k ≡ a.slots.count k = one.kept k (λ q hq from under there.
        (let p : page ≡ q = one_page a pid page q (InSlot k) fit h hq is there in omega (arith, p, back, under))) in
        omega (arith, first, two.given k page h back below (ap seat (same page h back below) ∙ is)))
  ];
  kept = λ k other. (
      let first = one.kept k (λ q hq from under. other q hq from (omega (arith, under, le'))) in
      let second = two.kept k (λ q hq from under there. other q hq (omega (arith, le, from)) under (sym (ap seat (same q hq from under)) ∙ there)) in
      second ∙ first);
  bytes = λ k used. two.bytes k used ∙ one.bytes k (let x = two.fewer k in omega (arith, x, used));
}

-- one row after the other
pub clears_then : {mode : ℕ} (a b c : Picture mode) (pid low mid high : ℕ) → IsFit a → low ≤ mid → mid ≤ high → Clears a b pid low mid → Clears b c pid mid high → Clears a c pid low high
clears_then a b c pid low mid high fit le le' one two = record {
  beside = but_then a b c one.beside two.beside;
  returned = returned_then a b c pid low high one.beside
      (returned_wider a b pid low mid low high (λ p least below. (least, omega (arith, below, le'))) one.returned)
      (returned_wider b c pid mid high low high (λ p least below. (omega (arith, le, least), below)) two.returned);
  slots = slots_then a b c pid low mid high fit le le' (λ page h from below. one.kept pid page h (inr (inr from))) one.slots two.slots;
  gone = λ page h least below. elim (cases_lt page mid) [
    | inl front ↦ two.kept pid page h (inr (inl front)) ∙ one.gone page h least front
    | inr back ↦ two.gone page h back below
  ];
  kept = λ q page h out. two.kept q page h (out_back pid low mid high q page le out) ∙ one.kept q page h (out_front pid low mid high q page le' out);
  views = λ q page out. two.views q page (out_back pid low mid high q page le out) ∙ one.views q page (out_front pid low mid high q page le' out);
  held = λ p. two.held p ∙ one.held p;
}

-- what no pages come to, and one row after the other
module _ {M : Type 0} {m : Levels.Ghosts M} {D E : Type 0} where
  pub pages_none : (c : Core D E M m) (pid low high : ℕ) → IsFit (picture_of c) → ((page : ℕ) → IsPage (top_level m.mode) page → low ≤ page → page < high → entry (picture_of c) pid page ≡ 0)
      → ClearsPages c c pid low high
  pages_none c pid low high fit none = record { clears = clears_none (picture_of c) pid low high none; fit = fit; rest = rest-refl c; refused = refl }

  pub pages_then : (a b c : Core D E M m) (pid low mid high : ℕ) → IsFit (picture_of a) → low ≤ mid → mid ≤ high → ClearsPages a b pid low mid → ClearsPages b c pid mid high → ClearsPages a c pid low high
  pages_then a b c pid low mid high fit le le' one two = record {
    clears = clears_then (picture_of a) (picture_of b) (picture_of c) pid low mid high fit le le' one.clears two.clears;
    fit = two.fit;
    rest = rest_then a b c one.rest two.rest;
    refused = two.refused ∙ one.refused;
  }

pub other_page : (pid page q k : ℕ) → IsBeside pid page (page + 1) q k → (q ≢ pid) ⊎ (k ≢ page)
other_page pid page q k (inl ne) = inl ne
other_page pid page q k (inr (inl below)) = inr (λ e. omega (arith, below, e))
other_page pid page q k (inr (inr above)) = inr (λ e. omega (arith, above, e))

pub not_valid : is_valid 0 ≡ true → ⊥
not_valid e = false≢true (sym valid_zero ∙ e)

table_kept : (old new : FrameTable) (n : ℕ) → KeepsFrames old new → IsTable old n ↔ IsTable new n
table_kept old new n kept =
    let count = kept.frames in (
      λ table. record { inside = rw count table.inside; role = ap (λ rs. get_or rs n Free) kept.roles ∙ table.role },
      λ table. record { inside = rw (← count) table.inside; role = ap (λ rs. get_or rs n Free) (sym kept.roles) ∙ table.role },
    )

-- the entry of a page was taken out
module _ {mode : ℕ} (old mid : Picture mode) (pid r page : ℕ) (fit : IsFit old) (root : old.root pid ≡ Some r) (h : IsPage (top_level mode) page)
    (sets : SetsEntry old.frames mid.frames (top_level mode) r page 0) (beside : SameBeside old mid) where
  page_out : SetsPage old mid pid page 0
  page_out = sets_page old mid 0 pid r page 0 fit.rooted root h sets beside

  rooted_out : IsRootedBut mid 0
  rooted_out = rooted_set old mid 0 r page 0 fit.rooted sets beside

  places_out : (row n : ℕ) → IsTableOf old.frames (top_level mode) r row n → IsTableOf mid.frames (top_level mode) r row n
  places_out row n = row_stays old.frames mid.frames (top_level mode) r page 0 sets r row n (fit.rooted.roots pid r root)

  tables_out : SameTables old.frames mid.frames
  tables_out = record { tables = λ n. table_kept old.frames mid.frames n sets.kept; pointers = sets.pointers }

  lacks_seat : (o : Option Seat) → seat (entry old pid page) ≡ o → LacksHolder mid o
  lacks_seat None is = fit_set old mid pid page 0 0 page_out h (Nothing refl) rooted_out (λ p valid common dirty here. absurd (not_valid valid)) (seat-none ∙ sym is) nowhere 0 fit
  lacks_seat (Some x) is = (
    fit_emptied old mid x 0 pid page fit page_out h (seat_number old 0 pid page x fit.rooted is) is rooted_out,
    owned_emptied old mid x 0 pid page fit page_out h (seat_number old 0 pid page x fit.rooted is) is rooted_out,
  )

  pub lacks_out : LacksHolder mid (seat (entry old pid page))
  lacks_out = lacks_seat (seat (entry old pid page)) refl

  -- and the share of what it named was given back
  module _ (new : Picture mode) (gives : ReturnsSeat mid new (seat (entry old pid page))) where
    pub tables_page : SameTables old.frames new.frames
    tables_page = tables_then old.frames mid.frames new.frames tables_out gives.tables

    pub places_page : (row n : ℕ) → IsTableOf old.frames (top_level mode) r row n → IsTableOf new.frames (top_level mode) r row n
    places_page row n here = gives.rows pid r row n (beside.root pid ∙ root) (places_out row n here)

    role_out : (n : ℕ) → role_of mid.frames n ≡ role_of old.frames n
    role_out n = ap (λ rs. get_or rs n Free) sets.kept.roles

    is_page : (k : ℕ) → page ≤ k → k < page + 1 → k ≡ page
    is_page k least below = omega arith

    seat_of : (k : ℕ) → k ≡ page → seat (entry old pid k) ≡ seat (entry old pid page)
    seat_of k e = ap (λ x. seat (entry old pid x)) e

    slots_page : ReturnsSlots old new pid page (page + 1)
    slots_page = record {
      total = gives.slots.total ∙ ap (λ t. t.total) beside.slots;
      fewer = λ k. (let f = gives.slots.fewer k in let e = ap (λ t. t.count k) beside.slots in omega (arith, f, e));
      given = λ k p hp least below is. (omega (arith, ap (λ t. t.count k) beside.slots, gives.slots.given k (sym (seat_of p (is_page p least below)) ∙ is)));
      kept = λ k other. gives.slots.kept k (λ is. other page h (omega arith) (omega arith) is) ∙ ap (λ t. t.count k) beside.slots;
      bytes = λ k used. gives.slots.bytes k used ∙ ap (λ t. t.bytes k) beside.slots;
    }

    pub clears_page : Clears old new pid page (page + 1)
    clears_page = record {
      beside = but_then old mid new (but_memory old mid beside) gives.beside;
      returned = record {
        tables = λ n table. inl ((tables_page.tables n).0 table);
        free = λ n e. gives.free n (role_out n ∙ e);
        copies = λ n e. sym (role_out n) ∙ gives.copies n e;
        pointers = λ n i m p. (tables_page.pointers n i m).1 p;
      };
      slots = slots_page;
      gone = λ k hk low high. (let is : k ≡ page = is_page k low high in gives.entries pid k ∙ ap (entry mid pid) is ∙ page_out.changed);
      kept = λ q k hk out. gives.entries q k ∙ page_out.others q k hk (other_page pid page q k out);
      views = λ q k out. gives.views q k ∙ other_views old mid pid page 0 0 nowhere 0 fit page_out q k (other_page pid page q k out);
      held = λ p. gives.held p ∙ set_held old mid pid page 0 0 nowhere 0 fit page_out p;
    }
