-- The share of a frame or of a slot given back, which an entry named before: nobody who keeps it sees a change.
use Rattle.ranges.proofs.Names.{top_level, PageKey, SlotNo, ◌≡◌, ◌≢◌, ℕ, inl, inr, ◌+◌, ◌<◌, ◌≤◌, ◌^◌, false, Option, Some, None, refl, sym, ap, ◌∙◌, subst, arith, cases_eq, cases_Bool, Free, Private, Cache, FrameTable, role_of, Releases}
use Rattle.ranges.proofs.Names.{SlotTable, KeepsTrees, data_released, row_same, Entry, Swapped, number_of, IsEntry, Frame, Seat, InFrame, InSlot, seat, Picture, IsOwned, IsFit, IsFitBut, SameBeside, fit_released, same, release_spares}
use Rattle.ranges.{proofs.{Names.{with_slots, held_same, fit_slot_released, swapped_form, away_seat, views_given, held_given}, Sharing.{private_data}}, specs.Steps.{SameButMemory, LacksHolder, ReturnsSeat}}
use Rattle.residency.specs.Seats.{is_swapped}
use Rattle.swap.specs.Slots as Slots

-- what lacks the holder of a seat
pub lacks_some : {mode : ℕ} (c : Picture mode) (o : Option Seat) (y : Seat) → o ≡ Some y → LacksHolder c o → IsFitBut c y 1 0 × IsOwned c y
lacks_some c o y is lacks = subst (λ (x : Option Seat). LacksHolder c x) is lacks

pub lacks_none : {mode : ℕ} (c : Picture mode) (o : Option Seat) → o ≡ None → LacksHolder c o → IsFit c
lacks_none c o is lacks = subst (λ (x : Option Seat). LacksHolder c x) is lacks

pub slot_of : (number k : ℕ) (e : Entry) → number_of e ≡ number → IsEntry e → e ≡ Swapped (record { 0 = k }) → seat number ≡ Some (InSlot k)
slot_of number k e is form swapped =
    let low : k < 2 ^ 32 = (let P : Entry → Type 0 = λ x. IsEntry x in subst P swapped form) in
    ap seat (sym is ∙ ap number_of swapped) ∙ away_seat k low

-- an entry that isn't that of a page in a slot
pub not_away : (number : ℕ) (e : Entry) → number_of e ≡ number → IsEntry e → ((k : SlotNo) → e ≢ Swapped k) → is_swapped number ≡ false
not_away number e is form other = elim (cases_Bool (is_swapped number)) [
  | inl away ↦ (let there = swapped_form e form (ap is_swapped is ∙ away) in absurd (other there.0 there.1))
  | inr here ↦ here
]

pub same_but-refl : {mode : ℕ} (c : Picture mode) → SameButMemory c c
same_but-refl c = record { root = λ q. refl; at = λ q p. refl; page_of = λ n. refl; place = λ p. refl; touched = λ p. refl; files = λ f. refl }

-- nothing was given back
pub gives_none : {mode : ℕ} (c : Picture mode) (o : Option Seat) → o ≡ None → ReturnsSeat c c o
gives_none c o none = record {
  beside = same_but-refl c;
  entries = λ q p. refl;
  views = λ q p. refl;
  held = λ p. refl;
  tables = record { tables = λ n. (λ t. t, λ t. t); pointers = λ n i m. (λ p. p, λ p. p) };
  rows = λ q r row n e here. here;
  free = λ n e. e;
  copies = λ n e. e;
  slots = record {
    total = refl;
    fewer = λ k. omega arith;
    given = λ k is. (let bad : None ≡ Some (InSlot k) = sym none ∙ is in (cc));
    kept = λ k ne. refl;
    bytes = λ k used. refl;
  };
}

some_slot : (k j : ℕ) → Some (InSlot k) ≡ Some (InSlot j) → k ≡ j
some_slot k j e = (cc)

-- the share of a slot
module _ {mode : ℕ} (old : Picture mode) (k : ℕ) (fit : IsFitBut old (InSlot k) 1 0) (has : IsOwned old (InSlot k)) (t : SlotTable) (releases : Slots.ReleasesSlot old.slots t k) (o : Option Seat)
    (is : o ≡ Some (InSlot k)) where
  pub fit_slot : IsFit (record old { slots = t })
  fit_slot = fit_slot_released old (record old { slots = t }) k 0 fit has (with_slots old t) releases

  slot_counts : (j : ℕ) → j ≢ k → t.count j ≡ old.slots.count j
  slot_counts j ne = releases.others.counts j ne

  pub gives_slot : ReturnsSeat old (record old { slots = t }) o
  gives_slot = record {
    beside = record { root = λ q. refl; at = λ q p. refl; page_of = λ n. refl; place = λ p. refl; touched = λ p. refl; files = λ f. refl };
    entries = (with_slots old t).entries;
    views = views_given old (record old { slots = t }) k 1 0 (InSlot k) fit (with_slots old t) releases;
    held = held_given old (record old { slots = t }) k 1 0 (InSlot k) fit (with_slots old t) releases;
    tables = record { tables = λ n. (λ x. x, λ x. x); pointers = λ n i m. (λ p. p, λ p. p) };
    rows = λ q r row n e here. here;
    free = λ n e. e;
    copies = λ n e. e;
    slots = record {
      total = releases.others.total;
      fewer = λ j. elim (cases_eq j k) [
        | inl e ↦ subst (λ (i : ℕ). t.count i ≤ old.slots.count i) (sym e) (let less = releases.lowered in omega (arith, less))
        | inr ne ↦ (let c = slot_counts j ne in omega (arith, c))
      ];
      given = λ j mine. (let e : k ≡ j = some_slot k j (sym is ∙ mine) in subst (λ (i : ℕ). t.count i + 1 ≡ old.slots.count i) e releases.lowered);
      kept = λ j other. slot_counts j (λ e. other (is ∙ ap (λ i. Some (InSlot i)) (sym e)));
      bytes = λ j used. elim (cases_eq j k) [
        | inl e ↦ ap t.bytes e ∙ releases.bytes_kept ∙ ap old.slots.bytes (sym e)
        | inr ne ↦ releases.others.bytes j ne (let c = slot_counts j ne in omega (arith, c, used))
      ];
    };
  }

-- the share of a frame
module _ {mode : ℕ} (old : Picture mode) (n : ℕ) (fit : IsFitBut old (InFrame n) 1 0) (own : role_of old.frames n ≡ Private) (t : FrameTable) (releases : Releases old.frames t n) (o : Option Seat)
    (is : o ≡ Some (InFrame n)) where
  abbrev new : Picture mode
  new = record old { frames = t }

  beside : SameBeside old new
  beside = record { slots = refl; root = λ q. refl; at = λ q p. refl; page_of = λ m. refl; place = λ p. refl; touched = λ p. refl; files = λ f. refl }

  trees : KeepsTrees old.frames t (top_level mode)
  trees = data_released old.frames t (top_level mode) n fit.rooted.forest releases (private_data (role_of old.frames n) own)

  pub fit_frame : IsFit new
  fit_frame = fit_released old new n 0 fit own releases beside

  cache_ne : (p : PageKey) (m : ℕ) → old.place p ≡ Frame (record { 0 = m }) → m ≢ n
  cache_ne p m at e = let bad : Private ≡ Cache = sym own ∙ ap (role_of old.frames) (sym e) ∙ fit.places.cached p m at in (cc)

  was_private : (m : ℕ) → role_of t m ≡ Private → role_of old.frames m ≡ Private
  was_private m e = elim (cases_eq m n) [ inl same_one ↦ ap (role_of old.frames) same_one ∙ own | inr ne ↦ sym (releases.others.roles m ne) ∙ e ]

  pub gives_frame : ReturnsSeat old new o
  gives_frame = record {
    beside = record { root = λ q. refl; at = λ q p. refl; page_of = λ m. refl; place = λ p. refl; touched = λ p. refl; files = λ f. refl };
    entries = same old new n 0 fit own releases beside;
    views = (release_spares old new n 0 fit own releases beside).pages.views;
    held = λ p. held_same old new p refl refl (λ m at. releases.others.bytes m (cache_ne p m at));
    tables = record { tables = trees.tables; pointers = λ a i m. (trees.same.forth a i m, trees.same.back a i m) };
    rows = λ q r row m lives here. (
        let table = (fit.rooted.roots q r lives).table in
        row_same old.frames t fit.rooted.forest trees.forest trees.same (top_level mode) r row m table ((trees.tables r).0 table) here);
    free = λ m e. releases.others.roles m (λ same_one. (let bad : Free ≡ Private = sym e ∙ ap (role_of old.frames) same_one ∙ own in (cc))) ∙ e;
    copies = was_private;
    slots = record {
      total = refl;
      fewer = λ k. omega arith;
      given = λ k mine. (let bad : Some (InFrame n) ≡ Some (InSlot k) = sym is ∙ mine in (cc));
      kept = λ k other. refl;
      bytes = λ k used. refl;
    };
  }
