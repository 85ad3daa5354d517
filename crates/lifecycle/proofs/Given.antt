-- One page given to the child.
use Rattle.lifecycle.proofs.Names.{top_level, Attr, ◌≡◌, ◌≢◌, ℕ, inl, inr, ◌⊎◌, ◌+◌, ◌<◌, ◌≤◌, true, false, Option, Some, None, get_or, refl, sym, ap, ◌∙◌, subst, arith, cases_Bool, same_Some, option_map, Free, Table, Private, is_valid}
use Rattle.lifecycle.proofs.Names.{frame_of, SetsEntry, KeepsFrames, IsPage, Seat, InFrame, InSlot, seat, is_private, is_swapped, Picture, entry, view, view_of, own_in, bytes_in, IsOwned, count_in, page_in, IsRootedBut, IsEntryFor, IsFit}
use Rattle.lifecycle.proofs.Names.{IsFitBut, nowhere, SameBeside, SetsPage, entry_for-same, behind_kept, owned_forth, owned_back, count_kept, page_kept, set_by, bytes_same, cases_seat, counted_filled, off-none}
use Rattle.lifecycle.{proofs.Names.{other_views, set_held, seat-none, sets_page, rooted_set, seat_own, tables_same, tables_then, room_then, but_memory, but_then}, specs.Shares.{lowered_entry, given_entry, Withdraws, RaisesSeat, SharesRow}}

-- tables alone were written
pub set_counts : {mode : ℕ} (old new : Picture mode) → new.slots ≡ old.slots → KeepsFrames old.frames new.frames → (z : Seat) → count_in new z ≡ count_in old z
set_counts old new slots kept (InFrame n) = ap (λ cs. get_or cs n 0) kept.counts
set_counts old new slots kept (InSlot k) = ap (λ t. t.count k) slots

-- the entry of a shared page is given to the child, where it names a seat
pub lowered_given : (e : ℕ) → seat e ≢ None → lowered_entry e ≡ given_entry e
lowered_given e some = elim (cases_Bool (is_private e)) [
  | inl own ↦ rw own refl
  | inr common ↦ elim (cases_Bool (is_swapped e)) [ inl away ↦ rw (common, away) refl | inr here ↦ absurd (some (rw (common, here) refl)) ]
]

-- a page of a process shows what one of another does
pub view_alike : {mode : ℕ} (c d : Picture mode) (p q page : ℕ) → d.at q page ≡ c.at p page → own_in d.frames d.slots (entry d q page) ≡ own_in c.frames c.slots (entry c p page) → view d q page ≡ view c p page
unfolding view
view_alike c d p q page at own = ap (λ o. view_of o (d.at q page)) own ∙ ap (λ a. view_of (own_in c.frames c.slots (entry c p page)) a) at

-- The child's entry of a page, which was none, is the parent's, and names the seat of which a share was without an entry.
module _ {mode : ℕ} (old new : Picture mode) (parent child page e : ℕ) (y : Seat) (fit : IsFitBut old y 1 0) (sets : SetsPage old new child page e) (h : IsPage (top_level mode) page)
    (source : entry old parent page ≡ e) (is : seat e ≡ Some y) (bare : entry old child page ≡ 0) (alike : old.at child page ≡ old.at parent page) (below : child < 65)
    (rooted : IsRootedBut new 0) where
  from : seat (entry old parent page) ≡ Some y
  from = ap seat source ∙ is

  has : IsOwned old y
  has = fit.counted.1.named parent page y h from

  for : IsEntryFor new (old.at child page) e
  for =
      entry_for-same old new (old.at child page) e (behind_kept old new sets.beside)
      (λ private write one. sets.shares.counts (frame_of e) (fit.counted.1.named parent page (InFrame (frame_of e)) h (ap seat source ∙ seat_own e private)) ∙ one)
      (subst (λ (a : Option Attr). IsEntryFor old a e) (sym alike) (subst (λ (x : ℕ). IsEntryFor old (old.at parent page) x) source (fit.granting.entries parent page h)))

  not_common : is_valid e ≡ true → is_private e ≡ false → ⊥
  not_common valid common = let none : seat e ≡ None = rw (common, valid) refl in let bad : None ≡ Some y = sym none ∙ is in (cc)

  pub fit_given : IsFit new
  fit_given = set_by old new child page e 0 sets for rooted (λ p valid common bit at. absurd (not_common valid common)) y nowhere 1 0 fit (
    fit.counted.0,
    counted_filled mode (entry old) (entry new) (IsOwned old) (IsOwned new) (count_in old) (count_in new) (page_in old fit.counted.0) (page_in new fit.counted.0)
        y child page fit.counted.1 (owned_forth old new sets.beside sets.shares) (owned_back old new sets.beside sets.shares) (count_kept old new sets.beside sets.shares)
        (λ z there. page_kept old new fit.counted.0 sets.beside z) has (fit.counted.1.noted parent page y h from) h below (ap seat bare ∙ seat-none)
        (ap seat sets.changed ∙ is) sets.others nowhere (off-none nowhere),
  )

  pub shown_given : view new child page ≡ view old parent page
  shown_given = view_alike old new parent child page (sets.beside.at child page ∙ alike)
      (ap (λ o. option_map (bytes_in new.frames new.slots) o) (ap seat sets.changed ∙ is) ∙ ap (λ b. Some b) (bytes_same old new sets.beside.slots (λ n own. sets.bytes n (λ t. (let bad : Private ≡ Table = sym own ∙ t in (cc)))) y has)
      ∙ sym (ap (λ o. option_map (bytes_in old.frames old.slots) o) from))

-- what the steps on one page leave
module _ {mode : ℕ} (old low mid new : Picture mode) (parent child r page e : ℕ) (y : Seat) (fit : IsFitBut mid y 1 0) (h : IsPage (top_level mode) page) (apart : parent ≢ child)
    (withdraws : Withdraws old low parent page e) (is : seat e ≡ Some y) (raises : RaisesSeat low mid y) (bare : entry old child page ≡ 0)
    (alike : old.at child page ≡ old.at parent page) (root : mid.root child ≡ Some r) (sets : SetsEntry mid.frames new.frames (top_level mode) r page e) (beside : SameBeside mid new) where
  page_set : SetsPage mid new child page e
  page_set = sets_page mid new 0 child r page e fit.rooted root h sets beside

  source : entry mid parent page ≡ e
  source = raises.entries parent page ∙ withdraws.sets.changed

  bare_mid : entry mid child page ≡ 0
  bare_mid = raises.entries child page ∙ withdraws.sets.others child page h (inl (λ same. apart (sym same))) ∙ bare

  at_mid : (q p : ℕ) → mid.at q p ≡ old.at q p
  at_mid q p = raises.beside.at q p ∙ withdraws.sets.beside.at q p

  alike_mid : mid.at child page ≡ mid.at parent page
  alike_mid = at_mid child page ∙ alike ∙ sym (at_mid parent page)

  number : child < 65
  number = let n = (fit.rooted.numbers child r root).1 in omega (arith, n)

  pub fit_shared : IsFit new
  fit_shared = fit_given mid new parent child page e y fit page_set h source is bare_mid alike_mid number (rooted_set mid new 0 r page e fit.rooted sets beside)

  was_named : seat (entry old parent page) ≡ Some y
  was_named = sym withdraws.seated ∙ is

  to_given : e ≡ given_entry (entry old parent page)
  to_given = withdraws.lowered ∙ lowered_given (entry old parent page) (λ none. (let bad : None ≡ Some y = sym none ∙ was_named in (cc)))

  counts : (z : Seat) → count_in new z ≡ count_in mid z
  counts = set_counts mid new beside.slots sets.kept

  this : (p : ℕ) → page ≤ p → p < page + 1 → p ≡ page
  this p low high = omega arith

  out : (p : ℕ) → (p < page) ⊎ (page + 1 ≤ p) → p ≢ page
  out p (inl under) same = omega (arith, under, same)
  out p (inr over) same = omega (arith, over, same)

  pub shares_one : SharesRow old new parent child page (page + 1)
  shares_one = record {
    beside = but_then old mid new (but_then old low mid (but_memory old low withdraws.sets.beside) raises.beside) (but_memory mid new beside);
    room = room_then old mid new (room_then old low mid withdraws.room raises.room) (record { frames = sets.kept.frames; slots = ap (λ t. t.total) beside.slots });
    roles = λ n. ap (λ rs. get_or rs n Free) sets.kept.roles ∙ raises.roles n ∙ withdraws.roles n;
    lowered = λ p h' least under. (
        subst (λ (x : ℕ). entry new parent x ≡ lowered_entry (entry old parent x)) (sym (this p least under)) (page_set.others parent page h (inl apart) ∙ source ∙ withdraws.lowered));
    given = λ p h' least under. (subst (λ (x : ℕ). entry new child x ≡ given_entry (entry old parent x)) (sym (this p least under)) (page_set.changed ∙ to_given));
    others = λ q p h' other. elim other [
      | inl ne ↦ page_set.others q p h' (inl ne.1) ∙ raises.entries q p ∙ withdraws.sets.others q p h' (inl ne.0)
      | inr far ↦ page_set.others q p h' (inr (out p far)) ∙ raises.entries q p ∙ withdraws.sets.others q p h' (inr (out p far))
    ];
    shown = λ p h' least under. (
        let P : ℕ → Type 0 = λ x. view new child x ≡ view old parent x in
        subst P (sym (this p least under)) (shown_given mid new parent child page e y fit page_set h source is bare_mid alike_mid number (rooted_set mid new 0 r page e fit.rooted sets beside)
        ∙ raises.views parent page ∙ withdraws.views parent page));
    views = λ q p other. other_views mid new child page e 0 y 1 fit page_set q p (elim other [
      | inl ne ↦ inl ne
      | inr far ↦ inr (out p far)
    ]) ∙ raises.views q p ∙ withdraws.views q p;
    held = λ p. set_held mid new child page e 0 y 1 fit page_set p ∙ raises.held p ∙ withdraws.held p;
    tables = tables_then old mid new (λ q. raises.beside.root q ∙ withdraws.sets.beside.root q)
        (tables_then old low mid withdraws.sets.beside.root withdraws.tables raises.tables)
        (tables_same mid new (λ q x p lives. sets.missing x p (fit.rooted.roots q x lives)));
    raised = λ z p h' least under there. (
        let at : seat (entry old parent page) ≡ Some z = ap (λ x. seat (entry old parent x)) (sym (this p least under)) ∙ there in
        let c = counts y in let r = raises.raised in let w = withdraws.counts y in
        subst (λ (x : Seat). count_in new x ≡ count_in old x + 1) (same_Some y z (sym was_named ∙ at)) (omega (arith, c, r, w)));
    kept = λ z none. counts z ∙ raises.others z (λ same. none page h (omega arith) (omega arith) (was_named ∙ ap (λ x. Some x) (sym same))) ∙ withdraws.counts z;
    no_fewer = λ z. elim (cases_seat z y) [
      | inl same ↦ (
          let c = counts y in let r = raises.raised in let w = withdraws.counts y in
          subst (λ (x : Seat). count_in old x ≤ count_in new x) (sym same) (omega (arith, c, r, w)))
      | inr ne ↦ (let c = counts z in let o = raises.others z ne in let w = withdraws.counts z in omega (arith, c, o, w))
    ];
    pointers = λ n i m p. (sets.pointers n i m).0 (raises.pointers n i m (withdraws.pointers n i m p));
    bytes = λ k used. (
        let there : 0 < low.slots.count k = (let w = withdraws.counts (InSlot k) in omega (arith, w, used)) in
        ap (λ t. t.bytes k) beside.slots ∙ raises.bytes k there ∙ ap (λ t. t.bytes k) withdraws.sets.beside.slots);
  }
