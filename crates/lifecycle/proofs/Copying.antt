-- A process comes that is a copy of another.
use Rattle.lifecycle.proofs.{Alike.{bare_page}, Copies.{seat_some}, Keeping.{live_same}, Names.{keeps_files_then, user_pages_fit, user_end, top_level, has_own, Attr, Stall, ◌≡◌, ◌≢◌, ℕ, inl, inr, ◌⊎◌, ◌<◌, ◌≤◌, true, false, List, Option, Some}}
use Rattle.lifecycle.proofs.Names.{None, refl, sym, ap, ◌∙◌, subst, arith, cases_eq, cases_lt, cases_Bool, false≢true, option_map, IfErr, IsErrAnd, Result, Err, IsPage, missing_of, is_valid, can_write, has_bit, frame_of, InFrame, InSlot}
use Rattle.lifecycle.proofs.Names.{seat, is_private, is_swapped, Picture, is_live, entry, view, view_of, own_in, bytes_in, IsFit, IsGranting, KeepsPages, IsShort, KeepsFiles, cases_attr, view-none, seat-none, KeepsBare, KeepsRoom}
use Rattle.lifecycle.{proofs.{Names.{KeepsTables, room_then}, Shortage.{short_alike}, Weaker.{seat_lowered, weakened}}, specs.Changes.{AddsProcess, RemovesProcess, KeepsProcesses, MapsAlike, TakesRoot, SharesCopies, KeepsBareOfOthers}}
use Rattle.{lifecycle.specs.{Changes.{IsShortToFork}, Shares.{without_write, lowered_entry, given_entry, SharesRow}}, std.{proofs.Common.{is_some}, specs.Prelude.{Ok}}}

-- Before any page is shared: the child lives, mapped as the parent is, without an entry, and every other process is as it was.
module _ {mode : ℕ} where
  pub record IsReadied (old mid : Picture mode) (parent child : ℕ) : Type 0 where
    pub apart : parent ≢ child
    pub fit : IsFit mid
    pub dead : is_live old child ≡ false
    pub unmapped : (page : ℕ) → view old child page ≡ None
    pub lives : is_live mid child ≡ true
    pub others_live : (q : ℕ) → q ≢ child → is_live mid q ≡ is_live old q
    pub others : (q page : ℕ) → q ≢ child → view mid q page ≡ view old q page
    pub same : (page : ℕ) → mid.at child page ≡ mid.at parent page
    pub bare : (page : ℕ) → IsPage (top_level mode) page → entry mid child page ≡ 0
    pub kept_bare : (q page : ℕ) → IsPage (top_level mode) page → entry old q page ≡ 0 → entry mid q page ≡ 0
    pub files : KeepsFiles old mid
    pub room : KeepsRoom old mid

-- a process was made, then mapped, and then frames were given up for its tables
pub readied : {mode : ℕ} (old spawned mapped mid : Picture mode) (parent child : ℕ) → parent ≢ child → is_live old child ≡ false → ((page : ℕ) → old.at child page ≡ None)
    → AddsProcess old spawned child (λ page. None) → KeepsBare old spawned → KeepsFiles old spawned → KeepsRoom old spawned
    → MapsAlike spawned mapped parent child → KeepsRoom spawned mapped
    → IsFit mid → KeepsPages mapped mid → KeepsBare mapped mid → KeepsRoom mapped mid → IsReadied old mid parent child
readied old spawned mapped mid parent child apart dead unmapped added bare files room maps room' fit keeps bare' room'' = record {
  apart = apart;
  fit = fit;
  dead = dead;
  unmapped = λ page. view-none old child page (unmapped page);
  lives = live_same mapped mid child (keeps.root child) ∙ live_same spawned mapped child (maps.root child) ∙ added.lives;
  others_live = λ q ne. live_same mapped mid q (keeps.root q) ∙ live_same spawned mapped q (maps.root q) ∙ added.others_live q ne;
  others = λ q page ne. keeps.views q page ∙ maps.views q page ne ∙ added.others q page ne;
  same = λ page. keeps.at child page ∙ maps.same page ∙ sym (keeps.at parent page);
  bare = λ page h. bare' child page h (maps.bare page h);
  kept_bare = λ q page h none. bare' q page h (maps.entries q page ∙ bare q page h none);
  files = keeps_files_then old spawned mid files (keeps_files_then spawned mapped mid maps.files keeps.files);
  room = room_then old spawned mid room (room_then spawned mapped mid room' room'');
}

view_bare : (own : Option (List ℕ)) (o : Option Attr) → own ≡ None → has_own (view_of own o) ≡ false
view_bare own None none = refl
view_bare own (Some a) none = ap (λ w. is_some w) none

-- a page without an entry has no copy
own_none : {mode : ℕ} (c : Picture mode) (pid page : ℕ) → entry c pid page ≡ 0 → has_own (view c pid page) ≡ false
unfolding view
own_none c pid page none = view_bare (own_in c.frames c.slots (entry c pid page)) (c.at pid page) (ap (λ o. option_map (bytes_in c.frames c.slots) o) (ap seat none ∙ seat-none))

-- outside the user pages nothing is mapped
past_none : {mode : ℕ} (c : Picture mode) (pid page : ℕ) → IsGranting c → ((16 ≤ page) × (page < user_end mode) → ⊥) → c.at pid page ≡ None
past_none c pid page granting out = elim (cases_attr (c.at pid page)) [ inl none ↦ none | inr some ↦ absurd (out ((granting.user pid).user_pages page some)) ]

-- The entries p of the parent and k of the child for a page of which the parent had e.
module _ (e p k : ℕ) (lowered : p ≡ lowered_entry e) (given : k ≡ given_entry e) where
  own_page : is_private e ≡ true → p ≡ without_write e
  own_page own = lowered ∙ rw own refl

  other_page : is_private e ≡ false → p ≡ e
  other_page common = lowered ∙ rw common refl

  seat_page : seat p ≡ seat e
  seat_page = ap seat lowered ∙ seat_lowered e

  pub one_shared : seat p ≢ None → k ≡ p
  one_shared some = elim (cases_Bool (is_private e)) [
    | inl own ↦ given ∙ rw own refl ∙ sym (own_page own)
    | inr common ↦ elim (cases_Bool (is_swapped e)) [
      | inl away ↦ given ∙ rw (common, away) refl ∙ sym (other_page common)
      | inr here ↦ absurd (some (seat_page ∙ rw (common, here) refl))
    ]
  ]

  pub one_bare : seat p ≡ None → k ≡ 0
  one_bare none = elim (cases_Bool (is_private e)) [
    | inl own ↦ absurd (seat_some (seat e) (InFrame (frame_of e)) (rw own refl) (sym seat_page ∙ none))
    | inr common ↦ elim (cases_Bool (is_swapped e)) [
      | inl away ↦ absurd (seat_some (seat e) (InSlot (frame_of e)) (rw (common, away) refl) (sym seat_page ∙ none))
      | inr here ↦ given ∙ rw (common, here) refl
    ]
  ]

  pub one_unwritten : is_private p ≡ true → is_valid p ≡ true → can_write p ≡ false
  one_unwritten own valid = elim (cases_Bool (is_private e)) [
    | inl was ↦ (let weaker = weakened e in ap can_write (own_page was) ∙ weaker.unwritten (sym weaker.valid ∙ sym (ap is_valid (own_page was)) ∙ valid))
    | inr common ↦ absurd (false≢true (sym common ∙ sym (ap is_private (other_page common)) ∙ own))
  ]

zero_lowered : lowered_entry 0 ≡ 0
unfolding has_bit
zero_lowered = refl

zero_given : given_entry 0 ≡ 0
unfolding has_bit
zero_given = refl

module _ {mode : ℕ} (old mid : Picture mode) (parent child : ℕ) (ready : IsReadied old mid parent child) where
  none_here : (page : ℕ) → has_own (view mid child page) ≡ false
  none_here page = elim (cases_lt page (user_end mode)) [
    | inl below ↦ own_none mid child page (ready.bare page (omega (arith, below, user_pages_fit mode)))
    | inr past ↦ ap has_own (view-none mid child page (past_none mid child page ready.fit.granting (λ user. (let high = user.1 in omega (arith, high, past)))))
  ]

  below_most : (o : Option ℕ) → mid.root child ≡ o → is_some o ≡ true → child < 65
  below_most None is live = absurd (false≢true live)
  below_most (Some r) is live = let n = ready.fit.rooted.numbers child r is in omega (arith, n)

  pub short_readied : (stall : Stall) → IsShort mid stall → IsShortToFork old parent stall
  short_readied =
      short_alike old mid parent child ready.apart (below_most (mid.root child) refl ready.lives) ready.dead ready.lives ready.others_live ready.others ready.same none_here
      (λ page. ap has_own (ready.unmapped page)) ready.room ready.files.touched

  -- the child went again
  pub unmade : (new : Picture mode) → RemovesProcess mid new child → KeepsProcesses old new
  unmade new removed = record {
    live = λ q. elim (cases_eq q child) [
      | inl is ↦ subst (λ (x : ℕ). is_live new x ≡ is_live old x) (sym is) (removed.gone ∙ sym ready.dead)
      | inr ne ↦ removed.others_live q ne ∙ ready.others_live q ne
    ];
    views = λ q page. elim (cases_eq q child) [
      | inl is ↦ subst (λ (x : ℕ). view new x page ≡ view old x page) (sym is) (removed.pages page ∙ sym (ready.unmapped page))
      | inr ne ↦ removed.others q page ne ∙ ready.others q page ne
    ];
  }

  -- the child has its shares
  module _ (new : Picture mode) (shares : SharesRow mid new parent child 16 (user_end mode)) where
    sides : (page : ℕ) → ((16 ≤ page) × (page < user_end mode)) ⊎ (((page < 16) ⊎ (user_end mode ≤ page)) × ((16 ≤ page) × (page < user_end mode) → ⊥))
    sides page = elim (cases_lt page 16) [
      | inl low ↦ inr (inl low, λ user. (let from = user.0 in omega (arith, from, low)))
      | inr from ↦ elim (cases_lt page (user_end mode)) [
        | inl below ↦ inl (from, below)
        | inr past ↦ inr (inr past, λ user. (let high = user.1 in omega (arith, high, past)))
      ]
    ]

    shown_past : (page : ℕ) → ((16 ≤ page) × (page < user_end mode) → ⊥) → (page < 16) ⊎ (user_end mode ≤ page) → view new child page ≡ view old parent page
    shown_past page out side =
        shares.views child page (inr side) ∙ view-none mid child page (past_none mid child page ready.fit.granting out)
        ∙ sym (view-none mid parent page (past_none mid parent page ready.fit.granting out)) ∙ ready.others parent page ready.apart

    shown : (page : ℕ) → view new child page ≡ view old parent page
    shown page = elim (sides page) [
      | inl user ↦ (let below = user.1 in shares.shown page (omega (arith, below, user_pages_fit mode)) user.0 below ∙ ready.others parent page ready.apart)
      | inr out ↦ shown_past page out.1 out.0
    ]

    -- a page outside the user pages had no entry
    bare_past : (pid page : ℕ) → IsPage (top_level mode) page → ((16 ≤ page) × (page < user_end mode) → ⊥) → entry mid pid page ≡ 0
    bare_past pid page h out = bare_page mid pid page ready.fit (past_none mid pid page ready.fit.granting out) h

    pub lowered : (page : ℕ) → IsPage (top_level mode) page → entry new parent page ≡ lowered_entry (entry mid parent page)
    lowered page h = elim (sides page) [
      | inl user ↦ shares.lowered page h user.0 user.1
      | inr out ↦ (let none = bare_past parent page h out.1 in shares.others parent page h (inr out.0) ∙ none ∙ sym zero_lowered ∙ sym (ap lowered_entry none))
    ]

    pub given : (page : ℕ) → IsPage (top_level mode) page → entry new child page ≡ given_entry (entry mid parent page)
    given page h = elim (sides page) [
      | inl user ↦ shares.given page h user.0 user.1
      | inr out ↦ shares.others child page h (inr out.0) ∙ ready.bare page h ∙ sym zero_given ∙ sym (ap given_entry (bare_past parent page h out.1))
    ]

    pub copies_shared : SharesCopies new parent child
    copies_shared = record {
      shared = λ page h. one_shared (entry mid parent page) (entry new parent page) (entry new child page) (lowered page h) (given page h);
      bare = λ page h. one_bare (entry mid parent page) (entry new parent page) (entry new child page) (lowered page h) (given page h);
      unwritten = λ page h. one_unwritten (entry mid parent page) (entry new parent page) (entry new child page) (lowered page h) (given page h);
    }

    pub bare_shared : KeepsBareOfOthers old new child
    bare_shared q page h ne none = elim (cases_eq q parent) [
      | inl is ↦ subst (λ (x : ℕ). entry new x page ≡ 0) (sym is) (lowered page h ∙ ap lowered_entry (ready.kept_bare parent page h (subst (λ (x : ℕ). entry old x page ≡ 0) is none)) ∙ zero_lowered)
      | inr other ↦ shares.others q page h (inl (other, ne)) ∙ ready.kept_bare q page h none
    ]

    pub copied : AddsProcess old new child (view old parent)
    copied = record {
      lives = live_same mid new child (shares.beside.root child) ∙ ready.lives;
      pages = shown;
      others_live = λ q ne. live_same mid new q (shares.beside.root q) ∙ ready.others_live q ne;
      others = λ q page ne. shares.views q page (inl ne) ∙ ready.others q page ne;
    }

-- what is known of the stall that was passed on
pub as_stall : {T : Type 0} (r : Result T Stall) (P : Stall → Type 0) (stall : Stall) → IsErrAnd r (λ e. e ≡ stall) → P stall → IfErr r P
as_stall (Ok x) P stall is p = tt
as_stall (Err e) P stall is p = subst P (sym is) p

-- no table came to be missing on the way to a page of a process that was there
module _ {mode : ℕ} where
  pub tables_kept : (old spawned mapped mid new : Picture mode) (child n : ℕ) → is_live old child ≡ false → TakesRoot old spawned child n → mapped.frames ≡ spawned.frames
      → ((q : ℕ) → mapped.root q ≡ spawned.root q) → ((q : ℕ) → mid.root q ≡ mapped.root q) → KeepsTables mapped mid → KeepsTables mid new → KeepsTables old new
  tables_kept old spawned mapped mid new child n dead takes frames roots roots' one two q r page e =
      let other : q ≢ child = λ is. false≢true (sym dead ∙ ap (is_live old) (sym is) ∙ ap (λ o. is_some o) e) in
      let there : mapped.root q ≡ Some r = roots q ∙ takes.others q other ∙ e in
      let first : missing_of mapped.frames (top_level mode) r page ≡ missing_of old.frames (top_level mode) r page = ap (λ t. missing_of t (top_level mode) r page) frames ∙ takes.missing q r page e in
      omega (arith, first, one q r page there, two q r page (roots' q ∙ there))
