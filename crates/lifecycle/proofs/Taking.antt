-- What a process that comes takes of memory: its tables, and what was given up for them.
use Rattle.lifecycle.proofs.{Copying.{IsReadied, lowered, given}, Keeping.{gives_alike}, Names.{user_end, top_level, PageKey, ◌≡◌, ◌≢◌, ℕ, suc, inl, inr, ◌⊎◌, true, false, Some, None, refl, sym, ap, ◌∙◌, subst, arith, cases_eq, cases_Bool}}
use Rattle.lifecycle.proofs.Names.{false≢true, FrameTable, IsFull, is_valid, is_accessed, IsTable, way_forth, seat, Picture, entry, is_data, Ages, Same, Cleared, Left, IsGiven, GivesForTables, ages_map, gives_then, seat-none, seat_common}
use Rattle.{lifecycle.{proofs.Names.{IsTableOnWay, none_common}, specs.{Changes.{TakesRoot, MapsAlike, ForksEntries, TakesTables}, Shares.{SharesRow}, Steps.{HasCopy, LinksCopies}}}, std.proofs.Common.{◌&&◌}}

valid_of : (e : ℕ) → (is_valid e && is_accessed e) ≡ true → is_valid e ≡ true
valid_of e both = elim (cases_Bool (is_valid e)) [
  | inl valid ↦ valid
  | inr invalid ↦ absurd (false≢true (let none : (is_valid e && is_accessed e) ≡ false = rw invalid refl in sym none ∙ both))
]

-- a page without an own copy has none after frames were given up
aged_none : (g : ℕ → Type 0) (e e' : ℕ) → seat e ≡ None → Ages g e e' → seat e' ≡ None
aged_none g e e' none (Same is) = ap seat is ∙ none
aged_none g e e' none (Cleared at changed) =
    let valid : is_valid e' ≡ true = changed.0.valid ∙ valid_of e at in
    seat_common e' (changed.0.private ∙ none_common e none) (rw valid refl)
aged_none g e e' none (Left at gone leaves) = elim leaves [
  | inl own ↦ absurd (false≢true (sym (none_common e none) ∙ own.0))
  | inr bare ↦ ap seat bare.1 ∙ seat-none
]

-- Before any page is shared. A process was made with table n for its root, mapped as its parent is, and then tables were linked.
module _ {mode : ℕ} (old spawned mapped mid : Picture mode) (parent child n : ℕ) (gives : GivesForTables old spawned None) (takes : TakesRoot old spawned child n)
    (frames : mapped.frames ≡ spawned.frames) (places : (p : PageKey) → mapped.place p ≡ spawned.place p) (maps : MapsAlike spawned mapped parent child) (root : (q : ℕ) → mid.root q ≡ mapped.root q) (links : LinksCopies mapped mid parent child) where
  pub gives_mapped : GivesForTables old mapped None
  gives_mapped = gives_then old spawned mapped None gives (gives_alike spawned mapped frames maps.entries places)

  -- a copy of the parent's own was one
  copy_before : (page : ℕ) → HasCopy mapped parent page → HasCopy old parent page
  copy_before page has = (has.0, λ none. has.1 (aged_none (IsGiven old mapped None) (entry old parent page) (entry mapped parent page) none (gives_mapped.entries parent page has.0)))

  pub root_mid : mid.root child ≡ Some n
  root_mid = root child ∙ maps.root child ∙ takes.root

  table_before : (m : ℕ) → m ≢ n → IsTable mapped.frames m → IsTable old.frames m
  table_before m ne table =
      let there : IsTable spawned.frames m = subst (λ (t : FrameTable). IsTable t m) frames table in
      record { inside = omega (arith, there.inside, takes.frames); role = sym (takes.roles m ne) ∙ there.role }

  -- each table was one, or is the child's
  pub tables_mid : (m : ℕ) → IsTable mid.frames m → IsTable old.frames m ⊎ ((mid.root child ≡ Some m) ⊎ ((page : ℕ) × HasCopy old parent page × IsTableOnWay mid child page m))
  tables_mid m table = elim (links m table) [
    | inl was ↦ elim (cases_eq m n) [ inl is ↦ inr (inl (root_mid ∙ ap (λ x. Some x) (sym is))) | inr ne ↦ inl (table_before m ne was) ]
    | inr on ↦ inr (inr (on.0, copy_before on.0 on.1, on.2))
  ]

-- Then the child got its shares, and no frame came to another use for that.
module _ {mode : ℕ} (old mid new : Picture mode) (parent child : ℕ) (gives : GivesForTables old mid None) (shares : SharesRow mid new parent child 16 (user_end mode)) where
  full_shared : IsFull mid.frames → IsFull new.frames
  full_shared full n inside free = full n (let count = shares.room.frames in omega (arith, inside, count)) (sym (shares.roles n) ∙ free)

  given_shared : (n : ℕ) → IsGiven old mid None n → IsGiven old new None n
  given_shared n is = (
    is.0,
    elim is.1 [ inl gone ↦ inl (ap is_data (shares.roles n) ∙ gone) | inr tried ↦ inr tried ],
  )

  pub entries_forked : IsReadied old mid parent child → ForksEntries old new parent child
  entries_forked ready = record {
    aged = entry mid;
    ages = λ q page h. ages_map (IsGiven old mid None) (IsGiven old new None) (entry old q page) (entry mid q page) given_shared (gives.entries q page h);
    needed = elim gives.needed [ inl full ↦ inl (full_shared full) | inr none ↦ inr none.entries ];
    lowered = lowered old mid parent child ready new shares;
    given = given old mid parent child ready new shares;
    others = λ q page ne ne' h. shares.others q page h (inl (ne, ne'));
  }

  table_shared : (n : ℕ) → IsTable new.frames n → IsTable mid.frames n
  table_shared n table = record { inside = omega (arith, table.inside, shares.room.frames); role = sym (shares.roles n) ∙ table.role }

  on_way : (page n : ℕ) → IsTableOnWay mid child page n → IsTableOnWay new child page n
  on_way page n on =
      let below = on.2 in (
        on.0,
        shares.beside.root child ∙ on.1,
        (below.0, below.1, way_forth mid.frames new.frames shares.pointers (top_level mode) on.0 page (suc below.0) n below.2),
      )

  pub tables_taken : ((n : ℕ) → IsTable mid.frames n
      → IsTable old.frames n ⊎ ((mid.root child ≡ Some n) ⊎ ((page : ℕ) × HasCopy old parent page × IsTableOnWay mid child page n)))
      → TakesTables old new parent child
  tables_taken linked = record {
    roles = λ n. elim (gives.roles n) [ inl same ↦ inl (shares.roles n ∙ same) | inr came ↦ inr (shares.roles n ∙ came.0, came.1) ];
    linked = λ n table. elim (linked n (table_shared n table)) [
      | inl was ↦ inl was
      | inr here ↦ inr (elim here [ inl is_root ↦ inl (shares.beside.root child ∙ is_root) | inr on ↦ inr (on.0, on.1, on_way on.0 n on.2) ])
    ];
    needed = elim gives.needed [ inl full ↦ inl (full_shared full) | inr none ↦ inr (λ n held. shares.roles n ∙ none.roles n held) ];
  }
