-- What is told of frames that are given up for others, from what was done to one.
use Rattle.residency.proofs.{Aging.{ages_map, ages_then}, Entries.{entries_kept}, Names.{top_level, FrameNo, ◌≡◌, ◌≢◌, ℕ, ◌⊎◌, inl, inr, true, Option, Some, None, refl, sym, ap, ◌∙◌, subst, arith, cases_eq, false≢true}}
use Rattle.residency.{proofs.Names.{Free, Table, frame_count, role_of, IsFrame, IsFull, AddsTable, Points, same_taken}, specs.Ages.{Same, Cleared, GivesFrame, GivesNone, GivesForTables, IsGiven, KeepsRoles, KeepsRolesBut}}
use Rattle.residency.specs.{Calls.{Frees}, Evictions.{GivesUp, ClearsMarks}, Leaves.{ChangesLeaves}, Parts.{IsFit}, Picture.{Picture, entry, is_data}, Steps.{SameBeside}, declared.leaves.Change.TheVariants.{ClearAccessed}}

-- marks cleared
pub marks_none : {mode : ℕ} (c : Picture mode) → ClearsMarks c c
marks_none c = record { roles = λ n. refl; entries = λ pid page h. Same refl; pointers = λ n i m points. points }

pub marks_then : {mode : ℕ} (s old new : Picture mode) (n : ℕ) → ClearsMarks s old → ChangesLeaves ClearAccessed n old new → ClearsMarks s new
marks_then s old new n marks ch = record {
  roles = λ m. ch.roles m ∙ marks.roles m;
  entries = λ pid page h. ages_then (λ m. ⊥) (entry s pid page) (entry old pid page) (entry new pid page) (marks.entries pid page h) (elim (ch.entries pid page h) [
    | inl same ↦ Same same
    | inr over ↦ Cleared over.0.concerned over.1
  ]);
  pointers = λ a i m points. ch.pointers a i m (marks.pointers a i m points);
}

-- one frame given up, or none
pub frame_none : {mode : ℕ} (c : Picture mode) (v : ℕ) → GivesFrame c c v
frame_none c v = record { roles = λ n ne. refl; entries = λ pid page h. Same refl; pointers = λ n i m points. points }

pub frame_given : {mode : ℕ} (old mid new : Picture mode) (v : ℕ) → ClearsMarks old mid → GivesUp v mid new → is_data (role_of mid.frames v) ≡ true → GivesFrame old new v
frame_given old mid new v marks gives datum =
    let given : ℕ → Type 0 = λ n. (n ≡ v) × (is_data (role_of old.frames n) ≡ true) in
    let was : is_data (role_of old.frames v) ≡ true = sym (ap is_data (marks.roles v)) ∙ datum in
    record {
      roles = λ n ne. gives.2.roles n ne ∙ marks.roles n;
      entries = λ pid page h. ages_then given (entry old pid page) (entry mid pid page) (entry new pid page)
          (ages_map (λ n. ⊥) given (entry old pid page) (entry mid pid page) (λ n bad. absurd bad) (marks.entries pid page h))
          (ages_map (λ n. n ≡ v) given (entry mid pid page) (entry new pid page) (λ n e. (e, ap (λ k. is_data (role_of old.frames k)) e ∙ was)) (gives.2.ages pid page h));
      pointers = λ n i m points. gives.2.pointers n i m (marks.pointers n i m points);
    }

-- and then no other use, no entry and no pointer to a table changed
pub gives_kept : {mode : ℕ} (old found new : Picture mode) (n : ℕ) → ((m : ℕ) → m ≢ n → role_of new.frames m ≡ role_of found.frames m) → ((pid page : ℕ) → entry new pid page ≡ entry found pid page)
    → ((a i m : ℕ) → Points found.frames a i m → Points new.frames a i m) → GivesFrame old found n → GivesFrame old new n
gives_kept old found new n roles entries pointers gives = record {
  roles = λ m ne. roles m ne ∙ gives.roles m ne;
  entries = λ pid page h. rw (entries pid page) (gives.entries pid page h);
  pointers = λ a i m points. pointers a i m (gives.pointers a i m points);
}

-- a frame was tried for a table in vain
pub tables_tried : {mode : ℕ} (old new : Picture mode) (keep : Option FrameNo) (v : ℕ) → Frees old new keep → GivesFrame old new v → KeepsRoles old new → IsFull new.frames → GivesForTables old new (Some v)
tables_tried old new keep v frees gives still full = record {
  count = frees.count;
  roles = λ n. inl (still n);
  entries = λ pid page h. ages_map (λ n. (n ≡ v) × (is_data (role_of old.frames n) ≡ true)) (IsGiven old new (Some v)) (entry old pid page) (entry new pid page)
      (λ n given. (given.1, inr (ap (λ (k : ℕ). Some k) (sym given.0)))) (gives.entries pid page h);
  pointers = gives.pointers;
  needed = inl full;
}

-- the frame that is free then was the one given up
pub one_given : {mode : ℕ} (old found : Picture mode) (v n : ℕ) → frame_count found.frames ≡ frame_count old.frames → IsFull old.frames → GivesFrame old found v → IsFrame found.frames n → role_of found.frames n ≡ Free → v ≡ n
one_given old found v n count full gives inside free = elim (cases_eq n v) [
  | inl e ↦ sym e
  | inr ne ↦ absurd (full n (omega (arith, count, inside)) (sym (gives.roles n ne) ∙ free))
]

-- the frame that is taken then is the one that was given up, where any was
pub frame_taken : {mode : ℕ} (old found : Picture mode) (keep : Option FrameNo) (v n : ℕ) → Frees old found keep → GivesFrame old found v → IsFull old.frames ⊎ (found ≡ old) → IsFrame found.frames n
    → role_of found.frames n ≡ Free → GivesFrame old found n
frame_taken {mode} old found keep v n frees gives needed inside free = elim needed [
  | inl full ↦ (let P : ℕ → Type 0 = λ k. GivesFrame old found k in subst P (one_given old found v n frees.count full gives inside free) gives)
  | inr same ↦ (let P : Picture mode → Type 0 = λ c. GivesFrame old c n in subst P (sym same) (frame_none old n))
]

-- a frame was obtained and became a table
module _ {mode : ℕ} (old found new : Picture mode) (n : ℕ) (fit : IsFit found) (frees : Frees old found None) (adds : AddsTable found.frames new.frames (top_level mode) n) (beside : SameBeside found new)
    (gives : GivesFrame old found n) where
  pub roles_but : KeepsRolesBut old new n
  roles_but m ne = adds.takes.others.roles m ne ∙ gives.roles m ne

  use_before : (role_of old.frames n ≡ Free) ⊎ (is_data (role_of old.frames n) ≡ true)
  use_before = elim (frees.roles n) [ inl same ↦ inl (sym same ∙ adds.takes.was_free) | inr gone ↦ inr gone.1 ]

  pub entries_same : (pid page : ℕ) → entry new pid page ≡ entry found pid page
  entries_same = entries_kept found new 0 fit.rooted adds.entries beside.root

  pub gives_table : GivesFrame old new n
  gives_table = gives_kept old found new n adds.takes.others.roles entries_same (same_taken found.frames new.frames n fit.rooted.forest adds.takes).forth gives

  given_table : (m : ℕ) → (m ≡ n) × (is_data (role_of old.frames m) ≡ true) → IsGiven old new None m
  given_table m given = (given.1, inl (ap is_data (ap (role_of new.frames) given.0 ∙ adds.takes.kind_set)))

  full_table : IsFull old.frames → IsFull new.frames
  full_table full m inside free = elim (cases_eq m n) [
    | inl e ↦ (let bad : Table ≡ Free = sym (ap (role_of new.frames) e ∙ adds.takes.kind_set) ∙ free in (cc))
    | inr ne ↦ full m (let first = frees.count in let second = adds.takes.others.frames in omega (arith, first, second, inside)) (sym (roles_but m ne) ∙ free)
  ]

  none_table : found ≡ old → GivesNone old new
  none_table same = record {
    roles = λ m datum. elim (cases_eq m n) [
      | inl e ↦ (
          let free : role_of old.frames n ≡ Free = ap (λ (c : Picture mode). role_of c.frames n) (sym same) ∙ adds.takes.was_free in
          absurd (false≢true (sym (ap is_data (ap (role_of old.frames) e ∙ free)) ∙ datum)))
      | inr ne ↦ roles_but m ne
    ];
    entries = λ pid page h. entries_same pid page ∙ ap (λ (c : Picture mode). entry c pid page) same;
    places = λ p. beside.place p ∙ ap (λ (c : Picture mode). c.place p) same;
  }

  pub table_given : IsFull old.frames ⊎ (found ≡ old) → GivesForTables old new None
  table_given needed = record {
    count = adds.takes.others.frames ∙ frees.count;
    roles = λ m. elim (cases_eq m n) [
      | inl e ↦ inr (
        ap (role_of new.frames) e ∙ adds.takes.kind_set,
        elim use_before [ inl free ↦ inl (ap (role_of old.frames) e ∙ free) | inr datum ↦ inr (ap is_data (ap (role_of old.frames) e) ∙ datum) ],
      )
      | inr ne ↦ inl (roles_but m ne)
    ];
    entries = λ pid page h. rw (entries_same pid page) (ages_map (λ m. (m ≡ n) × (is_data (role_of old.frames m) ≡ true)) (IsGiven old new None) (entry old pid page) (entry found pid page) given_table (gives.entries pid page h));
    pointers = gives_table.pointers;
    needed = elim needed [ inl full ↦ inl (full_table full) | inr same ↦ inr (none_table same) ];
  }
