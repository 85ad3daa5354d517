-- What stands for the homes of a directory, read entry by entry.
use Rattle.std.proofs.Common.{ℕ, ◌≡◌, ◌<◌, ◌≤◌, ◌+◌, ◌-◌, ◌*◌, ◌/◌, ◌%◌, ⊎_elim, List, set, take, replicate, [], ◌∷◌, ◌++◌, length, true, false, refl, sym, ap, subst, ◌∙◌, arith, Option, None, Result, Ok, Err, OnErr}
use Rattle.std.specs.Prelude.{nat_lt}
use Rattle.std.proofs.lemmas.{Bool.{cases_lt, cases_eq, cond-true, cond-false, Decides.{nat_tests}}, List.{drop-replicate, take-replicate, get_or-set_same, get_or-set_other, length-set, ext_get_or, get_or_past, get_or_push, get_or_append_left, length_push}}
use Rattle.disk_model.specs.Sectors.{joined}
use Rattle.directories.specs.{Entries.{SaysEntry, entry_bytes, entry_said}, Layouts.{entry_in, IsGoodLayout}}
use Rattle.directories.specs.declared.entry.{Entry.{Entry}, EntryFault.{EntryFault}}
use Rattle.directories.proofs.Said.{said}
use Rattle.pool_store.specs.{Pools.{entry_standing, entry_by, AreSaid, HaveBounds, IsDirectory}, Reading.{AppendsPage, HasNoEntry}}

-- the entry at place j of page i
pub entry_at : (stands : ℕ → ℕ → List ℕ) (page : List ℕ) (i j : ℕ) → j < 16 → page ≡ joined (stands i) 8 → entry_standing stands (16 * i + j) ≡ entry_bytes page j
entry_at stands page i j below is =
    let home : (16 * i + j) / 16 ≡ i = omega (arith, below) in
    let place : (16 * i + j) % 16 ≡ j = omega (arith, below) in
    ap (λ h. entry_bytes (joined (stands h) 8) ((16 * i + j) % 16)) home ∙ ap (entry_bytes (joined (stands i) 8)) place ∙ ap (λ (bytes : List ℕ). entry_bytes bytes j) (sym is)

-- the entries of one page more
pub said_more : (stands : ℕ → ℕ → List ℕ) (page : List ℕ) (i : ℕ) (old new : List (Option Entry)) → length old ≡ 16 * i → page ≡ joined (stands i) 8
    → AppendsPage page 16 old new → AreSaid i stands old → AreSaid (i + 1) stands new
said_more stands page i old new size is appends before f below = ⊎_elim
    (λ (less : f < 16 * i). subst (SaysEntry (entry_standing stands f)) (sym (appends.before f (omega (arith, less, size)))) (before f less))
    (λ (from : 16 * i ≤ f).
    let at : f ≡ 16 * i + (f - 16 * i) = omega (arith, from) in
    let small : f - 16 * i < 16 = omega (arith, below, from) in
    let here : SaysEntry (entry_bytes page (f - 16 * i)) (entry_in new (16 * i + (f - 16 * i))) =
    subst (λ n. SaysEntry (entry_bytes page (f - 16 * i)) (entry_in new (n + (f - 16 * i)))) size (appends.said (f - 16 * i) small) in
    subst (λ n. SaysEntry (entry_standing stands n) (entry_in new n)) (sym at)
    (subst (λ bytes. SaysEntry bytes (entry_in new (16 * i + (f - 16 * i)))) (sym (entry_at stands page i (f - 16 * i) small is)) here))
    (cases_lt f (16 * i))

-- a page of which an entry is none is of no directory
pub none_said : (stands : ℕ → ℕ → List ℕ) (page : List ℕ) (i d : ℕ) → i < d → page ≡ joined (stands i) 8 → HasNoEntry page
    → (entries : List (Option Entry)) → AreSaid d stands entries → ⊥
none_said stands page i d less is bad entries all = bad.2 (entry_in entries (16 * i + bad.0))
    (subst (λ bytes. SaysEntry bytes (entry_in entries (16 * i + bad.0))) (entry_at stands page i bad.0 bad.1 is) (all (16 * i + bad.0) (omega (arith, less, bad.1))))

-- what stands says one list of entries
pub one_list : (d : ℕ) (stands : ℕ → ℕ → List ℕ) (entries others : List (Option Entry)) → length entries ≡ 16 * d → length others ≡ 16 * d
    → AreSaid d stands entries → AreSaid d stands others → entries ≡ others
one_list d stands entries others size also all same = ext_get_or None entries others (size ∙ sym also)
    (λ f inside. (let below : f < 16 * d = omega (arith, inside, size) in
    sym (said (entry_standing stands f) (entry_in entries f) (all f below)) ∙ said (entry_standing stands f) (entry_in others f) (same f below)))

-- so none are a directory where these may be no store's
pub not_bounded : (d n : ℕ) (stands : ℕ → ℕ → List ℕ) (entries : List (Option Entry)) → length entries ≡ 16 * d → AreSaid d stands entries → (HaveBounds entries → ⊥)
    → (others : List (Option Entry)) → IsDirectory d n stands others → ⊥
not_bounded d n stands entries size all bad others is = bad (subst HaveBounds (sym (one_list d stands entries others size is.size all is.said)) is.bounded)

pub not_good : (d n : ℕ) (stands : ℕ → ℕ → List ℕ) (entries : List (Option Entry)) → length entries ≡ 16 * d → AreSaid d stands entries → (IsGoodLayout d n entries → ⊥)
    → (others : List (Option Entry)) → IsDirectory d n stands others → ⊥
not_good d n stands entries size all bad others is = bad (subst (IsGoodLayout d n) (sym (one_list d stands entries others size is.size all is.said)) is.good)

-- which are the ones that an image says by itself
pub entry_stood : (d : ℕ) (stands : ℕ → ℕ → List ℕ) (entries : List (Option Entry)) → length entries ≡ 16 * d → AreSaid d stands entries
    → (f : ℕ) → entry_by d stands f ≡ entry_in entries f
entry_stood d stands entries size all f = ⊎_elim
    (λ (less : f < 16 * d). (let yes : nat_lt f (16 * d) ≡ true = grind (arith, nat_tests) in
    cond-true (nat_lt f (16 * d)) (entry_said (entry_standing stands f)) None yes ∙ said (entry_standing stands f) (entry_in entries f) (all f less)))
    (λ (past : 16 * d ≤ f). (let none : nat_lt f (16 * d) ≡ false = grind (arith, nat_tests) in
    cond-false (nat_lt f (16 * d)) (entry_said (entry_standing stands f)) None none ∙ sym (get_or_past entries f None (omega (arith, past, size)))))
    (cases_lt f (16 * d))

-- an entry of a page of zeros is of no file
pub blank_entry : (i : ℕ) → i < 16 → entry_bytes (replicate 4096 0) i ≡ replicate 256 0
blank_entry i below = ap (take 256) (drop-replicate (256 * i) 4096 0) ∙ take-replicate 256 (4096 - 256 * i) 0 (omega (arith, below))

-- Behind others there is room for the entries of a page, and the first n of them are read:
pub record FillsPage (page : List ℕ) (n : ℕ) (old new : List (Option Entry)) : Type 0 where
  pub size : length new ≡ length old + 16
  pub before : (f : ℕ) → f < length old → entry_in new f ≡ entry_in old f
  pub said : (i : ℕ) → i < n → SaysEntry (entry_bytes page i) (entry_in new (length old + i))

pub fills_none : (page blank : List ℕ) (old new : List (Option Entry)) → AppendsPage blank 16 old new → FillsPage page 0 old new
fills_none page blank old new room = record { size = room.size; before = room.before; said = λ i less. absurd (omega (arith, less)) }

-- one entry more is read to its place
pub fills_one : (page : List ℕ) (n : ℕ) (old mid new : List (Option Entry)) (entry : Option Entry) → n < 16 → FillsPage page n old mid → SaysEntry (entry_bytes page n) entry
    → new ≡ set mid (length old + n) entry → FillsPage page (n + 1) old new
fills_one page n old mid new entry small so_far says is = record {
  size = ap length is ∙ length-set mid (length old + n) entry ∙ so_far.size;
  before = λ f less. beside f (λ same. omega (arith, less, same)) ∙ so_far.before f less;
  said = λ i less. ⊎_elim
      (λ same. subst (λ j. SaysEntry (entry_bytes page j) (entry_in new (length old + j))) (sym same) (subst (SaysEntry (entry_bytes page n)) (sym here) says))
      (λ other. subst (SaysEntry (entry_bytes page i)) (sym (beside (length old + i) (λ same. other (omega (arith, same))))) (so_far.said i (omega (arith, less, other))))
      (cases_eq i n);
}
  where
    here : entry_in new (length old + n) ≡ entry
    here = ap (λ (xs : List (Option Entry)). entry_in xs (length old + n)) is
        ∙ get_or-set_same mid (length old + n) entry None (let size = so_far.size in omega (arith, small, size))

    beside : (f : ℕ) → (f ≡ length old + n → ⊥) → entry_in new f ≡ entry_in mid f
    beside f other = ap (λ (xs : List (Option Entry)). entry_in xs f) is ∙ get_or-set_other mid (length old + n) f entry None other

-- what holds is told of a fault
pub on_fault : (result : Result (Unit {0}) EntryFault) (P : Type 0) → P → OnErr result P
on_fault (Ok _) P holds = tt
on_fault (Err _) P holds = holds

-- one entry more is appended
pub appends_none : (page : List ℕ) (old : List (Option Entry)) → AppendsPage page 0 old old
appends_none page old = record { size = omega arith; before = λ f less. refl; said = λ i less. absurd (omega (arith, less)) }

pub appends_one : (page : List ℕ) (i : ℕ) (old mid new : List (Option Entry)) (entry : Option Entry) → AppendsPage page i old mid → SaysEntry (entry_bytes page i) entry
    → new ≡ mid ++ entry ∷ [] → AppendsPage page (i + 1) old new
appends_one page i old mid new entry so_far says is =
    let size : length mid ≡ length old + i = so_far.size in
    let long : length new ≡ length mid + 1 = ap length is ∙ length_push mid entry in
    let kept : (f : ℕ) → f < length mid → entry_in new f ≡ entry_in mid f = λ f less. ap (λ (xs : List (Option Entry)). entry_in xs f) is ∙ get_or_append_left mid (entry ∷ []) None f less in
    record {
      size = omega (arith, size, long);
      before = λ f less. kept f (omega (arith, less, size)) ∙ so_far.before f less;
      said = λ j less. ⊎_elim
          (λ same. (let here : entry_in new (length old + j) ≡ entry =
          ap (λ (xs : List (Option Entry)). entry_in xs (length old + j)) is ∙ get_or_push mid entry None (length old + j) (omega (arith, same, size)) in
          subst (SaysEntry (entry_bytes page j)) (sym here) (subst (λ n. SaysEntry (entry_bytes page n) entry) (sym same) says)))
          (λ other. subst (SaysEntry (entry_bytes page j)) (sym (kept (length old + j) (omega (arith, less, other, size)))) (so_far.said j (omega (arith, less, other))))
          (cases_eq j i);
    }
