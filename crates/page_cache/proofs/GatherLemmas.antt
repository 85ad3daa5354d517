-- A list in the middle of its gathering: which pages were looked at, and that those of the row are listed.
use Rattle.std.proofs.Common.{◌≡◌, ◌≢◌, ℕ, ◌+◌, ◌<◌, ◌≤◌, ◌⊎◌, true, false, List, length, get_or, Option, Some, None, Result, Ok, Err, IsErr, refl, sym, ap, ◌∙◌, subst, inl, inr, arith, set, length-set, get_or-set_same, get_or-set_other}
use Rattle.{std.proofs.lemmas.{Bool.{cases_eq, both_ways, false≢true, lt-ltb, ltb-true}, Option.{none-some, same_Some}}, vm_types.specs.declared.{file.FilePage.{FilePage}, object.PageKey.{PageKey, TheVariants.{File}}}}
use Rattle.page_cache.{proofs.{CountLemmas.{count-at_least, count-most}, NodeLemmas.{first_node-of, first_node-holds, holds-true, page_at-within, node_number}, SetLemmas.{members-at, is_member-inside, is_member-rank}, TableLemmas.{cases_node, is_touched-first}}, specs.{CacheTable.{CacheTable, cache_frames, slot_count, is_touched}, Gathering.{filed, IsTouchedIn}}}
use Rattle.page_cache.specs.{Gathering.{index_entry, IsListed, AreRanked, IsAtRank, IsGathering, Gathers, GathersRow, Overflows, Pushes}, Nodes.{page_at, first_node, IsOneToOne}, Sets.{members, IsOrdered}}

-- two pages at one node are one
same_held : (pages : List (Option PageKey)) (p q : FilePage) (node : ℕ) → first_node pages (File p) ≡ Some node → first_node pages (File q) ≡ Some node → p ≡ q
same_held pages p q node p_there q_there =
    let at_p = holds-true (File p) (page_at pages node) (first_node-holds pages (File p) node p_there) in
    let at_q = holds-true (File q) (page_at pages node) (first_node-holds pages (File q) node q_there) in
    same_Some p q (ap filed (sym at_p ∙ at_q))

-- an entry that is not entry n stays; entry n is the page
entry_old : (new : List FilePage) (n i : ℕ) (page : FilePage) → i ≢ n → index_entry (set new n page) i ≡ index_entry new i
entry_old new n i page other = get_or-set_other new n i page (record { file = 0; page = 0 }) other

entry_new : (new : List FilePage) (n i : ℕ) (page : FilePage) → n < length new → i ≡ n → index_entry (set new n page) i ≡ page
entry_new new n i page inside e = ap (index_entry (set new n page)) e ∙ get_or-set_same new n page (record { file = 0; page = 0 }) inside

module _ (t : CacheTable) where
  -- each node has a place for its rank
  pub node_inside : (ranks : List ℕ) (page : FilePage) (node : ℕ) → first_node t.pages (File page) ≡ Some node → cache_frames t + slot_count t ≤ length ranks → node < length ranks
  node_inside ranks page node first nodes =
      let within = page_at-within t.pages node (File page) (holds-true (File page) (page_at t.pages node) (first_node-holds t.pages (File page) node first)) in
      omega (arith, within, nodes)

  -- a page that isn't where its node has noted is not listed
  unlisted_at : (list : List FilePage) (ranks : List ℕ) (n node : ℕ) (page : FilePage) → AreRanked t list ranks n → first_node t.pages (File page) ≡ Some node
      → (IsAtRank list ranks n node page → ⊥) → IsListed list n page → ⊥
  unlisted_at list ranks n node page ranked first absent listed =
      let was = ranked listed.0 listed.1 in
      let node_is : was.0 ≡ node = same_Some was.0 node (sym was.1 ∙ ap (λ (p : FilePage). first_node t.pages (File p)) listed.2 ∙ first) in
      let rank_is : get_or ranks node 0 ≡ listed.0 = ap (λ (k : ℕ). get_or ranks k 0) (sym node_is) ∙ was.2 in
      absent (rw rank_is listed.1, ap (index_entry list) rank_is ∙ listed.2)

  ranked_more : (list : List FilePage) (ranks : List ℕ) (n node : ℕ) (page : FilePage) → AreRanked t list ranks n → first_node t.pages (File page) ≡ Some node
      → (IsListed list n page → ⊥) → n < length list → node < length ranks → AreRanked t (set list n page) (set ranks node n) (n + 1)
  ranked_more list ranks n node page ranked first unlisted inside node_in i below = elim (cases_eq i n) [
    | inl e ↦ (node, ap (λ (p : FilePage). first_node t.pages (File p)) (entry_new list n i page inside e) ∙ first, get_or-set_same ranks node n 0 node_in ∙ sym e)
    | inr other ↦ (let was = ranked i (omega arith) in
        let apart : was.0 ≢ node = λ same. unlisted (i, omega arith, same_held t.pages (index_entry list i) page node (was.1 ∙ ap Some same) first) in
        (was.0, ap (λ (p : FilePage). first_node t.pages (File p)) (entry_old list n i page other) ∙ was.1, get_or-set_other ranks node was.0 n 0 apart ∙ was.2))
  ]

  -- the node of an entry
  node_of : List FilePage → ℕ → ℕ
  node_of list i = node_number (first_node t.pages (File (index_entry list i)))

  -- no more pages are listed than there are nodes
  pub ranked_few : (list : List FilePage) (ranks : List ℕ) (n : ℕ) → AreRanked t list ranks n → n ≤ length t.pages
  unfolding node_of
  ranked_few list ranks n ranked =
      let node_is : (i : ℕ) (below : i < n) → node_of list i ≡ (ranked i below).0 = λ i below. ap node_number (ranked i below).1 in
      let inside : (i : ℕ) → i < n → node_of list i < length t.pages = λ i below.
      rw (node_is i below) (page_at-within t.pages (ranked i below).0 (File (index_entry list i))
      (holds-true (File (index_entry list i)) (page_at t.pages (ranked i below).0) (first_node-holds t.pages (File (index_entry list i)) (ranked i below).0 (ranked i below).1))) in
      let apart : (i j : ℕ) → i < j → j < n → node_of list i ≢ node_of list j = λ i j less below same. (
      let i_below : i < n = omega arith in
      let equal : i ≡ j = sym (ranked i i_below).2 ∙ ap (λ (k : ℕ). get_or ranks k 0) (sym (node_is i i_below) ∙ same ∙ node_is j below) ∙ (ranked j below).2 in
      omega (arith, equal)
      ) in
      omega (arith, count-at_least n (node_of list) (λ _. true) (length t.pages) (λ i below. (inside i below, refl)) apart, count-most (λ _. true) (length t.pages))

-- the touched pages of the row that were looked at are listed
pub record IsPart (t : CacheTable) (file first count used : ℕ) (Seen : FilePage → Type 0) (old new : List FilePage) (ranks : List ℕ) (n : ℕ) : Type 0 where
  pub gathers : Gathers t file first count used old new ranks n
  pub all : (p : FilePage) → IsTouchedIn t file first count p → Seen p → IsListed new n p

module _ (t : CacheTable) (file first count used : ℕ) where
  -- no page was looked at
  pub IsPart-none : (Seen : FilePage → Type 0) (list : List FilePage) (ranks : List ℕ) → IsGathering t list ranks used
      → ((p : FilePage) → IsTouchedIn t file first count p → Seen p → ⊥) → IsPart t file first count used Seen list list ranks used
  IsPart-none Seen list ranks gathering none = record {
    gathers = record {
      size = refl;
      longer = omega arith;
      most = gathering.room;
      kept = λ i below. refl;
      rest = λ i above. refl;
      touched = λ i above below. absurd (omega arith);
      once = λ i j less above below same. omega arith;
      next = gathering;
    };
    all = λ p in_row seen. absurd (none p in_row seen);
  }

  -- a page was looked at that isn't to be listed
  pub IsPart-skip : (Seen Now : FilePage → Type 0) (old new : List FilePage) (ranks : List ℕ) (n : ℕ) → IsPart t file first count used Seen old new ranks n
      → ((p : FilePage) → IsTouchedIn t file first count p → Now p → Seen p ⊎ IsListed new n p) → IsPart t file first count used Now old new ranks n
  IsPart-skip Seen Now old new ranks n part more = record {
    gathers = part.gathers;
    all = λ p touched now. elim (more p touched now) [ inl seen ↦ part.all p touched seen | inr listed ↦ listed ];
  }

  -- a touched page of the row that isn't listed was put behind the others
  Gathers-push : (old new : List FilePage) (ranks : List ℕ) (n node : ℕ) (page : FilePage) → Gathers t file first count used old new ranks n → IsTouchedIn t file first count page
      → first_node t.pages (File page) ≡ Some node → (IsListed new n page → ⊥) → n < length new → Gathers t file first count used old (set new n page) (set ranks node n) (n + 1)
  Gathers-push old new ranks n node page g touched first_is unlisted inside = record {
    size = size;
    longer = omega (arith, g.longer);
    most = omega (arith, g.size);
    kept = λ i below. entry_old new n i page (λ e. (omega (arith, g.longer))) ∙ g.kept i below;
    rest = λ i above. entry_old new n i page (λ e. (omega arith)) ∙ g.rest i (omega arith);
    touched = λ i above below. elim (cases_eq i n) [
      | inl e ↦ rw (entry_new new n i page inside e) touched
      | inr other ↦ rw (entry_old new n i page other) (g.touched i above (omega arith))
    ];
    once = λ i j less above below same. elim (cases_eq j n) [
      | inl e ↦ (let other : i ≢ n = omega arith in unlisted (i, omega arith, sym (entry_old new n i page other) ∙ same ∙ entry_new new n j page inside e))
      | inr other_j ↦ (let other_i : i ≢ n = omega arith in
          g.once i j less above (omega arith) (sym (entry_old new n i page other_i) ∙ same ∙ entry_old new n j page other_j))
    ];
    next = record {
      room = omega (arith, length-set new n page);
      nodes = rw (length-set ranks node n) g.next.nodes;
      ranked = ranked_more t new ranks n node page g.next.ranked first_is unlisted inside (node_inside t ranks page node first_is g.next.nodes);
    };
  } where
    size : length (set new n page) ≡ length old
    size = length-set new n page ∙ g.size

  -- the answer of `push_fresh` for a page that was looked at
  pub IsPart-pushed : (Seen Now : FilePage → Type 0) (old new after : List FilePage) (ranks ranks_after : List ℕ) (n m node : ℕ) (page : FilePage)
      → IsPart t file first count used Seen old new ranks n → ((p : FilePage) → IsTouchedIn t file first count p → Now p → Seen p ⊎ (p ≡ page))
      → IsTouchedIn t file first count page → first_node t.pages (File page) ≡ Some node → Pushes new after ranks ranks_after n node page m
      → IsPart t file first count used Now old after ranks_after m
  IsPart-pushed Seen Now old new after ranks ranks_after n m node page part more touched first_is (inl skipped) =
      rw (skipped.0, skipped.1, skipped.2) (IsPart-skip Seen Now old new ranks n part (λ p in_row now. elim (more p in_row now) [
        | inl seen ↦ inl seen
        | inr e ↦ inr (get_or ranks node 0, skipped.3.0, skipped.3.1 ∙ sym e)
      ]))
  IsPart-pushed Seen Now old new after ranks ranks_after n m node page part more touched first_is (inr pushed) =
      rw (pushed.0, pushed.2, pushed.3) (record {
        gathers = Gathers-push old new ranks n node page part.gathers touched first_is (unlisted_at t new ranks n node page part.gathers.next.ranked first_is pushed.4) pushed.1;
        all = λ p in_row now. elim (more p in_row now) [
          | inl seen ↦ (let was = part.all p in_row seen in
              let other : was.0 ≢ n = omega (arith, was.1) in
              (was.0, omega (arith, was.1), entry_old new n was.0 page other ∙ was.2))
          | inr e ↦ (n, omega arith, entry_new new n n page pushed.1 refl ∙ sym e)
        ];
      })

  -- a page was looked at, and there was no room for it
  pub Overflows-full : (Seen : FilePage → Type 0) (old new : List FilePage) (ranks : List ℕ) (n node : ℕ) (page : FilePage) → IsPart t file first count used Seen old new ranks n
      → IsTouchedIn t file first count page → first_node t.pages (File page) ≡ Some node → (IsAtRank new ranks n node page → ⊥) → n ≡ length new
      → Overflows t file first count used old new ranks
  Overflows-full Seen old new ranks n node page part touched first_is absent full =
      let all_used : n ≡ length old = full ∙ part.gathers.size in
      record {
        full = subst (λ (k : ℕ). Gathers t file first count used old new ranks k) all_used part.gathers;
        missing = page;
        touched = touched;
        absent = λ listed. unlisted_at t new ranks n node page part.gathers.next.ranked first_is absent (listed.0, omega (arith, listed.1, all_used), listed.2);
      }

  -- so the row was gathered
  pub GathersRow-full : {E : Type 0} (old new : List FilePage) (ranks : List ℕ) (r : Result ℕ E) → IsErr r → Overflows t file first count used old new ranks
      → GathersRow t file first count used old new ranks r
  GathersRow-full old new ranks (Ok n) failed over = absurd (false≢true failed)
  GathersRow-full old new ranks (Err e) failed over = record { gathered = tt; all = tt; too_many = over }

-- by a look at each page of the row: what was looked at after one page more
pub row_more : (t : CacheTable) (file first count k : ℕ) (p : FilePage) → IsTouchedIn t file first count p → p.page < first + (k + 1)
    → (p.page < first + k) ⊎ (p ≡ record { file = file; page = first + k })
row_more t file first count k p in_row below = elim (cases_eq p.page (first + k)) [
  | inl e ↦ inr (ap (λ (f : ℕ). let r : FilePage = record { file = f; page = p.page } in r) in_row.row.0
      ∙ ap (λ (j : ℕ). let r : FilePage = record { file = file; page = j } in r) e)
  | inr other ↦ inl (omega arith)
]

pub row_touched : (t : CacheTable) (file first count k : ℕ) → is_touched t (File (record { file = file; page = first + k })) ≡ true → k < count
    → IsTouchedIn t file first count (record { file = file; page = first + k })
row_touched t file first count k touched below = record { row = (refl, omega arith, omega arith); touched = touched }

pub row_untouched : (t : CacheTable) (file first count k : ℕ) → is_touched t (File (record { file = file; page = first + k })) ≡ false
    → (p : FilePage) → IsTouchedIn t file first count p → p ≡ record { file = file; page = first + k } → ⊥
row_untouched t file first count k untouched p in_row e = both_ways (is_touched t (File p)) (ap (λ (q : FilePage). is_touched t (File q)) e ∙ untouched) in_row.touched

pub filed-some : (held : Option PageKey) (page : FilePage) → filed held ≡ Some page → held ≡ Some (File page)
filed-some (Some (File p)) page e = ap (λ (q : FilePage). Some (File q)) (same_Some p page e)
filed-some held page e = absurd (none-some page e)

-- by a look at each touched page: the page of a node at one of the first places
abbrev pub IsAtPlace : List (Option PageKey) → List ℕ → ℕ → FilePage → Type 0
IsAtPlace pages order count p = (j : ℕ) × (j < count) × (page_at pages (get_or order j 0) ≡ Some (File p))

module _ (frames : ℕ) (pages : List (Option PageKey)) (order ranks : List ℕ) (members_count : ℕ) (one : IsOneToOne pages) (ordered : IsOrdered order ranks members_count) where
  abbrev table : CacheTable
  table = record { frames = frames; pages = pages; touched = members ranks members_count }

  -- the node at a place of the set is a member
  pub place_touched : (place : ℕ) (page : FilePage) → place < members_count → page_at pages (get_or order place 0) ≡ Some (File page) → is_touched table (File page) ≡ true
  place_touched place page below held =
      let node : ℕ = get_or order place 0 in
      let in_ranks : place < length ranks = omega (arith, ordered.most) in
      let rank : get_or ranks node 0 ≡ place = ordered.rank_there place in_ranks in
      is_touched-first table (File page) (Some node) (first_node-of pages (File page) node one held) ∙ members-at ranks members_count node
      ∙ is_member-rank ranks members_count node (ordered.node_below place in_ranks) ∙ lt-ltb (get_or ranks node 0) members_count (rw rank below)

  pub place_more : (place : ℕ) (held : Option PageKey) (p : FilePage) → held ≡ page_at pages (get_or order place 0) → IsAtPlace pages order (place + 1) p
      → IsAtPlace pages order place p ⊎ (held ≡ Some (File p))
  place_more place held p is seen = elim (cases_eq seen.0 place) [
    | inl e ↦ inr (is ∙ ap (λ (j : ℕ). page_at pages (get_or order j 0)) (sym e) ∙ seen.2)
    | inr other ↦ inl (seen.0, omega (arith, seen.1), seen.2)
  ]

  -- each touched page is at one of all places
  pub place_all : (p : FilePage) → is_touched table (File p) ≡ true → IsAtPlace pages order members_count p
  place_all p touched = elim (cases_node pages (File p)) [
    | inl found ↦ (let member = sym (members-at ranks members_count found.0) ∙ sym (is_touched-first table (File p) (Some found.0) found.1) ∙ touched in
        let inside = is_member-inside ranks members_count found.0 member in
        let below = ltb-true (get_or ranks found.0 0) members_count (sym (is_member-rank ranks members_count found.0 inside) ∙ member) in
        (get_or ranks found.0 0, below, ap (page_at pages) (ordered.node_there found.0 inside) ∙ found.2))
    | inr none ↦ absurd (both_ways (is_touched table (File p)) (is_touched-first table (File p) None none.0) touched)
  ]
