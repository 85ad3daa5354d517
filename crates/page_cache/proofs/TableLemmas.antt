-- Places and touched pages, by the nodes that hold them.
use Rattle.std.proofs.{Common.{◌≡◌, ◌≢◌, ℕ, ◌+◌, ◌-◌, ◌<◌, ◌≤◌, ◌⊎◌, Bool, false, List, length, get_or, Option, Some, None, IfSome, IfNone, refl, sym, ap, ◌∙◌, subst, inl, inr, arith, set, length-set, replicate}, lemmas.Bool.{false≢true}}
use Rattle.{std.proofs.lemmas.{Bool.{cases_Bool, cases_lt, both_ways, lt-ltb, le-ltb}, List.{length-replicate}, Option.{none-some, same_Some}}, vm_types.specs.{Attributes.{page_key_eq}, declared.object.PageKey.{PageKey}}}
use Rattle.page_cache.{proofs.NodeLemmas.{same_page, same_page_true, holds-true, false-holds, page_at-within, first_node-holds, first_node-no_node, first_node-none, first_node-of, first_node-kept, unheld_at}, specs.CacheTable.{CacheTable}}
use Rattle.page_cache.specs.{CacheTable.{cache_frames, place_in, place_of, is_marked, is_touched, IsInside, IsSoundCache, IsNewCache, SameButForPage}, Inside.{cache_table_of, IsWholeCache}, Nodes.{page_at, first_node, IsOneToOne}}
use Rattle.page_cache.specs.declared.{cache.PageCache.TheInside.{Inside}, place.Place.{Place, TheVariants.{Home, Frame, Slot}}}

-- two file pages are one or not
pub cases_page : (p q : PageKey) → (p ≡ q) ⊎ (p ≢ q)
cases_page p q = elim (cases_Bool (page_key_eq p q)) [
  | inl e ↦ inl (same_page p q e)
  | inr ne ↦ inr (λ e. both_ways (page_key_eq p q) ne (ap (page_key_eq p) (sym e) ∙ same_page_true p))
]

-- a page is found at a node or nowhere
pub cases_node : (pages : List (Option PageKey)) (page : PageKey) → ((n : ℕ) × (first_node pages page ≡ Some n) × (page_at pages n ≡ Some page))
    ⊎ ((first_node pages page ≡ None) × ((n : ℕ) → page_at pages n ≢ Some page))
cases_node pages page = by_found (first_node pages page) refl where
  by_found : (o : Option ℕ) → first_node pages page ≡ o → ((n : ℕ) × (first_node pages page ≡ Some n) × (page_at pages n ≡ Some page))
      ⊎ ((first_node pages page ≡ None) × ((n : ℕ) → page_at pages n ≢ Some page))
  by_found None e = inr (e, λ n. false-holds page (page_at pages n) (first_node-no_node pages page e n))
  by_found (Some n) e = inl (n, e, holds-true page (page_at pages n) (first_node-holds pages page n e))

pub place_in-frame : (frames n : ℕ) → n < frames → place_in frames (Some n) ≡ Frame (record { 0 = n })
place_in-frame frames n below = rw (lt-ltb n frames below) refl

pub place_in-slot : (frames n : ℕ) → frames ≤ n → place_in frames (Some n) ≡ Slot (record { 0 = n - frames })
place_in-slot frames n above = rw (le-ltb n frames above) refl

pub place_in-slot_at : (frames n : ℕ) → place_in frames (Some (frames + n)) ≡ Slot (record { 0 = n })
place_in-slot_at frames n = place_in-slot frames (frames + n) (omega arith) ∙ ap (λ (k : ℕ). Slot (record { 0 = k })) (omega arith)

-- the number of a place
abbrev number_in : Place → ℕ
number_in Home = 0
number_in (Frame n) = n.0
number_in (Slot n) = n.0

pub place_in-held : (frames n : ℕ) → place_in frames (Some n) ≢ Home
place_in-held frames n e = elim (cases_lt n frames) [
  | inl below ↦ (let bad : Frame (record { 0 = n }) ≡ Home = sym (place_in-frame frames n below) ∙ e in (cc))
  | inr above ↦ (let bad : Slot (record { 0 = n - frames }) ≡ Home = sym (place_in-slot frames n above) ∙ e in (cc))
]

-- nodes are places one to one
pub place_in-one : (frames m n : ℕ) → place_in frames (Some m) ≡ place_in frames (Some n) → m ≡ n
place_in-one frames m n e = elim (cases_lt m frames) [
  | inl m_below ↦ elim (cases_lt n frames) [
    | inl n_below ↦ ap number_in (sym (place_in-frame frames m m_below) ∙ e ∙ place_in-frame frames n n_below)
    | inr n_above ↦ (let bad : Frame (record { 0 = m }) ≡ Slot (record { 0 = n - frames }) = sym (place_in-frame frames m m_below) ∙ e ∙ place_in-slot frames n n_above in (cc))
  ]
  | inr m_above ↦ elim (cases_lt n frames) [
    | inl n_below ↦ (let bad : Frame (record { 0 = n }) ≡ Slot (record { 0 = m - frames }) = sym (place_in-frame frames n n_below) ∙ sym e ∙ place_in-slot frames m m_above in (cc))
    | inr n_above ↦ (let same : m - frames ≡ n - frames = ap number_in (sym (place_in-slot frames m m_above) ∙ e ∙ place_in-slot frames n n_above) in omega arith)
  ]
]

-- the place and the mark of a page whose node is known
pub place_of-first : (t : CacheTable) (page : PageKey) (o : Option ℕ) → first_node t.pages page ≡ o → place_of t page ≡ place_in t.frames o
unfolding place_of
place_of-first t page o e = ap (place_in t.frames) e

pub is_touched-first : (t : CacheTable) (page : PageKey) (o : Option ℕ) → first_node t.pages page ≡ o → is_touched t page ≡ is_marked t.touched o
unfolding is_touched
is_touched-first t page o e = ap (is_marked t.touched) e

-- who has a place is held by its node
pub page_at-place : (t : CacheTable) (page : PageKey) (n : ℕ) → place_of t page ≡ place_in t.frames (Some n) → page_at t.pages n ≡ Some page
page_at-place t page n e = elim (cases_node t.pages page) [
  | inl found ↦ (let same = place_in-one t.frames found.0 n (sym (place_of-first t page (Some found.0) found.1) ∙ e) in
      subst (λ (k : ℕ). page_at t.pages k ≡ Some page) same found.2)
  | inr none ↦ absurd (place_in-held t.frames n (sym e ∙ place_of-first t page None none.0))
]

pub place_of-held : (t : CacheTable) (page : PageKey) (n : ℕ) → IsOneToOne t.pages → page_at t.pages n ≡ Some page → place_of t page ≡ place_in t.frames (Some n)
place_of-held t page n one e = place_of-first t page (Some n) (first_node-of t.pages page n one e)

-- what a node holds, as `page_in_frame` and `page_in_slot` say it
pub held_at : (t : CacheTable) (n : ℕ) (place : Place) (held : Option PageKey) → IsOneToOne t.pages → place_in t.frames (Some n) ≡ place → held ≡ page_at t.pages n
    → IfSome held (λ page. place_of t page ≡ place)
held_at t n place None one is e = tt
held_at t n place (Some page) one is e = place_of-held t page n one (sym e) ∙ is

pub none_at : (t : CacheTable) (n : ℕ) (place : Place) (held : Option PageKey) → place_in t.frames (Some n) ≡ place → held ≡ page_at t.pages n
    → IfNone held ((page : PageKey) → place_of t page ≢ place)
none_at t n place None is e = λ page there. none-some page (e ∙ page_at-place t page n (there ∙ sym is))
none_at t n place (Some page) is e = tt

-- one page was changed at one node: other pages are found where they were, and other nodes are marked as they were
pub SameButFor-node : (old new : CacheTable) (page : PageKey) (n : ℕ) → new.frames ≡ old.frames → length new.pages ≡ length old.pages
    → ((p : PageKey) → p ≢ page → first_node new.pages p ≡ first_node old.pages p) → ((p : PageKey) → p ≢ page → page_at old.pages n ≢ Some p)
    → ((m : ℕ) → m ≢ n → get_or new.touched m false ≡ get_or old.touched m false) → SameButForPage page old new
SameButFor-node old new page n frames nodes found other marks = record {
  frames = frames;
  slots = rw (frames, nodes) refl;
  places = λ p ne. place_of-first new p (first_node old.pages p) (found p ne) ∙ ap (λ f. place_in f (first_node old.pages p)) frames ∙ sym (place_of-first old p (first_node old.pages p) refl);
  touched = λ p ne. is_touched-first new p (first_node old.pages p) (found p ne) ∙ elim (cases_node old.pages p) [
    | inl at_node ↦ (let apart : at_node.0 ≢ n = λ e. other p ne (subst (λ (k : ℕ). page_at old.pages k ≡ Some p) e at_node.2) in
        rw at_node.1 (marks at_node.0 apart ∙ sym (is_touched-first old p (Some at_node.0) at_node.1)))
    | inr none ↦ rw none.0 (sym (is_touched-first old p None none.0))
  ];
}

-- a change of the marks alone, at the node of the page
pub SameButFor-marks : (frames : ℕ) (pages : List (Option PageKey)) (before after : List Bool) (page : PageKey) (n : ℕ) → page_at pages n ≡ Some page
    → ((m : ℕ) → m ≢ n → get_or after m false ≡ get_or before m false)
    → SameButForPage page (record { frames = frames; pages = pages; touched = before }) (record { frames = frames; pages = pages; touched = after })
SameButFor-marks frames pages before after page n held marks =
    SameButFor-node (record { frames = frames; pages = pages; touched = before }) (record { frames = frames; pages = pages; touched = after }) page n refl refl
    (λ p ne. refl) (λ p ne e. ne (sym (same_Some page p (sym held ∙ e)))) marks

-- the node holds the page or nothing, before and after
pub SameButFor-set : (frames : ℕ) (pages : List (Option PageKey)) (before after : List Bool) (page : PageKey) (n : ℕ) (now : Option PageKey)
    → ((p : PageKey) → p ≢ page → page_at pages n ≢ Some p) → ((p : PageKey) → p ≢ page → now ≢ Some p)
    → ((m : ℕ) → m ≢ n → get_or after m false ≡ get_or before m false)
    → SameButForPage page (record { frames = frames; pages = pages; touched = before }) (record { frames = frames; pages = set pages n now; touched = after })
SameButFor-set frames pages before after page n now was is marks =
    SameButFor-node (record { frames = frames; pages = pages; touched = before }) (record { frames = frames; pages = set pages n now; touched = after }) page n refl
    (length-set pages n now) (λ p ne. first_node-kept pages n now p (was p ne) (is p ne)) was marks

-- what is true of every cache
pub IsSound-whole : (c : Inside) → IsWholeCache c → IsSoundCache (cache_table_of c)
IsSound-whole c whole = record {
  least_frames = whole.least_frames;
  most_frames = whole.most_frames;
  most_slots = omega (arith, whole.most_nodes, whole.least_nodes);
  inside = λ page. elim (cases_node c.index.pages.items page) [
    | inl found ↦ rw (place_of-first (cache_table_of c) page (Some found.0) found.1) (inside_node found.0 (page_at-within c.index.pages.items found.0 page found.2))
    | inr none ↦ rw (place_of-first (cache_table_of c) page None none.0) tt
  ];
  apart = λ p q same held. elim (cases_node c.index.pages.items p) [
    | inl found ↦ (let there = place_of-first (cache_table_of c) p (Some found.0) found.1 in
        same_Some p q (sym found.2 ∙ page_at-place (cache_table_of c) q found.0 (sym same ∙ there)))
    | inr none ↦ absurd (held (place_of-first (cache_table_of c) p None none.0))
  ];
  touched_held = λ page touched home. elim (cases_node c.index.pages.items page) [
    | inl found ↦ absurd (place_in-held c.frames found.0 (sym (place_of-first (cache_table_of c) page (Some found.0) found.1) ∙ home))
    | inr none ↦ absurd (both_ways (is_touched (cache_table_of c) page) (is_touched-first (cache_table_of c) page None none.0) touched)
  ];
} where
  inside_node : (n : ℕ) → n < length c.index.pages.items → IsInside (cache_table_of c) (place_in c.frames (Some n))
  inside_node n within = elim (cases_lt n c.frames) [
    | inl below ↦ rw (place_in-frame c.frames n below) below
    | inr above ↦ rw (place_in-slot c.frames n above) (omega arith)
  ]

-- a cache whose nodes hold nothing
pub IsFresh-empty : (t : CacheTable) (slots : ℕ) → t.pages ≡ replicate (t.frames + slots) None → IsNewCache t t.frames slots
IsFresh-empty t slots empty =
    let nodes : length t.pages ≡ t.frames + slots = ap length empty ∙ length-replicate (t.frames + slots) None in
    let nowhere : (page : PageKey) → first_node t.pages page ≡ None =
    λ page. rw empty (first_node-none (replicate (t.frames + slots) None) page (λ m below. rw (unheld_at (t.frames + slots) m) refl)) in
    record {
      frames_are = refl;
      slots_are = omega arith;
      at_home = λ page. place_of-first t page None (nowhere page);
      untouched = λ page. is_touched-first t page None (nowhere page);
    }

pub IsSound-fresh : (t : CacheTable) (frames slots : ℕ) → 8 ≤ frames → frames ≤ 65536 → slots ≤ 65536 → IsNewCache t frames slots → IsSoundCache t
IsSound-fresh t frames slots least most most_slots fresh =
    let count : cache_frames t ≡ frames = fresh.frames_are in
    record {
      least_frames = omega (arith, count, least);
      most_frames = omega (arith, count, most);
      most_slots = omega (arith, fresh.slots_are, most_slots);
      inside = λ page. (let P : Place → Type 0 = λ place. IsInside t place in subst P (sym (fresh.at_home page)) tt);
      apart = λ p q e away. absurd (away (fresh.at_home p));
      touched_held = λ page touched. absurd (false≢true (sym (fresh.untouched page) ∙ touched));
    }
