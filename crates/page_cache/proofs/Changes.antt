-- What a call leaves of the cache: whole again, and the same but for one page.
use Rattle.std.proofs.{Common.{◌≡◌, ◌≢◌, ℕ, ◌<◌, false, List, length, get_or, Option, Some, None, refl, sym, ap, ◌∙◌, inl, inr, set, length-set, get_or-set_same, get_or-set_other}, lemmas.Bool.{cases_eq, both_ways, false_from_ne_true}}
use Rattle.{std.proofs.lemmas.Option.{none-some, same_Some}, vm_types.specs.declared.object.PageKey.{PageKey}, page_cache.proofs.{NodeLemmas.{first_node-of, IsOneToOne-removed, IsOneToOne-inserted}, SetLemmas.{members-at}}}
use Rattle.page_cache.{proofs.TableLemmas.{place_of-first, place_of-held, place_in-held, SameButFor-marks, SameButFor-set}, specs.{CacheTable.{CacheTable, place_in, place_of, SameButForPage}, Chains.{AreChained}, Inside.{cache_table_of}}}
use Rattle.page_cache.specs.{Inside.{IsWholeCache}, Nodes.{page_at, first_node, IsOneToOne}, Sets.{is_member, members, IsOrdered, SameMembersBut}, declared.{cache.PageCache.TheInside.{Inside}, index.Index.{Index}}}
use Rattle.page_cache.specs.declared.{node_set.NodeSet.{NodeSet}, place.Place.TheVariants.{Home}}

-- nodes but one are marked as they were
pub marks_same : (old : List ℕ) (old_count : ℕ) (new : List ℕ) (new_count node : ℕ) → SameMembersBut node old old_count new new_count
    → (m : ℕ) → m ≢ node → get_or (members new new_count) m false ≡ get_or (members old old_count) m false
marks_same old old_count new new_count node same m other = members-at new new_count m ∙ same.others m other ∙ sym (members-at old old_count m)

-- a page at home is held by no node
pub nowhere : (t : CacheTable) (page : PageKey) → IsOneToOne t.pages → place_of t page ≡ Home → (m : ℕ) → page_at t.pages m ≢ Some page
nowhere t page one home m held = place_in-held t.frames m (sym (place_of-held t page m one held) ∙ home)

-- a node whose place nobody has holds nothing
pub nothing_held : (t : CacheTable) (n : ℕ) → IsOneToOne t.pages → ((p : PageKey) → place_of t p ≢ place_in t.frames (Some n)) → page_at t.pages n ≡ None
nothing_held t n one free = by_held (page_at t.pages n) refl where
  by_held : (held : Option PageKey) → page_at t.pages n ≡ held → held ≡ None
  by_held None e = refl
  by_held (Some p) e = absurd (free p (place_of-held t p n one e))

-- the node gave up its page and its mark
pub IsWhole-taken : (c : Inside) (index : Index) (touched : NodeSet) (node : ℕ) (page : PageKey) → IsWholeCache c → page_at c.index.pages.items node ≡ Some page
    → index.pages.items ≡ set c.index.pages.items node None → AreChained index.pages.items index.links.items index.mask
    → IsOrdered touched.order.items touched.ranks.items touched.count → is_member touched.ranks.items touched.count node ≡ false
    → SameMembersBut node c.touched.ranks.items c.touched.count touched.ranks.items touched.count
    → IsWholeCache (record { frames = c.frames; index = index; touched = touched })
IsWhole-taken c index touched node page whole held pages chained ordered unmarked same =
    let nodes : length index.pages.items ≡ length c.index.pages.items = ap length pages ∙ length-set c.index.pages.items node None in
    record {
      least_frames = whole.least_frames;
      most_frames = whole.most_frames;
      least_nodes = rw nodes whole.least_nodes;
      most_nodes = rw nodes whole.most_nodes;
      chained = chained;
      one = rw pages (IsOneToOne-removed c.index.pages.items node whole.one);
      ordered = ordered;
      nodes = same.nodes ∙ whole.nodes ∙ sym nodes;
      touched_held = λ m member none. elim (cases_eq m node) [
        | inl e ↦ both_ways (is_member touched.ranks.items touched.count m) (ap (is_member touched.ranks.items touched.count) e ∙ unmarked) member
        | inr other ↦ whole.touched_held m (sym (same.others m other) ∙ member)
            (sym (get_or-set_other c.index.pages.items node m None None other) ∙ ap (λ (xs : List (Option PageKey)). page_at xs m) (sym pages) ∙ none)
      ];
    }

-- the node was given a page that was nowhere
pub IsWhole-given : (c : Inside) (index : Index) (touched : NodeSet) (node : ℕ) (page : PageKey) → IsWholeCache c → node < length c.index.pages.items
    → place_of (cache_table_of c) page ≡ Home
    → index.pages.items ≡ set c.index.pages.items node (Some page) → AreChained index.pages.items index.links.items index.mask
    → IsOrdered touched.order.items touched.ranks.items touched.count
    → SameMembersBut node c.touched.ranks.items c.touched.count touched.ranks.items touched.count
    → IsWholeCache (record { frames = c.frames; index = index; touched = touched })
IsWhole-given c index touched node page whole inside home pages chained ordered same =
    let nodes : length index.pages.items ≡ length c.index.pages.items = ap length pages ∙ length-set c.index.pages.items node (Some page) in
    record {
      least_frames = whole.least_frames;
      most_frames = whole.most_frames;
      least_nodes = rw nodes whole.least_nodes;
      most_nodes = rw nodes whole.most_nodes;
      chained = chained;
      one = rw pages (IsOneToOne-inserted c.index.pages.items node page whole.one (nowhere (cache_table_of c) page whole.one home) inside);
      ordered = ordered;
      nodes = same.nodes ∙ whole.nodes ∙ sym nodes;
      touched_held = λ m member none. elim (cases_eq m node) [
        | inl e ↦ none-some page (sym none ∙ ap (λ (xs : List (Option PageKey)). page_at xs m) pages ∙ ap (page_at (set c.index.pages.items node (Some page))) e
            ∙ get_or-set_same c.index.pages.items node (Some page) None inside)
        | inr other ↦ whole.touched_held m (sym (same.others m other) ∙ member)
            (sym (get_or-set_other c.index.pages.items node m (Some page) None other) ∙ ap (λ (xs : List (Option PageKey)). page_at xs m) (sym pages) ∙ none)
      ];
    }

-- the clauses of `hold` on the page itself
pub given-placed : (c : Inside) (index : Index) (touched : NodeSet) (node : ℕ) (page : PageKey) → IsWholeCache c → node < length c.index.pages.items
    → place_of (cache_table_of c) page ≡ Home → index.pages.items ≡ set c.index.pages.items node (Some page)
    → first_node index.pages.items page ≡ Some node
given-placed c index touched node page whole inside home pages =
    rw pages (first_node-of (set c.index.pages.items node (Some page)) page node
    (IsOneToOne-inserted c.index.pages.items node page whole.one (nowhere (cache_table_of c) page whole.one home) inside)
    (get_or-set_same c.index.pages.items node (Some page) None inside))

-- a node that holds nothing isn't marked
pub unmarked : (c : Inside) (node : ℕ) → IsWholeCache c → page_at c.index.pages.items node ≡ None → is_member c.touched.ranks.items c.touched.count node ≡ false
unmarked c node whole none = false_from_ne_true (is_member c.touched.ranks.items c.touched.count node) (λ member. whole.touched_held node member none)

pub SameButFor-given : (c : Inside) (index : Index) (touched : NodeSet) (node : ℕ) (page : PageKey) → page_at c.index.pages.items node ≡ None
    → index.pages.items ≡ set c.index.pages.items node (Some page)
    → SameMembersBut node c.touched.ranks.items c.touched.count touched.ranks.items touched.count
    → SameButForPage page (cache_table_of c) (cache_table_of (record { frames = c.frames; index = index; touched = touched }))
SameButFor-given c index touched node page free pages same =
    rw pages (SameButFor-set c.frames c.index.pages.items (members c.touched.ranks.items c.touched.count) (members touched.ranks.items touched.count) page node (Some page)
    (λ p ne held. none-some p (sym free ∙ held)) (λ p ne held. ne (sym (same_Some page p held)))
    (marks_same c.touched.ranks.items c.touched.count touched.ranks.items touched.count node same))

pub SameButFor-taken : (c : Inside) (index : Index) (touched : NodeSet) (node : ℕ) (page : PageKey) → page_at c.index.pages.items node ≡ Some page
    → index.pages.items ≡ set c.index.pages.items node None
    → SameMembersBut node c.touched.ranks.items c.touched.count touched.ranks.items touched.count
    → SameButForPage page (cache_table_of c) (cache_table_of (record { frames = c.frames; index = index; touched = touched }))
SameButFor-taken c index touched node page held pages same =
    rw pages (SameButFor-set c.frames c.index.pages.items (members c.touched.ranks.items c.touched.count) (members touched.ranks.items touched.count) page node None
    (λ p ne e. ne (sym (same_Some page p (sym held ∙ e)))) (λ p ne e. none-some p e)
    (marks_same c.touched.ranks.items c.touched.count touched.ranks.items touched.count node same))

pub SameButFor-marked : (c : Inside) (touched : NodeSet) (node : ℕ) (page : PageKey) → page_at c.index.pages.items node ≡ Some page
    → SameMembersBut node c.touched.ranks.items c.touched.count touched.ranks.items touched.count
    → SameButForPage page (cache_table_of c) (cache_table_of (record { frames = c.frames; index = c.index; touched = touched }))
SameButFor-marked c touched node page held same =
    SameButFor-marks c.frames c.index.pages.items (members c.touched.ranks.items c.touched.count) (members touched.ranks.items touched.count) page node held
    (marks_same c.touched.ranks.items c.touched.count touched.ranks.items touched.count node same)

-- the place of a page whose nodes are as they were
pub place_of-marked : (c : Inside) (touched : NodeSet) (page : PageKey)
    → place_of (cache_table_of (record { frames = c.frames; index = c.index; touched = touched })) page ≡ place_of (cache_table_of c) page
place_of-marked c touched page =
    place_of-first (cache_table_of (record { frames = c.frames; index = c.index; touched = touched })) page (first_node c.index.pages.items page) refl
    ∙ sym (place_of-first (cache_table_of c) page (first_node c.index.pages.items page) refl)

pub same_set : (node : ℕ) (ranks : List ℕ) (count : ℕ) → SameMembersBut node ranks count ranks count
same_set node ranks count = record { nodes = refl; others = λ m other. refl }
