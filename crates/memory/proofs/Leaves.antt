-- What a line is to the tables: the leaf of its page, at which the walk ends.
use Rattle.memory.proofs.Names.{◌≡◌, ◌≢◌, ℕ, zero, suc, ◌+◌, ◌-◌, ◌<◌, true, false, refl, sym, ap, ◌∙◌, subst, arith, false≢true, nat_tests, nat_lt, top_level, user_end, Access, user_pages_fit, FrameTable, frame_count, has_bit, is_valid}
use Rattle.memory.{proofs.{Names.{entry_at, frame_of, index_of, leads_on, last_of, last_of-zero, last_of-next, IsTable, IsPage, Points, IsForest, IsRoot, Way, page_entry}, Numbers.{is_number, of_number}}, specs.Kept.{LinesAreLeaves}}
use Rattle.{memory.specs.{Kept.{IsLeafOf}, Lines.{IsCoherent, IsLine, leaf_lets}, Notes.{IsNumberOf}, declared.buffer.TranslationBuffer.{TranslationBuffer}}, std.proofs.lemmas.Bool.{and_parts}}

invalid_zero : is_valid 0 ≡ false
unfolding has_bit
invalid_zero = refl

-- what is valid is something
pub nonzero : (e : ℕ) → is_valid e ≡ true → e ≢ 0
nonzero e valid z = false≢true (sym invalid_zero ∙ ap is_valid (sym z) ∙ valid)

-- the page has a place in every tree
pub is_page : (mode page : ℕ) → page < user_end mode → IsPage (top_level mode) page
is_page mode page small = omega (arith, small, user_pages_fit mode)

leads : (t : FrameTable) (n i m : ℕ) → Points t n i m → m < frame_count t → leads_on t (entry_at t n i) ≡ true
leads t n i m p inside = let below : nat_lt (frame_of (entry_at t n i)) (frame_count t) ≡ true = grind (arith, nat_tests, inside, p.target) in rw (p.pointer, below) refl

-- a way to a table begins at one
pub root_table : (t : FrameTable) (top root page d n : ℕ) → Way t top root page d n → IsTable t n → IsTable t root
root_table t top root page zero n w table = let P : ℕ → Type 0 = λ x. IsTable t x in subst P w table
root_table t top root page (suc d) n w table = root_table t top root page d w.0 w.1 w.2.table

-- the walk goes along a way to a table
walk_from_way : (t : FrameTable) (top root page d n level : ℕ) → d + level ≡ top → Way t top root page d n → IsTable t n → last_of t page top root ≡ last_of t page level n
walk_from_way t top root page zero n level e w table = let all : level ≡ top = omega arith in rw (all, w)
walk_from_way t top root page (suc d) n level e w table =
    let here : top - d ≡ suc level = omega arith in
    let step = rw here at w.2 in
    let less : suc level - 1 ≡ level = omega arith in
    walk_from_way t top root page d w.0 (suc level) (omega arith) w.1 step.table
    ∙ last_of-next t page (suc level) w.0 (omega arith) (leads t w.0 (index_of page (suc level)) n step table.inside)
    ∙ ap (λ k. last_of t page k (frame_of (entry_at t w.0 (index_of page (suc level))))) less ∙ ap (last_of t page level) step.target

-- a leaf is a number whose form and target are known
abbrev pub as_number : (mode : ℕ) (t : FrameTable) (root page leaf : ℕ) → IsLeafOf mode t root page leaf → IsNumberOf mode t root page leaf
as_number mode t root page leaf l = record { lowest = l.lowest; inside = l.inside; unlinked = l.unlinked; way = l.way; table = l.table; here = l.here; some = nonzero leaf l.valid }

pub as_leaf : (mode : ℕ) (t : FrameTable) (root page leaf : ℕ) → IsNumberOf mode t root page leaf → is_valid leaf ≡ true → frame_of leaf < frame_count t
    → IsLeafOf mode t root page leaf
as_leaf mode t root page leaf l valid target = record { lowest = l.lowest; inside = l.inside; unlinked = l.unlinked; way = l.way; table = l.table; here = l.here; valid = valid; target = target }

module _ (mode : ℕ) (t : FrameTable) (root page leaf : ℕ) (l : IsLeafOf mode t root page leaf) where
  -- the leaf is what the tree says of the page
  pub is_entry : page_entry t (top_level mode) root page ≡ leaf
  is_entry = is_number mode t root page leaf (as_number mode t root page leaf l)

  -- and the walk ends there
  pub is_line : IsLine mode t root page leaf
  is_line = record {
    inside = (root_table t (top_level mode) root page (top_level mode) l.lowest l.way l.table).inside;
    last = walk_from_way t (top_level mode) root page (top_level mode) l.lowest 0 (omega arith) l.way l.table ∙ last_of-zero t page l.lowest ∙ ap (λ (e : ℕ). (0, e)) l.here;
    target = l.target;
  }

-- what the tree of a root says of a page, where it is valid
pub of_entry : (mode : ℕ) (t : FrameTable) (root page leaf : ℕ) → IsForest t → IsRoot (top_level mode) t root → page < user_end mode
    → page_entry t (top_level mode) root page ≡ leaf → is_valid leaf ≡ true → frame_of leaf < frame_count t → IsLeafOf mode t root page leaf
of_entry mode t root page leaf forest is_root small is valid target =
    as_leaf mode t root page leaf (of_number mode t root page leaf forest is_root small is (nonzero leaf valid)) valid target

-- so what is kept says what the tables say
pub coherent : (mode : ℕ) (t : FrameTable) (b : TranslationBuffer) → LinesAreLeaves mode t b → IsCoherent mode t b
coherent mode t b kept = λ root page leaf at. is_line mode t root page leaf (kept.leaves root page leaf at)

-- a leaf that lets an access go through is valid
pub valid_of : (access : Access) (leaf : ℕ) → leaf_lets access leaf ≡ true → is_valid leaf ≡ true
valid_of access leaf e = (and_parts (is_valid leaf) _ e).0
