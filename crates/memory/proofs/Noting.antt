-- Which changes of memory bring no page to name a frame.
use Rattle.memory.specs.{declared.buffer.TranslationBuffer.{TranslationBuffer}, Lines.{AreHits, line_at}, Kept.{LinesAreLeaves}}
use Rattle.memory.proofs.{Names.{Some}, Keeping.{data_leaf, kept_data, still_counted, number_moved, number_stays, own, free_is_no_table, is_table, not_below, not_last, way_along}, Leaves.{is_page, root_table}, Names.{◌≡◌, ◌≢◌, ℕ, suc, ◌-◌, ◌/◌, ◌%◌, ◌<◌, ◌⊎◌, inl, inr}}
use Rattle.memory.proofs.Names.{Result, Ok, Err, get_or, length, true, false, refl, sym, ap, ◌∙◌, subst, arith, cases_eq, IfOk, OnErr, top_level, user_end, FrameNo, NoFree, Role, Free, Table, FrameTable, frame_count, role_of, SameButFor}
use Rattle.memory.proofs.Names.{Takes, is_private, is_swapped, entry_at, frame_of, index_of, Points, IsForest, IsRoot, IsSpare, Way, last_table, page_entry, IsTableOf, SetsEntry, LinksTable, Prunes, ends, index_of-lt, only_way}
use Rattle.memory.{proofs.{Names.{cases_place, way_forth, others_turned, empty_not_linking, zeros_empty}, Numbers.{is_number, of_number}}, specs.{Notes.{IsNumberOf, NamesFrame, NamesNoMore, AreNoted, Covers, no_note}, declared.notes.Notes.{Notes}}}

-- a frame changed that is no table, before or afterwards
pub data_back : (old new : FrameTable) (n : ℕ) → SameButFor n old new → role_of old n ≢ Table → role_of new n ≢ Table
    → (mode root page number : ℕ) → IsNumberOf mode new root page number → IsNumberOf mode old root page number
data_back old new n same before after = number_stays new old n (others_turned old new n same) (λ i h table. absurd (after table.role)) (λ i m p. before p.table.role)

-- a frame that was taken is filled with zeros
pub taken_back : (old new : FrameTable) (n : ℕ) (kind : Role) → Takes old new kind n
    → (mode root page number : ℕ) → IsNumberOf mode new root page number → IsNumberOf mode old root page number
taken_back old new n kind takes =
    number_stays new old n (others_turned old new n takes.others) (λ i h table. zeros_empty new n takes.zeros i h)
    (λ i m p. free_is_no_table (role_of old n) takes.was_free p.table.role)

-- a table without entries that was given back
pub dropped_back : (old new : FrameTable) (n : ℕ) → SameButFor n old new → IsSpare old n → role_of new n ≡ Free
    → (mode root page number : ℕ) → IsNumberOf mode new root page number → IsNumberOf mode old root page number
dropped_back old new n same spare gone =
    number_stays new old n (others_turned old new n same) (λ i h table. absurd (free_is_no_table (role_of new n) gone table.role))
    (empty_not_linking old n spare.empty)

-- A change in the tree of one root: the numbers of other roots hang on tables that are not in it.
module _ (mode : ℕ) (old new : FrameTable) (root : ℕ) (forest : IsForest old) (is_root : IsRoot (top_level mode) old root) where
  -- a root's own numbers are what its tree said before
  own_back : (r p e : ℕ) → IsNumberOf mode new r p e → r ≡ root → (IsRoot (top_level mode) old r → page_entry new (top_level mode) r p ≡ page_entry old (top_level mode) r p)
      → IsNumberOf mode old r p e
  own_back r p e l same entries =
      let here = own mode old new root forest is_root r same in
      of_number mode old r p e forest here l.inside (sym (entries here) ∙ is_number mode new r p e l) l.some

  -- the entry of a page was set
  pub set_back : (q number : ℕ) → SetsEntry old new (top_level mode) root q number → (r p e : ℕ) → IsNumberOf mode new r p e → (r ≢ root) ⊎ (p ≢ q) → IsNumberOf mode old r p e
  set_back q number sets r p e l other = elim (cases_eq r root) [
    | inl same ↦ own_back r p e l same (λ here. sets.entries r p here (is_page mode p l.inside) other)
    | inr ne ↦ (
        let unlinked = (sets.unlinked r).1 l.unlinked in
        let way = way_forth new old (λ a i b. (sets.pointers a i b).1) (top_level mode) r p (top_level mode) l.lowest l.way in
        number_moved mode new old r p e l unlinked way (is_table new old l.lowest (sym sets.kept.frames) (sym sets.kept.roles) l.table)
        (sym (sets.others l.lowest (index_of p 0) (index_of-lt p 0) (inl (not_last mode old new root forest is_root r p unlinked ne l.lowest (top_level mode) way q)))))
  ]

  -- a table was linked
  pub linked_back : (q table : ℕ) → LinksTable old new (top_level mode) root q table → table ≢ root → (r p e : ℕ) → IsNumberOf mode new r p e → IsNumberOf mode old r p e
  linked_back q table links apart_ r p e l = elim (cases_eq r root) [
    | inl same ↦ own_back r p e l same (λ here. links.entries r p (λ z. apart_ (sym z ∙ same)) here)
    | inr other ↦ (
        let end = ends new (top_level mode) root q links.forest links.stays.table in
        let d' : ℕ = top_level mode - (last_table new q (top_level mode) root).0 in
        let W : ℕ → Type 0 = λ x. Way new (top_level mode) root q d' x in
        let far : (x d : ℕ) → Way new (top_level mode) r p d x → x ≢ table = λ x d w z.
        other (only_way new (top_level mode) links.forest r p root q l.unlinked links.stays.unlinked d d' x w (subst W (links.ends ∙ sym z) end.way)).1 in
        let unlinked = (links.unlinked r (far r 0 refl)).1 l.unlinked in
        let points : (x d k : ℕ) → Way new (top_level mode) r p d x → Points new x (index_of p (top_level mode - d)) k → Points old x (index_of p (top_level mode - d)) k =
        λ x d k w point. (links.pointers x _ k (far k (suc d) (x, w, point))).1 point in
        let way = way_along new old (top_level mode) r p points (top_level mode) l.lowest l.way in
        let apart = not_last mode old new root forest is_root r p unlinked other l.lowest (top_level mode) way q in
        number_moved mode new old r p e l unlinked way (is_table new old l.lowest (sym links.kept.frames) (sym links.kept.roles) l.table)
        (sym (links.others l.lowest (index_of p 0) (index_of-lt p 0) apart)))
  ]

  -- tables without entries were released
  pub pruned_back : (q : ℕ) → Prunes old new (top_level mode) root q → (r p e : ℕ) → IsNumberOf mode new r p e → IsNumberOf mode old r p e
  pruned_back q prunes r p e l = elim (cases_eq r root) [
    | inl same ↦ own_back r p e l same (prunes.entries r p)
    | inr ne ↦ (
        let unlinked = (prunes.unlinked r (root_table new (top_level mode) r p (top_level mode) l.lowest l.way l.table)).1 l.unlinked in
        let way = way_forth new old prunes.pointers (top_level mode) r p (top_level mode) l.lowest l.way in
        let same : (i : ℕ) → i < 512 → entry_at new l.lowest i ≡ entry_at old l.lowest i = elim (prunes.others l.lowest l.table) [
          | inl on ↦ absurd (not_below mode old new root forest is_root r p unlinked ne l.lowest (top_level mode) way q _ on.2)
          | inr same ↦ same
        ] in
        number_moved mode new old r p e l unlinked way (prunes.kept.tables l.lowest l.table)
        (sym (same (index_of p 0) (index_of-lt p 0))))
  ]

-- a page that named the frame before, where its number was there
named_back : (mode : ℕ) (old new : FrameTable) (r p n : ℕ) (names : NamesFrame mode new r p n) → IsNumberOf mode old r p names.number → NamesFrame mode old r p n
named_back mode old new r p n names is = record { number = names.number; is = is; framed = names.framed; common = names.common; frame = names.frame }

-- notes that stay, where no page names a frame that named none
pub noted_by : (mode : ℕ) (old new : FrameTable) (notes : Notes) → frame_count new ≡ frame_count old
    → ((r p e : ℕ) → IsNumberOf mode new r p e → IsNumberOf mode old r p e) → AreNoted mode old notes → AreNoted mode new notes
noted_by mode old new notes frames back is = record {
  count = is.count ∙ sym frames;
  covers = λ whole r p n names inside. is.covers whole r p n (named_back mode old new r p n names (back r p names.number names.is)) (rw (← frames) inside);
}

-- a frame was taken, or none
pub noted_taken : (mode : ℕ) (old new : FrameTable) (notes : Notes) (kind : Role) (r : Result FrameNo NoFree) → AreNoted mode old notes
    → IfOk r (λ n. Takes old new kind n.0) → OnErr r (new ≡ old) → AreNoted mode new notes
noted_taken mode old new notes kind (Ok n) is taken err = noted_by mode old new notes taken.others.frames (taken_back old new n.0 kind taken mode) is
noted_taken mode old new notes kind (Err e) is taken err = subst (λ (t : FrameTable). AreNoted mode t notes) (sym err) is

-- a frame was changed, and the notes are not whole any more if it is a table
pub noted_data : (mode : ℕ) (old new : FrameTable) (n : ℕ) (notes notes' : Notes) → frame_count new ≡ frame_count old → notes'.each ≡ notes.each
    → (notes'.whole ≡ true → (notes.whole ≡ true) × (role_of old n ≢ Table))
    → (role_of old n ≢ Table → (r p e : ℕ) → IsNumberOf mode new r p e → IsNumberOf mode old r p e) → AreNoted mode old notes → AreNoted mode new notes'
noted_data mode old new n notes notes' frames each whole back is = record {
  count = ap (λ v. length v.items) each ∙ is.count ∙ sym frames;
  covers = λ now r p m names inside.
      let was = whole now in
      let covers = is.covers was.0 r p m (named_back mode old new r p m names (back was.1 r p names.number names.is)) (rw (← frames) inside) in
      rw each covers;
}

-- a frame was changed that is no table afterwards, unless it was one
pub changed : {mode hits : ℕ} {old new : FrameTable} {n : ℕ} {b b' : TranslationBuffer} {notes notes' : Notes} → SameButFor n old new → (role_of old n ≢ Table → role_of new n ≢ Table)
    → ((r p e : ℕ) → line_at b' r p ≡ Some e → (line_at b r p ≡ Some e) × (role_of old n ≢ Table)) → notes'.each ≡ notes.each → (notes'.whole ≡ true → (notes.whole ≡ true) × (role_of old n ≢ Table))
    → b'.found ≡ b.found → LinesAreLeaves mode old b × AreNoted mode old notes × AreHits hits b → LinesAreLeaves mode new b' × AreNoted mode new notes' × AreHits hits b'
changed {mode = mode} {old = old} {new = new} {n = n} {b = b} {b' = b'} {notes = notes} {notes' = notes'} same after lines each whole unfound was = (
  kept_data mode old new n b b' lines (λ other. data_leaf old new n same other (after other) mode) was.0,
  noted_data mode old new n notes notes' same.frames each whole (λ other. data_back old new n same other (after other) mode) was.1,
  still_counted b b' was.2 unfound,
)

-- A page's entry was set, and the notes cover it.
module _ (mode : ℕ) (old new : FrameTable) (root q number : ℕ) (notes notes' : Notes) (forest : IsForest old) (is_root : IsRoot (top_level mode) old root)
    (sets : SetsEntry old new (top_level mode) root q number) (count : length notes'.each.items ≡ length notes.each.items) (whole : notes'.whole ≡ notes.whole)
    (added : number ≢ 0 → is_swapped number ≡ false → is_private number ≡ false → frame_of number < length notes.each.items → notes.whole ≡ true → q < user_end mode
    → Covers (get_or notes'.each.items (frame_of number) no_note) root q)
    (kept : (n r p : ℕ) → Covers (get_or notes.each.items n no_note) r p → Covers (get_or notes'.each.items n no_note) r p) (is : AreNoted mode old notes) where
  set_here : (n : ℕ) → notes.whole ≡ true → NamesFrame mode new root q n → n < frame_count new → Covers (get_or notes'.each.items n no_note) root q
  set_here n now names inside =
      let e : names.number ≡ number = sym (is_number mode new root q names.number names.is) ∙ sets.changed in
      let frame : frame_of number ≡ n = ap frame_of (sym e) ∙ names.frame in
      let C : ℕ → Type 0 = λ x. Covers (get_or notes'.each.items x no_note) root q in
      let few : frame_of number < length notes.each.items = (let a = is.count in let b = sets.kept.frames in omega (arith, a, b, frame, inside)) in
      subst C frame (added (λ z. names.is.some (e ∙ z)) (ap is_swapped (sym e) ∙ names.framed) (ap is_private (sym e) ∙ names.common) few now names.is.inside)

  noted_entry : AreNoted mode new notes'
  noted_entry = record {
    count = count ∙ is.count ∙ sym sets.kept.frames;
    covers = λ now r p n names inside.
        let there : (r ≢ root) ⊎ (p ≢ q) → Covers (get_or notes'.each.items n no_note) r p = λ other.
        kept n r p (is.covers (sym whole ∙ now) r p n
        (named_back mode old new r p n names (set_back mode old new root forest is_root q number sets r p names.number names.is other))
        (let f = sets.kept.frames in omega (arith, f, inside))) in
        elim (cases_place r p root q) [
          | inl here ↦ rw (here.0, here.1) (set_here n (sym whole ∙ now) (rw (here.0, here.1) at names) inside)
          | inr other ↦ there other
        ];
  }

-- a page's entry was set, and is noted
pub noted_set : (mode : ℕ) (old new : FrameTable) (root q number : ℕ) (notes notes' : Notes) → IsForest old → IsRoot (top_level mode) old root
    → SetsEntry old new (top_level mode) root q number → length notes'.each.items ≡ length notes.each.items → notes'.whole ≡ notes.whole
    → (number ≢ 0 → is_swapped number ≡ false → is_private number ≡ false → frame_of number < length notes.each.items
    → Covers (get_or notes'.each.items (frame_of number) no_note) root q)
    → ((n r p : ℕ) → Covers (get_or notes.each.items n no_note) r p → Covers (get_or notes'.each.items n no_note) r p) → AreNoted mode old notes → AreNoted mode new notes'
noted_set mode old new root q number notes notes' forest is_root sets count whole added kept is =
    noted_entry mode old new root q number notes notes' forest is_root sets count whole (λ some framed common few now small. added some framed common few) kept is

-- a page's entry was set at its place of a lowest table, and names no frame anew
pub noted_place : (mode : ℕ) (old new : FrameTable) (root q number table index : ℕ) (notes : Notes) → IsForest old → IsRoot (top_level mode) old root
    → SetsEntry old new (top_level mode) root q number → IsTableOf old (top_level mode) root (q / 512) table → q % 512 ≡ index
    → NamesNoMore mode old table index number → AreNoted mode old notes → AreNoted mode new notes
noted_place mode old new root q number table index notes forest is_root sets row at names is =
    noted_entry mode old new root q number notes notes forest is_root sets refl refl
    (λ some framed common few now small. is.covers now root q (frame_of number) (names some framed common root q is_root small row at) (let a = is.count in omega (arith, a, few)))
    (λ n r p covers. covers) is
