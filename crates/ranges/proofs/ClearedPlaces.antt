-- A page without its entry, which stood at a place of a lowest table.
use Rattle.vm_types.specs.declared.mode.Levels as Levels
use Rattle.ranges.proofs.{BetweenEntries.{place_at, row_at}, ClearedPages.{same_beside, lacks_out, tables_page, places_page, clears_page}, Gaps.{user_inside}, Names.{top_level, ◌≡◌, ◌≢◌, ℕ, inl, inr, ◌+◌, ◌/◌, ◌%◌, ◌<◌, ◌≤◌, sym, ◌∙◌}}
use Rattle.ranges.{proofs.Names.{subst, arith, cases_eq, FrameTable, SetsEntry, IsPageEntry, IsPage, IsRoot, page_entry, IsTableOf, page_is_entry, seat, Core, picture_of, IsFit, Picture, entry, entry-of}, specs.{RowsCleared.{ClearsPlaces, HoldsPlaces}, Steps.{Clears, KeepsBesideMemory}}}
use Rattle.ranges.specs.{Steps.{LacksHolder, ReturnsSeat}, declared.rows.TableRow.{TableRow}}

-- The place after one without an entry, from which on a search goes, is a later one.
pub past : {mode : ℕ} (c : Picture mode) (r n first index end e next : ℕ) → IsTableOf c.frames (top_level mode) r (first / 512) n → first % 512 ≡ 0 → index < end → end ≤ 512
    → ((root page : ℕ) → IsTableOf c.frames (top_level mode) root (page / 512) n → page % 512 ≡ index → e ≡ page_entry c.frames (top_level mode) root page) → e ≡ 0 → index ≤ next
    → ((root p : ℕ) → IsTableOf c.frames (top_level mode) root (p / 512) n → p % 512 ≡ next → next < end → page_entry c.frames (top_level mode) root p ≢ 0) → index < next
past {mode = mode} c r n first index end e next row begins below in_table reads none from found = elim (cases_eq index next) [
  | inl same ↦ (
      let place : index < 512 = omega (arith, below, in_table) in
      let at = place_at first index begins place in
      let table = subst (λ (x : ℕ). IsTableOf c.frames (top_level mode) r x n) (row_at first index begins place) row in
      absurd (found r (first + index) table (at ∙ same) (omega (arith, below, same)) (sym (reads r (first + index) table at) ∙ none)))
  | inr ne ↦ omega (arith, from, ne)
]

-- The page of place `index` of a table row, whose entry is the number e.
module _ {M : Type 0} {m : Levels.Ghosts M} {D E : Type 0} (was : Core D E M m) (row : TableRow) (index end e : ℕ) (holds : HoldsPlaces (picture_of was) row end) (below : index < end)
    (reads : (root page : ℕ) → IsTableOf was.frames (top_level m.mode) root (page / 512) row.table.0 → page % 512 ≡ index → e ≡ page_entry was.frames (top_level m.mode) root page) where
  abbrev old : Picture m.mode
  old = picture_of was

  abbrev page : ℕ
  page = row.first + index

  place : index < 512
  place = let most = holds.in_table in omega (arith, below, most)

  at : page % 512 ≡ index
  at = place_at row.first index holds.begins place

  table : IsTableOf old.frames (top_level m.mode) row.root.0 (page / 512) row.table.0
  table = subst (λ (x : ℕ). IsTableOf old.frames (top_level m.mode) row.root.0 x row.table.0) (row_at row.first index holds.begins place) holds.place

  inside : IsPage (top_level m.mode) page
  inside = user_inside m.mode page (row.first + end) (omega (arith, below)) holds.high

  is : e ≡ entry old row.pid page
  is = reads row.root.0 page table at ∙ sym (entry-of old row.pid row.root.0 page holds.root)

  is_root : IsRoot (top_level m.mode) old.frames row.root.0
  is_root = holds.fit.rooted.roots row.pid row.root.0 holds.root

  pub form_at : IsPageEntry e
  form_at = subst (λ (x : ℕ). IsPageEntry x) (sym (reads row.root.0 page table at)) (page_is_entry old.frames (top_level m.mode) row.root.0 page holds.fit.rooted.forest is_root)

  pub placed_at : (root page : ℕ) × IsRoot (top_level m.mode) old.frames root × IsPage (top_level m.mode) page × IsTableOf old.frames (top_level m.mode) root (page / 512) row.table.0 × (page % 512 ≡ index)
  placed_at = (row.root.0, page, is_root, inside, table, at)

  -- it was taken out
  module _ (t : FrameTable)
      (set : (root page : ℕ) → IsRoot (top_level m.mode) old.frames root → IsPage (top_level m.mode) page → IsTableOf old.frames (top_level m.mode) root (page / 512) row.table.0 → page % 512 ≡ index
      → SetsEntry old.frames t (top_level m.mode) root page 0) where
    abbrev mid : Picture m.mode
    mid = record old { frames = t }

    sets : SetsEntry old.frames t (top_level m.mode) row.root.0 page 0
    sets = set row.root.0 page is_root inside table at

    pub lacks_at : LacksHolder mid (seat e)
    lacks_at = subst (λ (x : ℕ). LacksHolder mid (seat x)) (sym is) (lacks_out old mid row.pid row.root.0 page holds.fit holds.root inside sets (same_beside old t))

    -- and the share of what it named was given back
    module _ (now : Core D E M m) (gives : ReturnsSeat mid (picture_of now) (seat e)) where
      given : ReturnsSeat mid (picture_of now) (seat (entry old row.pid page))
      given = subst (λ (x : ℕ). ReturnsSeat mid (picture_of now) (seat x)) is gives

      clears_at : Clears old (picture_of now) row.pid page (row.first + (index + 1))
      clears_at =
          let next : page + 1 ≡ row.first + (index + 1) = omega arith in
          subst (λ (x : ℕ). Clears old (picture_of now) row.pid page x) next (clears_page old mid row.pid row.root.0 page holds.fit holds.root inside sets (same_beside old t) (picture_of now) given)

      pub taken_at : IsFit (picture_of now) → KeepsBesideMemory was now → now.refused ≡ was.refused → ClearsPlaces was now row index end (index + 1)
      taken_at fit rest refused = record {
        pages = record { clears = clears_at; fit = fit; rest = rest; refused = refused };
        further = omega arith;
        within = omega (arith, below);
        tables = tables_page old mid row.pid row.root.0 page holds.fit holds.root inside sets (same_beside old t) (picture_of now) given;
        places = places_page old mid row.pid row.root.0 page holds.fit holds.root inside sets (same_beside old t) (picture_of now) given;
      }
