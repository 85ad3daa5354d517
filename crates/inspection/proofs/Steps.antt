-- One step on the way to a page leads to the next.
use Rattle.inspection.proofs.Names.{top_level, ◌≡◌, ℕ, suc, ◌-◌, ◌<◌, true, sym, ap, ◌∙◌, subst, arith, FrameTable, entry_at, frame_of, is_pointer, index_of, IsTable, Points, Way, last_table, page_entry, last_is, last_entry-is}
use Rattle.inspection.{proofs.Names.{missing_of-is, page_entry-whole, next_table, Picture, IsFit, entry-of}, specs.{Walks.{IsEntryOf, IsStep}, declared.walks.Step.{Step}}}

-- the entry of the lowest table on a way is the page's
pub last_entry : (t : FrameTable) (top root page n : ℕ) → Way t top root page (top - 0) n → page_entry t top root page ≡ entry_at t n (index_of page 0)
last_entry t top root page n way =
    let is : last_table t page top root ≡ (0, n) = last_is t top root page 0 n (omega arith) way (λ h. absurd (omega (arith, h))) in
    page_entry-whole t top root page (missing_of-is t top root page ∙ ap (λ p. p.0) is)
    ∙ last_entry-is t top root page ∙ ap (λ p. entry_at t p.1 (index_of page p.0)) is

module _ {mode : ℕ} (c : Picture mode) (pid page : ℕ) (step : Step) (fit : IsFit c) (is : IsStep c pid page step) (pointer : is_pointer step.entry.0 ≡ true) where
  pub points : Points c.frames step.table.0 (index_of page step.level) (frame_of step.entry.0)
  points =
      let P : ℕ → Type 0 = λ x. Points c.frames step.table.0 (index_of page step.level) (frame_of x) in
      subst P (sym is.says.entry) (next_table c.frames page step.level step.table.0 is.table (sym (ap is_pointer is.says.entry) ∙ pointer))

  pub below : IsTable c.frames (frame_of step.entry.0)
  below = fit.rooted.forest.onto_tables _ _ _ points

  pub way_below : 0 < step.level → Way c.frames (top_level mode) is.root page (top_level mode - (step.level - 1)) (frame_of step.entry.0)
  way_below some =
      let deeper : suc (top_level mode - step.level) ≡ top_level mode - (step.level - 1) = omega (arith, some, is.level) in
      let at : step.level ≡ top_level mode - (top_level mode - step.level) = omega (arith, is.level) in
      let W : ℕ → Type 0 = λ d. Way c.frames (top_level mode) is.root page d (frame_of step.entry.0) in
      let Q : ℕ → Type 0 = λ l. Points c.frames step.table.0 (index_of page l) (frame_of step.entry.0) in
      subst W deeper (step.table.0, is.way, subst Q at points)

  -- what the table that it points to says is the next step
  pub leads : (next : Step) → 0 < step.level → next.level ≡ step.level - 1 → next.table.0 ≡ frame_of step.entry.0 → IsEntryOf c.frames page next → IsStep c pid page next
  leads next some level number says =
      let top = top_level mode in
      let N : ℕ → Type 0 = λ n. Way c.frames top is.root page (top - (step.level - 1)) n in
      let L : ℕ → Type 0 = λ l. Way c.frames top is.root page (top - l) next.table.0 in
      let here = subst L (sym level) (subst N (sym number) (way_below some)) in
      record {
        root = is.root;
        lives = is.lives;
        level = omega (arith, level, is.level);
        table = subst (IsTable c.frames) (sym number) below;
        way = here;
        says = says;
        last = λ zero.
            says.entry ∙ ap (λ l. entry_at c.frames next.table.0 (index_of page l)) zero
            ∙ sym (last_entry c.frames top is.root page next.table.0 (subst L zero here))
            ∙ sym (entry-of c pid is.root page is.lives);
      }
