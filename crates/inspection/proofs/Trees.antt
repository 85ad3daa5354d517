-- Tables in the trees of processes.
use Rattle.inspection.proofs.Names.{top_level, ◌≡◌, ◌≢◌, ℕ, suc, ◌+◌, ◌-◌, ◌*◌, ◌/◌, ◌%◌, ◌^◌, ◌<◌, ◌≤◌, Option, Some, None, true, false, inl, inr, refl, sym, ap, ◌∙◌, subst, arith, cases_lt, false≢true, mul-mod_left, is_some, IfNone}
use Rattle.inspection.proofs.Names.{Table, role_of, entry_at, is_pointer, index_of, IsOnWay, IsPage, IsTable, Way, missing_of, Picture, AsRoot, OnWay, IsMapped, IsRootedBut, IsUsed, in_row_of, in_span_of, one_some, IsGapEnd}
use Rattle.inspection.{specs.{Tables.{HaveOneWay, IsOffWay, IsOutOf, IsPlaceOf}, Walks.{IsStep}, declared.walks.Step.{Step}}, proofs.Ways.{first_inside, goes_on, one_gap, one_row, one_table, same_first, way_within}}

module _ {mode : ℕ} (c : Picture mode) (pid page n : ℕ) (step : Step) (is : IsStep c pid page step) (other : n ≢ step.table.0)
    (passed : (r d : ℕ) → c.root pid ≡ Some r → d < top_level mode - step.level → Way c.frames (top_level mode) r page d n → ⊥) where
  from_root : (r d x : ℕ) → c.root pid ≡ Some r → Way c.frames (top_level mode) r page d x → Way c.frames (top_level mode) is.root page d x
  from_root r d x lives w = let P : ℕ → Type 0 = λ y. Way c.frames (top_level mode) y page d x in subst P (one_some r is.root (sym lives ∙ is.lives)) w

  -- the table is not this step's either
  pub passed_on : (r d : ℕ) → c.root pid ≡ Some r → d < top_level mode - step.level + 1 → Way c.frames (top_level mode) r page d n → ⊥
  passed_on r d lives less w = elim (cases_lt d (top_level mode - step.level)) [
    | inl before ↦ passed r d lives before w
    | inr here ↦ (
        let at : d ≡ top_level mode - step.level = omega (arith, less, here) in
        let P : ℕ → Type 0 = λ y. Way c.frames (top_level mode) is.root page y n in
        other (one_table c.frames (top_level mode) is.root page (top_level mode - step.level) n step.table.0 (subst P at (from_root r d n lives w)) is.way))
  ]

  -- nor one further on, where the way ends with it
  pub ended : (0 < step.level → is_pointer step.entry.0 ≡ false) → IsOffWay c pid page n
  ended stops r lives (d, le, w) = elim (cases_lt (top_level mode - step.level) d) [
    | inr short ↦ passed_on r d lives (omega (arith, short)) w
    | inl long ↦ (
        let least = is.level in
        let on = goes_on c.frames (top_level mode) r page d n (top_level mode - step.level) long w in
        let there : on.0 ≡ step.table.0 = one_table c.frames (top_level mode) is.root page (top_level mode - step.level) on.0 step.table.0
        (from_root r (top_level mode - step.level) on.0 lives on.1) is.way in
        let back : top_level mode - (top_level mode - step.level) ≡ step.level = omega (arith, least) in
        let same : entry_at c.frames on.0 (index_of page (top_level mode - (top_level mode - step.level))) ≡ step.entry.0 =
        ap (λ x. entry_at c.frames on.0 (index_of page x)) back ∙ ap (λ x. entry_at c.frames x (index_of page step.level)) there ∙ sym is.says.entry in
        absurd (false≢true (sym (stops (omega (arith, long, le, least))) ∙ ap is_pointer (sym same) ∙ on.2)))
  ]

pub if_none : {A : Type 0} {P : Type 0} (o : Option A) → P → IfNone o P
if_none None p = p
if_none (Some a) p = tt

module _ {mode : ℕ} (c : Picture mode) where
  -- the place of a table that is on the way to a page
  pub placed : (pid page n first : ℕ) (step : Step) → IsStep c pid page step → step.table.0 ≡ n → IsPage (top_level mode) page
      → first ≡ page / 512 ^ (step.level + 1) * 512 ^ (step.level + 1) → IsPlaceOf c n (record { pid = pid; level = step.level; first = first })
  placed pid page n first step is same inside at =
      let W : ℕ → Type 0 = λ x. Way c.frames (top_level mode) is.root page (top_level mode - step.level) x in
      let P : ℕ → Type 0 = λ x. IsPage (top_level mode) x in
      record {
        root = is.root;
        lives = is.lives;
        level = is.level;
        way = way_within c.frames (top_level mode) is.root page first (step.level + 1) (top_level mode - step.level) n
            (same_first page (step.level + 1) ∙ ap (λ x. x / 512 ^ (step.level + 1)) (sym at)) (omega (arith, is.level)) (subst W same is.way);
        inside = subst P (sym at) (first_inside (top_level mode) page (step.level + 1) inside);
        begins = ap (λ x. x % 512 ^ (step.level + 1)) at ∙ mul-mod_left (page / 512 ^ (step.level + 1)) (512 ^ (step.level + 1));
      }

  -- the pages that are passed over have the way of the first
  pub gap_way : (pid page end : ℕ) → IsRootedBut c 0 → IsGapEnd c pid page end → HaveOneWay c pid page end
  gap_way pid page end rooted gap r k n lives from below on =
      let m = missing_of c.frames (top_level mode) r page in
      let ends = gap r lives in
      one_gap c.frames (top_level mode) r page m rooted.forest (rooted.roots pid r lives).table refl (omega (arith, ends.0)) k n
      (in_span_of page k end end m from below (omega arith) ends.1) on

  pub row_way : (pid page end : ℕ) → end ≡ (page / 512 + 1) * 512 → HaveOneWay c pid page end
  row_way pid page end at r k n lives from below on = one_row c.frames (top_level mode) r page k n (in_row_of page k end end from below (omega arith) at) on

  -- a search over the mapped pages of a process
  abbrev pub IsPassed : ℕ → ℕ → ℕ → Type 0
  IsPassed pid n low = (r k : ℕ) → c.root pid ≡ Some r → k < low → IsMapped c pid k → IsOnWay c.frames (top_level mode) r k n → ⊥

  unmapped : {A : Type 0} (o : Option A) → o ≡ None → is_some o ≡ true → ⊥
  unmapped o none some = false≢true (sym (ap is_some none) ∙ some)

  pub passed_more : (pid n low first end : ℕ) → IsPassed pid n low → ((k : ℕ) → low ≤ k → k < first → c.at pid k ≡ None) → IsOffWay c pid first n → HaveOneWay c pid first end → IsPassed pid n end
  passed_more pid n low first end passed none off one_way r k lives below mapped on = elim (cases_lt k low) [
    | inl before ↦ passed r k lives before mapped on
    | inr late ↦ elim (cases_lt k first) [
      | inl between ↦ unmapped (c.at pid k) (none k late between) mapped
      | inr behind ↦ off r lives (one_way r k n lives behind below on)
    ]
  ]

  pub out_of : (pid n low : ℕ) → IsOffWay c pid 0 n → IsPassed pid n low → ((k : ℕ) → low ≤ k → c.at pid k ≡ None) → IsOutOf c pid n
  out_of pid n low off passed none = record {
    root = λ r lives is. off r lives (0, omega arith, is);
    below = λ r page lives mapped under. elim (cases_lt page low) [
      | inl before ↦ passed r page lives before mapped (suc under.0, omega (arith, under.1), under.2)
      | inr late ↦ unmapped (c.at pid page) (none page late) mapped
    ];
  }

  -- a table is in the tree of a process
  pub no_table : (n : ℕ) → IsRootedBut c 0 → role_of c.frames 0 ≢ Table → ((p : ℕ) → 1 ≤ p → p < 65 → IsOutOf c p n) → IsTable c.frames n → ⊥
  no_table n rooted zero out table = elim (rooted.used n table) [
    | inl is ↦ (let P : ℕ → Type 0 = λ x. role_of c.frames x ≡ Table in zero (subst P is table.role))
    | inr used ↦ by_use used
  ]
    where
      by_use : IsUsed c (IsMapped c) n → ⊥
      by_use (AsRoot pid is) = let numbers = rooted.numbers pid n is in (out pid numbers.0 (omega (arith, numbers.1))).root n is refl
      by_use (OnWay pid r page is mapped below) = let numbers = rooted.numbers pid r is in (out pid numbers.0 (omega (arith, numbers.1))).below r page is mapped below
