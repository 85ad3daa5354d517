-- Ways from roots to tables.
use Rattle.page_tables.proofs.Names.{◌≡◌, ℕ, zero, suc, ◌-◌, ◌<◌, ◌≤◌, ◌⊎◌, inl, inr, Bool, true, false, refl, sym, ap, ◌∙◌, subst, arith, cases_eq, FrameTable, entry_at, frame_of, is_pointer, index_of}
use Rattle.page_tables.specs.Tree.{IsTable, Points, IsForest, IsUnlinked, Way, last_table}

-- a field of a page's number is under 512
pub index_of-lt : (page level : ℕ) → index_of page level < 512
unfolding index_of
index_of-lt page level = omega arith

-- a table has one way from a root at most
pub only_way : (t : FrameTable) (top : ℕ) → IsForest t → (r p r' p' : ℕ) → IsUnlinked t r → IsUnlinked t r' → (d d' b : ℕ) → Way t top r p d b → Way t top r' p' d' b
    → (d ≡ d') × (r ≡ r') × ((k : ℕ) → k < d → index_of p (top - k) ≡ index_of p' (top - k))
only_way t top forest r p r' p' free free' zero zero b w w' = (refl, sym w ∙ w', λ k h. absurd (omega arith))
only_way t top forest r p r' p' free free' zero (suc d') b w w' = absurd (free w'.0 _ (let P : ℕ → Type 0 = λ x. Points t w'.0 (index_of p' (top - d')) x in subst P w w'.2))
only_way t top forest r p r' p' free free' (suc d) zero b w w' = absurd (free' w.0 _ (let P : ℕ → Type 0 = λ x. Points t w.0 (index_of p (top - d)) x in subst P w' w.2))
only_way t top forest r p r' p' free free' (suc d) (suc d') b w w' =
    let one = forest.one_way w.0 _ w'.0 _ b w.2 w'.2 in
    let W : ℕ → Type 0 = λ a. Way t top r' p' d' a in
    let up = only_way t top forest r p r' p' free free' d d' w.0 w.1 (subst W (sym one.0) w'.1) in (
      ap suc up.0,
      up.1,
      λ k h. elim (cases_eq k d) [
        | inl e ↦ (let same : index_of p (top - d) ≡ index_of p' (top - d') = one.1 in
            ap (λ j. index_of p (top - j)) e ∙ same ∙ ap (λ j. index_of p' (top - j)) (sym up.0 ∙ sym e))
        | inr ne ↦ up.2 k (omega arith)
      ],
    )

-- a table at the end of a way of some length is pointed to
pub way_pointed : (t : FrameTable) (top root page d m : ℕ) → 0 < d → Way t top root page d m → IsUnlinked t m → ⊥
way_pointed t top root page zero m some w free = omega arith
way_pointed t top root page (suc d) m some w free = free w.0 (index_of page (top - d)) w.2

-- one step of last_table
pub last_table-next : (t : FrameTable) (page level n : ℕ) → is_pointer (entry_at t n (index_of page (suc level))) ≡ true
    → last_table t page (suc level) n ≡ last_table t page level (frame_of (entry_at t n (index_of page (suc level))))
unfolding last_table
last_table-next t page level n e = rw e

pub last_table-stop : (t : FrameTable) (page level n : ℕ) → is_pointer (entry_at t n (index_of page (suc level))) ≡ false
    → last_table t page (suc level) n ≡ (suc level, n)
unfolding last_table
last_table-stop t page level n e = rw e

pub last_table-zero : (t : FrameTable) (page n : ℕ) → last_table t page 0 n ≡ (0, n)
unfolding last_table
last_table-zero t page n = refl

pub cases_bool : (b : Bool) → (b ≡ true) ⊎ (b ≡ false)
cases_bool true = inl refl
cases_bool false = inr refl

-- the table that a pointer of a table leads to
pub next_table : (t : FrameTable) (page level n : ℕ) → IsTable t n → is_pointer (entry_at t n (index_of page level)) ≡ true
    → Points t n (index_of page level) (frame_of (entry_at t n (index_of page level)))
next_table t page level n table e = record { table = table; index = index_of-lt page level; pointer = e; target = refl }

-- what is known of the end of a way: it is a way of that depth to a table, and there the way stops
pub record EndsAt (t : FrameTable) (top root page level n : ℕ) : Type 0 where
  pub least : level ≤ top
  pub table : IsTable t n
  pub way : Way t top root page (top - level) n
  pub stops : 0 < level → is_pointer (entry_at t n (index_of page level)) ≡ false

pub way_to_last : (t : FrameTable) (top root page : ℕ) → IsForest t → (level d n : ℕ) → level ≤ top → d ≡ top - level → IsTable t n → Way t top root page d n
    → EndsAt t top root page (last_table t page level n).0 (last_table t page level n).1
way_to_last t top root page forest zero d n least e table w =
    rw (last_table-zero t page n) (record { least = least; table = table; way = (let P : ℕ → Type 0 = λ j. Way t top root page j n in subst P e w); stops = λ h. absurd (omega arith) })
way_to_last t top root page forest (suc level) d n least e table w = elim (cases_bool (is_pointer (entry_at t n (index_of page (suc level))))) [
  | inl pointer ↦ (
      let points = next_table t page (suc level) n table pointer in
      let next = frame_of (entry_at t n (index_of page (suc level))) in
      let here : suc level ≡ top - d = omega arith in
      let P : ℕ → Type 0 = λ j. Points t n (index_of page j) next in
      let step : Way t top root page (suc d) next = (n, w, subst P here points) in
      rw (last_table-next t page level n pointer) (way_to_last t top root page forest level (suc d) next (omega arith) (omega arith) (forest.onto_tables n _ next points) step))
  | inr stop ↦ rw (last_table-stop t page level n stop) (record { least = least; table = table; way = (let P : ℕ → Type 0 = λ j. Way t top root page j n in subst P e w); stops = λ h. stop })
]

-- the whole way
pub ends : (t : FrameTable) (top root page : ℕ) → IsForest t → IsTable t root → EndsAt t top root page (last_table t page top root).0 (last_table t page top root).1
ends t top root page forest table = way_to_last t top root page forest top 0 root (omega arith) (omega arith) table refl

pub last_at-next : (t : FrameTable) (page level n : ℕ) → 0 < level → is_pointer (entry_at t n (index_of page level)) ≡ true
    → last_table t page level n ≡ last_table t page (level - 1) (frame_of (entry_at t n (index_of page level)))
last_at-next t page zero n above e = absurd (omega arith)
last_at-next t page (suc level) n above e =
    let less : suc level - 1 ≡ level = omega arith in
    last_table-next t page level n e ∙ ap (λ k. last_table t page k (frame_of (entry_at t n (index_of page (suc level))))) (sym less)

pub last_at-stop : (t : FrameTable) (page level n : ℕ) → 0 < level → is_pointer (entry_at t n (index_of page level)) ≡ false
    → last_table t page level n ≡ (level, n)
last_at-stop t page zero n above e = absurd (omega arith)
last_at-stop t page (suc level) n above e = last_table-stop t page level n e
