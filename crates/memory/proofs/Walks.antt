-- The walk reads what the tables say of a page.
use Rattle.memory.proofs.Names.{user_end, top_level, Phys, Access, ◌≡◌, ℕ, zero, suc, inl, inr, ◌≢◌, ◌+◌, ◌*◌, ◌-◌, ◌/◌, ◌%◌, ◌^◌, ◌<◌, Bool, true, false, ◌&&◌, ◌||◌, not, if◌then◌else◌, Result, Ok, Err, refl, sym, ap, ◌∙◌, subst, arith}
use Rattle.memory.proofs.Names.{cases_eq, nat_le, ◌==◌, IsErr, FrameTable, frame_count, WalkFault, Invalid, TooDeep, Misaligned, Denied, NotAccessed, NotDirty, Outside, Reserved, has_bit, entry_at, frame_of, is_pointer}
use Rattle.memory.proofs.Names.{is_valid, is_reserved, is_leaf, is_user, is_accessed, is_dirty, grants, page_of, index_of, leads_on, last_of, frame_in, is_store, answer_of, translated, last_of-zero, last_of-stop, last_of-next, IsTable}
use Rattle.memory.proofs.Names.{IsForest, IsRoot, last_table, last_entry, missing_of, page_entry, last_table-zero, last_table-next, last_table-stop, cases_bool, next_table, missing_of-is, last_entry-is, page_entry-whole, page_entry-missing}
use Rattle.{memory.{specs.Lines.{leaf_lets}, proofs.Looks.{canonical, in_frame}}, std.proofs.lemmas.Bool.{lt-ltb, lt-leb, leb-false}}

abbrev with_entry : FrameTable → ℕ → ℕ × ℕ → ℕ × ℕ
with_entry t page last = (last.0, entry_at t last.1 (index_of page last.0))

-- the last entry of the walk stands where the way through the tables ends
last_of-table : (t : FrameTable) → IsForest t → (page level n : ℕ) → IsTable t n → last_of t page level n ≡ with_entry t page (last_table t page level n)
last_of-table t forest page zero n table = last_of-zero t page n ∙ ap (with_entry t page) (sym (last_table-zero t page n))
last_of-table t forest page (suc level) n table = elim (cases_bool (is_pointer (entry_at t n (index_of page (suc level))))) [
  | inl pointer ↦ (
      let e = entry_at t n (index_of page (suc level)) in
      let there = forest.onto_tables n _ _ (next_table t page (suc level) n table pointer) in
      let leads : leads_on t e ≡ true = rw pointer (lt-ltb (frame_of e) (frame_count t) there.inside) in
      let less : suc level - 1 ≡ level = omega arith in
      last_of-next t page (suc level) n (omega arith) leads ∙ ap (λ k. last_of t page k (frame_of e)) less
      ∙ last_of-table t forest page level (frame_of e) there ∙ ap (with_entry t page) (sym (last_table-next t page level n pointer)))
  | inr stop ↦ (
      let stops : leads_on t (entry_at t n (index_of page (suc level))) ≡ false = rw stop in
      last_of-stop t page (suc level) n (omega arith) stops ∙ ap (with_entry t page) (sym (last_table-stop t page level n stop)))
]

answer-nothing : (count addr : ℕ) (access : Access) (level : ℕ) → answer_of count addr access level 0 ≡ Err Invalid
unfolding answer_of has_bit
answer-nothing count addr access level = refl

module _ (mode : ℕ) (t : FrameTable) (root addr : ℕ) (access : Access) (forest : IsForest t) (is_root : IsRoot (top_level mode) t root) (user : addr / 4096 < user_end mode) where
  answered : translated (top_level mode) t root addr access
      ≡ answer_of (frame_count t) addr access (missing_of t (top_level mode) root (addr / 4096)) (last_entry t (top_level mode) root (addr / 4096))
  unfolding translated
  answered =
      rw (
        canonical mode addr user,
        lt-leb (frame_count t) root is_root.table.inside,
        (last_of-table t forest (addr / 4096) (top_level mode) root is_root.table),
        missing_of-is t (top_level mode) root (addr / 4096),
        last_entry-is t (top_level mode) root (addr / 4096),
      )

  -- what an access comes to is what the page's own entry says
  pub translated-entry : translated (top_level mode) t root addr access ≡ answer_of (frame_count t) addr access 0 (page_entry t (top_level mode) root (addr / 4096))
  translated-entry = elim (cases_eq (missing_of t (top_level mode) root (addr / 4096)) 0) [
    | inl whole ↦ answered ∙ ap (λ m. answer_of (frame_count t) addr access m (last_entry t (top_level mode) root (addr / 4096))) whole
        ∙ ap (answer_of (frame_count t) addr access 0) (sym (page_entry-whole t (top_level mode) root (addr / 4096) whole))
    | inr ne ↦ answered ∙ ap (answer_of (frame_count t) addr access (missing_of t (top_level mode) root (addr / 4096))) (is_root.bare (addr / 4096) ne)
        ∙ answer-nothing (frame_count t) addr access (missing_of t (top_level mode) root (addr / 4096))
        ∙ sym (ap (answer_of (frame_count t) addr access 0) (page_entry-missing t (top_level mode) root (addr / 4096) ne) ∙ answer-nothing (frame_count t) addr access 0)
  ]

-- a chain of tests one of which holds
one_holds : (v r l m u gr a sd o : Bool) (ok : Phys)
    → (v ≡ true → r ≡ false → l ≡ true → u ≡ true → gr ≡ true → a ≡ true → sd ≡ false → o ≡ false → ⊥)
    → IsErr (if not v then Err Invalid else if r then Err Reserved else if not l then Err TooDeep else if not m then Err Misaligned else if not u || not gr then Err Denied
    else if not a then Err NotAccessed else if sd then Err NotDirty else if o then Err Outside else Ok ok)
one_holds true false true true true true true false false ok h = absurd (h refl refl refl refl refl refl refl refl)
one_holds v r l m u gr a sd o ok h = refl

marked : (s d : Bool) → (s && not d) ≡ false → (not s || d) ≡ true
marked true false e = cc
marked s d e = refl

-- a number that is no leaf for the access, or that of a frame outside memory, is a fault
pub refused : (count addr : ℕ) (access : Access) (e : ℕ) → (leaf_lets access e ≡ true → frame_of e < count → ⊥) → IsErr (answer_of count addr access 0 e)
unfolding answer_of
refused count addr access e bad =
    one_holds (is_valid e) (is_reserved e) (is_leaf e) (frame_of e % 512 ^ 0 == 0) (is_user e) (grants access e) (is_accessed e)
    (is_store access && not (is_dirty e)) (nat_le count (frame_in 0 e (page_of addr))) (record { 0 = frame_in 0 e (page_of addr) * 4096 + addr % 4096 })
    (λ v r l u gr a sd o. bad (rw (v, r, l, u, gr, a) (marked (is_store access) (is_dirty e) sd))
    (leb-false count (frame_of e) (ap (nat_le count) (sym (in_frame e (page_of addr))) ∙ o)))

-- so is that to a page to which a table is missing
pub missing_fault : (mode : ℕ) (t : FrameTable) (root page addr : ℕ) (access : Access) → IsForest t → IsRoot (top_level mode) t root → page < user_end mode
    → missing_of t (top_level mode) root page ≢ 0 → addr / 4096 ≡ page → IsErr (translated (top_level mode) t root addr access)
missing_fault mode t root page addr access forest is_root small missing at =
    let is = translated-entry mode t root addr access forest is_root (subst (λ (p : ℕ). p < user_end mode) (sym at) small)
    ∙ ap (answer_of (frame_count t) addr access 0) (ap (page_entry t (top_level mode) root) at ∙ page_entry-missing t (top_level mode) root page missing)
    ∙ answer-nothing (frame_count t) addr access 0 in
    subst (λ (r : Result Phys WalkFault). IsErr r) (sym is) refl
