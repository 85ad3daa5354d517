-- What a stop leaves while a store is made: all but the mark is written and synced, and then the mark.
use Rattle.file_store.proofs.{Names.{◌≡◌, ◌⊎◌, ◌≤◌, ℕ, ⊎_elim, inl, inr, List, Option, subst, arith, Image, MayLeave, Touches, LeavesOnly, Ghosts, started, goes_on, first_home_sector, home_count}, NewStores.{unmarked_moves, store_if_marked}}
use Rattle.file_store.specs.{Format.{total_pages, IsFrom, IsMarkSector, IsStoreIfMarked, IsUnmarkedStoreOf}, Layout.{mark, IsMark}, declared.sources.FileSource.{FileSource}}

-- an image without a mark has P
module _ {D : Type 0} (g : Ghosts D) (P : Image → Type 0) (lacks : (c : Image) → (IsMark (c 0) → ⊥) → P c) (old : D)
    (only_now : (c : Image) → g.left_since old (g.moment old) c → MayLeave (g.content old) (g.unsynced old) c)
    (synced : (k : ℕ) → g.unsynced old k → ⊥) (unmarked : IsMark (g.content old 0) → ⊥) where
  -- as long as sector 0 is not written, no image has a mark
  lacks_mark : (c : Image) → MayLeave (g.content old) (λ k. g.unsynced old k ⊎ IsFrom 1 k) c → P c
  lacks_mark c may = lacks c (λ marked. ⊎_elim (⊎_elim (λ u. synced 0 u) (λ behind. omega (arith, behind))) (λ same. unmarked (subst IsMark same marked)) (may.kept 0))

  pub while_unmarked : (new : D) → Touches g (IsFrom 1) old new → LeavesOnly g old new P
  while_unmarked new run = goes_on g (IsFrom 1) old old new P
      (started g old P only_now (λ c may. lacks_mark c (record { kept = λ k. ⊎_elim (λ u. inl (inl u)) (λ e. inr e) (may.kept k) })))
      run lacks_mark

  -- and then all but the mark is synced
  pub while_marking : (mid new : D) → Touches g (IsFrom 1) old mid → ((k : ℕ) → g.unsynced mid k → ⊥)
      → ((c : Image) → ((k : ℕ) → 1 ≤ k → c k ≡ g.content mid k) → P c) → Touches g IsMarkSector mid new → LeavesOnly g old new P
  while_marking mid new run mid_synced whole marks = goes_on g IsMarkSector old mid new P (while_unmarked mid run) marks
      (λ c may. whole c (λ k behind. ⊎_elim (⊎_elim (λ u. absurd (mid_synced k u)) (λ at. absurd (omega (arith, behind, at)))) (λ same. same) (may.kept k)))

-- with the mark written last it is whole
pub marked_whole : {D : Type 0} (g : Ghosts D) (Whole : Image → Type 0) (mid new : D) → ((c : Image) → ((k : ℕ) → 1 ≤ k → c k ≡ g.content mid k) → c 0 ≡ mark → Whole c)
    → Touches g IsMarkSector mid new → g.content new 0 ≡ mark → Whole (g.content new)
marked_whole g Whole mid new whole marks marked = whole (g.content new) (λ k behind. ⊎_elim (λ at. absurd (omega (arith, behind, at))) (λ e. e) (marks.content k)) marked

-- without a mark it is no store
pub no_store : {R : Type 0} (remaining : R → Option (List ℕ)) (sectors : ℕ) (sources : List (FileSource R)) (c : Image) → (IsMark (c 0) → ⊥) → IsStoreIfMarked remaining sectors sources c
no_store remaining sectors sources c none = record { store = λ marked. absurd (none (inl marked)); made = λ marked. absurd (none marked) }

-- a new store, whatever its sector 0 reads
pub store_whole : {R : Type 0} (remaining : R → Option (List ℕ)) (sectors : ℕ) (sources : List (FileSource R)) (mid : Image) → IsUnmarkedStoreOf remaining sources mid
    → first_home_sector ≤ sectors → total_pages sources ≤ home_count sectors → (c : Image) → ((k : ℕ) → 1 ≤ k → c k ≡ mid k) → IsStoreIfMarked remaining sectors sources c
store_whole remaining sectors sources mid all room fit c same =
    let moved = unmarked_moves remaining sources mid c same all in
    record { store = λ marked. store_if_marked remaining sources sectors c room fit moved marked; made = λ _. moved }
