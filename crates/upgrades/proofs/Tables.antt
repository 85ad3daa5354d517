-- The directory of the new store, page by page, and what moves with the sectors that hold it.
use Rattle.upgrades.proofs.Names.{◌≡◌, ◌⊎◌, ◌≤◌, ◌<◌, ◌+◌, ◌-◌, ◌*◌, ◌/◌, ◌%◌, ◌∙◌, ℕ, false, List, Option, inl, inr, sym, ap, subst, ⊎_elim, arith, cases_lt, Image, IsPageSector, joined, joined-same, joined_parts, part_of}
use Rattle.vm_types.specs.declared.file.FileInfo.{FileInfo}
use Rattle.directories.specs.{Entries.{SaysEntry, entry_bytes}}
use Rattle.pool_journal.specs.{Pools.{pool_gate, pool_home, pool_start}}
use Rattle.pool_store.{proofs.Held.{empty_moves, entry_moves}, specs.{Format.{home_part, new_pages}, Pools.{entry_standing}}}
use Rattle.upgrades.specs.NewPool.{HasTables, HoldsDirectory, HoldsFiles, IsDirectoryPage, IsInnerUpgrade, IsTableSector, entry_kept, first_of}

module _ (m : ℕ) (files : ℕ → Option FileInfo) where
  pub directory_moves : (q : ℕ) (old new : Image) → ((f i : ℕ) → f < 16 * q → i < 8 → home_part m new (f / 16) i ≡ home_part m old (f / 16) i) → HoldsDirectory m files q old → HoldsDirectory m files q new
  directory_moves q old new same holds = λ f below. subst (λ (bytes : List ℕ). SaysEntry bytes (entry_kept files f)) (sym (entry_moves f (home_part m new) (home_part m old) (λ i inside. same f i below inside))) (holds f below)

  -- it is begun
  pub directory_begun : (image : Image) → HoldsDirectory m files 0 image
  directory_begun image = λ f below. absurd (omega (arith, below))

  -- a page of it is written
  pub directory_more : (q : ℕ) (page : List ℕ) (old new : Image) → IsDirectoryPage files q page → ((i : ℕ) → i < 8 → home_part m new q i ≡ part_of page i)
      → ((k : ℕ) → IsPageSector (pool_home m q) k ⊎ (new k ≡ old k)) → HoldsDirectory m files q old → HoldsDirectory m files (q + 1) new
  directory_more q page old new made held same holds = λ f below. ⊎_elim
      (λ earlier. subst (λ (bytes : List ℕ). SaysEntry bytes (entry_kept files f))
      (sym (entry_moves f (home_part m new) (home_part m old) (λ i inside. ⊎_elim (λ at. absurd (omega (arith, at.0, earlier, inside))) (λ e. e) (same (pool_home m (f / 16) + i)))))
      (holds f earlier))
      (λ here. let this : f / 16 ≡ q = omega (arith, below, here) in let number : 16 * q + f % 16 ≡ f = omega (arith, this) in
      subst (λ (n : ℕ). SaysEntry (entry_standing (home_part m new) f) (entry_kept files n)) number
      (subst (λ (bytes : List ℕ). SaysEntry bytes (entry_kept files (16 * q + f % 16)))
      (sym (ap (λ (n : ℕ). entry_bytes (joined (home_part m new n) 8) (f % 16)) this
      ∙ ap (λ (whole : List ℕ). entry_bytes whole (f % 16)) (joined-same 8 (home_part m new q) (part_of page) held ∙ joined_parts page made.size)))
      (made.says (f % 16) (omega arith))))
      (cases_lt f (16 * q))

  -- the tables stand where no sector of theirs is changed
  pub tables_move : (old new : Image) → ((k : ℕ) → IsTableSector m k → new k ≡ old k) → HasTables m files old → HasTables m files new
  tables_move old new same tables = record {
    empty = empty_moves m old new (same pool_gate (inl (inl (let e : pool_gate ≡ pool_gate = omega arith in e)))) (λ i below. same (pool_start m false + 8 * (m - 1 - 0) + i) (inl (inr (omega arith, omega (arith, below))))) tables.empty;
    directory = directory_moves new_pages old new (λ f i below inside. same (pool_home m (f / 16) + i) (inr (omega arith, omega (arith, below, inside)))) tables.directory;
  }

  module _ (pages : ℕ → ℕ → List ℕ) where
    pub files_move : (old new : Image) → ((k : ℕ) → pool_home m new_pages ≤ k → new k ≡ old k) → HoldsFiles m files pages 64 old → HoldsFiles m files pages 64 new
    files_move old new same holds = λ f less k i below inside. same (pool_home m (first_of files f) + 8 * k + i) (omega arith) ∙ holds f less k i below inside

    pub inner_moves : (old new : Image) → ((k : ℕ) → 8 ≤ k → new k ≡ old k) → IsInnerUpgrade m files pages old → IsInnerUpgrade m files pages new
    inner_moves old new same inner = record {
      tables = tables_move old new (λ k at. same k (⊎_elim (λ head. ⊎_elim (λ gate. omega (arith, gate)) (λ map. omega (arith, map.0)) head) (λ home. omega (arith, home.0)) at)) inner.tables;
      held = files_move old new (λ k far. same k (omega (arith, far))) inner.held;
    }
