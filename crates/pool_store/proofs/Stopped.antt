-- What a stop leaves while a new store is made: all outside the block of the mark is written and synced, then the kind, and then the mark.
use Rattle.pool_store.proofs.Names.{◌≡◌, ◌⊎◌, ◌≤◌, ◌∙◌, ℕ, ⊎_elim, inl, inr, arith, Image, MayLeave, LeavesOnly, LeavesInBlocks, Nothing, Touches, Ghosts, goes_on, started, then, wider}
use Rattle.file_store.{proofs.Blocks.{behind_more, last_more}, specs.{Blocks.{KindBehind, KindLast, MakesByBlocks, MakesByBlocks.{Unmarked, OfKind, Marked}}, Format.{IsFrom, IsKindSector, IsMarkSector}}}

-- an image that is the same from a sector on
abbrev pub SameFrom : ℕ → Image → Image → Type 0
SameFrom n old new = (k : ℕ) → n ≤ k → new k ≡ old k

module _ {D : Type 0} (g : Ghosts D) (P : Image → Type 0) (old : D) (synced : (k : ℕ) → g.unsynced old k → ⊥) (untouched : (c : Image) → c 0 ≡ g.content old 0 → P c) where
  -- as long as sector 0 is not written
  behind_mark : (c : Image) → MayLeave (g.content old) (λ k. g.unsynced old k ⊎ IsFrom 1 k) c → P c
  behind_mark c may = untouched c (⊎_elim (⊎_elim (λ u. absurd (synced 0 u)) (λ behind. absurd (omega (arith, behind)))) (λ same. same) (may.kept 0))

  module _ (only_now : (c : Image) → g.left_since old (g.moment old) c → MayLeave (g.content old) (g.unsynced old) c) where
    pub while_unmarked : (new : D) → Touches g (IsFrom 1) old new → LeavesOnly g old new P
    while_unmarked new run = goes_on g (IsFrom 1) old old new P
        (started g old P only_now (λ c may. behind_mark c (record { kept = λ k. ⊎_elim (λ u. inl (inl u)) (λ e. inr e) (may.kept k) })))
        run behind_mark

    -- and then all but the mark is synced
    pub while_marking : (mid new : D) → Touches g (IsFrom 1) old mid → ((k : ℕ) → g.unsynced mid k → ⊥) → ((c : Image) → SameFrom 1 (g.content mid) c → P c) → Touches g IsMarkSector mid new → LeavesOnly g old new P
    while_marking mid new run mid_synced whole marks = goes_on g IsMarkSector old mid new P (while_unmarked mid run) marks
        (λ c may. whole c (λ k behind. ⊎_elim (⊎_elim (λ u. absurd (mid_synced k u)) (λ at. absurd (omega (arith, behind, at)))) (λ same. same) (may.kept k)))

  -- where blocks are spoilt, as long as that of the mark is not touched
  first_epoch : (new : D) → Touches g (IsFrom 8) old new → LeavesInBlocks g (IsFrom 8) P old new
  first_epoch new run = record {
    writes = run;
    each = λ d touched c may. untouched c (⊎_elim
        (λ at. absurd (⊎_elim (synced at.0) (λ far. omega (arith, far, at.1)) (touched.unsynced at.0 at.2)))
        (λ same. ⊎_elim (λ far. absurd (omega (arith, far))) (λ kept. same ∙ kept) (touched.content 0))
        (may.kept 0));
  }

  pub only_read : (new : D) → Touches g Nothing old new → MakesByBlocks g P old new
  only_read new reads = Unmarked (first_epoch new (wider g Nothing (IsFrom 8) old new (λ k none. absurd none) reads))

  module _ (Q : Image → Type 0) (whole : (mid c : Image) → Q mid → SameFrom 8 mid c → P c) where
    -- it alone is
    head_epoch : (W : ℕ → Type 0) (mid new : D) → ((k : ℕ) → W k → k ≤ 1) → ((k : ℕ) → g.unsynced mid k → ⊥) → Q (g.content mid) → Touches g W mid new → LeavesInBlocks g W P mid new
    head_epoch W mid new low mid_synced holds run = record {
      writes = run;
      each = λ d touched c may. whole (g.content mid) c holds (λ k far. ⊎_elim
          (λ at. absurd (⊎_elim (mid_synced at.0) (λ inside. let first = low at.0 inside in omega (arith, first, at.1, far)) (touched.unsynced at.0 at.2)))
          (λ same. ⊎_elim (λ inside. absurd (let first = low k inside in omega (arith, first, far))) (λ kept. same ∙ kept) (touched.content k))
          (may.kept k));
    }

    pub made_last : (new : D) → KindLast g (IsFrom 8) Q old new → MakesByBlocks g P old new
    made_last new = ⊎_elim (λ run. Unmarked (first_epoch new run))
        (λ b. OfKind b.tables (first_epoch b.tables b.before) (head_epoch IsKindSector b.tables new (λ k at. omega (arith, at)) b.synced b.holds b.kind))

    -- and then the mark
    pub made_marked : (mid new : D) → ((k : ℕ) → g.unsynced mid k → ⊥) → Q (g.content mid) → KindBehind g (IsFrom 8) Q old mid → Touches g IsMarkSector mid new → MakesByBlocks g P old new
    made_marked mid new mid_synced holds b marks = Marked b.tables mid (first_epoch b.tables b.before)
        (head_epoch IsKindSector b.tables mid (λ k at. omega (arith, at)) b.synced b.holds b.kind)
        (head_epoch IsMarkSector mid new (λ k at. omega (arith, at)) mid_synced holds marks)

-- From old on the device is looked at, and all but the mark is made, or the mark too: what its stops leave has P, and where they spoil blocks B.
module _ {D : Type 0} (g : Ghosts D) (P B Q : Image → Type 0) (old : D) (NoMark : Type 0) where
  pub record LeavesNoPart (new : D) : Type 0 where
    pub any_moment : ((k : ℕ) → g.unsynced old k → ⊥) → NoMark → LeavesOnly g old new P
    pub blocks : ((k : ℕ) → g.unsynced old k → ⊥) → NoMark → MakesByBlocks g B old new

  module _ (only_now : (c : Image) → g.left_since old (g.moment old) c → MayLeave (g.content old) (g.unsynced old) c)
      (lacks : NoMark → (c : Image) → c 0 ≡ g.content old 0 → P c) (lacks_too : NoMark → (c : Image) → c 0 ≡ g.content old 0 → B c)
      (mid : D) (reads : Touches g Nothing old mid) where
    pub nothing_made : LeavesNoPart mid
    nothing_made = record {
      any_moment = λ synced none. while_unmarked g P old synced (lacks none) only_now mid (wider g Nothing (IsFrom 1) old mid (λ k no'. absurd no') reads);
      blocks = λ synced none. only_read g B old synced (lacks_too none) mid reads;
    }

    module _ (whole : (tables c : Image) → Q tables → SameFrom 8 tables c → B c) (made : D) (writes : Touches g (IsFrom 1) mid made) where
      all_but_mark : Touches g (IsFrom 1) old made
      all_but_mark = then g (IsFrom 1) old mid made (wider g Nothing (IsFrom 1) old mid (λ k no'. absurd no') reads) writes

      -- all but the mark is written, or not all yet
      pub unmarked_made : KindLast g (IsFrom 8) Q mid made → LeavesNoPart made
      unmarked_made epochs = record {
        any_moment = λ synced none. while_unmarked g P old synced (lacks none) only_now made all_but_mark;
        blocks = λ synced none. made_last g B old synced (lacks_too none) Q whole made
            (last_more g (IsFrom 8) (IsFrom 8) Q Q old mid made (wider g Nothing (IsFrom 8) old mid (λ k no'. absurd no') reads) (λ k at. at) (λ c same q. q) epochs);
      }

      -- and then the mark
      pub marked_made : KindBehind g (IsFrom 8) Q mid made → ((k : ℕ) → g.unsynced made k → ⊥) → Q (g.content made) → ((c : Image) → SameFrom 1 (g.content made) c → P c)
          → (new : D) → Touches g IsMarkSector made new → LeavesNoPart new
      marked_made behind made_synced holds with_mark new marks = record {
        any_moment = λ synced none. while_marking g P old synced (lacks none) only_now made new all_but_mark made_synced with_mark marks;
        blocks = λ synced none. made_marked g B old synced (lacks_too none) Q whole made new made_synced holds
            (behind_more g (IsFrom 8) (IsFrom 8) Q Q old mid made (wider g Nothing (IsFrom 8) old mid (λ k no'. absurd no') reads) (λ k at. at) (λ c same q. q) behind) marks;
      }
