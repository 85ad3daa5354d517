-- How a new store of layout 4 comes about: a look at the mark, then all but the mark, written and synced, and then the mark.
use Rattle.pool_store.proofs.Names.{◌≡◌, ◌⊎◌, ◌≤◌, ◌<◌, ◌+◌, ◌∙◌, ℕ, List, length, Option, Result, Err, inl, inr, ⊎_elim, sym, ap, subst, arith, cases_lt, IsErrAnd, Image, MayLeave, Nothing, Touches, Ghosts, wider}
use Rattle.file_store.proofs.{Causes.{is_this, same_Err}}
use Rattle.directories.specs.Kinds.{IsKind}
use Rattle.pool_journal.specs.{Clearing.{IsHeadOfPool}, Pools.{pool_home, pool_home_count}}
use Rattle.file_store.specs.{Format.{HasReader, IsFrom, IsMarkSector, total_pages}, Making.{HasFormatCauses, LooksFirst, Makes}, declared.{faults.FormatFault.{FormatFault, TheVariants.{TooLarge, Formatted, Source, Device}}, sources.FileSource.{FileSource}}}
use Rattle.file_store.specs.Blocks.{KindBehind, KindLast}
use Rattle.pool_store.proofs.{Held.{inner_moves, whole}, Older.{with_kind, without_mark}, Stopped.{LeavesNoPart, SameFrom, marked_made, nothing_made, unmarked_made}}
use Rattle.file_store.specs.Layout.{IsMark}
use Rattle.pool_store.specs.{Format.{IsInnerPoolOf, IsInnerSector, IsPoolIfHeaded, IsPoolOrNone, IsPoolStoreOf, IsPoolStoreSector, IsTooLargeFor, IsTooLargeFor.{TooFewSectors, TooManyFiles, TooManyPages}, IsUnmarkedPoolOf, IsUnmarkedPoolSector, new_pages}, Formatted.{FormatsPool}, Pools.{pool_mark}}

-- pool and homes lie behind the block of the mark, the homes behind the pool's head
pub head_low : (m k : ℕ) → 1 ≤ m → IsHeadOfPool m k → (8 ≤ k) × (k < pool_home m 0)
head_low m k some at = ⊎_elim (λ gate. (omega (arith, gate), omega (arith, gate, some))) (λ map. (omega (arith, map.0), omega (arith, map.1, some))) at

pub inner_from : (m pages k : ℕ) → IsInnerSector m pages k → 8 ≤ k
inner_from m pages k at = ⊎_elim (λ head. ⊎_elim (λ gate. omega (arith, gate)) (λ map. omega (arith, map.0)) head) (λ home. omega (arith, home.0)) at

pub unmarked_from : (m pages k : ℕ) → IsUnmarkedPoolSector m pages k → 1 ≤ k
unmarked_from m pages k at = ⊎_elim (λ kind. omega (arith, kind)) (λ inner. let far = inner_from m pages k inner in omega (arith, far)) at

module _ {R : Type 0} (m : ℕ) (remaining : R → Option (List ℕ)) (sources : List (FileSource R)) (sectors : ℕ) where
  -- what is not too large fits
  pub record Fits : Type 0 where
    pub files : length sources ≤ 64
    pub room : pool_home m new_pages ≤ sectors
    pub homes : new_pages + total_pages sources ≤ pool_home_count m sectors

  pub fits : (IsTooLargeFor m sectors sources → ⊥) → Fits
  fits fit = record {
    files = ⊎_elim (λ many. absurd (fit (TooManyFiles many))) (λ few. few) (cases_lt 64 (length sources));
    room = ⊎_elim (λ small. absurd (fit (TooFewSectors small))) (λ room. room) (cases_lt sectors (pool_home m new_pages));
    homes = ⊎_elim (λ many. absurd (fit (TooManyPages many))) (λ few. few) (cases_lt (pool_home_count m sectors) (new_pages + total_pages sources));
  }

  -- without a mark an image is no store
  pub lacks_mark : (held : List ℕ) → (IsMark held → ⊥) → (c : Image) → c 0 ≡ held → IsPoolOrNone m remaining sectors sources c
  lacks_mark held unmarked c same = record {
    whole = λ marked. absurd (unmarked (inr (inr (inr (sym same ∙ marked)))));
    older = without_mark sectors c (λ any. unmarked (subst IsMark same any));
  }

  pub lacks_head : (held : List ℕ) → (IsMark held → ⊥) → (c : Image) → c 0 ≡ held → IsPoolIfHeaded m remaining sectors sources c
  lacks_head held unmarked c same = λ kind marked. absurd (unmarked (inr (inr (inr (sym same ∙ marked)))))

  module _ (fit : Fits) where
    -- with kind and mark it is the store
    pub headed : (tables c : Image) → IsInnerPoolOf m remaining sources tables → SameFrom 8 tables c → IsPoolIfHeaded m remaining sectors sources c
    headed tables c inner same = λ kind marked.
        whole m remaining sources sectors fit.files fit.room fit.homes c (record { kind = kind; inner = inner_moves m remaining sources tables c same inner }) marked

    pub with_mark : (made c : Image) → IsUnmarkedPoolOf m remaining sources made → SameFrom 1 made c → IsPoolOrNone m remaining sectors sources c
    with_mark made c all same =
        let kind : IsKind m new_pages (c 1) = subst (λ (sector : List ℕ). IsKind m new_pages sector) (sym (same 1 (omega arith))) all.kind in
        record {
          whole = headed made c all.inner (λ k far. same k (omega (arith, far))) kind;
          older = with_kind m new_pages sectors c kind;
        }

  -- what is made when the kind is written behind the rest
  pub unmarked_of : {D : Type 0} (g : Ghosts D) (old made : D) → KindBehind g (IsFrom 8) (IsInnerPoolOf m remaining sources) old made → IsKind m new_pages (g.content made 1) → IsUnmarkedPoolOf m remaining sources (g.content made)
  unmarked_of g old made behind kind = record {
    kind = kind;
    inner = inner_moves m remaining sources (g.content behind.tables) (g.content made) (λ k far. ⊎_elim (λ at. absurd (omega (arith, at, far))) (λ same. same) (behind.kind.content k)) behind.holds;
  }

-- what the parts of a format leave at a stop
module _ {D R : Type 0} (g : Ghosts D) (m : ℕ) (remaining : R → Option (List ℕ)) (sources : List (FileSource R)) (old : D) where
  abbrev pub Leaves : D → Type 0
  Leaves new = LeavesNoPart g (IsPoolOrNone m remaining (g.sector_count old) sources) (IsPoolIfHeaded m remaining (g.sector_count old) sources) (IsInnerPoolOf m remaining sources) old (IsMark (g.content old 0) → ⊥) new

  module _ (only_now : (c : Image) → g.left_since old (g.moment old) c → MayLeave (g.content old) (g.unsynced old) c) (mid : D) (reads : Touches g Nothing old mid) where
    -- it is only looked at
    pub when_read : Leaves mid
    when_read = nothing_made g (IsPoolOrNone m remaining (g.sector_count old) sources) (IsPoolIfHeaded m remaining (g.sector_count old) sources) (IsInnerPoolOf m remaining sources) old
        (IsMark (g.content old 0) → ⊥) only_now (lacks_mark m remaining sources (g.sector_count old) (g.content old 0)) (lacks_head m remaining sources (g.sector_count old) (g.content old 0)) mid reads

    module _ (fit : Fits m remaining sources (g.sector_count old)) (made : D) (writes : Touches g (IsUnmarkedPoolSector m (total_pages sources)) mid made) where
      from_kind : Touches g (IsFrom 1) mid made
      from_kind = wider g (IsUnmarkedPoolSector m (total_pages sources)) (IsFrom 1) mid made (unmarked_from m (total_pages sources)) writes

      -- all but the mark is written, or not all yet
      pub when_unmarked : KindLast g (IsFrom 8) (IsInnerPoolOf m remaining sources) mid made → Leaves made
      when_unmarked epochs = unmarked_made g (IsPoolOrNone m remaining (g.sector_count old) sources) (IsPoolIfHeaded m remaining (g.sector_count old) sources) (IsInnerPoolOf m remaining sources) old
          (IsMark (g.content old 0) → ⊥) only_now (lacks_mark m remaining sources (g.sector_count old) (g.content old 0)) (lacks_head m remaining sources (g.sector_count old) (g.content old 0)) mid reads
          (headed m remaining sources (g.sector_count old) fit) made from_kind epochs

      -- and then the mark
      pub when_marked : KindBehind g (IsFrom 8) (IsInnerPoolOf m remaining sources) mid made → IsKind m new_pages (g.content made 1) → ((k : ℕ) → g.unsynced made k → ⊥) → (new : D) → Touches g IsMarkSector made new → Leaves new
      when_marked behind kind synced new marks =
          let all = unmarked_of m remaining sources (g.sector_count old) g mid made behind kind in
          marked_made g (IsPoolOrNone m remaining (g.sector_count old) sources) (IsPoolIfHeaded m remaining (g.sector_count old) sources) (IsInnerPoolOf m remaining sources) old
          (IsMark (g.content old 0) → ⊥) only_now (lacks_mark m remaining sources (g.sector_count old) (g.content old 0)) (lacks_head m remaining sources (g.sector_count old) (g.content old 0)) mid reads
          (headed m remaining sources (g.sector_count old) fit) made from_kind behind synced all.inner (λ c same. with_mark m remaining sources (g.sector_count old) fit (g.content made) c all same) new marks

      -- with the mark it is the store
      pub marked_whole : KindBehind g (IsFrom 8) (IsInnerPoolOf m remaining sources) mid made → IsKind m new_pages (g.content made 1) → (new : D) → Touches g IsMarkSector made new → g.content new 0 ≡ pool_mark
          → IsPoolStoreOf m remaining (g.sector_count old) sources (g.content new)
      marked_whole behind kind new marks marked =
          (with_mark m remaining sources (g.sector_count old) fit (g.content made) (g.content new) (unmarked_of m remaining sources (g.sector_count old) g mid made behind kind)
          (λ k far. ⊎_elim (λ at. absurd (omega (arith, at, far))) (λ same. same) (marks.content k))).whole marked

-- a format that is refused once the files are known to fit
module _ {D R T : Type 0} (g : Ghosts D) (m : ℕ) (remaining : R → Option (List ℕ)) (sources : List (FileSource R)) (old new : D) where
  pub format_refused : (fault : FormatFault) (r : Result T FormatFault) → IsErrAnd r (λ f. f ≡ fault) → (IsTooLargeFor m (g.sector_count old) sources → ⊥) → (fault ≡ TooLarge → ⊥)
      → Makes g (IsPoolStoreSector m (total_pages sources)) old new → LooksFirst (IsPoolStoreSector m (total_pages sources)) (g.asked old) (g.asked new) → HasFormatCauses {T = T} (g.failures old) (g.failures new) (Err fault)
      → (g.keeps_model new → Leaves g m remaining sources old new)
      → (g.keeps_model new → fault ≡ Formatted → IsMark (g.content old 0)) → (g.keeps_model new → IsMark (g.content old 0) → (fault ≡ Formatted) ⊎ (fault ≡ Device))
      → (g.keeps_model new → IsMark (g.content old 0) → Touches g Nothing old new) → (fault ≡ Source → HasReader sources) → FormatsPool g m remaining sources old new r
  format_refused fault r is fit known run once causes leaves formatted marked spared source = subst (λ r. FormatsPool g m remaining sources old new r) (sym (is_this r fault is)) (record {
    ok = λ k. tt;
    marked = λ k. tt;
    synced = λ k. tt;
    whole = tt;
    any_moment = λ k. (leaves k).any_moment;
    blocks = λ k. (leaves k).blocks;
    size = run.size;
    kept = run.kept;
    later = run.later;
    asks = run.asks;
    once = once;
    too_large = (λ e. absurd (known (same_Err _ _ e)), λ large. absurd (fit large));
    formatted = λ k e. formatted k (same_Err _ _ e);
    not_formatted = λ k mark. inr (⊎_elim (λ e. inl (ap Err e)) (λ e. inr (ap Err e)) (marked k mark));
    spared = spared;
    unwritten = λ k. ⊎_elim (λ e. absurd (known (same_Err _ _ e))) (λ e. spared k (formatted k (same_Err _ _ e)));
    source = λ e. source (same_Err _ _ e);
    causes = causes;
  })
