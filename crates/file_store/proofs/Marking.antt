-- How a new store comes about: a look at the mark, then all but the mark, written and synced, and then the mark.
use Rattle.file_store.proofs.{Causes.{is_this, same_Err}, Formats.{while_unmarked, while_marking}, Names.{◌≡◌, ◌⊎◌, ◌≤◌, ℕ, List, Result, Err, Option, inl, inr, ⊎_elim, sym, ap, subst, IsErrAnd, IsErrOf, Image, MayLeave, Nothing, Touches, NamesOnce, LeavesOnly, Ghosts, then, wider, asks_once, RunsOnDevice}}
use Rattle.file_store.specs.{Format.{total_pages, IsFrom, IsMarkSector, IsStoreSector, IsTooLarge, HasReader, IsStoreIfMarked}, Formatted.{FormatsStore}}
use Rattle.file_store.specs.{Layout.{IsMark}, Making.{Makes, HasFormatCauses, LooksFirst}, declared.{faults.FormatFault.{FormatFault, TheVariants.{TooLarge, Formatted, Source, Device}}, sources.FileSource.{FileSource}}}

module _ {D : Type 0} (g : Ghosts D) (P : Image → Type 0) (old : D) where
  -- where the device had no mark and nothing unsynced every image of a stop has P
  abbrev pub LeavesNoPart : D → Type 0
  LeavesNoPart new = ((k : ℕ) → g.unsynced old k → ⊥) → (IsMark (g.content old 0) → ⊥) → LeavesOnly g old new P

  -- one without a mark has P
  module _ (lacks : (c : Image) → (IsMark (c 0) → ⊥) → P c) (only_now : (c : Image) → g.left_since old (g.moment old) c → MayLeave (g.content old) (g.unsynced old) c)
      (mid : D) (reads : Touches g Nothing old mid) where
    -- it is only looked at
    pub nothing_made : LeavesNoPart mid
    nothing_made synced unmarked = while_unmarked g P lacks old only_now synced unmarked mid (wider g Nothing (IsFrom 1) old mid (λ k none. absurd none) reads)

    module _ (W : ℕ → Type 0) (from : (k : ℕ) → W k → IsFrom 1 k) (made : D) (writes : Touches g W mid made) where
      all_but_mark : Touches g (IsFrom 1) old made
      all_but_mark = then g (IsFrom 1) old mid made (wider g Nothing (IsFrom 1) old mid (λ k none. absurd none) reads) (wider g W (IsFrom 1) mid made from writes)

      -- all but the mark is written, or not all yet
      pub unmarked_made : LeavesNoPart made
      unmarked_made synced unmarked = while_unmarked g P lacks old only_now synced unmarked made all_but_mark

      -- and then the mark
      pub marked_made : ((k : ℕ) → g.unsynced made k → ⊥) → ((c : Image) → ((k : ℕ) → 1 ≤ k → c k ≡ g.content made k) → P c) → (new : D) → Touches g IsMarkSector made new → LeavesNoPart new
      marked_made made_synced whole new marks synced unmarked = while_marking g P lacks old only_now synced unmarked made new all_but_mark made_synced whole marks

-- a look at the mark asks for no more than a part that asks for it
pub looked_makes : {D : Type 0} (g : Ghosts D) (W : ℕ → Type 0) (old new : D) → ((k : ℕ) → IsMarkSector k → W k) → RunsOnDevice g Nothing old new → NamesOnce IsMarkSector (g.asked old) (g.asked new) → Makes g W old new
looked_makes g W old new mark run once = record {
  size = run.size;
  kept = run.kept;
  later = run.later;
  asks = asks_once g W IsMarkSector old new mark once;
  touches = λ k. wider g Nothing W old new (λ s none. absurd none) (run.touches k);
}

-- faults that are none of others
pub when_looking : {T : Type 0} (f : FormatFault) → IsErrOf {T = T} (Err f) Formatted ⊎ IsErrOf {T = T} (Err f) Device → (f ≡ TooLarge → ⊥) × (f ≡ Source → ⊥)
when_looking f = ⊎_elim (λ a. (λ e. cc, λ e. cc)) (λ a. (λ e. cc, λ e. cc))

pub when_filling : {T : Type 0} (f : FormatFault) → IsErrOf {T = T} (Err f) Source ⊎ IsErrOf {T = T} (Err f) Device → (f ≡ TooLarge → ⊥) × (f ≡ Formatted → ⊥)
when_filling f = ⊎_elim (λ a. (λ e. cc, λ e. cc)) (λ a. (λ e. cc, λ e. cc))

pub when_marking : (Device ≡ TooLarge → ⊥) × ((Device ≡ Formatted → ⊥) × (Device ≡ Source → ⊥))
when_marking = (λ e. cc, (λ e. cc, λ e. cc))

-- a format that is refused once the files are known to fit
module _ {D R T : Type 0} (g : Ghosts D) (remaining : R → Option (List ℕ)) (sources : List (FileSource R)) (old new : D) where
  pub format_refused : (fault : FormatFault) (r : Result T FormatFault) → IsErrAnd r (λ f. f ≡ fault) → (IsTooLarge (g.sector_count old) sources → ⊥) → (fault ≡ TooLarge → ⊥)
      → Makes g (IsStoreSector (total_pages sources)) old new → LooksFirst (IsStoreSector (total_pages sources)) (g.asked old) (g.asked new) → HasFormatCauses {T = T} (g.failures old) (g.failures new) (Err fault)
      → (g.keeps_model new → LeavesNoPart g (IsStoreIfMarked remaining (g.sector_count old) sources) old new)
      → (g.keeps_model new → fault ≡ Formatted → IsMark (g.content old 0)) → (g.keeps_model new → IsMark (g.content old 0) → (fault ≡ Formatted) ⊎ (fault ≡ Device))
      → (g.keeps_model new → IsMark (g.content old 0) → Touches g Nothing old new) → (fault ≡ Source → HasReader sources) → FormatsStore g remaining sources old new r
  format_refused fault r is fits known run once causes leaves formatted marked spared source = subst (λ r. FormatsStore g remaining sources old new r) (sym (is_this r fault is)) (record {
    ok = λ k. tt;
    marked = λ k. tt;
    synced = λ k. tt;
    whole = tt;
    any_moment = leaves;
    size = run.size;
    kept = run.kept;
    later = run.later;
    asks = run.asks;
    once = once;
    too_large = (λ e. absurd (known (same_Err _ _ e)), λ large. absurd (fits large));
    formatted = λ k e. formatted k (same_Err _ _ e);
    not_formatted = λ k mark. inr (⊎_elim (λ e. inl (ap Err e)) (λ e. inr (ap Err e)) (marked k mark));
    spared = spared;
    unwritten = λ k. ⊎_elim (λ e. absurd (known (same_Err _ _ e))) (λ e. spared k (formatted k (same_Err _ _ e)));
    source = λ e. source (same_Err _ _ e);
    causes = causes;
  })
