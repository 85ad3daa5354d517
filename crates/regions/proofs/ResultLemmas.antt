-- What the rebuilt maps are, and how many runs they have.
use Rattle.std.proofs.{Common.{◌≡◌, ℕ, ◌+◌, ◌-◌, ◌<◌, ◌≤◌, sym, ◌∙◌, ap, subst, arith, List, [], length, Result, Ok, Err, IsErr, OnErr, Option, None}, lemmas.Bool.{false≢true}}
use Rattle.vm_types.specs.{Limits.{user_end}, declared.permission.Prot.{Prot}, declared.region.Attr.{Attr}, Attributes.{backing_fits}, Rows.{removed, protected, replaced}, Runs.{run_count}}
use Rattle.regions.specs.{declared.run.Run.{Run}, Remaps.{MakesMap}, Run.{IsRun}, RunList.{attr_at, IsMaximal, pasted, list_removed, list_protected, list_replaced}}
use Rattle.regions.proofs.{ListLemmas.{length-pushed}, CountLemmas.{run_count-same, run_count-maximal}, WalkLemmas.{user_map}, MapLemmas.{removed_is, removed_at, protected_is, protected_at, middle_is, replaced_is, replaced_at}}

pub on_err : {T E : Type 0} (r : Result T E) (P : Type 0) → P → OnErr r P
on_err (Ok x) P p = tt
on_err (Err e) P p = p

abbrev pub row_run : ℕ → ℕ → Attr → Run
row_run first pages attr = record { first = first; end = first + pages; attr = attr }

-- a list stands for a map that was made out of another list's
pub record Rebuilt (mode : ℕ) (old : List Run) (map : ℕ → Option Attr) (list : List Run) : Type 0 where
  pub before : IsMaximal mode 16 old
  pub maximal : IsMaximal mode 16 list
  pub at : (page : ℕ) → attr_at list page ≡ map page

module _ (mode : ℕ) (old list : List Run) (map : ℕ → Option Attr) (rebuilt : Rebuilt mode old map list) where
  count : run_count mode map ≡ length list
  count = run_count-same mode map (attr_at list) (λ k. sym (rebuilt.at k)) ∙ run_count-maximal mode list rebuilt.maximal

  -- the whole list was made
  pub made : {T E : Type 0} (new : List Run) (done : T) → new ≡ list → length new ≤ 256 → MakesMap {E = E} mode old map new (Ok done)
  made new done e few = record {
    ok = λ page. ap (λ (l : List Run). attr_at l page) e ∙ rebuilt.at page;
    few = omega (arith, count, ap (λ (l : List Run). length l) e);
    user_after = user_map mode new (subst (λ (l : List Run). IsMaximal mode 16 l) (sym e) rebuilt.maximal);
    user_before = user_map mode old rebuilt.before;
    too_many = tt;
  }

  -- a beginning of it was too long already
  pub too_long : {T E : Type 0} (part new : List Run) (r : Result T E) → IsErr r → length part ≤ length list → 256 < length part → MakesMap mode old map new r
  too_long part new (Ok x) err h l = absurd (false≢true err)
  too_long part new (Err e) err h l = record { ok = tt; few = tt; user_after = tt; user_before = user_map mode old rebuilt.before; too_many = omega (arith, count) }

module _ (mode : ℕ) (runs : List Run) (first pages : ℕ) (m : IsMaximal mode 16 runs) where
  pub removes : Rebuilt mode runs (removed (attr_at runs) first pages) (list_removed runs first (first + pages))
  removes = record { before = m; maximal = (removed_is mode runs m first (first + pages) (omega arith)).maximal; at = removed_at mode runs m first (first + pages) (omega arith) }

  pub protects : (prot : Prot) → Rebuilt mode runs (protected (attr_at runs) first pages prot) (list_protected runs first (first + pages) prot)
  protects prot = record { before = m; maximal = (protected_is mode runs m first (first + pages) (omega arith) prot).maximal; at = protected_at mode runs m first (first + pages) (omega arith) prot }

  pub protected_longer : (prot : Prot) → length (pasted 0 first None [] runs) ≤ length (list_protected runs first (first + pages) prot)
  protected_longer prot = omega (arith, (middle_is mode runs m first (first + pages) (omega arith) prot).longer, (protected_is mode runs m first (first + pages) (omega arith) prot).longer)

module _ (mode : ℕ) (first pages : ℕ) (attr : Attr) where
  pub run_of_row : 0 < pages → 16 ≤ first → first + pages ≤ user_end mode → backing_fits attr.backing pages → IsRun mode (row_run first pages attr)
  run_of_row some low high fits = let d : pages ≡ (first + pages) - first = omega arith in record { low = low; nonempty = omega arith; high = high; file_pages = subst (λ (n : ℕ). backing_fits attr.backing n) d fits }

  module _ (runs : List Run) (m : IsMaximal mode 16 runs) (r : IsRun mode (row_run first pages attr)) where
    pub replaces : Rebuilt mode runs (replaced (attr_at runs) first pages attr) (list_replaced runs (row_run first pages attr))
    replaces = record { before = m; maximal = (replaced_is mode runs m (row_run first pages attr) r).maximal; at = replaced_at mode runs m (row_run first pages attr) r }

    pub replaced_longer : length (pasted 0 first None [] runs) ≤ length (list_replaced runs (row_run first pages attr))
    replaced_longer = omega (arith, length-pushed (pasted 0 first None [] runs) (row_run first pages attr), (replaced_is mode runs m (row_run first pages attr) r).longer)
