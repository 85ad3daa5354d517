-- Shared pages of files that may only be read, by a walk over the runs.
use Rattle.spaces.proofs.Names.{ℕ, ◌+◌, ◌-◌, ◌≡◌, ◌<◌, ◌≤◌, ⊎_elim, ◌&&◌, Bool, true, false, List, Option, Some, None, option_map, refl, sym, ap, ◌∙◌, arith, Run, attr_at, IsNextRun, lt_or_le, Attr, Backing, Anon, attr_after, backing_after}
use Rattle.spaces.{proofs.Names.{any_below, Files, Prot, can_write, denies_stores, is_guarded, is_guarded_page, View, attrs_of, any-at, any_below-none, plain}, specs.Space.{space_of}}

guarded_after : (files : Files) (backing : Backing) (count : ℕ) → is_guarded files (backing_after backing count) ≡ is_guarded files backing
guarded_after files Anon count = refl
guarded_after files backing count = refl

module _ (mode : ℕ) (files : Files) (runs : List Run) where
  -- no page from the first up to, not including, the last is guarded
  pub record Unguarded (first last : ℕ) : Type 0 where
    pub none : (k : ℕ) → first ≤ k → k < last → is_guarded_page files (space_of runs k) ≡ false

  -- a page that isn't mapped, and one of a run
  missing : (k : ℕ) → attr_at runs k ≡ None → is_guarded_page files (space_of runs k) ≡ false
  missing k e = ap (λ (o : Option Attr). is_guarded_page files (option_map plain o)) e

  of_run : (run : Run) (k : ℕ) → attr_at runs k ≡ Some (attr_after run.attr (k - run.first)) → is_guarded_page files (space_of runs k) ≡ is_guarded files run.attr.backing
  of_run run k e = ap (λ (o : Option Attr). is_guarded_page files (option_map plain o)) e ∙ guarded_after files run.attr.backing (k - run.first)

  before_run : (first page : ℕ) (run : Run) → Unguarded first page → IsNextRun mode (attr_at runs) page run → (k : ℕ) → first ≤ k → k < run.first
      → is_guarded_page files (space_of runs k) ≡ false
  before_run first page run past next k low high = ⊎_elim (λ (a : k < page). past.none k low a) (λ (b : page ≤ k). missing k (next.none_before k b high)) (lt_or_le k page)

  -- the walk ends after the row
  pub none_in_row : (first pages page : ℕ) (run : Run) → Unguarded first page → IsNextRun mode (attr_at runs) page run → first + pages ≤ run.first
      → false ≡ any_below (λ i. is_guarded_page files (space_of runs (first + i))) pages
  none_in_row first pages page run past next behind =
      sym (any_below-none (λ i. is_guarded_page files (space_of runs (first + i))) pages
      (λ i less. before_run first page run past next (first + i) (omega arith) (omega arith)))

  -- or no page is mapped any more
  pub none_to_the_end : (first pages page : ℕ) → Unguarded first page → ((k : ℕ) → page ≤ k → attr_at runs k ≡ None)
      → false ≡ any_below (λ i. is_guarded_page files (space_of runs (first + i))) pages
  none_to_the_end first pages page past none =
      sym (any_below-none (λ i. is_guarded_page files (space_of runs (first + i))) pages
      (λ i less. ⊎_elim (λ (a : first + i < page). past.none (first + i) (omega arith) a) (λ (b : page ≤ first + i). missing (first + i) (none (first + i) b)) (lt_or_le (first + i) page)))

  -- or a run of the row is guarded
  pub one_in_row : (first pages page : ℕ) (run : Run) → first ≤ page → IsNextRun mode (attr_at runs) page run → run.first < first + pages → is_guarded files run.attr.backing ≡ true
      → true ≡ any_below (λ i. is_guarded_page files (space_of runs (first + i))) pages
  one_in_row first pages page run low next inside e =
      let from : page ≤ run.first = next.from in
      let same : first + (run.first - first) ≡ run.first = omega arith in
      let here : is_guarded_page files (space_of runs (first + (run.first - first))) ≡ true =
      ap (λ (n : ℕ). is_guarded_page files (space_of runs n)) same ∙ of_run run run.first (next.mapped run.first (omega arith) next.nonempty) ∙ e in
      sym (any-at (λ i. is_guarded_page files (space_of runs (first + i))) pages (run.first - first) (omega arith) here)

-- whether a page is guarded is asked of its attributes alone
abbrev is_guarded_attr : Files → Option Attr → Bool
is_guarded_attr files None = false
is_guarded_attr files (Some attr) = is_guarded files attr.backing

by_attr : (files : Files) (o : Option View) → is_guarded_page files o ≡ is_guarded_attr files (option_map (λ (view : View). view.attr) o)
by_attr files None = refl
by_attr files (Some view) = refl

module _ (files : Files) (a b : ℕ → Option View) (same : attrs_of a ≡ attrs_of b) where
  guarded_same : (k : ℕ) → is_guarded_page files (a k) ≡ is_guarded_page files (b k)
  guarded_same k = by_attr files (a k) ∙ ap (λ (m : ℕ → Option Attr). is_guarded_attr files (m k)) same ∙ sym (by_attr files (b k))

  pub denies_same : (first pages : ℕ) (prot : Prot) → denies_stores files a first pages prot ≡ denies_stores files b first pages prot
  denies_same first pages prot = ap (λ (passes : ℕ → Bool). can_write prot && any_below passes pages) (λ t i. guarded_same (first + i) t)
