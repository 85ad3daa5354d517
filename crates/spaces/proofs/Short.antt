-- Where memory or slots are short of what processes see, they fall short of what a state needs.
use Rattle.spaces.proofs.Names.{tables_alike, ℕ, zero, suc, ◌≡◌, ◌≢◌, inl, inr, ◌+◌, ◌<◌, ◌≤◌, ◌==◌, ◌||◌, Bool, false, if◌then◌else◌, Option, Some, is_some, refl, sym, ap, ◌∙◌, arith, eq-eqb, ne_eqb, cases_eq, cases_Bool, same_Some}
use Rattle.spaces.proofs.Names.{frame_count, IsShortToFork, held_shown, tables_over, IsShort, IsFit, Picture, is_live, view, ShowsPages, sum-below, tables_of, table_count, sum_below, Command, Stall, NoFrames, NoSwap, least_free_from}
use Rattle.spaces.{proofs.Names.{with_process, State, outcome, View}, specs.Calls.{FallsShort}}

-- the tables of the processes of memory are those of the state that it shows
module _ {mode : ℕ} where
  pub tables_shown : (c : Picture mode) (s : State) → ShowsPages c s → table_count s ≡ tables_over mode (is_live c) (view c)
  unfolding table_count tables_over
  tables_shown c s shows =
      let lives : s.live ≡ is_live c = λ t pid. shows.live pid t in
      let sees : s.views ≡ view c = λ t pid page. shows.views pid page t in
      ap (λ (x : ℕ). sum_below (λ pid. if s.live pid then tables_of x (s.views pid) else 0) 65) shows.same_mode
      ∙ ap (λ (l : ℕ → Bool). sum_below (λ pid. if l pid then tables_of mode (s.views pid) else 0) 65) lives
      ∙ ap (λ (v : ℕ → ℕ → Option View). sum_below (λ pid. if is_live c pid then tables_of mode (v pid) else 0) 65) sees

-- an access changes no process, and which pages are mapped
pub tables_kept : (s t : State) → t.mode ≡ s.mode → ((pid : ℕ) → t.live pid ≡ s.live pid) → ((pid page : ℕ) → is_some (t.views pid page) ≡ is_some (s.views pid page))
    → table_count t ≡ table_count s
unfolding table_count
tables_kept s t mode lives maps =
    let live : t.live ≡ s.live = λ i pid. lives pid i in
    ap (λ (x : ℕ). sum_below (λ pid. if t.live pid then tables_of x (t.views pid) else 0) 65) mode
    ∙ ap (λ (l : ℕ → Bool). sum_below (λ pid. if l pid then tables_of s.mode (t.views pid) else 0) 65) live
    ∙ sum-below (λ pid. if s.live pid then tables_of s.mode (t.views pid) else 0) (λ pid. if s.live pid then tables_of s.mode (s.views pid) else 0) 65 65 (omega arith)
    (λ pid ne. ap (λ (n : ℕ). if s.live pid then n else 0) (tables_alike s.mode (t.views pid) (s.views pid) (maps pid)))

-- one summand that was none
sum_added : (f g : ℕ → ℕ) (x n : ℕ) → x < n → f x ≡ 0 → ((k : ℕ) → k ≢ x → g k ≡ f k) → sum_below g n ≡ sum_below f n + g x
unfolding sum_below
sum_added f g x zero below none others = absurd (omega arith)
sum_added f g x (suc n) below none others = elim (cases_eq n x) [
  | inl e ↦ (let rest : sum_below g n ≡ sum_below f n = sum-below g f x n (omega (arith, e)) others in omega (arith, ap g e, ap f e ∙ none, rest))
  | inr ne ↦ (omega (arith, sum_added f g x n (omega (arith, below, ne)) none others, others n ne))
]

-- a process that comes has the tables of its pages
pub tables_added : (s : State) (pid : ℕ) (space : ℕ → Option View) → s.live pid ≡ false → pid < 65 → table_count (with_process s pid space) ≡ table_count s + tables_of s.mode space
unfolding table_count
tables_added s pid space dead below =
    let f : ℕ → ℕ = λ q. if s.live q then tables_of s.mode (s.views q) else 0 in
    let g : ℕ → ℕ = λ q. if q == pid || s.live q then tables_of s.mode (if q == pid then space else s.views q) else 0 in
    let here : g pid ≡ tables_of s.mode space = rw (eq-eqb pid pid refl) refl in
    let sum : sum_below g 65 ≡ sum_below f 65 + g pid =
    sum_added f g pid 65 below (rw dead refl) (λ q ne. rw (ne_eqb q pid ne) refl) in
    sum ∙ ap (λ (n : ℕ). sum_below f 65 + n) here

-- the least free number is one of those, and no process has it
pub least_below : (live : ℕ → Bool) (first count pid : ℕ) → least_free_from live first count ≡ Some pid → (live pid ≡ false) × (pid < first + count)
unfolding least_free_from
least_below live first zero pid e = (cc)
least_below live first (suc count) pid e = elim (cases_Bool (live first)) [
  | inl taken ↦ (
      let rest : least_free_from live (first + 1) count ≡ Some pid = rw taken at e in
      let found = least_below live (first + 1) count pid rest in
      (found.0, omega (arith, found.1)))
  | inr free ↦ (let here : Some first ≡ Some pid = rw free at e in let same = same_Some first pid here in (ap live (sym same) ∙ free, omega (arith, same)))
]

module _ {mode : ℕ} (c : Picture mode) (s : State) (command : Command) (fit : IsFit c) (shows : ShowsPages c s) where
  pub falls_short : (stall : Stall) → IsShort c stall → table_count s ≤ table_count (outcome s command).state → FallsShort (frame_count c.frames) c.slots.total s command stall
  unfolding IsShort
  falls_short NoFrames short more = omega (arith, short, more, tables_shown c s shows)
  falls_short NoSwap short more = omega (arith, short, held_shown c s fit shows)
  falls_short stall short more = short

  pub falls_short_to_fork : (frames slots parent : ℕ) (stall : Stall) → frames ≡ frame_count c.frames → slots ≡ c.slots.total → IsShortToFork c parent stall
      → table_count s + tables_of mode (view c parent) ≤ table_count (outcome s command).state → FallsShort frames slots s command stall
  unfolding IsShortToFork
  falls_short_to_fork frames slots parent NoFrames same room short more = omega (arith, same, short, more, tables_shown c s shows)
  falls_short_to_fork frames slots parent NoSwap same room short more = omega (arith, room, short, held_shown c s fit shows)
  falls_short_to_fork frames slots parent stall same room short more = short
