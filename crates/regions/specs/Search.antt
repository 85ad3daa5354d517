-- What a walk along a list of runs finds.
use Rattle.std.specs.Prelude.{ℕ, ◌≡◌, ◌+◌, ◌-◌, ◌<◌, ◌≤◌, Bool, true, leb, ltb, max, not, ◌&&◌, ◌==◌, if◌then◌else◌, List, [], ◌∷◌, Option, Some, None}
use Rattle.vm_types.specs.Limits.{user_start, user_end, widest_end}
use Rattle.vm_types.specs.Attributes.{stands_on}
use Rattle.vm_types.specs.declared.object.PageKey.{PageKey}
use Rattle.vm_types.specs.declared.object.PageKey.TheVariants.{File, Object}
use Rattle.vm_types.specs.declared.region.Attr.{Attr}
use Rattle.regions.specs.declared.run.Run.{Run}
use Rattle.regions.specs.Run.{run_between}
use Rattle.regions.specs.RunList.{IsMaximal}

-- the runs from the first one on that ends behind the page
abbrev pub runs_behind : ℕ → List Run → List Run
runs_behind page [] = []
runs_behind page (run ∷ runs) = if leb run.end page then runs_behind page runs else run ∷ runs

-- the first page from this one on that isn't mapped
abbrev pub gap_from : ℕ → List Run → ℕ
gap_from page [] = page
gap_from page (run ∷ runs) = if ltb page run.first then page else gap_from (max page run.end) runs

-- whether none of the runs has a page from first up to, not including, end
abbrev pub is_clear : ℕ → ℕ → List Run → Bool
is_clear first end [] = true
is_clear first end (run ∷ runs) = not (ltb run.first end && ltb first run.end) && is_clear first end runs

-- the lowest page from this one on where so many pages lie between two runs or behind the last
abbrev pub lowest_gap : ℕ → ℕ → ℕ → List Run → Option ℕ
lowest_gap mode count page [] = if leb (page + count) (user_end mode) then Some page else None
lowest_gap mode count page (run ∷ runs) = if leb (page + count) run.first then Some page else lowest_gap mode count run.end runs

abbrev pub run_or : Option Run → Option Run → Option Run
run_or None other = other
run_or (Some run) other = Some run

-- the part from the page on of the first run that has one
abbrev pub first_part : ℕ → List Run → Option Run
first_part page [] = None
first_part page (run ∷ runs) = run_or (run_between page widest_end None run) (first_part page runs)

-- how many pages further on than the first the second is, of the same file or object
abbrev pub pages_between : PageKey → PageKey → Option ℕ
pages_between (File q) (File p) = if (q.file == p.file) && leb q.page p.page then Some (p.page - q.page) else None
pages_between (File q) (Object p) = None
pages_between (Object q) (File p) = None
pages_between (Object q) (Object p) = if (q.object == p.object) && leb q.page p.page then Some (p.page - q.page) else None

abbrev pub run_pages_from : Option PageKey → PageKey → Option ℕ
run_pages_from None key = None
run_pages_from (Some first) key = pages_between first key

-- the page of a run so far from its first
abbrev pub page_further : Run → Option ℕ → Option ℕ
page_further run None = None
page_further run (Some n) = if ltb n (run.end - run.first) then Some (run.first + n) else None

-- the page of a run that stands on that page of a file or an object
abbrev pub page_on : PageKey → Run → Option ℕ
page_on key run = page_further run (run_pages_from (stands_on run.attr.backing) key)

-- the first where it is there and not under the page, else the second
abbrev pub from_or : ℕ → Option ℕ → Option ℕ → Option ℕ
from_or low None other = other
from_or low (Some k) other = if leb low k then Some k else other

-- the first page from this one on that stands on that page of a file or an object
abbrev pub first_on : ℕ → PageKey → List Run → Option ℕ
first_on low key [] = None
first_on low key (run ∷ runs) = from_or low (page_on key run) (first_on low key runs)

-- A search over the runs of a map was made: it gave what a walk along them finds, and they are in order and maximal.
pub record SearchesRuns {A : Type 0} (mode : ℕ) (runs : List Run) (walk : List Run → A) (result : A) : Type 0 where
  pub found : result ≡ walk runs
  pub maximal : IsMaximal mode user_start runs

-- page k of a map stands on that page of a file or an object
pub record StandsOn (map : ℕ → Option Attr) (key : PageKey) (k : ℕ) : Type 0 where
  pub attr : Attr
  pub mapped : map k ≡ Some attr
  pub on : stands_on attr.backing ≡ Some key

-- k is the first page from low on that does
pub record IsFirstOn (mode : ℕ) (map : ℕ → Option Attr) (low : ℕ) (key : PageKey) (k : ℕ) : Type 0 where
  pub from : low ≤ k
  pub above : user_start ≤ k
  pub user : k < user_end mode
  pub stands : StandsOn map key k
  pub before : (j : ℕ) → low ≤ j → j < k → StandsOn map key j → ⊥
