-- The pages of a process by memory, by its runs and in the flat model.
use Rattle.spaces.proofs.Names.{user_end, Attr, State, View, attrs_of, maps_of, without_space, without_pages, unmapped, in_row, removed, IsUserMap, ℕ, ◌≡◌, ◌≤◌, ◌==◌, inl, inr, Bool, true, false, if◌then◌else◌, List, Option, Some, None}
use Rattle.spaces.{proofs.Names.{option_map, refl, sym, ap, ◌∙◌, arith, cases_lt, nat_tests, Run, attr_at, Picture, entry, own_in, view, view_of, IsFit, ShowsPages, plain, without_maps, none_here}, specs.Space.{space_of}}

attr_back : (o : Option Attr) → option_map (λ (view : View). view.attr) (option_map plain o) ≡ o
attr_back None = refl
attr_back (Some attr) = refl

-- no page has a copy of its own
pub attrs_same : (runs : List Run) → attrs_of (space_of runs) ≡ attr_at runs
attrs_same runs = λ t page. attr_back (attr_at runs page) t

attr_seen : (own : Option (List ℕ)) (o : Option Attr) → option_map (λ (view : View). view.attr) (view_of own o) ≡ o
attr_seen own None = refl
attr_seen own (Some attr) = refl

-- what memory shows of a page is what the page is, and perhaps a copy
pub attrs_seen : {mode : ℕ} (c : Picture mode) (pid : ℕ) → attrs_of (view c pid) ≡ c.at pid
unfolding view
attrs_seen c pid = λ t page. attr_seen (own_in c.frames c.slots (entry c pid page)) (c.at pid page) t

pub views_seen : {mode : ℕ} (c : Picture mode) (s : State) → ShowsPages c s → (pid : ℕ) → s.views pid ≡ view c pid
views_seen c s shows pid = λ t page. shows.views pid page t

-- the pages of a process are those of its runs
pub attrs_by_runs : {mode : ℕ} (c : Picture mode) (s : State) (pid : ℕ) (runs : List Run) → ShowsPages c s → ((page : ℕ) → attr_at runs page ≡ c.at pid page)
    → attrs_of (s.views pid) ≡ attr_at runs
attrs_by_runs c s pid runs shows same = ap attrs_of (views_seen c s shows pid) ∙ attrs_seen c pid ∙ (λ t page. sym (same page) t)

-- as if they had no copies
pub attrs_as_runs : {mode : ℕ} (c : Picture mode) (s : State) (pid : ℕ) (runs : List Run) → ShowsPages c s → ((page : ℕ) → attr_at runs page ≡ c.at pid page)
    → attrs_of (s.views pid) ≡ attrs_of (space_of runs)
attrs_as_runs c s pid runs shows same = attrs_by_runs c s pid runs shows same ∙ sym (attrs_same runs)

attr_at_page : {mode : ℕ} (c : Picture mode) (s : State) → ShowsPages c s → (q page : ℕ) → option_map (λ (view : View). view.attr) (s.views q page) ≡ c.at q page
unfolding view
attr_at_page c s shows q page =
    ap (λ (o : Option View). option_map (λ (view : View). view.attr) o) (shows.views q page) ∙ attr_seen (own_in c.frames c.slots (entry c q page)) (c.at q page)

-- what the pages of all processes are, but for a row of one
row_test : (b : Bool) (mine : Option View) (o : Option Attr) → option_map (λ (view : View). view.attr) mine ≡ o
    → option_map (λ (view : View). view.attr) (if b then None else mine) ≡ (if b then None else o)
row_test true mine o e = refl
row_test false mine o e = e

page_test : (b : Bool) (mine other : Option View) (o p : Option Attr) → option_map (λ (view : View). view.attr) mine ≡ o
    → option_map (λ (view : View). view.attr) other ≡ p → option_map (λ (view : View). view.attr) (if b then mine else other) ≡ (if b then o else p)
page_test true mine other o p e f = e
page_test false mine other o p e f = f

at_test : (b : Bool) (f g : ℕ → Option View) (page : ℕ) → (if b then f else g) page ≡ (if b then f page else g page)
at_test true f g page = refl
at_test false f g page = refl

pub maps_without : {mode : ℕ} (c : Picture mode) (s : State) → ShowsPages c s → (pid first pages : ℕ) → maps_of (without_pages s.views pid first pages) ≡ without_maps c.at pid first pages
maps_without c s shows pid first pages = λ t q page. (each q page) t
  where
    each : (q page : ℕ) → maps_of (without_pages s.views pid first pages) q page ≡ without_maps c.at pid first pages q page
    each q page =
        ap (λ (o : Option View). option_map (λ (view : View). view.attr) o) (at_test (q == pid) (unmapped (s.views pid) first pages) (s.views q) page)
        ∙ page_test (q == pid) (unmapped (s.views pid) first pages page) (s.views q page) (removed (c.at pid) first pages page) (c.at q page)
        (row_test (in_row first pages page) (s.views pid page) (c.at pid page) (attr_at_page c s shows pid page)) (attr_at_page c s shows q page)

-- no page past the user pages is mapped
pub past_user : (mode : ℕ) (map : ℕ → Option Attr) (page : ℕ) → IsUserMap mode map → user_end mode ≤ page → map page ≡ None
past_user mode map page user high = none_here (map page) (λ some. absurd (omega (arith, (user.user_pages page some).1, high)))

-- what the pages of all processes are, but for those of one
module _ {mode : ℕ} where
  pub maps_gone : (c : Picture mode) (s : State) → ShowsPages c s → IsFit c → (pid : ℕ) → maps_of (without_space s.views pid) ≡ without_maps c.at pid 0 (user_end mode)
  maps_gone c s shows fit pid = λ t q page. (each q page) t
    where
      all_gone : (page : ℕ) → removed (c.at pid) 0 (user_end mode) page ≡ None
      all_gone page = elim (cases_lt page (user_end mode)) [
        | inl low ↦ (let inside : in_row 0 (user_end mode) page ≡ true = grind (arith, nat_tests) in rw inside refl)
        | inr high ↦ (let outside : in_row 0 (user_end mode) page ≡ false = grind (arith, nat_tests) in rw outside (past_user mode (c.at pid) page (fit.granting.user pid) high))
      ]

      each : (q page : ℕ) → maps_of (without_space s.views pid) q page ≡ without_maps c.at pid 0 (user_end mode) q page
      each q page =
          ap (λ (o : Option View). option_map (λ (view : View). view.attr) o) (at_test (q == pid) (λ k. None) (s.views q) page)
          ∙ page_test (q == pid) None (s.views q page) (removed (c.at pid) 0 (user_end mode) page) (c.at q page) (sym (all_gone page)) (attr_at_page c s shows q page)
