-- mprotect of the flat model in a state that memory shows.
use Rattle.vm_types.specs.declared.mode.Levels as Levels
use Rattle.spaces.proofs.Names.{user_end, Mprotect, Prot, Errno, ENOMEM, EACCES, View, attrs_of, Attr, Done, Refused, with_prot, first_of, page_count, pages_from, Files, kept, permitted, reprotected, denies_stores, row_checks, in_row}
use Rattle.spaces.proofs.Names.{IsUserMap, is_covered, protected, run_count, State, Outcome, outcome, refused_or, protect_outcome, ℕ, zero, suc, ◌+◌, ◌/◌, ◌%◌, ◌≡◌, ◌≢◌, ◌<◌, ◌≤◌, ◌==◌, ◌&&◌, not, Bool, true, false, if◌then◌else◌, nat_lt}
use Rattle.spaces.proofs.Names.{List, [], ◌∷◌, Option, Some, None, is_some, option_map, refl, sym, ap, ◌∙◌, arith, nat_tests, Ghosts, Run, attr_at, ReprotectsRow, Core, picture_of, is_live, view, ShowsPages}
use Rattle.spaces.{specs.{Calls.{Comes}, Protections.{permit_checks, IsPermitted}, Space.{space_of}}, proofs.{Calls.{does, does_answer, with_pages, shows_pages}, Guards.{denies_same}, Pages.{attrs_as_runs, attrs_same}}}

-- a row of mapped pages lies in the user pages
pub covered_last : (map : ℕ → Option Attr) (first count : ℕ) → is_covered map first (suc count) ≡ true → is_some (map (first + count)) ≡ true
unfolding is_covered
covered_last map first count e =
    elim (is_some (map (first + count))) as (λ (b : Bool). (b && is_covered map first count) ≡ true → b ≡ true) [ true ↦ λ k. refl | false ↦ λ k. k ] e

kept_some : (b : Bool) (prot : Prot) (o : Option Attr) → is_some (if b then option_map (with_prot prot) o else o) ≡ is_some o
kept_some true prot None = refl
kept_some b prot o = refl

module _ (mode : ℕ) where
  pub covered_inside : (map next : ℕ → Option Attr) (first pages : ℕ) (prot : Prot) → IsUserMap mode next → 0 < pages
      → ((page : ℕ) → next page ≡ protected map first pages prot page) → is_covered map first pages ≡ true → first + pages ≤ user_end mode
  covered_inside map next first zero prot user some same e = absurd (omega arith)
  covered_inside map next first (suc count) prot user some same e =
      let here : is_some (next (first + count)) ≡ true =
      ap is_some (same (first + count)) ∙ kept_some (in_row first (suc count) (first + count)) prot (map (first + count)) ∙ covered_last map first count e in
      omega (arith, (user.user_pages (first + count) here).1)

-- the checks of a row, decided
pub hole : (a b c : Bool) → a ≡ false → first_of ((not a, ENOMEM) ∷ (b, EACCES) ∷ (c, ENOMEM) ∷ []) ≡ Some ENOMEM
hole a b c e = rw e refl

pub denied : (a b c : Bool) → a ≡ true → b ≡ true → first_of ((not a, ENOMEM) ∷ (b, EACCES) ∷ (c, ENOMEM) ∷ []) ≡ Some EACCES
denied a b c e f = rw (e, f) refl

pub many_parts : (a b c : Bool) → a ≡ true → b ≡ false → c ≡ true → first_of ((not a, ENOMEM) ∷ (b, EACCES) ∷ (c, ENOMEM) ∷ []) ≡ Some ENOMEM
many_parts a b c e f g = rw (e, f, g) refl

pub none_holds : (a b c : Bool) → a ≡ true → b ≡ false → c ≡ false → first_of ((not a, ENOMEM) ∷ (b, EACCES) ∷ (c, ENOMEM) ∷ []) ≡ None
none_holds a b c e f g = rw (e, f, g) refl

-- the checks of a row of pages with these runs
module _ (mode : ℕ) where
  abbrev pub tested : Files → List Run → ℕ → ℕ → Prot → (ℕ → Option Attr) → Option Errno
  tested files runs first pages prot map =
      first_of ((not (is_covered map first pages), ENOMEM) ∷ (denies_stores files (space_of runs) first pages prot, EACCES)
      ∷ (nat_lt 256 (run_count mode (protected map first pages (kept prot))), ENOMEM) ∷ [])

  pub tested_is : (files : Files) (runs : List Run) (first pages : ℕ) (prot : Prot) (o : Option Errno) → tested files runs first pages prot (attr_at runs) ≡ o
      → first_of (permit_checks mode files (space_of runs) first pages prot) ≡ o
  tested_is files runs first pages prot o e = ap (tested files runs first pages prot) (attrs_same runs) ∙ e

module _ (mode : ℕ) (files : Files) (a b : ℕ → Option View) (same : attrs_of a ≡ attrs_of b) (first pages : ℕ) (prot : Prot) where
  permit_same : first_of (permit_checks mode files a first pages prot) ≡ first_of (permit_checks mode files b first pages prot)
  permit_same =
      ap (λ (map : ℕ → Option Attr). first_of ((not (is_covered map first pages), ENOMEM) ∷ (denies_stores files a first pages prot, EACCES)
      ∷ (nat_lt 256 (run_count mode (protected map first pages (kept prot))), ENOMEM) ∷ [])) same
      ∙ ap (λ (x : Bool). first_of ((not (is_covered (attrs_of b) first pages), ENOMEM) ∷ (x, EACCES)
      ∷ (nat_lt 256 (run_count mode (protected (attrs_of b) first pages (kept prot))), ENOMEM) ∷ [])) (denies_same files a b same first pages prot)

-- the pages of a range that begins with a page
pub count_from : (addr len : ℕ) → addr % 4096 ≡ 0 → pages_from addr len ≡ page_count len
count_from addr len e = omega arith

module _ {M : Type 0} {m : Levels.Ghosts M} {D E : Type 0} (g : Ghosts D) (h : Ghosts E) (old : Core D E M m) (s : State) (pid addr len : ℕ) (prot : Prot) (shows : ShowsPages (picture_of old) s)
    (live : is_live (picture_of old) pid ≡ true) (aligned : addr % 4096 ≡ 0) (some : len ≢ 0)
    (runs : List Run) (here : (page : ℕ) → attr_at runs page ≡ (picture_of old).at pid page) (pages : ℕ) (count : pages ≡ page_count len) where
  -- what comes of it, by the checks of the row and the pages that are left
  abbrev rest : Option Errno → (ℕ → Option View) → Outcome
  rest errno space = refused_or s errno (record { reply = Done; state = with_pages s pid space })

  abbrev after : ℕ → Option View
  after = reprotected (s.views pid) (addr / 4096) (pages_from addr len) (kept prot)

  asked : outcome s (Mprotect pid addr len prot) ≡ protect_outcome s pid (addr / 4096) (pages_from addr len) prot
  asked = let a : (addr % 4096 == 0) ≡ true = grind (arith, nat_tests) in let n : (len == 0) ≡ false = grind (arith, nat_tests) in rw (shows.live pid ∙ live) (rw a (rw n refl))

  ruled : first_of (row_checks s pid (addr / 4096) (pages_from addr len) prot) ≡ first_of (permit_checks m.mode (picture_of old).files (space_of runs) (addr / 4096) pages prot)
  ruled =
      let files : s.files ≡ (picture_of old).files = λ t f. shows.files f t in
      ap (λ (x : ℕ). first_of (permit_checks x s.files (s.views pid) (addr / 4096) (pages_from addr len) prot)) shows.same_mode
      ∙ ap (λ (f : Files). first_of (permit_checks m.mode f (s.views pid) (addr / 4096) (pages_from addr len) prot)) files
      ∙ permit_same m.mode (picture_of old).files (s.views pid) (space_of runs) (attrs_as_runs (picture_of old) s pid runs shows here) (addr / 4096) (pages_from addr len) prot
      ∙ ap (λ (n : ℕ). first_of (permit_checks m.mode (picture_of old).files (space_of runs) (addr / 4096) n prot)) (count_from addr len aligned ∙ sym count)

  pub refuses : (errno : Errno) → first_of (permit_checks m.mode (picture_of old).files (space_of runs) (addr / 4096) pages prot) ≡ Some errno
      → Comes g h old old s (Mprotect pid addr len prot) (Refused errno)
  refuses errno e = does_answer g h old old s (Mprotect pid addr len prot) (Refused errno) shows (asked ∙ ap (λ (o : Option Errno). rest o after) (ruled ∙ e))

  after_is : (page : ℕ) → after page ≡ reprotected (view (picture_of old) pid) (addr / 4096) pages (kept prot) page
  after_is page =
      ap (λ (n : ℕ). reprotected (s.views pid) (addr / 4096) n (kept prot) page) (count_from addr len aligned ∙ sym count)
      ∙ ap (λ (o : Option View). if in_row (addr / 4096) pages page then option_map (permitted (kept prot)) o else o) (shows.views pid page)

  pub protects : (next : List Run) → IsPermitted m.mode (picture_of old).files runs (addr / 4096) pages prot next
      → (new : Core D E M m) → ReprotectsRow (picture_of old) (picture_of new) pid (addr / 4096) pages (kept prot)
      → Comes g h old new s (Mprotect pid addr len prot) Done
  protects next fits new row =
      does g h old new s (Mprotect pid addr len prot) Done (record { reply = Done; state = with_pages s pid after })
      (asked ∙ ap (λ (o : Option Errno). rest o after) (ruled ∙ fits.fine)) refl
      (shows_pages (picture_of old) (picture_of new) s pid after shows row.files row.root (λ page. after_is page ∙ sym (row.views page)) row.others)

pub protected_map : (runs next : List Run) (map : ℕ → Option Attr) (first pages : ℕ) (prot : Prot) → ((page : ℕ) → attr_at runs page ≡ map page)
    → ((page : ℕ) → attr_at next page ≡ protected (attr_at runs) first pages prot page)
    → (page : ℕ) → attr_at next page ≡ protected map first pages prot page
protected_map runs next map first pages prot here new page = new page ∙ ap (λ (o : Option Attr). if in_row first pages page then option_map (with_prot prot) o else o) (here page)
