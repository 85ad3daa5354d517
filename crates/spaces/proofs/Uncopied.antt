-- dontneed of the flat model in a state that memory shows.
use Rattle.vm_types.specs.declared.mode.Levels as Levels
use Rattle.spaces.proofs.Names.{user_end, Dontneed, Errno, ENOMEM, Attr, Done, Refused, first_of, page_count, pages_from, covered_checks, uncopied, without_own, in_row, IsUserMap, is_covered, State, Outcome, outcome, refused_or}
use Rattle.spaces.proofs.Names.{uncopy_outcome, View, ℕ, zero, suc, ◌+◌, ◌/◌, ◌%◌, ◌≡◌, ◌≢◌, ◌<◌, ◌≤◌, ◌==◌, not, Bool, true, false, if◌then◌else◌, List, [], ◌∷◌, Option, Some, None, option_map, refl, sym, ap, ◌∙◌, arith, nat_tests, Ghosts}
use Rattle.spaces.proofs.Names.{Run, attr_at, plain, remapped, RemapsRow, Core, Picture, picture_of, is_live, entry, own_in, view, view_of, ShowsPages, KeepsFiles}
use Rattle.spaces.{specs.Calls.{Comes}, proofs.{Calls.{does, does_answer, with_pages, shows_pages}, Pages.{attrs_by_runs}, Protects.{count_from, covered_last}}}

-- a row of mapped pages lies in the user pages
module _ (mode : ℕ) where
  pub covered_within : (map : ℕ → Option Attr) (first pages : ℕ) → IsUserMap mode map → 0 < pages → is_covered map first pages ≡ true → first + pages ≤ user_end mode
  covered_within map first zero user some e = absurd (omega arith)
  covered_within map first (suc count) user some e = omega (arith, (user.user_pages (first + count) (covered_last map first count e)).1)

seen_without : (own : Option (List ℕ)) (o : Option Attr) → option_map uncopied (view_of own o) ≡ option_map plain o
seen_without own None = refl
seen_without own (Some attr) = refl

uncopied_page : {mode : ℕ} (c : Picture mode) (pid first pages page : ℕ) → without_own (view c pid) first pages page ≡ remapped (view c pid) (c.at pid) first pages page
unfolding view
uncopied_page c pid first pages page =
    let own = own_in c.frames c.slots (entry c pid page) in
    elim (in_row first pages page) as (λ (b : Bool). (if b then option_map uncopied (view_of own (c.at pid page)) else view_of own (c.at pid page))
    ≡ (if b then option_map plain (c.at pid page) else view_of own (c.at pid page))) [
      | true ↦ seen_without own (c.at pid page)
      | false ↦ refl
    ]

module _ {M : Type 0} {m : Levels.Ghosts M} {D E : Type 0} (g : Ghosts D) (h : Ghosts E) (old : Core D E M m) (s : State) (pid addr len : ℕ) (shows : ShowsPages (picture_of old) s)
    (live : is_live (picture_of old) pid ≡ true) (aligned : addr % 4096 ≡ 0) (some : len ≢ 0)
    (runs : List Run) (here : (page : ℕ) → attr_at runs page ≡ (picture_of old).at pid page) (pages : ℕ) (count : pages ≡ page_count len) where
  abbrev rest : Option Errno → (ℕ → Option View) → Outcome
  rest errno space = refused_or s errno (record { reply = Done; state = with_pages s pid space })

  abbrev after : ℕ → Option View
  after = without_own (s.views pid) (addr / 4096) (pages_from addr len)

  asked : outcome s (Dontneed pid addr len) ≡ uncopy_outcome s pid (addr / 4096) (pages_from addr len)
  asked = let a : (addr % 4096 == 0) ≡ true = grind (arith, nat_tests) in let n : (len == 0) ≡ false = grind (arith, nat_tests) in rw (shows.live pid ∙ live) (rw a (rw n refl))

  ruled : first_of (covered_checks s pid (addr / 4096) (pages_from addr len)) ≡ first_of ((not (is_covered (attr_at runs) (addr / 4096) pages), ENOMEM) ∷ [])
  ruled =
      ap (λ (map : ℕ → Option Attr). first_of ((not (is_covered map (addr / 4096) (pages_from addr len)), ENOMEM) ∷ [])) (attrs_by_runs (picture_of old) s pid runs shows here)
      ∙ ap (λ (n : ℕ). first_of ((not (is_covered (attr_at runs) (addr / 4096) n), ENOMEM) ∷ [])) (count_from addr len aligned ∙ sym count)

  pub refused_hole : is_covered (attr_at runs) (addr / 4096) pages ≡ false → Comes g h old old s (Dontneed pid addr len) (Refused ENOMEM)
  refused_hole e =
      does_answer g h old old s (Dontneed pid addr len) (Refused ENOMEM) shows
      (asked ∙ ap (λ (o : Option Errno). rest o after) (ruled ∙ ap (λ (b : Bool). first_of ((not b, ENOMEM) ∷ [])) e))

  after_is : (page : ℕ) → after page ≡ remapped (view (picture_of old) pid) ((picture_of old).at pid) (addr / 4096) pages page
  after_is page =
      ap (λ (n : ℕ). without_own (s.views pid) (addr / 4096) n page) (count_from addr len aligned ∙ sym count)
      ∙ ap (λ (o : Option View). if in_row (addr / 4096) pages page then option_map uncopied o else o) (shows.views pid page)
      ∙ uncopied_page (picture_of old) pid (addr / 4096) pages page

  pub gives_up : is_covered (attr_at runs) (addr / 4096) pages ≡ true → (new : Core D E M m)
      → RemapsRow (picture_of old) (picture_of new) pid (addr / 4096) pages ((picture_of old).at pid) → KeepsFiles (picture_of old) (picture_of new)
      → Comes g h old new s (Dontneed pid addr len) Done
  gives_up e new row files =
      does g h old new s (Dontneed pid addr len) Done (record { reply = Done; state = with_pages s pid after })
      (asked ∙ ap (λ (o : Option Errno). rest o after) (ruled ∙ ap (λ (b : Bool). first_of ((not b, ENOMEM) ∷ [])) e)) refl
      (shows_pages (picture_of old) (picture_of new) s pid after shows files row.root (λ page. after_is page ∙ sym (row.views page)) row.others)
