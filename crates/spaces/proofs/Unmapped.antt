-- munmap of the flat model in a state that memory shows.
use Rattle.vm_types.specs.declared.mode.Levels as Levels
use Rattle.spaces.proofs.Names.{user_end, Munmap, Errno, ESRCH, EINVAL, ENOMEM, Attr, Done, Refused, first_of, page_count, pages_from, Maps, maps_of, named_objects, munmap_checks, unmapped, without_pages, without_row, in_row, removed}
use Rattle.spaces.proofs.Names.{IsUserMap, run_count, State, Outcome, refused_or, View, attrs_of, ℕ, ◌+◌, ◌-◌, ◌/◌, ◌%◌, ◌≡◌, ◌≢◌, ◌<◌, ◌≤◌, ◌==◌, ◌||◌, not, Bool, true, false, min, if◌then◌else◌, nat_lt, List, [], ◌∷◌, Option, None}
use Rattle.spaces.proofs.Names.{option_map, inl, inr, ◌⊎◌, refl, sym, ap, ◌∙◌, subst, arith, eq-eqb, ne_eqb, cases_eq, nat_tests, Ghosts, Run, attr_at, plain, remapped, with_map, without_maps, KeepsNamed, RemapsRow, Core, Picture}
use Rattle.spaces.proofs.Names.{picture_of, is_live, entry, own_in, view, view_of, AreObjects, IsFit, ShowsPages, objects-fewer}
use Rattle.spaces.{specs.Calls.{Comes}, proofs.{Calls.{does, does_answer, shows_row}, NewObject.{kept_or_gone}, Pages.{attrs_by_runs, maps_without, past_user}, Protects.{count_from}}}

unseen : (own : Option (List ℕ)) (o : Option Attr) → o ≡ None → view_of own o ≡ None
unseen own o none = rw none refl

module _ {mode : ℕ} where
  unseen_past : (c : Picture mode) (pid page : ℕ) → IsUserMap mode (c.at pid) → user_end mode ≤ page → view c pid page ≡ None
  unfolding view
  unseen_past c pid page user high = unseen (own_in c.frames c.slots (entry c pid page)) (c.at pid page) (past_user mode (c.at pid) page user high)

-- fewer pages name objects then
pub objects_unmapped : {mode : ℕ} (old : Picture mode) (pid first pages : ℕ) (runs next : List Run) → ((page : ℕ) → attr_at runs page ≡ old.at pid page)
    → ((page : ℕ) → attr_at next page ≡ removed (attr_at runs) first pages page) → AreObjects old.at → AreObjects (with_map old.at pid (attr_at next))
objects_unmapped old pid first pages runs next here map objects = objects-fewer old.at (with_map old.at pid (attr_at next)) fewer objects
  where
    mine : (page : ℕ) → (attr_at next page ≡ old.at pid page) ⊎ (attr_at next page ≡ None)
    mine page = elim (kept_or_gone (in_row first pages page) (attr_at runs page)) [
      | inl same ↦ inl (map page ∙ same ∙ here page)
      | inr none ↦ inr (map page ∙ none)
    ]

    fewer : (q page : ℕ) → (with_map old.at pid (attr_at next) q page ≡ old.at q page) ⊎ (with_map old.at pid (attr_at next) q page ≡ None)
    fewer q page = elim (cases_eq q pid) [
      | inl same ↦ elim (mine page) [
        | inl e ↦ inl (rw (eq-eqb q pid same) (e ∙ ap (λ (p : ℕ). old.at p page) (sym same)))
        | inr none ↦ inr (rw (eq-eqb q pid same) none)
      ]
      | inr other ↦ inl (rw (ne_eqb q pid other) refl)
    ]

-- a row, and its part in the user pages
module _ (mode : ℕ) (first pages start count : ℕ) (from : start ≡ min first (user_end mode)) (size : count ≡ min (first + pages) (user_end mode) - start) where
  in_both : (page : ℕ) → in_row start count page ≡ true → in_row first pages page ≡ true
  in_both page e = grind (arith, nat_tests)

  pub beside_part : (page : ℕ) → in_row first pages page ≡ false → in_row start count page ≡ false
  beside_part page out = grind (arith, nat_tests)

  past_end : (page : ℕ) → in_row start count page ≡ false → in_row first pages page ≡ true → user_end mode ≤ page
  past_end page out e = grind (arith, nat_tests)

  -- what is mapped outside of that part
  pub others_stay : (old : Picture mode) (pid : ℕ) (runs next : List Run) → IsUserMap mode (old.at pid) → ((page : ℕ) → attr_at runs page ≡ old.at pid page)
      → ((page : ℕ) → attr_at next page ≡ removed (attr_at runs) first pages page)
      → (page : ℕ) → in_row start count page ≡ false → attr_at next page ≡ old.at pid page
  others_stay old pid runs next user here map page out =
      elim (in_row first pages page) as (λ (b : Bool). in_row first pages page ≡ b → attr_at next page ≡ old.at pid page) [
        | true ↦ λ e.
            let gone : attr_at next page ≡ None = map page ∙ ap (λ (b : Bool). if b then None else attr_at runs page) e in
            gone ∙ sym (past_user mode (old.at pid) page user (past_end page out e))
        | false ↦ λ e. map page ∙ ap (λ (b : Bool). if b then None else attr_at runs page) e ∙ here page
      ] refl

  clipped_page : (old : Picture mode) (pid page : ℕ) → IsUserMap mode (old.at pid) → removed (old.at pid) first pages page ≡ removed (old.at pid) start count page
  clipped_page old pid page user =
      elim (in_row start count page) as (λ (b : Bool). in_row start count page ≡ b
      → (if in_row first pages page then None else old.at pid page) ≡ (if b then None else old.at pid page)) [
        | true ↦ λ e. ap (λ (b : Bool). if b then None else old.at pid page) (in_both page e)
        | false ↦ λ out.
            elim (in_row first pages page) as (λ (b : Bool). in_row first pages page ≡ b → (if b then None else old.at pid page) ≡ old.at pid page) [
              | true ↦ λ e. sym (past_user mode (old.at pid) page user (past_end page out e))
              | false ↦ λ e. refl
            ] refl
      ] refl

  pub clipped : (old : Picture mode) (pid : ℕ) → IsUserMap mode (old.at pid) → without_maps old.at pid first pages ≡ without_maps old.at pid start count
  clipped old pid user = λ t q page. (ap (λ (o : Option Attr). if q == pid then o else old.at q page) (clipped_page old pid page user)) t

  unmapped_page : (old : Picture mode) (pid : ℕ) (map : ℕ → Option Attr) (page : ℕ) → IsUserMap mode (old.at pid)
      → (in_row first pages page ≡ true → map page ≡ None)
      → unmapped (view old pid) first pages page ≡ remapped (view old pid) map start count page
  unmapped_page old pid map page user gone =
      elim (in_row start count page) as (λ (b : Bool). in_row start count page ≡ b
      → unmapped (view old pid) first pages page ≡ (if b then option_map plain (map page) else view old pid page)) [
        | true ↦ λ e. let inside = in_both page e in ap (λ (b : Bool). if b then None else view old pid page) inside ∙ sym (ap (λ (o : Option Attr). option_map plain o) (gone inside))
        | false ↦ λ out.
            elim (in_row first pages page) as (λ (b : Bool). in_row first pages page ≡ b → (if b then None else view old pid page) ≡ view old pid page) [
              | true ↦ λ e. sym (unseen_past old pid page user (past_end page out e))
              | false ↦ λ e. refl
            ] refl
      ] refl

last_check : (a b c : Bool) → a ≡ true → b ≡ false → first_of ((not a, ESRCH) ∷ (b, EINVAL) ∷ (c, ENOMEM) ∷ []) ≡ first_of ((c, ENOMEM) ∷ [])
last_check a b c e f = rw (e, f) refl

module _ {M : Type 0} {m : Levels.Ghosts M} {D E : Type 0} (g : Ghosts D) (h : Ghosts E) (old : Core D E M m) (s : State) (pid addr len : ℕ) (shows : ShowsPages (picture_of old) s)
    (live : is_live (picture_of old) pid ≡ true) (some : len ≢ 0) (aligned : addr % 4096 ≡ 0)
    (runs : List Run) (here : (page : ℕ) → attr_at runs page ≡ (picture_of old).at pid page) (pages : ℕ) (count : pages ≡ page_count len) where
  abbrev rest : Option Errno → Outcome
  rest errno = refused_or s errno (record { reply = Done; state = without_row s pid (addr / 4096) (pages_from addr len) })

  abbrev after : ℕ → Option View
  after = unmapped (s.views pid) (addr / 4096) (pages_from addr len)

  ruled : first_of (munmap_checks s pid addr len) ≡ first_of ((nat_lt 256 (run_count m.mode (removed (attr_at runs) (addr / 4096) pages)), ENOMEM) ∷ [])
  ruled =
      let f : (len == 0 || not (addr % 4096 == 0)) ≡ false = grind (arith, nat_tests) in
      last_check (s.live pid) (len == 0 || not (addr % 4096 == 0)) _ (shows.live pid ∙ live) f
      ∙ ap (λ (x : ℕ). first_of ((nat_lt 256 (run_count x (removed (attrs_of (s.views pid)) (addr / 4096) (pages_from addr len))), ENOMEM) ∷ [])) shows.same_mode
      ∙ ap (λ (map : ℕ → Option Attr). first_of ((nat_lt 256 (run_count m.mode (removed map (addr / 4096) (pages_from addr len))), ENOMEM) ∷ []))
      (attrs_by_runs (picture_of old) s pid runs shows here)
      ∙ ap (λ (n : ℕ). first_of ((nat_lt 256 (run_count m.mode (removed (attr_at runs) (addr / 4096) n)), ENOMEM) ∷ [])) (count_from addr len aligned ∙ sym count)

  pub refused_many : 256 < run_count m.mode (removed (attr_at runs) (addr / 4096) pages) → Comes g h old old s (Munmap pid addr len) (Refused ENOMEM)
  refused_many many =
      let e : nat_lt 256 (run_count m.mode (removed (attr_at runs) (addr / 4096) pages)) ≡ true = grind (arith, nat_tests, many) in
      does_answer g h old old s (Munmap pid addr len) (Refused ENOMEM) shows
      (ap (λ (o : Option Errno). rest o) (ruled ∙ ap (λ (b : Bool). first_of ((b, ENOMEM) ∷ [])) e))

  module _ (few : run_count m.mode (removed (attr_at runs) (addr / 4096) pages) ≤ 256) (next : List Run)
      (map : (page : ℕ) → attr_at next page ≡ removed (attr_at runs) (addr / 4096) pages page) (user : IsUserMap m.mode ((picture_of old).at pid))
      (start size : ℕ) (from : start ≡ min (addr / 4096) (user_end m.mode)) (to : size ≡ min (addr / 4096 + pages) (user_end m.mode) - start) where
    after_is : (new : Core D E M m) → RemapsRow (picture_of old) (picture_of new) pid start size (attr_at next) → (page : ℕ) → after page ≡ view (picture_of new) pid page
    after_is new row page =
        ap (λ (n : ℕ). unmapped (s.views pid) (addr / 4096) n page) (count_from addr len aligned ∙ sym count)
        ∙ ap (λ (o : Option View). if in_row (addr / 4096) pages page then None else o) (shows.views pid page)
        ∙ unmapped_page m.mode (addr / 4096) pages start size from to (picture_of old) pid (attr_at next) page user
        (λ e. map page ∙ ap (λ (b : Bool). if b then None else attr_at runs page) e)
        ∙ sym (row.views page)

    maps_are : maps_of (without_pages s.views pid (addr / 4096) (pages_from addr len)) ≡ without_maps (picture_of old).at pid start size
    maps_are =
        maps_without (picture_of old) s shows pid (addr / 4096) (pages_from addr len)
        ∙ ap (λ (n : ℕ). without_maps (picture_of old).at pid (addr / 4096) n) (count_from addr len aligned ∙ sym count)
        ∙ clipped m.mode (addr / 4096) pages start size from to (picture_of old) pid user

    pub unmaps : (new : Core D E M m) → IsFit (picture_of new) → RemapsRow (picture_of old) (picture_of new) pid start size (attr_at next)
        → KeepsNamed (without_maps (picture_of old).at pid start size) (picture_of old) (picture_of new) → Comes g h old new s (Munmap pid addr len) Done
    unmaps new fit row keeps =
        let e : nat_lt 256 (run_count m.mode (removed (attr_at runs) (addr / 4096) pages)) ≡ false = grind (arith, nat_tests, few) in
        does g h old new s (Munmap pid addr len) Done (record { reply = Done; state = without_row s pid (addr / 4096) (pages_from addr len) })
        (ap (λ (o : Option Errno). rest o) (ruled ∙ ap (λ (b : Bool). first_of ((b, ENOMEM) ∷ [])) e)) refl
        (subst (λ (maps : Maps). ShowsPages (picture_of new) (record s {
          views = without_pages s.views pid (addr / 4096) (pages_from addr len);
          objects = named_objects maps s.objects;
        })) (sym maps_are)
        (shows_row (picture_of old) (picture_of new) s pid after (without_maps (picture_of old).at pid start size) fit shows keeps row.root (after_is new row) row.others))
