-- mmap of the flat model in a state that memory shows.
use Rattle.vm_types.specs.declared.mode.Levels as Levels
use Rattle.spaces.proofs.{Calls.{does, does_answer, shows_row}, Checks.{first_of-append, first_of-some}, Names.{ℕ, ◌-◌, ◌*◌, ◌≡◌, ◌==◌, ◌++◌, not, Bool, true, false, if◌then◌else◌, List, [], ◌∷◌, Option, Some, None, is_none, option_map}}
use Rattle.spaces.proofs.Names.{refl, sym, ap, ◌∙◌, subst, mul_comm, Ghosts, Run, IsReadableMap, attr_at, reads_kept, reads_replaced, reads_same, plain, without_maps, KeepsNamed, RemapsRow, Core, Picture, picture_of, is_live, view, IsFit}
use Rattle.spaces.proofs.Names.{ShowsPages, Mmap, MapSource, Placing, Hint, NoReplace, Prot, Errno, ESRCH, ENOMEM, EEXIST, Attr, Address, Refused, attr_after, first_of, page_count, Files, mmap_errno, mmap_place, place_for, is_taken}
use Rattle.spaces.proofs.Names.{first_attr, attr_for, has_too_many_runs, mapped, with_mapping, View, attrs_of, Maps, maps_of, free_object, named_objects, placed, is_free, without_pages, in_row, replaced, run_count, State, outcome}
use Rattle.spaces.{proofs.{Names.{mmap_outcome}, Pages.{attrs_as_runs, maps_without}}, specs.{Calls.{Comes}, Mappings.{mmap_asked_checks, attr_there, passes_runs, place_checks, MapsPages}, Space.{space_of}}}

-- the place and its checks ask for attributes alone
module _ (mode : ℕ) (a b : ℕ → Option View) (same : attrs_of a ≡ attrs_of b) where
  place_same : (placing : Placing) (addr pages : ℕ) → place_for mode placing a addr pages ≡ place_for mode placing b addr pages
  place_same Hint addr pages = ap (λ (m : ℕ → Option Attr). placed mode m addr pages) same
  place_same placing addr pages = refl

  taken_same : (placing : Placing) (pages : ℕ) (place : Option ℕ) → is_taken placing a pages place ≡ is_taken placing b pages place
  taken_same NoReplace pages (Some first) = ap (λ (m : ℕ → Option Attr). not (is_free m first pages)) same
  taken_same placing pages place = refl

  many_same : (pages : ℕ) (attr : ℕ → Attr) (place : Option ℕ) → passes_runs mode a pages attr place ≡ passes_runs mode b pages attr place
  many_same pages attr None = refl
  many_same pages attr (Some first) = ap (λ (m : ℕ → Option Attr). Rattle.std.specs.Prelude.nat_lt 256 (run_count mode (replaced m first pages (attr first)))) same

  checks_same : (placing : Placing) (pages : ℕ) (attr : ℕ → Attr) (place : Option ℕ)
      → first_of (place_checks mode placing a pages attr place) ≡ first_of (place_checks mode placing b pages attr place)
  checks_same placing pages attr place =
      ap (λ (x : Bool). first_of ((is_none place, ENOMEM) ∷ (x, EEXIST) ∷ (passes_runs mode a pages attr place, ENOMEM) ∷ [])) (taken_same placing pages place)
      ∙ ap (λ (x : Bool). first_of ((is_none place, ENOMEM) ∷ (is_taken placing b pages place, EEXIST) ∷ (x, ENOMEM) ∷ [])) (many_same pages attr place)

-- the row that is new
mapped_row : (b : Bool) (new : Attr) (o : Option Attr) (x : Option View) → (if b then Some (plain new) else x) ≡ (if b then option_map plain (if b then Some new else o) else x)
mapped_row true new o x = refl
mapped_row false new o x = refl

mapped_page : {mode : ℕ} (old new : Picture mode) (s : State) (pid first pages : ℕ) (attr : Attr) (runs next : List Run) → ShowsPages old s
    → ((page : ℕ) → attr_at next page ≡ replaced (attr_at runs) first pages attr page)
    → RemapsRow old new pid first pages (attr_at next)
    → (page : ℕ) → mapped (s.views pid) first pages attr page ≡ view new pid page
mapped_page old new s pid first pages attr runs next shows map row page =
    ap (λ (x : Option View). if in_row first pages page then Some (plain (attr_after attr (page - first))) else x) (shows.views pid page)
    ∙ mapped_row (in_row first pages page) (attr_after attr (page - first)) (attr_at runs page) (view old pid page)
    ∙ ap (λ (o : Option Attr). if in_row first pages page then option_map plain o else view old pid page) (sym (map page))
    ∙ sym (row.views page)

live_first : (b : Bool) (rest : List Rattle.vm_types.specs.Checks.Check) → b ≡ true → first_of ((not b, ESRCH) ∷ rest) ≡ first_of rest
live_first b rest e = rw e refl

module _ {M : Type 0} {m : Levels.Ghosts M} {D E : Type 0} (g : Ghosts D) (h : Ghosts E) (old : Core D E M m) (s : State) (pid addr len : ℕ) (prot : Prot) (source : MapSource) (placing : Placing)
    (shows : ShowsPages (picture_of old) s) where
  refuses : (errno : Errno) → mmap_errno s pid addr len prot source placing ≡ Some errno → Comes g h old old s (Mmap pid addr len prot source placing) (Refused errno)
  refuses errno e =
      does_answer g h old old s (Mmap pid addr len prot source placing) (Refused errno) shows
      (ap (λ (r : Option Errno). mmap_outcome s pid len prot source r (mmap_place s pid addr len placing)) e)

  module _ (live : is_live (picture_of old) pid ≡ true) where
    abbrev flat_checks : Option ℕ → List Rattle.vm_types.specs.Checks.Check
    flat_checks place =
        (is_none place, ENOMEM)
        ∷ (is_taken placing (s.views pid) (page_count len) place, EEXIST)
        ∷ (has_too_many_runs s pid (page_count len) source prot place, ENOMEM)
        ∷ []

    abbrev late : List Rattle.vm_types.specs.Checks.Check
    late = flat_checks (mmap_place s pid addr len placing)

    -- the number of a new object by memory is that of the flat model
    abbrev attrs : ℕ → ℕ → Attr
    attrs n first = attr_there (picture_of old).at pid n source prot first

    attr_same : (first n : ℕ) → attr_for s pid first n source prot ≡ attrs n first
    attr_same first n = ap (λ (maps : Maps). first_attr source prot (free_object maps)) (maps_without (picture_of old) s shows pid first n)

    late_same : (place : Option ℕ) → first_of (flat_checks place) ≡ first_of (place_checks m.mode placing (s.views pid) (page_count len) (attrs (page_count len)) place)
    late_same None = refl
    late_same (Some first) =
        ap (λ (x : ℕ). first_of ((false, ENOMEM) ∷ (is_taken placing (s.views pid) (page_count len) (Some first), EEXIST)
        ∷ (Rattle.std.specs.Prelude.nat_lt 256 (run_count x (replaced (attrs_of (s.views pid)) first (page_count len) (attr_for s pid first (page_count len) source prot))), ENOMEM) ∷ []))
        shows.same_mode
        ∙ ap (λ (attr : Attr). first_of ((false, ENOMEM) ∷ (is_taken placing (s.views pid) (page_count len) (Some first), EEXIST)
        ∷ (Rattle.std.specs.Prelude.nat_lt 256 (run_count m.mode (replaced (attrs_of (s.views pid)) first (page_count len) attr)), ENOMEM) ∷ []))
        (attr_same first (page_count len))

    ruled : mmap_errno s pid addr len prot source placing ≡ first_of (mmap_asked_checks s.files addr len prot source placing ++ late)
    ruled = live_first (s.live pid) (mmap_asked_checks s.files addr len prot source placing ++ late) (shows.live pid ∙ live)

    asked_same : first_of (mmap_asked_checks s.files addr len prot source placing) ≡ first_of (mmap_asked_checks (picture_of old).files addr len prot source placing)
    asked_same = let e : s.files ≡ (picture_of old).files = λ t f. shows.files f t in ap (λ (files : Files). first_of (mmap_asked_checks files addr len prot source placing)) e

    pub refused_as_asked : (errno : Errno) → Some errno ≡ first_of (mmap_asked_checks (picture_of old).files addr len prot source placing)
        → Comes g h old old s (Mmap pid addr len prot source placing) (Refused errno)
    refused_as_asked errno e = refuses errno (ruled ∙ first_of-some (mmap_asked_checks s.files addr len prot source placing) errno (asked_same ∙ sym e) late)

    module _ (asked : None ≡ first_of (mmap_asked_checks (picture_of old).files addr len prot source placing))
        (runs : List Run) (here : (page : ℕ) → attr_at runs page ≡ (picture_of old).at pid page) (pages : ℕ) (count : pages ≡ page_count len) where
      place_is : mmap_place s pid addr len placing ≡ place_for m.mode placing (space_of runs) addr pages
      place_is =
          ap (λ (x : ℕ). place_for x placing (s.views pid) addr (page_count len)) shows.same_mode
          ∙ place_same m.mode (s.views pid) (space_of runs) (attrs_as_runs (picture_of old) s pid runs shows here) placing addr (page_count len)
          ∙ ap (λ (n : ℕ). place_for m.mode placing (space_of runs) addr n) (sym count)

      late_is : (place : Option ℕ) → place_for m.mode placing (space_of runs) addr pages ≡ place
          → mmap_errno s pid addr len prot source placing ≡ first_of (place_checks m.mode placing (space_of runs) pages (attrs pages) place)
      late_is place e =
          ruled ∙ first_of-append (mmap_asked_checks s.files addr len prot source placing) late (asked_same ∙ sym asked)
          ∙ ap (λ (o : Option ℕ). first_of (flat_checks o)) (place_is ∙ e) ∙ late_same place
          ∙ checks_same m.mode (s.views pid) (space_of runs) (attrs_as_runs (picture_of old) s pid runs shows here) placing (page_count len) (attrs (page_count len)) place
          ∙ ap (λ (n : ℕ). first_of (place_checks m.mode placing (space_of runs) n (attrs n) place)) (sym count)

      pub refused_place : (errno : Errno)
          → first_of (place_checks m.mode placing (space_of runs) pages (attrs pages) (place_for m.mode placing (space_of runs) addr pages)) ≡ Some errno
          → Comes g h old old s (Mmap pid addr len prot source placing) (Refused errno)
      refused_place errno e = refuses errno (late_is (place_for m.mode placing (space_of runs) addr pages) refl ∙ e)

      pub maps : (first : ℕ) (next : List Run) → MapsPages m.mode runs addr pages (attrs pages) placing first next
          → (new : Core D E M m) → IsFit (picture_of new) → RemapsRow (picture_of old) (picture_of new) pid first pages (attr_at next)
          → KeepsNamed (without_maps (picture_of old).at pid first pages) (picture_of old) (picture_of new)
          → Comes g h old new s (Mmap pid addr len prot source placing) (Address (first * 4096))
      maps first next fits new fit row keeps =
          let attr : Attr = attr_for s pid first (page_count len) source prot in
          let space : ℕ → Option View = mapped (s.views pid) first (page_count len) attr in
          let e : outcome s (Mmap pid addr len prot source placing) ≡ record { reply = Address (4096 * first); state = with_mapping s pid first (page_count len) attr } =
          ap (λ (r : Option Errno). mmap_outcome s pid len prot source r (mmap_place s pid addr len placing)) (late_is (Some first) fits.place ∙ fits.fine)
          ∙ ap (mmap_outcome s pid len prot source None) (place_is ∙ fits.place) in
          let seen : (page : ℕ) → space page ≡ view (picture_of new) pid page = λ page.
          ap (λ (n : ℕ). mapped (s.views pid) first n attr page) (sym count)
          ∙ ap (λ (a : Attr). mapped (s.views pid) first pages a page) (attr_same first (page_count len) ∙ ap (λ (n : ℕ). attrs n first) (sym count))
          ∙ mapped_page (picture_of old) (picture_of new) s pid first pages (attrs pages first) runs next shows fits.map row page in
          let maps_are : maps_of (without_pages s.views pid first (page_count len)) ≡ without_maps (picture_of old).at pid first pages =
          maps_without (picture_of old) s shows pid first (page_count len) ∙ ap (λ (n : ℕ). without_maps (picture_of old).at pid first n) (sym count) in
          does g h old new s (Mmap pid addr len prot source placing) (Address (first * 4096))
          (record { reply = Address (4096 * first); state = with_mapping s pid first (page_count len) attr })
          e (ap Address (mul_comm first 4096))
          (subst (λ (all : Maps). ShowsPages (picture_of new) (record s { views = λ p. if p == pid then space else s.views p; objects = named_objects all s.objects })) (sym maps_are)
          (shows_row (picture_of old) (picture_of new) s pid space (without_maps (picture_of old).at pid first pages) fit shows keeps row.root seen row.others))

-- who may write the new pages may read them
pub reads_mapped : (map : ℕ → Option Attr) (runs next : List Run) (first pages object : ℕ) (source : MapSource) (prot : Prot) → IsReadableMap map
    → ((page : ℕ) → attr_at runs page ≡ map page)
    → ((page : ℕ) → attr_at next page ≡ replaced (attr_at runs) first pages (first_attr source prot object) page) → IsReadableMap (attr_at next)
reads_mapped map runs next first pages object source prot readable here new =
    reads_same (replaced (attr_at runs) first pages (first_attr source prot object)) (attr_at next) new
    (reads_replaced (attr_at runs) first pages (first_attr source prot object) (reads_kept prot)
    (reads_same map (attr_at runs) here readable))
