-- The checks of a mapping's place, decided one after the other.
use Rattle.spaces.proofs.Names.{sizes, user_end, MapSource, Common, Placing, View, ENOMEM, EEXIST, Attr, backing_fits, first_of, place_for, is_taken, first_backing, replaced, run_count, ℕ, ◌≡◌, ◌<◌, ◌≤◌, Bool, true, false, nat_lt, List, []}
use Rattle.spaces.{proofs.{Names.{◌∷◌, Option, Some, None, refl, sym, ap, ◌∙◌, arith, nat_tests, Run, attr_at}, Pages.{attrs_same}}, specs.{Mappings.{place_checks, passes_runs, FitsFile}, Space.{space_of}}}
use Rattle.vm_types.specs.declared.command.MapSource.TheVariants.{Anon}

taken_first : (a b : Bool) → a ≡ true → first_of ((a, EEXIST) ∷ (b, ENOMEM) ∷ []) ≡ Some EEXIST
taken_first a b e = rw e refl

many_last : (a b : Bool) → a ≡ false → b ≡ true → first_of ((a, EEXIST) ∷ (b, ENOMEM) ∷ []) ≡ Some ENOMEM
many_last a b e f = rw (e, f) refl

none_holds : (a b : Bool) → a ≡ false → b ≡ false → first_of ((a, EEXIST) ∷ (b, ENOMEM) ∷ []) ≡ None
none_holds a b e f = rw (e, f) refl

module _ (mode : ℕ) where
  pub taken_place : (placing : Placing) (space : ℕ → Option View) (addr pages : ℕ) (attr : ℕ → Attr) (first : ℕ)
      → Some first ≡ place_for mode placing space addr pages → (taken : Bool) → taken ≡ is_taken placing space pages (Some first) → taken ≡ true
      → first_of (place_checks mode placing space pages attr (place_for mode placing space addr pages)) ≡ Some EEXIST
  taken_place placing space addr pages attr first place taken is e =
      ap (λ (o : Option ℕ). first_of (place_checks mode placing space pages attr o)) (sym place)
      ∙ taken_first (is_taken placing space pages (Some first)) (passes_runs mode space pages attr (Some first)) (sym is ∙ e)

  counted_runs : (runs : List Run) (first pages : ℕ) (attr : ℕ → Attr) (b : Bool) → nat_lt 256 (run_count mode (replaced (attr_at runs) first pages (attr first))) ≡ b
      → passes_runs mode (space_of runs) pages attr (Some first) ≡ b
  counted_runs runs first pages attr b e = ap (λ (m : ℕ → Option Attr). nat_lt 256 (run_count mode (replaced m first pages (attr first)))) (attrs_same runs) ∙ e

  pub many_runs : (placing : Placing) (runs : List Run) (addr pages : ℕ) (attr : ℕ → Attr) (first : ℕ)
      → Some first ≡ place_for mode placing (space_of runs) addr pages → (taken : Bool) → taken ≡ is_taken placing (space_of runs) pages (Some first) → taken ≡ false
      → 256 < run_count mode (replaced (attr_at runs) first pages (attr first))
      → first_of (place_checks mode placing (space_of runs) pages attr (place_for mode placing (space_of runs) addr pages)) ≡ Some ENOMEM
  many_runs placing runs addr pages attr first place taken is e many =
      let over : nat_lt 256 (run_count mode (replaced (attr_at runs) first pages (attr first))) ≡ true = grind (arith, nat_tests, many) in
      ap (λ (o : Option ℕ). first_of (place_checks mode placing (space_of runs) pages attr o)) (sym place)
      ∙ many_last (is_taken placing (space_of runs) pages (Some first)) (passes_runs mode (space_of runs) pages attr (Some first)) (sym is ∙ e)
      (counted_runs runs first pages attr true over)

  pub fine_place : (placing : Placing) (runs : List Run) (addr pages : ℕ) (attr : ℕ → Attr) (first : ℕ)
      → (taken : Bool) → taken ≡ is_taken placing (space_of runs) pages (Some first) → taken ≡ false
      → run_count mode (replaced (attr_at runs) first pages (attr first)) ≤ 256
      → first_of (place_checks mode placing (space_of runs) pages attr (Some first)) ≡ None
  fine_place placing runs addr pages attr first taken is e few =
      let under : nat_lt 256 (run_count mode (replaced (attr_at runs) first pages (attr first))) ≡ false = grind (arith, nat_tests, few) in
      none_holds (is_taken placing (space_of runs) pages (Some first)) (passes_runs mode (space_of runs) pages attr (Some first)) (sym is ∙ e)
      (counted_runs runs first pages attr false under)

  -- what stands behind the row is numbered
  pub fits_backing : (source : MapSource) (object pages : ℕ) → FitsFile source pages → pages ≤ user_end mode → backing_fits (first_backing source object) pages
  fits_backing Anon object pages fits few = tt
  fits_backing Common object pages fits few = let most = (sizes mode).most in omega (arith, few, most)
  fits_backing source object pages fits few = fits
