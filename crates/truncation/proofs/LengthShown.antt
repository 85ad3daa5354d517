-- Memory in which a file got another length shows the state in which it has it.
use Rattle.std.proofs.Common.{◌≡◌, ◌≢◌, ℕ, ◌*◌, ◌<◌, ◌≤◌, inl, inr, Bool, true, false, List, length, Option, Some, None, refl, sym, ap, ◌∙◌, arith, ◌&&◌, ◌||◌, eq-eqb, ne_eqb}
use Rattle.std.proofs.lemmas.{Bool.{and_parts, false≢true, cases_Bool, cases_eq, cases_lt, Decides.{nat_tests}}, Option.{same_Some}}
use Rattle.std.specs.Prelude.{min, nat_lt, option_map}
use Rattle.vm_types.specs.{Files.{bytes_inside, cut}, State.{State, home_page}, Truncation.{cut_view, is_end_page, length_in, truncated, with_length}}
use Rattle.vm_types.specs.declared.{file.{FileInfo.{FileInfo}, FilePage.{FilePage}}, object.{ObjectPage.{ObjectPage}, PageKey.{PageKey, TheVariants.{File, Object}}}}
use Rattle.file_store.specs.Standing.{IsPageOf}
use Rattle.residency.specs.{Picture.{Picture, held}, Parts.{IsFit}, Shows.{ShowsPages}}
use Rattle.std.specs.Prelude.{is_some}
use Rattle.truncation.proofs.{CutTwice.{cut_again, cut_end, end_parts, whole_before}, EndCut.{is_end_key, KeepsBytes, CutsEnd, held_home}, FrontKept.{KeepsFront}, Past.{past_true, past_false}}
use Rattle.truncation.specs.{Cuts.{is_past_key}}

-- whether a page is touched after that, by whether it was
abbrev pub still : Bool → ℕ → ℕ → ℕ → Bool
still touched was long k = (touched && nat_lt (4096 * k) long) || (nat_lt was long && is_end_page was k)

and_false : (b : Bool) → (b && false) ≡ false
and_false true = refl
and_false false = refl

and_true : (b : Bool) → (b && true) ≡ b
and_true true = refl
and_true false = refl

or_none : (b : Bool) → (b || false) ≡ b
or_none true = refl
or_none false = refl

module _ (was long k : ℕ) where
  -- a page past the new length isn't
  still_past : (touched : Bool) → long ≤ 4096 * k → still touched was long k ≡ false
  still_past touched past =
      let none : nat_lt (4096 * k) long ≡ false = grind (arith, nat_tests, past) in
      let first : (touched && nat_lt (4096 * k) long) ≡ false = ap (λ t. touched && t) none ∙ and_false touched in
      ap (λ t. t || (nat_lt was long && is_end_page was k)) first ∙ elim (cases_Bool (nat_lt was long && is_end_page was k)) [
        | inr e ↦ e
        | inl e ↦ absurd (
            let both = and_parts (nat_lt was long) (is_end_page was k) e in
            let longer : nat_lt was long ≡ true = both.0 in
            let less : was < long = grind (arith, nat_tests, longer) in
            let at = (end_parts was k both.1).1 in
            omega (arith, less, at, past))
      ]

  pub still_before : (touched : Bool) → 4096 * k < long → still touched was long k ≡ (touched || (nat_lt was long && is_end_page was k))
  still_before touched low =
      let some : nat_lt (4096 * k) long ≡ true = grind (arith, nat_tests, low) in
      ap (λ t. t || (nat_lt was long && is_end_page was k)) (ap (λ t. touched && t) some ∙ and_true touched)

  -- in the page of the shorter end, and in any other one
  still_end : (touched : Bool) → 4096 * k < long → is_end_page (min was long) k ≡ true → still touched was long k ≡ (touched || nat_lt was long)
  still_end touched low end = still_before touched low ∙ elim (cases_lt was long) [
    | inl less ↦ (
        let longer : nat_lt was long ≡ true = grind (arith, nat_tests, less) in
        let same : min was long ≡ was = omega (arith, less) in
        ap (λ t. touched || t) (ap (λ t. t && is_end_page was k) longer ∙ ap (λ n. is_end_page n k) (sym same) ∙ end ∙ sym longer))
    | inr more ↦ (
        let shorter : nat_lt was long ≡ false = grind (arith, nat_tests, more) in
        ap (λ t. touched || t) (ap (λ t. t && is_end_page was k) shorter ∙ sym shorter))
  ]

  still_else : (touched : Bool) → 4096 * k < long → is_end_page (min was long) k ≡ false → still touched was long k ≡ touched
  still_else touched low other = still_before touched low ∙ elim (cases_lt was long) [
    | inl less ↦ (
        let longer : nat_lt was long ≡ true = grind (arith, nat_tests, less) in
        let same : min was long ≡ was = omega (arith, less) in
        ap (λ t. touched || t) (ap (λ t. t && is_end_page was k) longer ∙ ap (λ n. is_end_page n k) (sym same) ∙ other) ∙ or_none touched)
    | inr more ↦ (
        let shorter : nat_lt was long ≡ false = grind (arith, nat_tests, more) in
        ap (λ t. touched || t) (ap (λ t. t && is_end_page was k) shorter) ∙ or_none touched)
  ]

  -- one that is still touched was, unless it is that within which the file ended, and got longer
  still_clear : (touched : Bool) → 4096 * k < long → still touched was long k ≡ false → touched ≡ false
  still_clear true low none = absurd (false≢true (sym none ∙ still_before true low))
  still_clear false low none = refl

module _ {mode : ℕ} (b c e : Picture mode) (file long : ℕ) (info : FileInfo) (cuts : CutsEnd b c file (min info.length long) (nat_lt info.length long)) (front : KeepsFront c e file long info) where
  abbrev was : ℕ
  was = info.length

  abbrev end : ℕ
  end = min was long

  -- a page of another file or of an object is as it was
  pub kept_other : (q : PageKey) → is_end_key file end q ≡ false → is_past_key file long q ≡ false → KeepsBytes b e q
  kept_other q other out =
      let one = cuts.others q other in
      let two = front.keys q out in
      (two.0 ∙ one.0, two.1 ∙ one.1)

  other_end : (p : FilePage) → p.file ≢ file → is_end_key file end (File p) ≡ false
  other_end p ne = ap (λ t. t && is_end_page end p.page) (ne_eqb p.file file ne)

  pub kept_elsewhere : (p : FilePage) → p.file ≢ file → KeepsBytes b e (File p)
  kept_elsewhere p ne = kept_other (File p) (other_end p ne) (past_false file long p (inl ne))

  pub kept_object : (o : ObjectPage) → KeepsBytes b e (Object o)
  kept_object o = kept_other (Object o) refl refl

  end_here : (p : FilePage) (t : Bool) → p.file ≡ file → is_end_page end p.page ≡ t → is_end_key file end (File p) ≡ t
  end_here p t same is = ap (λ x. x && is_end_page end p.page) (eq-eqb p.file file same) ∙ is

  -- which pages of the file are touched
  pub touched_here : (p : FilePage) → p.file ≡ file → e.touched (File p) ≡ still (b.touched (File p)) was long p.page
  touched_here p same = elim (cases_lt (4096 * p.page) long) [
    | inr past ↦ (front.gone (File p) (past_true file long p same past)).1 ∙ sym (still_past was long p.page (b.touched (File p)) past)
    | inl low ↦ (front.keys (File p) (past_false file long p (inr low))).1 ∙ elim (cases_Bool (is_end_page end p.page)) [
      | inl is ↦ cuts.marks p (end_here p true same is) ∙ sym (still_end was long p.page (b.touched (File p)) low is)
      | inr other ↦ (cuts.others (File p) (end_here p false same other)).1 ∙ sym (still_else was long p.page (b.touched (File p)) low other)
    ]
  ]

  module _ (s : State) (there : s.files file ≡ Some info) (fit : IsFit b) (shows : ShowsPages b s) (shortest : s.shortest file ≤ info.length)
      (durable : (k : ℕ) → bytes_inside (s.shortest file) k ≤ length (s.durable.pages file k)) (pages : (k : ℕ) → 4096 * k < length_in (s.files file) → length (s.volatile file k) ≤ 4096) where
    abbrev t : State
    t = truncated s file long

    was_is : length_in (s.files file) ≡ was
    was_is = ap length_in there

    touched_now : (p : FilePage) → t.touched p.file p.page ≡ e.touched (File p)
    touched_now p = elim (cases_eq p.file file) [
      | inr ne ↦ rw (ne_eqb p.file file ne) (shows.touched p ∙ sym (kept_elsewhere p ne).1)
      | inl same ↦ rw (eq-eqb p.file file same)
          (ap (λ x. still x (length_in (s.files file)) long p.page) (shows.touched p) ∙ ap (λ n. still (b.touched (File p)) n long p.page) was_is ∙ sym (touched_here p same))
    ]

    files_now : (f : ℕ) → t.files f ≡ e.files f
    files_now f = elim (cases_eq f file) [
      | inr ne ↦ rw (ne_eqb f file ne) (shows.files f ∙ sym (cuts.files f) ∙ sym (front.others f ne))
      | inl same ↦ rw (eq-eqb f file same) (ap (λ o. option_map (with_length long) o) (ap s.files same ∙ there) ∙ sym front.here ∙ sym (ap e.files same))
    ]

    -- a page of another file
    volatile_other : (p : FilePage) → p.file ≢ file → t.volatile p.file p.page ≡ s.volatile p.file p.page
    volatile_other p ne = rw (ne_eqb p.file file ne) refl

    -- and one of the file
    volatile_here : (p : FilePage) → p.file ≡ file → t.volatile p.file p.page ≡ cut (bytes_inside end p.page) (s.volatile p.file p.page)
    volatile_here p same = rw (eq-eqb p.file file same) (ap (λ n. cut (bytes_inside (min n long) p.page) (s.volatile p.file p.page)) was_is)

    inside_was : (p : FilePage) (bytes : List ℕ) → p.file ≡ file → held b (File p) ≡ Some bytes → 4096 * p.page < was
    inside_was p bytes same is =
        let inside = fit.places.inside (File p) (λ home. (let bad : None ≡ Some bytes = sym (held_home b (File p) home) ∙ is in (cc))) in
        let info_is : inside.0.length ≡ was = ap (λ (i : FileInfo). i.length) (same_Some inside.0 info (sym inside.1 ∙ sym (shows.files p.file) ∙ ap s.files same ∙ there)) in
        let low = inside.2 in
        omega (arith, low, info_is)

    held_front : (p : FilePage) (bytes : List ℕ) → p.file ≡ file → 4096 * p.page < long → held c (File p) ≡ Some bytes → cut (bytes_inside end p.page) (s.volatile p.file p.page) ≡ bytes
    held_front p bytes same low is = elim (cases_Bool (is_end_page end p.page)) [
      | inl ends ↦ (
          let from = cuts.cuts p (end_here p true same ends) bytes is in
          ap (λ x. cut (bytes_inside end p.page) x) (shows.held p from.0 from.1) ∙ sym from.2)
      | inr other ↦ (
          let here = sym (cuts.others (File p) (end_here p false same other)).0 ∙ is in
          let now = shows.held p bytes here in
          let below = inside_was p bytes same here in
          let whole = whole_before end p.page other (omega (arith, below, low)) in
          let moved = ap (λ f. length (s.volatile f p.page)) same in
          let most = pages p.page (omega (arith, below, was_is)) in
          let few : length (s.volatile p.file p.page) ≤ 4096 = omega (arith, moved, most) in
          ap (λ n. cut n (s.volatile p.file p.page)) whole ∙ cut_end (s.volatile p.file p.page) few ∙ now)
    ]

    held_now : (p : FilePage) (bytes : List ℕ) → held e (File p) ≡ Some bytes → t.volatile p.file p.page ≡ bytes
    held_now p bytes is = elim (cases_eq p.file file) [
      | inr ne ↦ volatile_other p ne ∙ shows.held p bytes (sym (kept_elsewhere p ne).0 ∙ is)
      | inl same ↦ volatile_here p same ∙ elim (cases_lt (4096 * p.page) long) [
        | inl low ↦ held_front p bytes same low (sym (front.keys (File p) (past_false file long p (inr low))).0 ∙ is)
        | inr past ↦ absurd (let bad : None ≡ Some bytes = sym (front.gone (File p) (past_true file long p same past)).0 ∙ is in (cc))
      ]
    ]

    -- what is kept of a page of the file at home
    abbrev kept_home : ℕ → List ℕ
    kept_home k = cut (bytes_inside (min (s.shortest file) long) k) (s.durable.pages file k)

    home_here : (p : FilePage) → p.file ≡ file → home_page t p.file p.page ≡ kept_home p.page
    home_here p same = rw (eq-eqb p.file file same) (ap (λ f. cut (bytes_inside (min (s.shortest f) long) p.page) (s.durable.pages f p.page)) same)

    home_other : (p : FilePage) → p.file ≢ file → home_page t p.file p.page ≡ home_page s p.file p.page
    home_other p ne = rw (ne_eqb p.file file ne) refl

    same_cut : (k : ℕ) → min (bytes_inside end k) (bytes_inside (s.shortest file) k) ≡ bytes_inside (min (s.shortest file) long) k
    same_cut k = omega (arith, shortest)

    clean_inside : (k : ℕ) → b.touched (File (record { file = file; page = k })) ≡ false → 4096 * k < was → cut (bytes_inside end k) (s.volatile file k) ≡ kept_home k
    clean_inside k untouched inside =
        ap (λ x. cut (bytes_inside end k) x) (shows.clean (record { file = file; page = k }) untouched (info, sym (shows.files file) ∙ there, inside))
        ∙ cut_again (bytes_inside end k) (bytes_inside (s.shortest file) k) (s.durable.pages file k) (omega arith) (omega arith) (durable k)
        ∙ ap (λ n. cut n (s.durable.pages file k)) (same_cut k)

    clean_past : (k : ℕ) → was ≤ 4096 * k → cut (bytes_inside end k) (s.volatile file k) ≡ kept_home k
    clean_past k past =
        let none : bytes_inside end k ≡ 0 = omega (arith, past) in
        let left : bytes_inside (min (s.shortest file) long) k ≡ 0 = omega (arith, past, shortest) in
        ap (λ n. cut n (s.volatile file k)) none ∙ sym (ap (λ n. cut n (s.durable.pages file k)) left)

    clean_here : (k : ℕ) → b.touched (File (record { file = file; page = k })) ≡ false → cut (bytes_inside end k) (s.volatile file k) ≡ kept_home k
    clean_here k untouched = elim (cases_lt (4096 * k) was) [ inl inside ↦ clean_inside k untouched inside | inr past ↦ clean_past k past ]

    inside_now : (p : FilePage) → p.file ≡ file → IsPageOf e.files p.file p.page → 4096 * p.page < long
    inside_now p same inside =
        let is : inside.0.length ≡ long = ap (λ (i : FileInfo). i.length) (same_Some inside.0 (with_length long info) (sym inside.1 ∙ ap e.files same ∙ front.here)) in
        let low = inside.2 in
        omega (arith, low, is)

    clean_now : (p : FilePage) → e.touched (File p) ≡ false → IsPageOf e.files p.file p.page → t.volatile p.file p.page ≡ home_page t p.file p.page
    clean_now p untouched inside = elim (cases_eq p.file file) [
      | inr ne ↦ volatile_other p ne ∙ shows.clean p (sym (kept_elsewhere p ne).1 ∙ untouched) (inside.0, sym (cuts.files p.file) ∙ sym (front.others p.file ne) ∙ inside.1, inside.2)
          ∙ sym (home_other p ne)
      | inl same ↦ (
          let low = inside_now p same inside in
          let clear = still_clear was long p.page (b.touched (File p)) low (sym (touched_here p same) ∙ untouched) in
          let at = ap (λ (f : ℕ). b.touched (File (record { file = f; page = p.page }))) (sym same) in
          volatile_here p same ∙ ap (λ f. cut (bytes_inside end p.page) (s.volatile f p.page)) same ∙ clean_here p.page (at ∙ clear) ∙ sym (home_here p same))
    ]

    pub shows_length : ShowsPages e t
    shows_length = record {
      same_mode = shows.same_mode;
      live = λ pid. shows.live pid ∙ sym (ap (λ (o : Option ℕ). is_some o) (front.root pid ∙ cuts.root pid));
      views = λ pid page. ap (λ v. option_map (cut_view file long) v) (shows.views pid page ∙ sym (cuts.views pid page)) ∙ sym (front.views pid page);
      files = files_now;
      touched = touched_now;
      objects = λ o. (let kept = kept_object o in shows.objects o ∙ sym (rw (kept.1, kept.0) refl));
      blank = λ o bytes untouched is. (let kept = kept_object o in shows.blank o bytes (sym kept.1 ∙ untouched) (sym kept.0 ∙ is));
      held = held_now;
      clean = clean_now;
    }
