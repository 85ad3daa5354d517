-- The first page that stands on a page of a file or an object: found along the runs, and said of their map.
use Rattle.std.proofs.Common.{IfSome, IfNone, IsSome, ◌≡◌, ℕ, ◌+◌, ◌-◌, ◌<◌, ◌≤◌, ◌⊎◌, inl, inr, Bool, true, false, if◌then◌else◌, ◌&&◌, ◌==◌, leb, ltb, refl, sym, ◌∙◌, ap, ap₂, subst, arith, List, [], ◌∷◌, length, get_or, Option, Some, None, leb-true, ltb-true, le-leb, lt-ltb, eqb-true, eq-eqb}
use Rattle.std.proofs.{lemmas.Bool.{and_parts, lt-leb}, lemmas.Option.{same_Some}}
use Rattle.vm_types.specs.{declared.file.FilePage.{FilePage}, declared.object.ObjectPage.{ObjectPage}, declared.object.PageKey.{PageKey}, declared.object.PageKey.TheVariants.{File, Object}, declared.region.Attr.{Attr}}
use Rattle.vm_types.specs.{declared.region.Backing.{Backing}, declared.region.Backing.TheVariants.{Anon, Private, Shared, Common}, Attributes.{file_page_after, object_page_after, backing_after, attr_after, stands_on}}
use Rattle.regions.specs.{declared.run.Run.{Run}, Run.{IsRun}, RunList.{run_or_else, attr_at, IsMaximal}, Search.{first_on, from_or, pages_between, run_pages_from, page_further, page_on, runs_behind, StandsOn, IsFirstOn}}
use Rattle.regions.proofs.{RunLemmas.{by_leb, Side, below, inside, above, side, attr_in-inside, attr_in-below, attr_in-above}, ListLemmas.{attr_at-before, first_or_rest, run_at}}

-- how far on a page of a file or an object is

far : (q p i j n : ℕ) (t : Bool) → ((q == p) && leb i j) ≡ t → (if t then Some (j - i) else None) ≡ Some n → (q ≡ p) × (i + n ≡ j)
far q p i j n true e is =
    let a = and_parts (q == p) (leb i j) e in
    (eqb-true q p a.0, omega (arith, leb-true i j a.1, same_Some (j - i) n is))
far q p i j n false e is = cc

file_far : (q p : FilePage) (n : ℕ) → pages_between (File q) (File p) ≡ Some n → Some (File (file_page_after q n)) ≡ Some (File p)
file_far q p n is =
    let a = far q.file p.file q.page p.page n _ refl is in
    ap₂ (λ (f k : ℕ). let r : FilePage = record { file = f; page = k } in Some (File r)) a.0 a.1

far_on : (b : Backing) (key : PageKey) (n : ℕ) → run_pages_from (stands_on b) key ≡ Some n → stands_on (backing_after b n) ≡ Some key
far_on (Private q) (File p) n is = file_far q p n is
far_on (Shared q) (File p) n is = file_far q p n is
far_on (Common q) (Object p) n is =
    let a = far q.object p.object q.page p.page n _ refl is in
    ap₂ (λ (o k : ℕ). let r : ObjectPage = record { object = o; page = k } in Some (Object r)) a.0 a.1
far_on _ key n is = cc

-- what a run's test finds

test_some : (run : Run) (n k : ℕ) (t : Bool) → ltb n (run.end - run.first) ≡ t → (if t then Some (run.first + n) else None) ≡ Some k → (run.first ≤ k) × (k < run.end) × (n ≡ k - run.first)
test_some run n k true e is =
    let at : run.first + n ≡ k = same_Some (run.first + n) k is in
    (omega (arith, at), omega (arith, at, ltb-true n (run.end - run.first) e), omega (arith, at))
test_some run n k false e is = cc

further_some : (run : Run) (o : Option ℕ) (k : ℕ) → page_further run o ≡ Some k → (run.first ≤ k) × (k < run.end) × (o ≡ Some (k - run.first))
further_some run None k is = cc
further_some run (Some n) k is =
    let t = test_some run n k (ltb n (run.end - run.first)) refl is in
    (t.0, t.1, ap (λ (m : ℕ). Some m) t.2)

pub on_some : (key : PageKey) (run : Run) (k : ℕ) → page_on key run ≡ Some k → (run.first ≤ k) × (k < run.end) × (stands_on (attr_after run.attr (k - run.first)).backing ≡ Some key)
on_some key run k is =
    let t = further_some run (run_pages_from (stands_on run.attr.backing) key) k is in
    (t.0, t.1, far_on run.attr.backing key (k - run.first) t.2)

near : (q i n : ℕ) → (if (q == q) && leb i (i + n) then Some (i + n - i) else None) ≡ Some n
near q i n =
    let far : i + n - i ≡ n = omega arith in
    rw (eq-eqb q q refl, le-leb i (i + n) (omega arith)) (ap (λ (k : ℕ). Some k) far)

near_on : (b : Backing) (key : PageKey) (n : ℕ) → stands_on (backing_after b n) ≡ Some key → run_pages_from (stands_on b) key ≡ Some n
near_on Anon key n is = cc
near_on (Private q) key n is = subst (λ (x : PageKey). pages_between (File q) x ≡ Some n) (same_Some (File (file_page_after q n)) key is) (near q.file q.page n)
near_on (Shared q) key n is = subst (λ (x : PageKey). pages_between (File q) x ≡ Some n) (same_Some (File (file_page_after q n)) key is) (near q.file q.page n)
near_on (Common q) key n is = subst (λ (x : PageKey). pages_between (Object q) x ≡ Some n) (same_Some (Object (object_page_after q n)) key is) (near q.object q.page n)

pub on_is : (key : PageKey) (run : Run) (k : ℕ) → run.first ≤ k → k < run.end → stands_on (attr_after run.attr (k - run.first)).backing ≡ Some key → page_on key run ≡ Some k
on_is key run k low high is =
    let at : run.first + (k - run.first) ≡ k = omega (arith, low) in
    ap (λ (o : Option ℕ). page_further run o) (near_on run.attr.backing key (k - run.first) is)
    ∙ ap (λ (b : Bool). if b then Some (run.first + (k - run.first)) else None) (lt-ltb (k - run.first) (run.end - run.first) (omega (arith, low, high)))
    ∙ ap (λ (n : ℕ). Some n) at

-- the first, or none

abbrev pub IsFirstOrNone : ℕ → (ℕ → Option Attr) → ℕ → PageKey → Option ℕ → Type 0
IsFirstOrNone mode map low key None = (k : ℕ) → low ≤ k → StandsOn map key k → ⊥
IsFirstOrNone mode map low key (Some k) = IsFirstOn mode map low key k

-- the runs that end before it don't matter

on_passed : (run : Run) (low : ℕ) (key : PageKey) (o x : Option ℕ) → run.end ≤ low → page_on key run ≡ x → from_or low x o ≡ o
on_passed run low key o None h is = refl
on_passed run low key o (Some k) h is =
    let at = on_some key run k is in
    ap (λ (b : Bool). if b then Some k else o) (lt-leb low k (let a = at.1 in omega (arith, a, h)))

pub on_behind : (low : ℕ) (key : PageKey) (runs : List Run) → first_on low key (runs_behind low runs) ≡ first_on low key runs
on_behind low key [] = refl
on_behind low key (run ∷ runs) =
    by_leb (λ (l : List Run). first_on low key l ≡ first_on low key (run ∷ runs)) run.end low (runs_behind low runs) (run ∷ runs)
    (λ h. on_behind low key runs ∙ sym (on_passed run low key (first_on low key runs) (page_on key run) h refl)) (λ _. refl)

-- as a caller has it

pub some_on : (mode : ℕ) (map : ℕ → Option Attr) (low : ℕ) (key : PageKey) (r : Option ℕ) (n : ℕ) → IfSome r (λ k. k ≡ n) → IsFirstOn mode map low key n → IfSome r (λ k. IsFirstOn mode map low key k)
some_on mode map low key None n is first = tt
some_on mode map low key (Some k) n is first = subst (λ (x : ℕ). IsFirstOn mode map low key x) (sym is) first

pub none_some : (r : Option ℕ) (P : Type 0) → IsSome r → IfNone r P
none_some None P some = cc
none_some (Some k) P some = tt

pub none_from : (r : Option ℕ) (P : Type 0) → P → IfNone r P
none_from None P is = is
none_from (Some k) P is = tt

module _ (mode : ℕ) where
  -- each run that the search by halves leaves is one

  pub behind_run : (from page : ℕ) (runs : List Run) (k : ℕ) (d : Run) → IsMaximal mode from runs → k < length (runs_behind page runs) → IsRun mode (get_or (runs_behind page runs) k d)
  behind_run from page [] k d m h = absurd (omega arith)
  behind_run from page (run ∷ runs) k d m h =
      by_leb (λ (l : List Run). k < length l → IsRun mode (get_or l k d)) run.end page (runs_behind page runs) (run ∷ runs)
      (λ _ less. behind_run run.end page runs k d m.3 less)
      (λ _ less. run_at mode from (run ∷ runs) k d m less) h

  -- a page of the first run or of the others

  one_side : (run : Run) (runs : List Run) (key : PageKey) (j : ℕ) → StandsOn (attr_at (run ∷ runs)) key j → Side run j → (page_on key run ≡ Some j) ⊎ StandsOn (attr_at runs) key j
  one_side run runs key j s (below h) =
      inr (record { attr = s.attr; mapped = sym (ap (λ (o : Option Attr). run_or_else o (attr_at runs j)) (attr_in-below run j h)) ∙ s.mapped; on = s.on })
  one_side run runs key j s (inside low high) =
      let here : Some (attr_after run.attr (j - run.first)) ≡ Some s.attr = sym (ap (λ (o : Option Attr). run_or_else o (attr_at runs j)) (attr_in-inside run j low high)) ∙ s.mapped in
      inl (on_is key run j low high (ap (λ (a : Attr). stands_on a.backing) (same_Some (attr_after run.attr (j - run.first)) s.attr here) ∙ s.on))
  one_side run runs key j s (above h) =
      inr (record { attr = s.attr; mapped = sym (ap (λ (o : Option Attr). run_or_else o (attr_at runs j)) (attr_in-above run j h)) ∙ s.mapped; on = s.on })

  stands_side : (run : Run) (runs : List Run) (key : PageKey) (j : ℕ) → StandsOn (attr_at (run ∷ runs)) key j → (page_on key run ≡ Some j) ⊎ StandsOn (attr_at runs) key j
  stands_side run runs key j s = one_side run runs key j s (side run j)

  stands_later : (run : Run) (runs : List Run) (key : PageKey) (j : ℕ) → IsMaximal mode run.end runs → StandsOn (attr_at runs) key j → StandsOn (attr_at (run ∷ runs)) key j
  stands_later run runs key j m s = elim (first_or_rest mode run runs j m) [
    | inl none ↦ record { attr = s.attr; mapped = ap (λ (o : Option Attr). run_or_else o (attr_at runs j)) none ∙ s.mapped; on = s.on }
    | inr none ↦ (let bad : None ≡ Some s.attr = sym none ∙ s.mapped in (cc))
  ]

  -- no page of the run counts: the others tell
  others_tell : (run : Run) (runs : List Run) (low : ℕ) (key : PageKey) (o : Option ℕ) → IsMaximal mode run.end runs → ((j : ℕ) → page_on key run ≡ Some j → j < low)
      → IsFirstOrNone mode (attr_at runs) low key o → IsFirstOrNone mode (attr_at (run ∷ runs)) low key o
  others_tell run runs low key None m early is = λ k h s. elim (stands_side run runs key k s) [
    | inl here ↦ (let e = early k here in omega (arith, e, h))
    | inr later ↦ is k h later
  ]
  others_tell run runs low key (Some k) m early is = record {
    from = is.from;
    above = is.above;
    user = is.user;
    stands = stands_later run runs key k m is.stands;
    before = λ j h less s. elim (stands_side run runs key j s) [
      | inl here ↦ (let e = early j here in omega (arith, e, h))
      | inr later ↦ is.before j h less later
    ];
  }

  here_first : (run : Run) (runs : List Run) (low : ℕ) (key : PageKey) (k : ℕ) → IsRun mode run → IsMaximal mode run.end runs → page_on key run ≡ Some k → low ≤ k → IsFirstOn mode (attr_at (run ∷ runs)) low key k
  here_first run runs low key k r m is h =
      let at = on_some key run k is in
      record {
        from = h;
        above = (let a = r.low in let b = at.0 in omega (arith, a, b));
        user = (let a = r.high in let b = at.1 in omega (arith, a, b));
        stands = record {
          attr = attr_after run.attr (k - run.first);
          mapped = ap (λ (o : Option Attr). run_or_else o (attr_at runs k)) (attr_in-inside run k at.0 at.1);
          on = at.2;
        };
        before = λ j from less s. elim (side run j) [
          | below b ↦ (
              let early : attr_at runs j ≡ None = attr_at-before mode run.end runs j m (let n = r.nonempty in omega (arith, b, n)) in
              let bad : None ≡ Some s.attr = sym early ∙ sym (ap (λ (o : Option Attr). run_or_else o (attr_at runs j)) (attr_in-below run j b)) ∙ s.mapped in
              (cc))
          | inside low' high' ↦ (
              let same = same_Some (attr_after run.attr (j - run.first)) s.attr (sym (ap (λ (o : Option Attr). run_or_else o (attr_at runs j)) (attr_in-inside run j low' high')) ∙ s.mapped) in
              let also = on_is key run j low' high' (ap (λ (a : Attr). stands_on a.backing) same ∙ s.on) in
              omega (arith, same_Some j k (sym also ∙ is), less))
          | above a ↦ (let b = at.1 in omega (arith, a, b, less))
        ];
      }

  first_cases : (run : Run) (runs : List Run) (low : ℕ) (key : PageKey) (o x : Option ℕ) → IsRun mode run → IsMaximal mode run.end runs → page_on key run ≡ x
      → IsFirstOrNone mode (attr_at runs) low key o → IsFirstOrNone mode (attr_at (run ∷ runs)) low key (from_or low x o)
  first_cases run runs low key o None r m is rest = others_tell run runs low key o m (λ j here. (let bad : None ≡ Some j = sym is ∙ here in (cc))) rest
  first_cases run runs low key o (Some k) r m is rest =
      by_leb (IsFirstOrNone mode (attr_at (run ∷ runs)) low key) low k (Some k) o
      (λ h. here_first run runs low key k r m is h)
      (λ less. others_tell run runs low key o m (λ j here. (let same : j ≡ k = same_Some j k (sym here ∙ is) in omega (arith, same, less))) rest)

  pub first_on-is : (from low : ℕ) (key : PageKey) (runs : List Run) → IsMaximal mode from runs → IsFirstOrNone mode (attr_at runs) low key (first_on low key runs)
  first_on-is from low key [] m = λ k h s. (let bad : None ≡ Some s.attr = s.mapped in (cc))
  first_on-is from low key (run ∷ runs) m = first_cases run runs low key (first_on low key runs) (page_on key run) m.1 m.3 refl (first_on-is run.end low key runs m.3)
