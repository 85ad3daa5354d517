-- One run: the pages of it, of two merged, and of a part.
use Rattle.std.proofs.Common.{◌≡◌, ℕ, ◌+◌, ◌-◌, ◌^◌, ◌<◌, ◌≤◌, ◌⊎◌, inl, inr, max, min, Bool, true, false, if◌then◌else◌, ◌==◌, ◌&&◌, leb, ltb, refl, sym, ◌∙◌, ap, subst, arith, Option, Some, None, option_map, eqb-true, le-leb}
use Rattle.{std.proofs.{Common.{lt-ltb}, Math.Bool.{and-false}, lemmas.Bool.{and_parts, cases_lt, le-ltb, lt-leb}}, vm_types.{proofs.Modes.{sizes}, specs.Attributes.{attr_after, attr_eq, backing_fits}}}
use Rattle.{vm_types.specs.declared.{permission.Prot.{Prot}, region.Attr.{Attr}}, regions.{proofs.AttrLemmas.{attr_after-add, backing_fits-after, backing_fits-merged, backing_fits-less, attr_eq-true}, specs.Run.{IsRun, attr_in, joins}}}
use Rattle.regions.specs.{Run.{merged, changed_run, cut_run}, RunList.{run_or_else}, declared.run.Run.{Run}}

-- where a page lies
pub data Side (run : Run) (page : ℕ) : Type 0 where
  below : page < run.first → Side run page
  inside : run.first ≤ page → page < run.end → Side run page
  above : run.end ≤ page → Side run page

pub lt_or_le : (a b : ℕ) → (a < b) ⊎ (b ≤ a)
lt_or_le a b = cases_lt a b

pub side : (run : Run) (page : ℕ) → Side run page
side run page = elim (lt_or_le page run.first) [ inl h ↦ below h | inr l ↦ elim (lt_or_le page run.end) [ inl h ↦ inside l h | inr h ↦ above h ] ]

-- what hangs on a test is so where it is either way
module _ {A : Type 0} (P : A → Type 0) (a b : ℕ) (x y : A) where
  pub by_leb : (a ≤ b → P x) → (b < a → P y) → P (if leb a b then x else y)
  by_leb p q = elim (lt_or_le b a) [ inl h ↦ rw (lt-leb a b h) (q h) | inr h ↦ rw (le-leb a b h) (p h) ]

  pub by_ltb : (a < b → P x) → (b ≤ a → P y) → P (if ltb a b then x else y)
  by_ltb p q = elim (lt_or_le a b) [ inl h ↦ rw (lt-ltb a b h) (p h) | inr h ↦ rw (le-ltb a b h) (q h) ]

-- a row's test
pub row_inside : (low high page : ℕ) → low ≤ page → page < high → (leb low page && ltb page high) ≡ true
row_inside low high page a b = rw (le-leb low page a, lt-ltb page high b)

pub row_below : (low high page : ℕ) → page < low → (leb low page && ltb page high) ≡ false
row_below low high page h = rw (lt-leb low page h)

pub row_above : (low high page : ℕ) → high ≤ page → (leb low page && ltb page high) ≡ false
row_above low high page h = rw (le-ltb page high h) (and-false (leb low page))

pub attr_in-inside : (run : Run) (page : ℕ) → run.first ≤ page → page < run.end → attr_in run page ≡ Some (attr_after run.attr (page - run.first))
attr_in-inside run page a b = rw (row_inside run.first run.end page a b)

pub attr_in-below : (run : Run) (page : ℕ) → page < run.first → attr_in run page ≡ None
attr_in-below run page h = rw (row_below run.first run.end page h)

pub attr_in-above : (run : Run) (page : ℕ) → run.end ≤ page → attr_in run page ≡ None
attr_in-above run page h = rw (row_above run.first run.end page h)

-- no page is of two runs, where one ends before the other
pub apart : (run next : Run) (page : ℕ) → run.end ≤ next.first → (attr_in run page ≡ None) ⊎ (attr_in next page ≡ None)
apart run next page h = elim (lt_or_le page run.end) [ inl b ↦ inr (attr_in-below next page (omega arith)) | inr l ↦ inl (attr_in-above run page l) ]

pub or_else-none : (o : Option Attr) → run_or_else o None ≡ o
or_else-none None = refl
or_else-none (Some a) = refl

pub or_else-swap : (a b o : Option Attr) → (a ≡ None) ⊎ (b ≡ None) → run_or_else a (run_or_else b o) ≡ run_or_else b (run_or_else a o)
or_else-swap a b o h = elim h [ inl e ↦ rw e | inr e ↦ rw e ]

pub record Joins (run next : Run) : Type 0 where
  pub touches : run.end ≡ next.first
  pub goes_on : attr_after run.attr (run.end - run.first) ≡ next.attr

pub joins-true : (run next : Run) → joins run next ≡ true → Joins run next
joins-true run next e =
    let parts = and_parts (run.end == next.first) (attr_eq (attr_after run.attr (run.end - run.first)) next.attr) e in
    record { touches = eqb-true run.end next.first parts.0; goes_on = attr_eq-true (attr_after run.attr (run.end - run.first)) next.attr parts.1 }

after_merged : (run next : Run) (page : ℕ) → run.first < run.end → Joins run next → run.end ≤ page → attr_after next.attr (page - next.first) ≡ attr_after run.attr (page - run.first)
after_merged run next page r j h =
    let d : (run.end - run.first) + (page - next.first) ≡ page - run.first = omega arith in
    ap (λ (a : Attr). attr_after a (page - next.first)) (sym j.goes_on) ∙ attr_after-add run.attr (run.end - run.first) (page - next.first) ∙ ap (λ (m : ℕ). attr_after run.attr m) d

pub attr_in-merged : (run next : Run) (page : ℕ) → run.first < run.end → next.first < next.end → Joins run next → attr_in (merged run next) page ≡ run_or_else (attr_in next page) (attr_in run page)
attr_in-merged run next page r n j =
    elim (side run page) [
      | below h ↦ rw (attr_in-below (merged run next) page h, attr_in-below next page (omega arith), attr_in-below run page h)
      | inside l h ↦ rw (attr_in-inside (merged run next) page l (omega arith), attr_in-below next page (omega arith), attr_in-inside run page l h)
      | above h ↦ elim (lt_or_le page next.end) [
        | inl k ↦ rw (attr_in-inside (merged run next) page (omega arith) k, attr_in-inside next page (omega arith) k, after_merged run next page r j h)
        | inr k ↦ rw (attr_in-above (merged run next) page k, attr_in-above next page k, attr_in-above run page h)
      ]
    ]

-- a list's attributes between two pages, changed
abbrev pub clipped : ℕ → ℕ → Option Prot → ℕ → Option Attr → Option Attr
clipped low high prot page attr = if leb low page && ltb page high then option_map (changed_run prot) attr else None

pub clipped-inside : (low high : ℕ) (prot : Option Prot) (page : ℕ) (attr : Option Attr) → low ≤ page → page < high → clipped low high prot page attr ≡ option_map (changed_run prot) attr
clipped-inside low high prot page attr a b = rw (row_inside low high page a b)

pub clipped-below : (low high : ℕ) (prot : Option Prot) (page : ℕ) (attr : Option Attr) → page < low → clipped low high prot page attr ≡ None
clipped-below low high prot page attr h = rw (row_below low high page h)

pub clipped-above : (low high : ℕ) (prot : Option Prot) (page : ℕ) (attr : Option Attr) → high ≤ page → clipped low high prot page attr ≡ None
clipped-above low high prot page attr h = rw (row_above low high page h)

cond_none : (b : Bool) → (if b then (let n : Option Attr = None in n) else None) ≡ None
cond_none true = refl
cond_none false = refl

pub clipped-none : (low high : ℕ) (prot : Option Prot) (page : ℕ) → clipped low high prot page None ≡ None
clipped-none low high prot page = cond_none (leb low page && ltb page high)

pub clipped-or : (low high : ℕ) (prot : Option Prot) (page : ℕ) (a b o : Option Attr) → (a ≡ None) ⊎ (b ≡ None) → run_or_else (clipped low high prot page b) (run_or_else (clipped low high prot page a) o) ≡ run_or_else (clipped low high prot page (run_or_else a b)) o
clipped-or low high prot page None b o h =
    ap (λ (x : Option Attr). run_or_else (clipped low high prot page b) (run_or_else x o)) (clipped-none low high prot page)
clipped-or low high prot page (Some a) b o h = elim h [
  | inl e ↦ cc
  | inr e ↦ ap (λ (x : Option Attr). run_or_else x (run_or_else (clipped low high prot page (Some a)) o)) (ap (λ (x : Option Attr). clipped low high prot page x) e ∙ clipped-none low high prot page)
]

pub changed-none : (o : Option Attr) → option_map (changed_run None) o ≡ o
changed-none None = refl
changed-none (Some a) = refl

-- the part is a run of its own
pub record IsPart (mode : ℕ) (low high : ℕ) (run part : Run) : Type 0 where
  pub is_run : IsRun mode part
  pub first : part.first ≡ max run.first low
  pub end : part.end ≤ run.end
  pub within : part.end ≤ high

clipped_outside : (low high : ℕ) (prot : Option Prot) (run : Run) (page : ℕ) → (page < max run.first low) ⊎ (min run.end high ≤ page) → clipped low high prot page (attr_in run page) ≡ None
clipped_outside low high prot run page h = elim (side run page) [
  | below b ↦ rw (attr_in-below run page b) (clipped-none low high prot page)
  | inside l b ↦ elim h [ inl a ↦ clipped-below low high prot page (attr_in run page) (omega arith) | inr a ↦ clipped-above low high prot page (attr_in run page) (omega arith) ]
  | above b ↦ rw (attr_in-above run page b) (clipped-none low high prot page)
]

cut_inside : (low high : ℕ) (prot : Option Prot) (run : Run) (page : ℕ) → max run.first low ≤ page → page < min run.end high → attr_in (cut_run prot run (max run.first low) (min run.end high)) page ≡ clipped low high prot page (attr_in run page)
cut_inside low high prot run page a b =
    let d : (max run.first low - run.first) + (page - max run.first low) ≡ page - run.first = omega arith in
    let left = attr_in-inside (cut_run prot run (max run.first low) (min run.end high)) page a b in
    let middle = attr_after-add run.attr (max run.first low - run.first) (page - max run.first low) ∙ ap (λ (k : ℕ). attr_after run.attr k) d in
    let right = clipped-inside low high prot page (Some (attr_after run.attr (page - run.first))) (omega arith) (omega arith) in
    let whole : attr_in run page ≡ Some (attr_after run.attr (page - run.first)) = attr_in-inside run page (omega arith) (omega arith) in
    left ∙ ap (λ (x : Attr). Some (changed_run prot x)) middle ∙ sym right ∙ ap (λ (o : Option Attr). clipped low high prot page o) (sym whole)

pub attr_in-cut : (low high : ℕ) (prot : Option Prot) (run : Run) (page : ℕ) → attr_in (cut_run prot run (max run.first low) (min run.end high)) page ≡ clipped low high prot page (attr_in run page)
attr_in-cut low high prot run page = elim (side (cut_run prot run (max run.first low) (min run.end high)) page) [
  | below a ↦ attr_in-below (cut_run prot run (max run.first low) (min run.end high)) page a ∙ sym (clipped_outside low high prot run page (inl a))
  | inside a b ↦ cut_inside low high prot run page a b
  | above b ↦ attr_in-above (cut_run prot run (max run.first low) (min run.end high)) page b ∙ sym (clipped_outside low high prot run page (inr b))
]

-- where the part is empty
pub clipped-empty : (low high : ℕ) (prot : Option Prot) (run : Run) (page : ℕ) → min run.end high ≤ max run.first low → clipped low high prot page (attr_in run page) ≡ None
clipped-empty low high prot run page h = elim (lt_or_le page (max run.first low)) [
  | inl a ↦ clipped_outside low high prot run page (inl a)
  | inr a ↦ clipped_outside low high prot run page (inr (omega arith))
]

module _ (mode : ℕ) where
  -- a run ends where user pages of any mode end
  pub widest_run : (run : Run) → IsRun mode run → run.end ≤ 2 ^ 35
  widest_run run r = omega (arith, r.high, (sizes mode).most)

  pub merged-run : (run next : Run) → IsRun mode run → IsRun mode next → Joins run next → IsRun mode (merged run next)
  merged-run run next r n j =
      let split : (run.end - run.first) + (next.end - next.first) ≡ next.end - run.first = omega arith in
      let fits = subst (λ (x : Attr). backing_fits x.backing (next.end - next.first)) (sym j.goes_on) n.file_pages in
      record {
        low = r.low;
        nonempty = omega arith;
        high = n.high;
        file_pages = subst (λ (m : ℕ). backing_fits run.attr.backing m) split (backing_fits-merged run.attr.backing (run.end - run.first) (next.end - next.first) fits);
      }

  pub cut-run : (low high : ℕ) (prot : Option Prot) (run : Run) → IsRun mode run → max run.first low < min run.end high → IsPart mode low high run (cut_run prot run (max run.first low) (min run.end high))
  cut-run low high prot run r h =
      let fits = backing_fits-less run.attr.backing ((max run.first low - run.first) + (min run.end high - max run.first low)) (run.end - run.first) (omega arith) r.file_pages in
      record {
        is_run = record {
          low = omega arith;
          nonempty = h;
          high = omega arith;
          file_pages = backing_fits-after run.attr.backing (max run.first low - run.first) (min run.end high - max run.first low) fits;
        };
        first = refl;
        end = omega arith;
        within = omega arith;
      }
