-- Lists of runs: putting a run behind the others, and pasting the parts of another list.
use Rattle.std.proofs.Common.{◌≡◌, ℕ, zero, suc, ◌^◌, ◌<◌, ◌≤◌, ◌⊎◌, inl, inr, ⊎_elim, max, min, Bool, true, false, if◌then◌else◌, refl, sym, ◌∙◌, ap, arith, List, [], ◌∷◌, length, get_or, Option, Some, None}
use Rattle.{vm_types.{proofs.Modes.{sizes}, specs.{Limits.{user_end}, declared.{permission.Prot.{Prot}, region.Attr.{Attr}}}}, regions.proofs.RunLemmas.{by_ltb, clipped-none, lt_or_le, apart, attr_in-below, attr_in-above, attr_in-merged}}
use Rattle.regions.{proofs.RunLemmas.{or_else-none, or_else-swap, joins-true, merged-run, clipped, clipped-or, clipped-empty, attr_in-cut, IsPart, cut-run}, specs.Run.{IsRun, attr_in, joins, merged, cut_run, run_between}}
use Rattle.regions.specs.{RunList.{run_or_else, attr_at, joins_first, IsMaximal, end_of, pushed, pushed_part, pasted}, declared.run.Run.{Run}}

-- putting a run behind the others

one_end : (from : ℕ) (run next : Run) (b : Bool) → end_of from (if b then merged run next ∷ [] else run ∷ next ∷ []) ≡ next.end
one_end from run next true = refl
one_end from run next false = refl

pub end_of-pushed : (from : ℕ) (runs : List Run) (next : Run) → end_of from (pushed runs next) ≡ next.end
end_of-pushed from [] next = refl
end_of-pushed from (run ∷ []) next = one_end from run next (joins run next)
end_of-pushed from (run ∷ (other ∷ runs)) next = end_of-pushed run.end (other ∷ runs) next

one_longer : (run next : Run) (b : Bool) → 1 ≤ length (if b then merged run next ∷ [] else run ∷ next ∷ [])
one_longer run next true = omega arith
one_longer run next false = omega arith

pub length-pushed : (runs : List Run) (next : Run) → length runs ≤ length (pushed runs next)
length-pushed [] next = omega arith
length-pushed (run ∷ []) next = one_longer run next (joins run next)
length-pushed (run ∷ (other ∷ runs)) next = omega (arith, length-pushed (other ∷ runs) next)

-- what pasting the parts of a list makes of the others
pub record Pasted (mode : ℕ) (low high : ℕ) (prot : Option Prot) (old runs new : List Run) : Type 0 where
  pub maximal : IsMaximal mode 16 new
  pub end : end_of 16 new ≤ max (end_of 16 old) high
  pub longer : length old ≤ length new
  pub at : (page : ℕ) → attr_at new page ≡ run_or_else (clipped low high prot page (attr_at runs page)) (attr_at old page)

pub record Pushed (mode : ℕ) (low high from : ℕ) (prot : Option Prot) (old : List Run) (run : Run) (new : List Run) : Type 0 where
  pub maximal : IsMaximal mode 16 new
  pub behind : end_of 16 new ≤ max low run.end
  pub end : end_of 16 new ≤ max (end_of 16 old) high
  pub longer : length old ≤ length new
  pub at : (page : ℕ) → attr_at new page ≡ run_or_else (clipped low high prot page (attr_in run page)) (attr_at old page)

module _ (mode : ℕ) where
  pub end_of-from : (from : ℕ) (runs : List Run) → IsMaximal mode from runs → from ≤ end_of from runs
  end_of-from from [] m = omega arith
  end_of-from from (run ∷ runs) m = omega (arith, end_of-from run.end runs m.3)

  pub run_at : (from : ℕ) (runs : List Run) (k : ℕ) (d : Run) → IsMaximal mode from runs → k < length runs → IsRun mode (get_or runs k d)
  run_at from [] k d m h = absurd (omega arith)
  run_at from (run ∷ runs) zero d m h = m.1
  run_at from (run ∷ runs) (suc k) d m h = run_at run.end runs k d m.3 (omega arith)

  pub end_of-high : (from : ℕ) (runs : List Run) → from ≤ user_end mode → IsMaximal mode from runs → end_of from runs ≤ user_end mode
  end_of-high from [] h m = h
  end_of-high from (run ∷ runs) h m = end_of-high run.end runs m.1.high m.3

  -- all runs end where user pages do
  pub end_of-user : (runs : List Run) → IsMaximal mode 16 runs → end_of 16 runs ≤ user_end mode
  end_of-user runs m = end_of-high 16 runs (omega (arith, (sizes mode).least)) m

  pub end_of-widest : (runs : List Run) → IsMaximal mode 16 runs → end_of 16 runs ≤ 2 ^ 35
  end_of-widest runs m = omega (arith, end_of-user runs m, (sizes mode).most)

  pub attr_at-before : (from : ℕ) (runs : List Run) (page : ℕ) → IsMaximal mode from runs → page < from → attr_at runs page ≡ None
  attr_at-before from [] page m h = refl
  attr_at-before from (run ∷ runs) page m h =
      ap (λ (o : Option Attr). run_or_else o (attr_at runs page)) (attr_in-below run page (omega arith))
      ∙ attr_at-before run.end runs page m.3 (omega arith)

  pub attr_at-behind : (from : ℕ) (runs : List Run) (page : ℕ) → IsMaximal mode from runs → end_of from runs ≤ page → attr_at runs page ≡ None
  attr_at-behind from [] page m h = refl
  attr_at-behind from (run ∷ runs) page m h =
      let rest : run.end ≤ end_of run.end runs = end_of-from run.end runs m.3 in
      ap (λ (o : Option Attr). run_or_else o (attr_at runs page)) (attr_in-above run page (omega arith))
      ∙ attr_at-behind run.end runs page m.3 h

  -- the first run or the others, not both
  pub first_or_rest : (run : Run) (runs : List Run) (page : ℕ) → IsMaximal mode run.end runs → (attr_in run page ≡ None) ⊎ (attr_at runs page ≡ None)
  first_or_rest run runs page m = ⊎_elim (λ b. inr (attr_at-before run.end runs page m b)) (λ l. inl (attr_in-above run page l)) (lt_or_le page run.end)

  one_joins : (before run next : Run) (b : Bool) → joins_first before (if b then merged run next ∷ [] else run ∷ next ∷ []) ≡ joins before run
  one_joins before run next true = refl
  one_joins before run next false = refl

  joins_first-pushed : (before run : Run) (runs : List Run) (next : Run) → joins_first before (pushed (run ∷ runs) next) ≡ joins before run
  joins_first-pushed before run [] next = one_joins before run next (joins run next)
  joins_first-pushed before run (other ∷ runs) next = refl

  one_maximal : (from : ℕ) (run next : Run) (b : Bool) → joins run next ≡ b → from ≤ run.first → IsRun mode run → IsRun mode next → run.end ≤ next.first → IsMaximal mode from (if b then merged run next ∷ [] else run ∷ next ∷ [])
  one_maximal from run next true e l r n h = (l, merged-run mode run next r n (joins-true run next e), refl, tt)
  one_maximal from run next false e l r n h = (l, r, e, (h, n, refl, tt))

  pub maximal-pushed : (from : ℕ) (runs : List Run) (next : Run) → IsMaximal mode from runs → end_of from runs ≤ next.first → IsRun mode next → IsMaximal mode from (pushed runs next)
  maximal-pushed from [] next m h n = (h, n, refl, tt)
  maximal-pushed from (run ∷ []) next m h n = one_maximal from run next (joins run next) refl m.0 m.1 n h
  maximal-pushed from (run ∷ (other ∷ runs)) next m h n =
      (m.0, m.1, joins_first-pushed run other runs next ∙ m.2, maximal-pushed run.end (other ∷ runs) next m.3 h n)

  one_at : (run next : Run) (page : ℕ) (b : Bool) → joins run next ≡ b → IsRun mode run → IsRun mode next → run.end ≤ next.first → attr_at (if b then merged run next ∷ [] else run ∷ next ∷ []) page ≡ run_or_else (attr_in next page) (attr_at (run ∷ []) page)
  one_at run next page true e r n h =
      or_else-none (attr_in (merged run next) page)
      ∙ attr_in-merged run next page r.nonempty n.nonempty (joins-true run next e)
      ∙ ap (λ (o : Option Attr). run_or_else (attr_in next page) o) (sym (or_else-none (attr_in run page)))
  one_at run next page false e r n h = or_else-swap (attr_in run page) (attr_in next page) None (apart run next page h)

  pub attr_at-pushed : (from : ℕ) (runs : List Run) (next : Run) (page : ℕ) → IsMaximal mode from runs → end_of from runs ≤ next.first → IsRun mode next → attr_at (pushed runs next) page ≡ run_or_else (attr_in next page) (attr_at runs page)
  attr_at-pushed from [] next page m h n = refl
  attr_at-pushed from (run ∷ []) next page m h n = one_at run next page (joins run next) refl m.1 n h
  attr_at-pushed from (run ∷ (other ∷ runs)) next page m h n =
      let rest : run.end ≤ end_of run.end (other ∷ runs) = end_of-from run.end (other ∷ runs) m.3 in
      ap (λ (o : Option Attr). run_or_else (attr_in run page) o) (attr_at-pushed run.end (other ∷ runs) next page m.3 h n)
      ∙ or_else-swap (attr_in run page) (attr_in next page) (attr_at (other ∷ runs) page) (apart run next page (omega arith))

  part_pushed : (low high from : ℕ) (prot : Option Prot) (old : List Run) (run : Run) → max run.first low < min run.end high → IsMaximal mode 16 old → end_of 16 old ≤ max low from → from ≤ run.first → IsRun mode run →
      Pushed mode low high from prot old run (pushed old (cut_run prot run (max run.first low) (min run.end high)))
  part_pushed low high from prot old run t m h l r =
      let part : IsPart mode low high run (cut_run prot run (max run.first low) (min run.end high)) = cut-run mode low high prot run r t in
      let new : Run = cut_run prot run (max run.first low) (min run.end high) in
      let ends : end_of 16 (pushed old new) ≡ min run.end high = end_of-pushed 16 old new in
      record {
        maximal = maximal-pushed 16 old new m (omega arith) part.is_run;
        behind = omega arith;
        end = omega arith;
        longer = length-pushed old new;
        at = λ page. attr_at-pushed 16 old new page m (omega arith) part.is_run ∙ ap (λ (o : Option Attr). run_or_else o (attr_at old page)) (attr_in-cut low high prot run page);
      }

  pub run_pasted : (low high from : ℕ) (prot : Option Prot) (old : List Run) (run : Run) → IsMaximal mode 16 old → end_of 16 old ≤ max low from → from ≤ run.first → IsRun mode run → Pushed mode low high from prot old run (pushed_part old (run_between low high prot run))
  run_pasted low high from prot old run m h l r =
      by_ltb (λ (o : Option Run). Pushed mode low high from prot old run (pushed_part old o)) (max run.first low) (min run.end high)
      (Some (cut_run prot run (max run.first low) (min run.end high))) None
      (λ t. part_pushed low high from prot old run t m h l r)
      (λ (t : min run.end high ≤ max run.first low). record {
        maximal = m;
        behind = omega arith;
        end = omega arith;
        longer = omega arith;
        at = λ page. sym (ap (λ (o : Option Attr). run_or_else o (attr_at old page)) (clipped-empty low high prot run page t));
      })

  pub pasted-is : (low high from : ℕ) (prot : Option Prot) (old runs : List Run) → IsMaximal mode 16 old → end_of 16 old ≤ max low from → IsMaximal mode from runs → Pasted mode low high prot old runs (pasted low high prot old runs)
  pasted-is low high from prot old [] m h r =
      record { maximal = m; end = omega arith; longer = omega arith; at = λ page. sym (ap (λ (o : Option Attr). run_or_else o (attr_at old page)) (clipped-none low high prot page)) }
  pasted-is low high from prot old (run ∷ runs) m h r =
      let one : Pushed mode low high from prot old run (pushed_part old (run_between low high prot run)) = run_pasted low high from prot old run m h r.0 r.1 in
      let rest = pasted-is low high run.end prot (pushed_part old (run_between low high prot run)) runs one.maximal one.behind r.3 in
      record {
        maximal = rest.maximal;
        end = omega arith;
        longer = omega arith;
        at = λ page.
            rest.at page
            ∙ ap (λ (o : Option Attr). run_or_else (clipped low high prot page (attr_at runs page)) o) (one.at page)
            ∙ clipped-or low high prot page (attr_in run page) (attr_at runs page) (attr_at old page) (first_or_rest run runs page r.3);
      }
