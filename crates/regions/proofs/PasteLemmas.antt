-- The steps of the loop that pastes.
use Rattle.std.proofs.Common.{◌≡◌, ℕ, ◌+◌, ◌<◌, ◌≤◌, Bool, true, false, if◌then◌else◌, max, min, ltb, sym, ◌∙◌, ap, subst, arith, List, [], ◌∷◌, length, drop, get_or, drop-cons, add-one, Option, Some, None}
use Rattle.{vm_types.specs.declared.permission.Prot.{Prot}, regions.{proofs.ListLemmas.{end_of-pushed, length-pushed}, specs.{Run.{cut_run, run_between}, RunList.{end_of, IsMaximal, pushed, pushed_part, pasted}, declared.run.Run.{Run}}}}

-- the runs that are still to be pasted lie behind what is there
pub record Pending (mode : ℕ) (low : ℕ) (done rest : List Run) : Type 0 where
  pub from : ℕ
  pub order : IsMaximal mode from rest
  pub behind : end_of 16 done ≤ max low from

abbrev end_or : Option Run → ℕ
end_or None = 0
end_or (Some run) = run.end

part_end : (low high : ℕ) (prot : Option Prot) (run part : Run) (b : Bool) → (if b then Some (cut_run prot run (max run.first low) (min run.end high)) else None) ≡ Some part → part.end ≤ run.end
part_end low high prot run part true e =
    let same : Some (cut_run prot run (max run.first low) (min run.end high)) ≡ Some part = e in
    let end : min run.end high ≡ part.end = ap (λ (o : Option Run). end_or o) same in
    omega arith
part_end low high prot run part false e = cc

pub longer_part : (done : List Run) (part : Option Run) → length done ≤ length (pushed_part done part)
longer_part done None = omega arith
longer_part done (Some part) = length-pushed done part

pub longer_pasted : (low high : ℕ) (prot : Option Prot) (done rest : List Run) → length done ≤ length (pasted low high prot done rest)
longer_pasted low high prot done [] = omega arith
longer_pasted low high prot done (run ∷ rest) =
    omega (arith, longer_part done (run_between low high prot run), longer_pasted low high prot (pushed_part done (run_between low high prot run)) rest)

module _ (mode : ℕ) where
  pub after_part : (low high : ℕ) (prot : Option Prot) (done : List Run) (run : Run) (rest : List Run) (part : Run) → run_between low high prot run ≡ Some part → Pending mode low done (run ∷ rest) → Pending mode low (pushed done part) rest
  after_part low high prot done run rest part e p =
      let ends : end_of 16 (pushed done part) ≡ part.end = end_of-pushed 16 done part in
      let within : part.end ≤ run.end = part_end low high prot run part (ltb (max run.first low) (min run.end high)) e in
      record { from = run.end; order = p.order.3; behind = omega arith }

  pub after_none : (low : ℕ) (done : List Run) (run : Run) (rest : List Run) → Pending mode low done (run ∷ rest) → Pending mode low done rest
  after_none low done run rest p = record { from = run.end; order = p.order.3; behind = omega arith }

  next_of : (runs : List Run) (i : ℕ) (d : Run) → i < length runs → drop i runs ≡ get_or runs i d ∷ drop (i + 1) runs
  next_of runs i d h = drop-cons runs i d h ∙ ap (λ (k : ℕ). get_or runs i d ∷ drop k runs) (sym (add-one i))

  module _ (low high : ℕ) (prot : Option Prot) (done runs : List Run) (i : ℕ) (d : Run) (h : i < length runs) (o : Option Run) (is : o ≡ run_between low high prot (get_or runs i d)) where
    pub pending_some : (part : Run) → o ≡ Some part → Pending mode low done (drop i runs) → Pending mode low (pushed done part) (drop (i + 1) runs)
    pending_some part e p =
        after_part low high prot done (get_or runs i d) (drop (i + 1) runs) part (sym is ∙ e) (subst (λ (l : List Run). Pending mode low done l) (next_of runs i d h) p)

    pub pending_none : Pending mode low done (drop i runs) → Pending mode low done (drop (i + 1) runs)
    pending_none p = after_none low done (get_or runs i d) (drop (i + 1) runs) (subst (λ (l : List Run). Pending mode low done l) (next_of runs i d h) p)

    step : pasted low high prot done (drop i runs) ≡ pasted low high prot (pushed_part done o) (drop (i + 1) runs)
    step =
        ap (λ (l : List Run). pasted low high prot done l) (next_of runs i d h)
        ∙ sym (ap (λ (x : Option Run). pasted low high prot (pushed_part done x) (drop (i + 1) runs)) is)

    pub pasted_some : (part : Run) → o ≡ Some part → pasted low high prot (pushed done part) (drop (i + 1) runs) ≡ pasted low high prot done (drop i runs)
    pasted_some part e = sym (step ∙ ap (λ (x : Option Run). pasted low high prot (pushed_part done x) (drop (i + 1) runs)) e)

    pub pasted_none : o ≡ None → pasted low high prot done (drop (i + 1) runs) ≡ pasted low high prot done (drop i runs)
    pasted_none e = sym (step ∙ ap (λ (x : Option Run). pasted low high prot (pushed_part done x) (drop (i + 1) runs)) e)

    pub long_part : (part : Run) (all : List Run) → o ≡ Some part → pasted low high prot done (drop i runs) ≡ all → 256 < length (pushed done part) → 256 < length all
    long_part part all e same l =
        let a : length (pushed done part) ≤ length (pasted low high prot (pushed done part) (drop (i + 1) runs)) = longer_pasted low high prot (pushed done part) (drop (i + 1) runs) in
        subst (λ (x : List Run). 256 < length x) (pasted_some part e ∙ same) (omega arith)
