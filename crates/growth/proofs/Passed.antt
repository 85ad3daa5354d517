-- Passes over extents: of one, of one after the other, and of all that are in use.
use Rattle.std.proofs.Common.{ℕ, ◌≡◌, ◌<◌, ◌≤◌, ◌+◌, ◌⊎◌, inl, inr, ⊎_elim, List, refl, sym, subst, max, arith, Option}
use Rattle.std.proofs.lemmas.Bool.{cases_eq, cases_lt}
use Rattle.directories.specs.Layouts.{ShareHome}
use Rattle.directories.specs.declared.entry.Extent.{Extent}
use Rattle.directories.specs.declared.entry.Entry.{Entry}
use Rattle.directories.specs.Homes.{extents_of}
use Rattle.growth.specs.Room.{IsUsedExtent, OfBefore, OfChange, OfEntry, IsOf, IsOfFile, IsOfChange, PassesOver}
use Rattle.growth.specs.declared.changes.Change.{Change}

abbrev pub run : ℕ → ℕ → Extent
run n first = record { first = first; count = n }

-- an extent with a home of a run has one of each run that begins between the run's first home and the extent's end
still_shared : (n first at : ℕ) (y : Extent) → ShareHome (run n first) y → first ≤ at → at < y.first + y.count → ShareHome (run n at) y
still_shared n first at y shared low high =
    let one = shared.one in
    let other = shared.other in
    record {
      home = max y.first at;
      one = record { low = omega arith; high = omega (arith, one, other, low) };
      other = record { low = omega arith; high = omega (arith, one, other, high) };
    }

ends_behind : (n first : ℕ) (y : Extent) → ShareHome (run n first) y → first < y.first + y.count
ends_behind n first y shared =
    let one = shared.one in
    let other = shared.other in
    omega (arith, one, other)

pub passes_one : (n first : ℕ) (x : Extent) → ShareHome (run n first) x → PassesOver (λ y. x ≡ y) n first (x.first + x.count)
passes_one n first x shared =
    let behind = ends_behind n first x shared in
    record {
      rises = omega (arith, behind);
      blocked = λ at low high. (x, refl, still_shared n first at x shared low high);
      free = λ stays. absurd (omega (arith, behind, stays));
    }

-- a pass, and another one behind it
pub passes_both : (P Q R : Extent → Type 0) (n first mid behind : ℕ) → PassesOver P n first mid → PassesOver Q n mid behind
    → ((y : Extent) → P y → R y) → ((y : Extent) → Q y → R y) → ((y : Extent) → R y → P y ⊎ Q y) → PassesOver R n first behind
passes_both P Q R n first mid behind one two left right either =
    let up = one.rises in
    let on = two.rises in
    record {
      rises = omega (arith, up, on);
      blocked = λ at low high. ⊎_elim
          (λ less. let b = one.blocked at low less in (b.0, left b.0 b.1, b.2))
          (λ le. let b = two.blocked at le high in (b.0, right b.0 b.1, b.2))
          (cases_lt at mid);
      free = λ stays y is shared.
          let same : mid ≡ first = omega (arith, up, on, stays) in
          let same_too : behind ≡ mid = omega (arith, up, on, stays) in
          ⊎_elim
          (λ p. one.free same y p shared)
          (λ q. two.free same_too y q (subst (λ k. ShareHome (run n k) y) (sym same) shared))
          (either y is);
    }

-- a pass of which more is known
pub passes_as : (P R : Extent → Type 0) (n first behind : ℕ) → PassesOver P n first behind → ((y : Extent) → P y → R y) → ((y : Extent) → R y → P y) → PassesOver R n first behind
passes_as P R n first behind pass to from = record {
  rises = pass.rises;
  blocked = λ at low high. let b = pass.blocked at low high in (b.0, to b.0 b.1, b.2);
  free = λ stays y is shared. pass.free stays y (from y is) shared;
}

-- what is found at one of the first m places
abbrev pub Front : (ℕ → Extent → Type 0) → ℕ → Extent → Type 0
Front At m y = (i : ℕ) × (i < m) × At i y

pub passes_more : (At : ℕ → Extent → Type 0) (Next : Extent → Type 0) (n m first mid behind : ℕ) → PassesOver (Front At m) n first mid → PassesOver Next n mid behind
    → ((y : Extent) → Next y → At m y) → ((y : Extent) → At m y → Next y) → PassesOver (Front At (m + 1)) n first behind
passes_more At Next n m first mid behind before here to from = passes_both (Front At m) Next (Front At (m + 1)) n first mid behind before here
    (λ y is. (is.0, let less = is.1 in omega (arith, less), is.2))
    (λ y is. (m, omega arith, to y is))
    (λ y is. ⊎_elim
    (λ (same : is.0 ≡ m). inr (from y (subst (λ k. At k y) same is.2)))
    (λ other. inl (is.0, let less = is.1 in omega (arith, less, other), is.2))
    (cases_eq is.0 m))

module _ (before : List (Option Entry)) (changes : List Change) (e : Entry) where
  abbrev Other : Extent → Type 0
  Other y = IsOfFile before y ⊎ IsOfChange changes y

  used_other : (y : Extent) → Other y → IsUsedExtent before changes e y
  used_other y (inl (g, j, is)) = OfBefore g j is
  used_other y (inr (i, c, is, (j, there))) = OfChange i j c is there

  used_own : (y : Extent) → IsOf (extents_of e) y → IsUsedExtent before changes e y
  used_own y (j, is) = OfEntry j is

  other_or_own : (y : Extent) → IsUsedExtent before changes e y → Other y ⊎ IsOf (extents_of e) y
  other_or_own y (OfBefore g j is) = inl (inl (g, j, is))
  other_or_own y (OfChange i j c is there) = inl (inr (i, c, is, (j, there)))
  other_or_own y (OfEntry j is) = inr (j, is)

  -- files, changes and an entry
  pub passes_used : (n first low high behind : ℕ) → PassesOver (IsOfFile before) n first low → PassesOver (IsOfChange changes) n low high → PassesOver (IsOf (extents_of e)) n high behind
      → PassesOver (IsUsedExtent before changes e) n first behind
  passes_used n first low high behind files given own = passes_both Other (IsOf (extents_of e)) (IsUsedExtent before changes e) n first high behind
      (passes_both (IsOfFile before) (IsOfChange changes) Other n first low high files given (λ y is. inl is) (λ y is. inr is) (λ y is. is))
      own used_other used_own other_or_own
