-- The changes from one on: what the first of them brings, and those behind it.
use Rattle.std.proofs.Common.{ℕ, ◌≡◌, ◌<◌, ◌+◌, ◌∷◌, List, length, drop, get_or, eqb, sym, ap, ◌∙◌, Option, Some, drop-cons, add-one}
use Rattle.std.proofs.lemmas.Bool.{cond-true, cond-false, eq-eqb, ne_eqb}
use Rattle.vm_types.specs.declared.file.FileInfo.{FileInfo}
use Rattle.growth.specs.{Changes.{change_of}, declared.changes.Change.{Change}}
use Rattle.growth.proofs.Listed.{no_change}
use Rattle.pool_growth.specs.Files.{added, added_count}

module _ (changes : List Change) (i : ℕ) (inside : i < length changes) where
  abbrev pub this : Change
  this = get_or changes i no_change

  abbrev pub rest : List Change
  rest = drop (i + 1) changes

  from_here : drop i changes ≡ this ∷ rest
  from_here = drop-cons changes i no_change inside ∙ ap (λ n. this ∷ drop n changes) (sym (add-one i))

  -- it is of a file, or another one is
  pub change_here : (f : ℕ) → this.file ≡ f → change_of (drop i changes) f ≡ Some this
  change_here f same = ap (λ (cs : List Change). change_of cs f) from_here ∙ cond-true (eqb this.file f) (Some this) (change_of rest f) (eq-eqb this.file f same)

  pub change_behind : (f : ℕ) → (this.file ≡ f → ⊥) → change_of (drop i changes) f ≡ change_of rest f
  change_behind f other = ap (λ (cs : List Change). change_of cs f) from_here ∙ cond-false (eqb this.file f) (Some this) (change_of rest f) (ne_eqb this.file f other)

  -- and they bring so many new pages
  pub counted : (files : ℕ → Option FileInfo) → added_count files (drop i changes) ≡ added files this + added_count files rest
  counted files = ap (added_count files) from_here
