-- The entries of a directory while changes of it are made one after the other.
use Rattle.std.proofs.Common.{ℕ, suc, ◌≡◌, ◌<◌, ◌≤◌, ◌+◌, ⊎_elim, List, [], ◌∷◌, ◌++◌, length, get_or, take, set, eqb, if◌then◌else◌, refl, sym, ap, subst, ◌∙◌, arith, Option, Some, None}
use Rattle.std.proofs.lemmas.Bool.{cases_eq, cond-true, cond-false, eq-eqb, ne_eqb}
use Rattle.std.proofs.lemmas.List.{ext_get_or, get_or_default, get_or-set_other, get_or-set_same, get_or-take, length-take-le, length-set, take_all, take_more}
use Rattle.std.proofs.lemmas.Option.{slice_get-get_or}
use Rattle.directories.specs.{Layouts.{entry_in}, declared.entry.Entry.{Entry}}
use Rattle.growth.proofs.{Changed.{entry_of_change, entry_there, length_after}, Listed.{no_change}}
use Rattle.growth.specs.{Changes.{change_of, entry_after, entry_then, entries_after, AreChanges}, declared.changes.Change.{Change}}

-- one change more, of a file
other_last : (cs : List Change) (c : Change) (f : ℕ) → (c.file ≡ f → ⊥) → change_of (cs ++ c ∷ []) f ≡ change_of cs f
other_last [] c f other = cond-false (eqb c.file f) (Some c) None (ne_eqb c.file f other)
other_last (d ∷ ds) c f other = ap (λ (r : Option Change). if eqb d.file f then Some d else r) (other_last ds c f other)

same_last : (cs : List Change) (c : Change) → ((j : ℕ) (d : Change) → j < length cs → (get_or cs j d).file ≡ c.file → ⊥) → change_of (cs ++ c ∷ []) c.file ≡ Some c
same_last [] c apart = cond-true (eqb c.file c.file) (Some c) None (eq-eqb c.file c.file refl)
same_last (d ∷ ds) c apart = cond-false (eqb d.file c.file) (Some d) (change_of (ds ++ c ∷ []) c.file) (ne_eqb d.file c.file (apart 0 d (omega arith)))
    ∙ same_last ds c (λ j e inside. apart (suc j) e (omega (arith, inside)))

-- These are the entries after the first n changes:
pub record AreAfter (before : List (Option Entry)) (changes : List Change) (n : ℕ) (entries : List (Option Entry)) : Type 0 where
  pub size : length entries ≡ length before
  pub each : (f : ℕ) → entry_in entries f ≡ entry_after before (take n changes) f

module _ (before : List (Option Entry)) (changes : List Change) (are : AreChanges before changes) where
  pub after_none : AreAfter before changes 0 before
  after_none = record { size = refl; each = λ f. refl }

  pub after_more : (n : ℕ) (entries : List (Option Entry)) → n < length changes → AreAfter before changes n entries
      → AreAfter before changes (n + 1) (set entries (get_or changes n no_change).file (get_or changes n no_change).entry)
  after_more n entries below is =
      let c : Change = get_or changes n no_change in
      let more : take (n + 1) changes ≡ take n changes ++ c ∷ [] = take_more changes n no_change below in
      let long : length (take n changes) ≡ n = length-take-le n changes (omega (arith, below)) in
      let file : c.file < length entries = (let inside = are.inside n no_change below in let size = is.size in omega (arith, inside, size)) in
      let apart : (j : ℕ) (d : Change) → j < length (take n changes) → (get_or (take n changes) j d).file ≡ c.file → ⊥ = λ j d less same.
      let under : j < n = omega (arith, less, long) in
      let lower = are.rising j n d under below in
      let here : (get_or (take n changes) j d).file ≡ (get_or changes j d).file = ap (λ (e : Change). e.file) (get_or-take n changes j d under) in
      let known : (get_or changes n d).file ≡ c.file = ap (λ (e : Change). e.file) (get_or_default changes n d no_change below) in
      omega (arith, lower, here, known, same) in
      record {
        size = length-set entries c.file c.entry ∙ is.size;
        each = λ f. ⊎_elim
            (λ (same : f ≡ c.file). subst (λ g. entry_in (set entries c.file c.entry) g ≡ entry_after before (take (n + 1) changes) g) (sym same)
            (get_or-set_same entries c.file c.entry None file ∙ sym (ap (λ (cs : List Change). entry_after before cs c.file) more
            ∙ ap (λ (r : Option Change). entry_then r (entry_in before c.file)) (same_last (take n changes) c apart))))
            (λ other. get_or-set_other entries c.file f c.entry None other ∙ is.each f ∙ sym (ap (λ (cs : List Change). entry_after before cs f) more
            ∙ ap (λ (r : Option Change). entry_then r (entry_in before f)) (other_last (take n changes) c f (λ same. other (sym same)))))
            (cases_eq f c.file);
      }

  pub after_all : (n : ℕ) (entries : List (Option Entry)) → length changes ≤ n → AreAfter before changes n entries → entries ≡ entries_after before changes
  after_all n entries all is = ext_get_or None entries (entries_after before changes) (is.size ∙ sym (length_after before changes))
      (λ f inside. is.each f ∙ ap (λ (cs : List Change). entry_after before cs f) (take_all n changes all)
      ∙ sym (entry_there before changes f (let size = is.size in omega (arith, inside, size))))

  -- what holds of each file before and after holds in between
  pub holds_between : (P : ℕ → Entry → Type 0) → ((f : ℕ) (e : Entry) → entry_in (entries_after before changes) f ≡ Some e → P f e)
      → (n : ℕ) (entries : List (Option Entry)) → n < length changes → AreAfter before changes n entries → ((f : ℕ) (e : Entry) → entry_in entries f ≡ Some e → P f e)
      → (f : ℕ) (e : Entry) → entry_in (set entries (get_or changes n no_change).file (get_or changes n no_change).entry) f ≡ Some e → P f e
  holds_between P later n entries below so_far now f e is =
      let c : Change = get_or changes n no_change in
      let file : c.file < length entries = (let inside = are.inside n no_change below in let size = so_far.size in omega (arith, inside, size)) in
      ⊎_elim
      (λ (same : f ≡ c.file). later f e (ap (entry_in (entries_after before changes)) same ∙ entry_of_change before changes n c are (slice_get-get_or changes n no_change below)
      ∙ sym (get_or-set_same entries c.file c.entry None file) ∙ ap (entry_in (set entries c.file c.entry)) (sym same) ∙ is))
      (λ other. now f e (sym (get_or-set_other entries c.file f c.entry None other) ∙ is))
      (cases_eq f c.file)
