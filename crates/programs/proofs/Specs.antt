-- Specs, and the sources that serve them.
use Rattle.std.proofs.{Common.{◌≡◌, ℕ, ◌+◌, ◌<◌, ◌^◌, List, [], ◌∷◌, ◌++◌, codes, Option, Some, None, sym, ap, ◌∙◌, subst, length, take, map, get_or, Bor}, lemmas.{List.{append_cancel_left, take_more, map-append}, Option.{none-some}}}
use Rattle.{file_store.specs.declared.sources.FileSource.{FileSource}, trace_lang.specs.Grammar.{IsNumber}, programs.specs.{Specs.{IsSpec, IsSourceOf, AreSpecSources}, declared.sources.FileSpec.{FileSpec, TheVariants.{Zeros, Writable}}}}
use Rattle.programs.specs.declared.sources.FileSpec.TheVariants.{ReadOnly}

-- of zeros, and what follows is no number that serves
pub no_spec : (text digits : List ℕ) (read : Option ℕ) → ((rest : List ℕ) → text ≡ codes "rw:" ++ rest → ⊥) → ((rest : List ℕ) → text ≡ codes "ro:" ++ rest → ⊥)
    → text ≡ codes "zero:" ++ digits → read ≡ None → ((n : ℕ) → IsNumber digits n → n < 2 ^ 32 → read ≡ Some n) → (asked : FileSpec) → IsSpec text asked → ⊥
no_spec text digits read no_rw no_ro zeros none only (Zeros n) is =
    let e : is.0 ≡ digits = append_cancel_left (codes "zero:") is.0 digits (sym is.1 ∙ zeros) in
    let number : IsNumber digits n = subst (λ ds. IsNumber ds n) e is.2 in
    none-some n (sym none ∙ only n number is.3)
no_spec text digits read no_rw no_ro zeros none only (Writable path) is = no_rw path.now is
no_spec text digits read no_rw no_ro zeros none only (ReadOnly path) is = no_ro path.now is

-- one spec more
pub AreSources-more : {R : Type 0} (texts : List (List ℕ)) (sources : List (FileSource R)) (text : List ℕ) (source : FileSource R)
    → AreSpecSources texts sources → IsSourceOf text source → AreSpecSources (texts ++ text ∷ []) (sources ++ source ∷ [])
AreSources-more [] [] text source before one = (one, tt)
AreSources-more [] (s ∷ sources) text source before one = absurd before
AreSources-more (t ∷ texts) [] text source before one = absurd before
AreSources-more (t ∷ texts) (s ∷ sources) text source before one = (before.0, AreSources-more texts sources text source before.1 one)

pub AreSources-next : {R : Type 0} (specs : List (Bor (List ℕ))) (i : ℕ) (none : Bor (List ℕ)) (sources after : List (FileSource R)) (source : FileSource R)
    → i < length specs → AreSpecSources (map (λ spec. spec.now) (take i specs)) sources → IsSourceOf (get_or specs i none).now source
    → after ≡ sources ++ source ∷ [] → AreSpecSources (map (λ spec. spec.now) (take (i + 1) specs)) after
AreSources-next specs i none sources after source inside before one is =
    let now : Bor (List ℕ) → List ℕ = λ spec. spec.now in
    let text = (get_or specs i none).now in
    let e : map now (take i specs) ++ text ∷ [] ≡ map now (take (i + 1) specs) = sym (ap (map now) (take_more specs i none inside) ∙ map-append now (take i specs) (get_or specs i none ∷ [])) in
    subst (λ ts. AreSpecSources ts after) e (subst (λ ss. AreSpecSources (map now (take i specs) ++ text ∷ []) ss) (sym is) (AreSources-more (map now (take i specs)) sources text source before one))
