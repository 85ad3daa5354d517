-- What a mapping stands on, by the first of the words after its permission and by the others.
use Rattle.{std.proofs.Common.{◌≡◌, ℕ, List, [], ◌∷◌, ◌++◌, get_or, drop, Option, Some, sym, ◌∙◌, ap, subst}, vm_types.specs.declared.command.{MapSource.{MapSource, TheVariants.{Anon, Private, Shared, Common}}, Placing.{Placing}}}
use Rattle.trace_lang.specs.{Grammar.{IsBack, IsPlacing}, Names.{ReadsAfter, source_text}, declared.names.SourceName.{SourceName}}
use Rattle.trace_lang.specs.declared.names.SourceName.TheVariants as name

pub name_in : MapSource → SourceName
name_in Anon = name.Anon
name_in Common = name.Common
name_in (Private file offset) = name.Private
name_in (Shared file offset) = name.Shared

-- the first word is the name of the source
pub begins : (ws rest : List (List ℕ)) (w : List ℕ) (s : MapSource) (p : Placing) → ws ≡ w ∷ rest → IsBack ws s p → w ≡ source_text (name_in s)
unfolding name_in
begins ws rest w (Private file offset) p whole h = ap (λ t. get_or t 0 []) (sym whole ∙ h.2 ∙ ap (λ s. s ++ h.1) h.3.2)
begins ws rest w (Shared file offset) p whole h = ap (λ t. get_or t 0 []) (sym whole ∙ h.2 ∙ ap (λ s. s ++ h.1) h.3.2)
begins ws rest w o p whole h = ap (λ t. get_or t 0 []) (sym whole ∙ h.2 ∙ ap (λ s. s ++ h.1) h.3)

-- what was read of the others is what all the words say
pub read_after : (ws rest : List (List ℕ)) (w : List ℕ) (s : MapSource) (p : Placing) (r : Option (MapSource × Placing)) → ws ≡ w ∷ rest
    → ReadsAfter (name_in s) rest r → IsBack ws s p → r ≡ Some (s, p)
unfolding name_in
read_after ws rest w Anon p r whole only h = let P : List (List ℕ) → Type 0 = λ t. IsPlacing t p in only p (subst P (ap (drop 1) (sym (h.2 ∙ ap (λ s. s ++ h.1) h.3) ∙ whole)) h.4)
read_after ws rest w Common p r whole only h = let P : List (List ℕ) → Type 0 = λ t. IsPlacing t p in only p (subst P (ap (drop 1) (sym (h.2 ∙ ap (λ s. s ++ h.1) h.3) ∙ whole)) h.4)
read_after ws rest w (Private file offset) p r whole only h = only file offset p (h.3.0, h.3.1, h.1, ap (drop 1) (sym whole ∙ h.2 ∙ ap (λ s. s ++ h.1) h.3.2), h.3.3, h.3.4, h.4)
read_after ws rest w (Shared file offset) p r whole only h = only file offset p (h.3.0, h.3.1, h.1, ap (drop 1) (sym whole ∙ h.2 ∙ ap (λ s. s ++ h.1) h.3.2), h.3.3, h.3.4, h.4)
