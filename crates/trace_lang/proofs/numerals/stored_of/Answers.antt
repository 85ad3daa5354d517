use Rattle.{std.proofs.Common.{◌≡◌, ℕ, ◌<◌, ◌^◌, ◌*◌, Option, Some, None, IfSome, IsSome, sym, ◌∙◌, ap, subst}, vm_types.specs.{Width.{byte_count}, declared.{access.StoredValue.{StoredValue}, width.Width.{Width}}}}
use denote.Struct.Props.{props}
use Rattle.trace_lang.proofs.numerals.stored_of.Goals as goal

abbrev made : (w : Width) (v : ℕ) → v < 2 ^ (8 * byte_count w) → StoredValue
made w v f = record { width = w; value = v; fits = f }

same_fits : (w : Width) (v : ℕ) (f g : v < 2 ^ (8 * byte_count w)) → made w v f ≡ made w v g
same_fits w v f g = let prop : IsProp (v < 2 ^ (8 * byte_count w)) = hlevel props in λ i. made w v (prop f g i)

same_stored : (a b : StoredValue) → a.width ≡ b.width → a.value ≡ b.value → a ≡ b
same_stored a b ew ev =
    let Q : ℕ → Type 0 = λ v. (f : v < 2 ^ (8 * byte_count b.width)) → a ≡ made b.width v f in
    subst Q ev (subst (λ (w : Width). (f : a.value < 2 ^ (8 * byte_count w)) → a ≡ made w a.value f) ew (λ f. same_fits a.width a.value a.fits f)) b.fits

only_stored : (r : Option StoredValue) (width : Width) (value : ℕ) (stored : StoredValue) → IfSome r (λ s. (s.width ≡ width) × (s.value ≡ value))
    → IsSome r → stored.width ≡ width → stored.value ≡ value → r ≡ Some stored
only_stored None width value stored found some w v = cc
only_stored (Some s) width value stored found some w v = ap (λ x. Some x) (same_stored s stored (found.0 ∙ sym w) (found.1 ∙ sym v))

pub returns-in_err-value-clause-only : goal.returns-in_err-value-clause-only
returns-in_err-value-clause-only c = λ stored w h f. absurd (c.in_err-value.ensures.none _ h)

same_value : (a b : ℕ) → Some a ≡ Some b → b ≡ a
same_value a b e = cc

pub returns-clause-only : goal.returns-clause-only
returns-clause-only c = λ stored w h f.
    let e = same_value _ _ (c.in_ok-value.ensures.only stored.value h) in
    only_stored _ _ _ stored c.new.ensures.found (c.new.ensures.fits.1 (subst (λ (v : ℕ). v < 2 ^ (8 * byte_count c.args.width)) e f)) w e
