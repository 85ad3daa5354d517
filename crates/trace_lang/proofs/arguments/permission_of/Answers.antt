use Rattle.{std.proofs.Common.{◌≡◌, ℕ, ◌+◌, ◌*◌, Bool, true, false, Some, get_or, if◌then◌else◌, refl, sym, ◌∙◌, ap}, vm_types.specs.Permission.{with_bits}}
use mir.Val.{bool_byte}
use Rattle.trace_lang.proofs.arguments.permission_of.Goals as goal

bits_of : (r w x : Bool) → bool_byte r + 2 * bool_byte w + 4 * bool_byte x ≡ (if r then 1 else 0) + (if w then 2 else 0) + (if x then 4 else 0)
bits_of false false false = refl
bits_of false false true = refl
bits_of false true false = refl
bits_of false true true = refl
bits_of true false false = refl
bits_of true false true = refl
bits_of true true false = refl
bits_of true true true = refl

-- the bits of the three that were read
read_bits : (a b d r w x : Bool) (n f g k : ℕ) → Some a ≡ Some r → Some b ≡ Some w → Some d ≡ Some x → n ≡ f + 2 * g + 4 * k
    → f ≡ bool_byte a → g ≡ bool_byte b → k ≡ bool_byte d → n ≡ bool_byte r + 2 * bool_byte w + 4 * bool_byte x
read_bits a b d r w x n f g k ea eb ed en ef eg ek = cc

pub returns-clause-only : goal.returns-clause-only
returns-clause-only c = λ prot h.
    let bits = read_bits _ _ _ h.0 h.1 h.2 _ _ _ _ (c.in_ok-read.ensures.only h.0 (ap (λ t. get_or t 0 0) h.3)) (c.in_ok-write.ensures.only h.1 (ap (λ t. get_or t 1 0) h.3))
    (c.in_ok-execute.ensures.only h.2 (ap (λ t. get_or t 2 0) h.3)) (c.from_bits_retain.ensures tt) c.from.ensures c.from-2.ensures c.from-3.ensures in
    let same : c.from_bits_retain.result ≡ with_bits c.from_bits_retain.result.0 = refl in
    ap (λ p. Some p) (same ∙ ap with_bits (bits ∙ bits_of h.0 h.1 h.2) ∙ sym h.4)
