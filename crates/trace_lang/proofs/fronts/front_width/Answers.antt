use Rattle.{std.proofs.{Common.{◌≡◌, ℕ, List, ◌⊎◌, inl, inr, sym, subst}, lemmas.Bool.{false≢true}}, vm_types.specs.{Width.{byte_count}, declared.width.Width.{Width, TheVariants.{One, Two, Four, Eight}}}}
use Rattle.trace_lang.{proofs.FirstWord.{one_front}, specs.Words.{BeginsWith}}
use Rattle.trace_lang.proofs.fronts.front_width.Goals as goal

no_width : (w : Width) (bytes : ℕ) → ((bytes ≡ 1) ⊎ (bytes ≡ 2) ⊎ (bytes ≡ 4) ⊎ (bytes ≡ 8) → ⊥) → bytes ≡ byte_count w → ⊥
no_width One bytes known e = known (inl e)
no_width Two bytes known e = known (inr (inl e))
no_width Four bytes known e = known (inr (inr (inl e)))
no_width Eight bytes known e = known (inr (inr (inr e)))

pub returns-in_err-bytes-clause-none : goal.returns-in_err-bytes-clause-none
returns-in_err-bytes-clause-none c =
    let none : (width : Width) (rest : List ℕ) → BeginsWith (byte_count width) rest c.args.text.now → ⊥ = λ width rest h. c.in_err-bytes.ensures.none (byte_count width) rest h in
    rw c.from_residual.ensures none

pub returns-in_err-width-clause-none : goal.returns-in_err-width-clause-none
returns-in_err-width-clause-none c =
    let text = c.args.text.now in
    let none : (width : Width) (rest : List ℕ) → BeginsWith (byte_count width) rest text → ⊥ = λ width rest h.
    no_width width _ (λ some. false≢true (c.in_err-width.ensures.known.1 some)) (one_front _ _ text c.in_ok-bytes.ensures.found _ rest h).0 in
    rw c.from_residual-in_err-width.ensures none

pub returns-clause-found : goal.returns-clause-found
returns-clause-found c = let P : ℕ → Type 0 = λ n. BeginsWith n c.in_ok-bytes.rest.now c.args.text.now in subst P (sym c.in_ok-width.ensures.found) c.in_ok-bytes.ensures.found
