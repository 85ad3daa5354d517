use Rattle.std.proofs.{Common.{arith, ap, sym, ◌∙◌, ◌≡◌, ◌<◌, ◌≤◌, ◌∷◌, [], ◌++◌, length, ℕ, ◌+◌, ◌-◌, List, drop, take, replicate, suc, slice_set, length-set, length-take-le, drop-set-lt, drop-drop}, lemmas.List.{take_more_set}}
use Rattle.vm_types.specs.{Blank.{blank}, declared.refusal.Fault.{Fault}}
use Rattle.vm_types.proofs.history.History.push.Goals as goal

-- a place less to be filled
one_less : (n : ℕ) (xs : List (ℕ × Fault)) (x : ℕ × Fault) → n < 16 → drop n xs ≡ replicate (16 - n) blank
    → drop (n + 1) (slice_set xs n x) ≡ replicate (16 - (n + 1)) blank
one_less n xs x less rest =
    let e : 16 - n ≡ suc (16 - (n + 1)) = omega (arith, less) in
    drop-set-lt (n + 1) xs n x (omega arith) ∙ sym (drop-drop 1 n xs) ∙ ap (drop 1) (rest ∙ ap (λ k. replicate k blank) e)

below : (n : ℕ) (xs ys : List (ℕ × Fault)) → n ≤ 16 → length xs ≡ 16 → take n xs ≡ ys → length ys < 16 → n < 16
below n xs ys most whole view less =
    let held : length (take n xs) ≡ n = length-take-le n xs (omega (arith, most, whole)) in
    let e : length (take n xs) ≡ length ys = ap length view in omega (arith, held, e, less)

pub invariant_of-self : goal.invariant_of-self
invariant_of-self c =
    let n = c.self.inside.count in
    let xs = c.self.inside.list in
    let inv = c.self.invariant in
    let less = below n xs _ inv.0 inv.1 c.self.view_is c.requires in
    rw c.from.ensures (omega (arith, less), length-set xs n _ ∙ inv.1, one_less n xs _ less inv.2)

pub returns : goal.returns
returns c =
    let n = c.self.inside.count in
    let xs = c.self.inside.list in
    let inv = c.self.invariant in
    let less = below n xs _ inv.0 inv.1 c.self.view_is c.requires in
    rw c.from.ensures (take_more_set xs n _ (omega (arith, less, inv.1)) ∙ ap (λ ys. ys ++ (c.args.pid, c.args.fault) ∷ []) c.self.view_is)
