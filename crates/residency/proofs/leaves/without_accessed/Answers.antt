use Rattle.residency.{proofs.{Bits.{bit_six, drops_by, six_dirty, six_clear}, Names.{◌≡◌, ◌-◌, ℕ, sym, subst, arith}}, specs.{Leaves.{IsChanged}, declared.leaves.Change.TheVariants.{ClearAccessed}}}
use Rattle.residency.proofs.leaves.without_accessed.Goals as goal

pub returns : goal.returns
returns c =
    let leaf = c.args.leaf.0 in
    let bit = bit_six leaf c.requires in
    let number : c.without_accessed.result.0 ≡ leaf - 64 = omega (arith, c.without_accessed.ensures) in
    let P : ℕ → Type 0 = λ n. IsChanged ClearAccessed leaf n in
    subst P (sym number) (drops_by leaf (leaf - 64) (omega (arith, bit)) (omega (arith, bit)), six_dirty leaf bit, six_clear leaf bit, omega (arith, bit))
