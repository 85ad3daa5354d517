use Rattle.residency.{proofs.{Bits.{bit_seven, drops_by, seven_accessed, seven_clear}, Names.{◌≡◌, ◌-◌, ℕ, sym, subst, arith}}, specs.{Leaves.{IsChanged}, declared.leaves.Change.TheVariants.{ClearDirty}}}
use Rattle.residency.proofs.leaves.without_dirty.Goals as goal

pub returns : goal.returns
returns c =
    let leaf = c.args.leaf.0 in
    let bit = bit_seven leaf c.requires in
    let number : c.without_dirty.result.0 ≡ leaf - 128 = omega (arith, c.without_dirty.ensures) in
    let P : ℕ → Type 0 = λ n. IsChanged ClearDirty leaf n in
    subst P (sym number) (drops_by leaf (leaf - 128) (omega (arith, bit)) (omega (arith, bit)), seven_accessed leaf bit, seven_clear leaf bit, omega (arith, bit))
