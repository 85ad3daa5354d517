use Rattle.residency.proofs.Names.{◌≡◌, true, refl, Entry, Leaf, number_of, Pte}
use Rattle.residency.{specs.{declared.leaves.Change.{Change}, declared.leaves.Change.TheVariants.{Forget, ClearAccessed, ClearDirty}, Leaves.{concerns, IsChanged}}, proofs.Bits.{valid_leaf, leaf_accessed, leaf_dirty}}
use Rattle.residency.proofs.leaves.changed.Goals as goal

parked : (change : Change) (e : Entry) → concerns change (number_of e) ≡ true → ((l : Pte) → e ≡ Leaf l → ⊥) → IsChanged change (number_of e) 0
parked Forget e is other = refl
parked ClearAccessed e is other = let l = valid_leaf e (leaf_accessed (number_of e) is).0 in absurd (other l.0 l.1)
parked ClearDirty e is other = let l = valid_leaf e (leaf_dirty (number_of e) is).0 in absurd (other l.0 l.1)

pub returns-in_default : goal.returns-in_default
returns-in_default c = record { form = _; changed = parked c.args.change c.args.entry c.requires.concerned c.in_default.not-Leaf }
