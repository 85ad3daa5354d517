-- Trees: what each step does to the roots and to the tables that are reached from them.
use Rattle.residency.proofs.Names.{top_level, Attr, ◌≡◌, ◌⊎◌, ℕ, suc, inl, inr, Some, Option, sym, ◌∙◌, subst, rules, IsSome, FrameTable, Points, IsBelowRoot, IsForest, IsRoot, IsTable, KeepsTrees, way_forth}
use Rattle.residency.specs.{Picture.{Picture}, Parts.{IsRootedBut, IsUsed, AsRoot, OnWay, IsMapped}}

below_forth : (mode : ℕ) (old new : FrameTable) → ((a i b : ℕ) → Points old a i b → Points new a i b) → (r page m : ℕ) → IsBelowRoot old (top_level mode) r page m → IsBelowRoot new (top_level mode) r page m
below_forth mode old new forth r page m below = (below.0, below.1, way_forth old new forth (top_level mode) r page (suc below.0) m below.2)

-- a table is used where pointers and roots stay, and mapped pages are still mapped
pub used_kept : {mode : ℕ} (old new : Picture mode) (mapped mapped' : ℕ → ℕ → Type 0) (m : ℕ) → ((a i b : ℕ) → Points old.frames a i b → Points new.frames a i b)
    → ((pid : ℕ) → new.root pid ≡ old.root pid) → ((pid page : ℕ) → mapped pid page → mapped' pid page) → IsUsed old mapped m → IsUsed new mapped' m
used_kept {mode} old new mapped mapped' m forth root maps (AsRoot pid is) = AsRoot pid (root pid ∙ is)
used_kept {mode} old new mapped mapped' m forth root maps (OnWay pid r page is here below) =
    OnWay pid r page (root pid ∙ is) (maps pid page here) (below_forth mode old.frames new.frames forth r page m below)

-- the roots are as they were, and roots of trees still
pub rooted_by : {mode : ℕ} (old new : Picture mode) (n n' : ℕ) → IsRootedBut old n → ((pid : ℕ) → new.root pid ≡ old.root pid) → IsForest new.frames
    → ((pid r : ℕ) → old.root pid ≡ Some r → IsRoot (top_level mode) new.frames r) → ((m : ℕ) → IsTable new.frames m → (m ≡ n') ⊎ IsUsed new (IsMapped new) m) → IsRootedBut new n'
rooted_by old new n n' rooted root forest roots used =
    let was : (pid r : ℕ) → new.root pid ≡ Some r → old.root pid ≡ Some r = λ pid r e. sym (root pid) ∙ e in
    record {
      forest = forest;
      roots = λ pid r e. roots pid r (was pid r e);
      apart = λ p q r e f. rooted.apart p q r (was p r e) (was q r f);
      numbers = λ pid r e. rooted.numbers pid r (was pid r e);
      used = used;
    }

-- all trees are as they were, and so are the roots and the regions
pub rooted_same : {mode : ℕ} (old new : Picture mode) (n : ℕ) → IsRootedBut old n → KeepsTrees old.frames new.frames (top_level mode)
    → ((pid : ℕ) → new.root pid ≡ old.root pid) → ((pid page : ℕ) → new.at pid page ≡ old.at pid page) → IsRootedBut new n
rooted_same old new n rooted trees root at = rooted_by old new n n rooted root trees.forest (λ pid r e. trees.roots r (rooted.roots pid r e))
    (λ m table. elim (rooted.used m ((trees.tables m).1 table)) [
      | inl e ↦ inl e
      | inr o ↦ inr (used_kept old new (IsMapped old) (IsMapped new) m trees.same.forth root
          (λ pid page some. (let P : Option Attr → Type 0 = λ x. IsSome x in subst P (sym (at pid page)) some)) o)
    ])

-- the frames are the same
pub rooted_frames : {mode : ℕ} (old new : Picture mode) (n : ℕ) → IsRootedBut old n → new.frames ≡ old.frames → ((pid : ℕ) → new.root pid ≡ old.root pid)
    → ((pid page : ℕ) → new.at pid page ≡ old.at pid page) → IsRootedBut new n
rooted_frames {mode} old new n rooted frames root at =
    let P : FrameTable → Type 0 = λ t. KeepsTrees old.frames t (top_level mode) in
    rooted_same old new n rooted (subst P (sym frames) (search rules)) root at
