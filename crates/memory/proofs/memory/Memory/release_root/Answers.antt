use Rattle.memory.proofs.{Names.{◌≡◌, sym, subst, ◌∙◌, FrameTable, Private, Table, IsSpare}, Keeping.{dropped_leaf, kept_by, no_more}, Noting.{dropped_back, noted_by}}
use Rattle.memory.proofs.memory.Memory.release_root.Goals as goal

pub invariant_of-self : goal.invariant_of-self
invariant_of-self g c =
    let t = c.self.inside.frames in
    let t' = c.release.new.self in
    let root = c.args.root.0 in
    let b = c.self.inside.buffer in
    let spare = subst (λ (x : FrameTable). IsSpare x root) (sym c.self.view_is) c.requires in
    let gone = c.release.ensures.alone (λ e. let bad : Table ≡ Private = sym spare.table.role ∙ e in (cc)) in
    let others = c.release.ensures.change.others in (
      kept_by g.M.Levels.mode t t' b b (no_more b) (dropped_leaf t t' root others spare gone g.M.Levels.mode) c.self.invariant.0,
      noted_by g.M.Levels.mode t t' c.self.inside.notes others.frames (dropped_back t t' root others spare gone g.M.Levels.mode) c.self.invariant.1,
      c.self.invariant.2,
    )
