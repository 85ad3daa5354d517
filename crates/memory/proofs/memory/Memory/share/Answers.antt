use Rattle.memory.proofs.{Names.{◌≡◌, ◌≢◌, sym, ap, ◌∙◌, subst, get_or, FrameTable, role_of, Role, Free, Private, Table}, Keeping.{data_leaf, kept_by, no_more}, Noting.{data_back, noted_by}}
use Rattle.memory.proofs.memory.Memory.share.Goals as goal

private_is_no_table : (r : Role) → r ≡ Private → r ≢ Table
private_is_no_table r e f = let bad : Private ≡ Table = sym e ∙ f in (cc)

pub invariant_of-self : goal.invariant_of-self
invariant_of-self g c =
    let t = c.self.inside.frames in
    let n = c.args.n.0 in
    let of_data : role_of t n ≢ Table = private_is_no_table (role_of t n) (subst (λ (x : FrameTable). role_of x n ≡ Private) (sym c.self.view_is) c.requires.private) in
    let t' = c.share.new.self in
    let b = c.self.inside.buffer in
    let change = c.share.ensures.change in
    let after : role_of t' n ≢ Table = λ e. of_data (ap (λ rs. get_or rs n Free) (sym change.roles_kept) ∙ e) in (
      kept_by g.M.Levels.mode t t' b b (no_more b) (data_leaf t t' n change.others of_data after g.M.Levels.mode) c.self.invariant.0,
      noted_by g.M.Levels.mode t t' c.self.inside.notes change.others.frames (data_back t t' n change.others of_data after g.M.Levels.mode) c.self.invariant.1,
      c.self.invariant.2,
    )
